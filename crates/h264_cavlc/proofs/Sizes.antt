-- Tests of sizes, and what they choose.
use Rattle.std.proofs.Common.{◌≡◌, ℕ, zero, suc, ◌<◌, ◌≤◌, ◌^◌, false, ◌==◌, refl, arith}
use Rattle.std.proofs.lemmas.Bool.Decides.{nat_tests}
use Rattle.std.proofs.Math.Nat.{pow-le-pow_right}
use Rattle.h264_base.specs.declared.element_name.ElementName.TheVariants.{LevelSuffix}
use Rattle.h264_base.specs.Word.{Fixed}
use Rattle.h264_base.specs.Grammar.{Done, ◌>>=◌, residual_element}
use Rattle.h264_bits.specs.Forms.{natural}
use Rattle.h264_cavlc.specs.Level.{level_suffix}

pub unequal : (a b : ℕ) → (a ≡ b → ⊥) → (a == b) ≡ false
unequal a b h = grind (arith, nat_tests)

-- a suffix of at most 12 bits
pub suffix-small : (v n : ℕ) → v < 2 ^ n → n ≤ 12 → v < 4096
suffix-small v n h few = let one : 0 < 2 = omega arith in let p = pow-le-pow_right one few in omega arith

pub suffix-some : (n : ℕ) → (n ≡ 0 → ⊥) → level_suffix n ≡ (residual_element LevelSuffix (Fixed n) >>= λ e. Done (natural e.value))
unfolding level_suffix
suffix-some zero h = absurd (h refl)
suffix-some (suc n) h = refl
