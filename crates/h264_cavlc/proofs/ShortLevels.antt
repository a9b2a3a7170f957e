-- A short level by its two elements.
use Rattle.std.proofs.Common.{◌≡◌, ℕ, ◌<◌, Bool, ℤ, List, Ok, Err, refl, sym, subst, arith}
use Rattle.h264_base.specs.declared.element_name.ElementName.TheVariants.{LevelPrefix}
use Rattle.h264_base.specs.declared.stop.Stop.{Stop}
use Rattle.h264_base.specs.Call.{Call, span}
use Rattle.h264_base.specs.Word.{Words}
use Rattle.h264_base.specs.Grammar.{Done, residual_element}
use Rattle.h264_base.specs.Meets.{Reader, Meets, Is}
use Rattle.h264_base.proofs.Steps.{bind, stop, done}
use Rattle.h264_tables.specs.declared.table.Table.TheVariants.{LevelPrefix as PrefixTable}
use Rattle.h264_tables.specs.Table.{code_table}
use Rattle.h264_bits.specs.Seen.{seen_unsigned}
use Rattle.h264_bits.specs.declared.element.Found.{Found}
use Rattle.h264_cavlc.specs.Level.{level, level_suffix, level_code, level_value, suffix_size}
use Rattle.h264_cavlc.proofs.Sizes.{unequal}

-- where level_prefix is below 14, level_suffix has suffixLength bits
short-size : (prefix n : ℕ) → prefix < 14 → suffix_size prefix n ≡ n
unfolding suffix_size
short-size prefix n few = rw (unequal prefix 14 (λ e. absurd (omega arith)), unequal prefix 15 (λ e. absurd (omega arith))) refl

module _ {S : Type 0} {took : S → List Call → Type 0} {failures : S → ℕ} (n : ℕ) (never_one : Bool) {old mid new : Reader} {s0 s1 s2 : S} {f : Found ℕ}
    (suffix : ℕ) where
  -- level_suffix stops
  pub short-stop : (e : Stop) → f.value < 14 →
      Meets (span took failures s0 s1) (Is seen_unsigned) (residual_element LevelPrefix (Words (code_table PrefixTable))) old mid (Ok f) →
      Meets {X = Unit {0}} (span took failures s1 s2) (Is (λ x. suffix)) (level_suffix n) mid new (Err e) →
      Meets {X = ℤ} (span took failures s0 s2) (Is (λ (x : ℤ). x)) (level n never_one) old new (Err e)
  unfolding level
  short-stop e few p m =
      let M : ℕ → Type 0 = λ k. Meets {X = Unit {0}} (span took failures s1 s2) (Is (λ x. suffix)) (level_suffix k) mid new (Err e) in
      bind _ p (stop _ (subst M (sym (short-size f.value n few)) m))

  -- both were read
  pub short-read : {x : ℤ} → f.value < 14 → x ≡ level_value (level_code f.value n suffix never_one) →
      Meets (span took failures s0 s1) (Is seen_unsigned) (residual_element LevelPrefix (Words (code_table PrefixTable))) old mid (Ok f) →
      Meets {X = Unit {0}} (span took failures s1 s2) (Is (λ x. suffix)) (level_suffix n) mid new (Ok tt) →
      Meets (span took failures s0 s2) (Is (λ (x : ℤ). x)) (level n never_one) old new (Ok x)
  unfolding level
  short-read few is p m =
      let M : ℕ → Type 0 = λ k. Meets {X = Unit {0}} (span took failures s1 s2) (Is (λ x. suffix)) (level_suffix k) mid new (Ok tt) in
      bind _ p (bind (λ suffix. Done (level_value (level_code f.value n suffix never_one))) (subst M (sym (short-size f.value n few)) m)
      (done _ _ _ _ _ _ _ (sym is)))
