-- The strengths of an edge as numbers.
use Rattle.std.proofs.Common.{◌≡◌, ℕ, zero, suc, ◌<◌, ◌≤◌, Bool, List, [], ◌∷◌, length, get_or, Option, Some, None, IsTrue, is_some, arith, refl, sym, w32}
use Rattle.std.proofs.Common.{subst}
use Rattle.std.specs.Int.{from_le_bytes}
use Rattle.std.proofs.lemmas.Nat.{le_bytes_4}
use Rattle.h264_plane.specs.Samples.{Samples, at, ShowsSamples}
use Rattle.h264_deblock.specs.Edge.{edge_after, edge_at}
use Rattle.h264_deblock.specs.declared.edge_parameters.EdgeParameters.{EdgeParameters}
use Rattle.h264_deblock.proofs.Beside.{edge_off}
use Rattle.h264_deblock.specs.declared.plane_level.Border.{Border}
use Rattle.h264_deblock.specs.Words.{named_border, zeros, AreWords}
use Rattle.h264_deblock.specs.Limits.{AreAll}
use Rattle.h264_deblock.specs.declared.edge_parameters.BoundaryStrength.TheVariants.{Zero}
use Rattle.h264_deblock.specs.Level.{names, fours, IsWord}

-- none of four is 4
pub below-word : (a b c d : ℕ) → a < 4 → b < 4 → c < 4 → d < 4 → IsWord (a ∷ b ∷ c ∷ d ∷ [])
below-word a b c d i j k l = record { all = λ e. absurd (omega arith); below = λ e. each }
  where
    each : (n : ℕ) → n < 4 → get_or (a ∷ b ∷ c ∷ d ∷ []) n 0 < 4
    each zero h = i
    each (suc zero) h = j
    each (suc (suc zero)) h = k
    each (suc (suc (suc zero))) h = l
    each (suc (suc (suc (suc n)))) h = absurd (omega arith)

pub four-word : IsWord fours
four-word = record { all = λ e. refl; below = λ e. absurd (e refl) }

pub three-words : (a b c : List ℕ) → IsWord a → IsWord b → IsWord c → AreWords (a ∷ b ∷ c ∷ [])
three-words a b c i j k zero h = i
three-words a b c i j k (suc zero) h = j
three-words a b c i j k (suc (suc zero)) h = k
three-words a b c i j k (suc (suc (suc n))) h = absurd (omega arith)

pub zeros-are : (word : List ℕ) → word ≡ zeros → AreAll Zero (names word)
zeros-are word e = subst (λ w. AreAll Zero (names w)) (sym e) each
  where
    each : AreAll Zero (names zeros)
    each zero h = refl
    each (suc zero) h = refl
    each (suc (suc zero)) h = refl
    each (suc (suc (suc zero))) h = refl
    each (suc (suc (suc (suc n)))) h = absurd (omega arith)

-- a word of no bytes but 0
pub zero-word : (bytes : List ℕ) → length bytes ≡ 4 → ((i : ℕ) → get_or bytes i 0 < 256) → 0 ≡ from_le_bytes w32 bytes → bytes ≡ zeros
zero-word bytes l b e = sym (le_bytes_4 bytes 0 l b e)

-- words of numbers that are the same, as of an edge that is not between blocks of two macroblocks
pub threes-words : AreWords ((3 ∷ 3 ∷ 3 ∷ 3 ∷ []) ∷ (3 ∷ 3 ∷ 3 ∷ 3 ∷ []) ∷ (3 ∷ 3 ∷ 3 ∷ 3 ∷ []) ∷ [])
threes-words = let three = below-word 3 3 3 3 (omega arith) (omega arith) (omega arith) (omega arith) in three-words _ _ _ three three three

pub zero-word-is : IsWord zeros
zero-word-is = below-word 0 0 0 0 (omega arith) (omega arith) (omega arith) (omega arith)

pub zeros-words : AreWords (zeros ∷ zeros ∷ zeros ∷ [])
zeros-words = three-words _ _ _ zero-word-is zero-word-is zero-word-is

pub some-named : (b : Option Border) → IsTrue (is_some (named_border b)) → IsTrue (is_some b)
some-named None h = h
some-named (Some b) h = refl

-- an edge whose strengths are 0
pub zero-edge : (v chroma : Bool) (p : Samples) (e : EdgeParameters) (along across : ℕ) (word : List ℕ) → 4 ≤ across → word ≡ zeros →
    names word ≡ e.strengths → ShowsSamples p p (edge_after v chroma e (edge_at along across) (at p))
zero-edge v chroma p e along across word before z named-by =
    edge_off v chroma p e along across before (subst (λ s. AreAll Zero s) named-by (zeros-are word z))
