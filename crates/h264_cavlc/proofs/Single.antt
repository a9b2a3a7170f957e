-- A block of one coefficient.
use Rattle.std.proofs.Common.{◌≡◌, ℕ, ◌+◌, ◌≤◌, true, List, [], ◌∷◌, ℤ, pos, set, replicate, Result, Ok, Err, refl, ◌∙◌, arith, length-set}
use Rattle.std.proofs.lemmas.List.{length-replicate}
use Rattle.h264_base.specs.declared.stop.Stop.{Stop}
use Rattle.h264_base.specs.Call.{Call, span}
use Rattle.h264_base.specs.Meets.{Reader, Meets, Is}
use Rattle.h264_base.proofs.Steps.{bind, bind_as, stop, done}
use Rattle.h264_bits.specs.Forms.{repeated}
use Rattle.h264_cavlc.specs.declared.token.Token.{Token}
use Rattle.h264_cavlc.specs.Token.{trailing_one}
use Rattle.h264_cavlc.specs.Level.{level, more_levels, first_suffix_length, is_never_one}
use Rattle.h264_cavlc.specs.Place.{place_of, by_place}
use Rattle.h264_cavlc.specs.Block.{all_levels}
use Rattle.h264_cavlc.proofs.Places.{placed-none, placed-more, all-placed}

-- the one level of a list
abbrev IsOnly : ℤ → List ℤ → Type 0
IsOnly x levels = levels ≡ x ∷ []

module _ {S : Type 0} {took : S → List Call → Type 0} {failures : S → ℕ} where
  -- its level is a trailing one
  pub only-one : {old new : Reader} {s s' : S} (token : Token) (r : Result ℤ Stop) → token.ones ≡ 1 → token.total ≡ 1 →
      Meets (span took failures s s') (Is (λ (x : ℤ). x)) trailing_one old new r → Meets (span took failures s s') IsOnly (all_levels token) old new r
  unfolding all_levels repeated more_levels
  only-one token (Ok x) e f m = rw (e, f) (bind_as {R = IsOnly} _ (bind _ m (done took failures _ _ _ _ x refl))
      (λ v h. bind_as {R = IsOnly} _ (done took failures IsOnly v _ _ x h) (λ w k. done took failures IsOnly w _ _ x k)))
  only-one token (Err q) e f m = rw (e, f) (stop {R = IsOnly} _ (stop _ m))

  -- it is none
  pub only-other : {old new : Reader} {s s' : S} (token : Token) (r : Result ℤ Stop) → token.ones ≡ 0 → token.total ≡ 1 →
      Meets (span took failures s s') (Is (λ (x : ℤ). x)) (level 0 true) old new r → Meets (span took failures s s') IsOnly (all_levels token) old new r
  unfolding all_levels repeated more_levels first_suffix_length is_never_one
  only-other token (Ok x) e f m = rw (e, f)
      (bind {view = λ (u : Unit {0}). []} _ (done took failures (Is (λ (u : Unit {0}). [])) [] _ _ tt refl)
      (bind_as {R = IsOnly} _ (bind _ m (done took failures _ _ _ _ x refl)) (λ v h. done took failures IsOnly v _ _ x h)))
  only-other token (Err q) e f m = rw (e, f)
      (bind {view = λ (u : Unit {0}). []} _ (done took failures (Is (λ (u : Unit {0}). [])) [] _ _ tt refl) (stop {R = IsOnly} _ (stop _ m)))

-- it stands above all zeros
pub only-placed : (size zeros p : ℕ) (x : ℤ) → 1 + zeros ≤ size → p ≡ zeros → set (replicate size (pos 0)) p x ≡ by_place size (x ∷ []) zeros []
unfolding place_of
only-placed size zeros p x room e =
    let l = length-replicate size (pos 0) in
    all-placed 1 zeros size (x ∷ []) [] _ (length-set (replicate size (pos 0)) p x ∙ l) refl
    (placed-more 0 1 1 zeros p (x ∷ []) [] (replicate size (pos 0)) x (omega arith) (omega arith) (omega arith) (omega arith) refl
    (placed-none 1 zeros size (x ∷ [])))
