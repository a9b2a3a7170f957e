-- Filler data, read from the front on.
use Rattle.std.proofs.Common.{◌≡◌, ◌≢◌, ℕ, suc, ◌+◌, ◌==◌, ◌&&◌, ◌||◌, List, [], ◌∷◌, length, drop, arith, refl, sym, ap, ◌∙◌, ◌⊎◌, inl, inr}
use Rattle.std.proofs.lemmas.Bool.{cases_eq, cond-true, cond-false, eq-eqb, ne_eqb}
use Rattle.std.proofs.Math.Bool.{or-false}
use Rattle.h264_strict.specs.SeiMessages.{is_trailing, ff_bytes}
use Rattle.h264_strict.specs.StrictBytes.{is_filler}

pub filler-is : (bytes : List ℕ) → is_filler bytes ≡ is_trailing (drop (ff_bytes bytes) bytes)
unfolding is_filler
filler-is [] = refl
filler-is (b ∷ bytes) = go (filler-is bytes) (cases_eq b 255) where
  dropped : (n : ℕ) → is_trailing (drop (1 + n) (b ∷ bytes)) ≡ is_trailing (drop n bytes)
  dropped n = let up : 1 + n ≡ suc n = omega arith in ap (λ m. is_trailing (drop m (b ∷ bytes))) up

  go : is_filler bytes ≡ is_trailing (drop (ff_bytes bytes) bytes) → (b ≡ 255) ⊎ (b ≡ 255 → ⊥) →
      is_filler (b ∷ bytes) ≡ is_trailing (drop (ff_bytes (b ∷ bytes)) (b ∷ bytes))
  go later (inl e) =
      let other : b ≢ 128 = λ h. omega arith in
      ap (λ t. (t && (length bytes == 0)) || (b == 255) && is_filler bytes) (ne_eqb b 128 other)
      ∙ ap (λ t. t && is_filler bytes) (eq-eqb b 255 e)
      ∙ later
      ∙ sym (ap (λ n. is_trailing (drop n (b ∷ bytes))) (cond-true (b == 255) (1 + ff_bytes bytes) 0 (eq-eqb b 255 e)) ∙ dropped (ff_bytes bytes))
  go later (inr other) =
      ap (λ t. is_trailing (b ∷ bytes) || t && is_filler bytes) (ne_eqb b 255 other)
      ∙ or-false (is_trailing (b ∷ bytes))
      ∙ ap (λ n. is_trailing (drop n (b ∷ bytes))) (sym (cond-false _ _ _ (ne_eqb b 255 other)))
