-- Some frame waits with the least count.
use Rattle.std.proofs.Common.{◌≡◌, ◌⊎◌, inl, inr, Bool, true, false, Option, Some, None, List, [], ◌∷◌, cond, refl, subst, ℤ, if◌then◌else◌}
use Rattle.std.specs.Prelude.{int_lt}
use Rattle.std.specs.Ordering.{int_eq}
use Rattle.std.proofs.lemmas.Bool.Decides.{Decides-int_eq}
use Rattle.h264_dpb.specs.declared.entry.Entry.{Entry}
use Rattle.h264_dpb.specs.Bumping.{is_next, least_with, least_count}

some-same : (a b : ℤ) → Some a ≡ Some b → a ≡ b
some-same a b h = cc

has-next : (a c : ℤ) → a ≡ c → int_eq a c ≡ true
has-next a c h = (Decides-int_eq a c).1 h

module _ {N : Type 0} where
  -- some frame waits with this count
  abbrev pub Has : ℤ → List (Entry N) → Type 0
  Has c [] = ⊥
  Has c (e ∷ es) = (is_next c e ≡ true) ⊎ Has c es

  has-turn : (e : Entry N) (es : List (Entry N)) (c : ℤ) (w : Bool) (o : Option ℤ) → e.waiting ≡ w → least_count es ≡ o → (o ≡ Some c → Has c es) →
      ((d : ℤ) → o ≡ Some d → Has d es) → (if w then Some (least_with e.count o) else o) ≡ Some c → Has c (e ∷ es)
  has-turn e es c false o w l k j h = inr (k h)
  has-turn e es c true None w l k j h = inl (rw w (has-next e.count c (some-same _ _ h)))
  has-turn e es c true (Some d) w l k j h = by (int_lt d e.count) (some-same _ _ h)
    where
      by : (t : Bool) → cond t d e.count ≡ c → Has c (e ∷ es)
      by true q = inr (subst (λ (x : ℤ). Has x es) q (j d refl))
      by false q = inl (rw w (has-next e.count c q))

  pub has-least : (es : List (Entry N)) (c : ℤ) → least_count es ≡ Some c → Has c es
  has-least [] c h = cc
  has-least (e ∷ es) c h = has-turn e es c e.waiting (least_count es) refl refl (has-least es c) (has-least es) h
