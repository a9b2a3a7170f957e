-- The last access units, with one more.
use Rattle.std.proofs.Common.{◌≡◌, ℕ, suc, ◌-◌, ◌<◌, List, [], ◌∷◌, ◌++◌, length, take, drop, slice_set, length-drop, refl, ap, ◌∙◌, arith}
use Rattle.h264_strict.specs.declared.buffer.Waiting.{Waiting}

one-first : (one rest : List Waiting) (w : Waiting) → length one ≡ 1 → slice_set (one ++ rest) 0 w ≡ w ∷ rest
one-first [] rest w h = absurd (none h) where
  none : ◌≡◌ {A = ℕ} 0 1 → ⊥
  none e = omega arith
one-first (x ∷ []) rest w h = refl
one-first (x ∷ y ∷ ys) rest w h = absurd (two (length ys) h) where
  two : (n : ℕ) → suc (suc n) ≡ 1 → ⊥
  two n e = omega arith

pub waits-first : (ws turned : List Waiting) (w : Waiting) (n : ℕ) → length ws ≡ n → 0 < n → turned ≡ drop (length ws - 1) ws ++ take (length ws - 1) ws →
    slice_set turned 0 w ≡ w ∷ take (n - 1) ws
waits-first ws turned w n long some is =
    let one : length (drop (length ws - 1) ws) ≡ 1 = (let e = length-drop (length ws - 1) ws in omega arith) in
    ap (λ l. slice_set l 0 w) is ∙ one-first (drop (length ws - 1) ws) (take (length ws - 1) ws) w one ∙ ap (λ m. w ∷ take (m - 1) ws) long
