-- One macroblock more.
use Rattle.std.proofs.Common.{◌≡◌, ◌≢◌, ℕ, zero, suc, ◌+◌, ◌*◌, ◌/◌, ◌%◌, ◌<◌, ◌≤◌, List, [], ◌∷◌, ◌++◌, length, get_or, Option, Some, None, refl, ap, sym}
use Rattle.std.proofs.Common.{◌∙◌, subst, arith, lt-ltb, vec_len, length-append, slice_set, inl, inr, ◌⊎◌}
use Rattle.std.specs.Option.{option_and_then}
use Rattle.std.specs.List.{slice_get}
use Rattle.std.proofs.Math.Nat.{mod-lt}
use Rattle.std.proofs.Common.{get_or-set_other, get_or-set_same}
use Rattle.h264_near.specs.declared.context.Edge.{Edge}
use Rattle.h264_near.specs.declared.near.Near.{Near}
use Rattle.h264_near.specs.Coded.{CodedMacroblock}
use Rattle.h264_near.specs.Keeps.{Keeps, IsEdge, Lower, Right}
use Rattle.h264_near.specs.Raster.{before, last_in, last_left, last_corner}
use Rattle.h264_near.proofs.Places.{front, seam, parts, quotient, remainder}
use Rattle.std.proofs.lemmas.Bool.{le-ltb}

module _ (width : ℕ) (picture : List CodedMacroblock) (mb : CodedMacroblock) (some : 0 < width) where
  more : length (picture ++ mb ∷ []) ≡ length picture + 1
  more = length-append picture (mb ∷ [])

  here : (i : ℕ) → i ≡ length picture / width * width + length picture % width → slice_get (picture ++ mb ∷ []) i ≡ Some mb
  here i e = seam picture mb [] i (e ∙ sym (parts (length picture) width))

  -- within a row
  pub next-column : length picture % width + 1 < width → length (picture ++ mb ∷ []) % width ≡ length picture % width + 1
  next-column h = let p = parts (length picture) width in let n = more in
      remainder _ width (length picture / width) (length picture % width + 1) h (omega arith)

  next-row : length picture % width + 1 < width → length (picture ++ mb ∷ []) / width ≡ length picture / width
  next-row h = let p = parts (length picture) width in let n = more in quotient _ width (length picture / width) (length picture % width + 1) h (omega arith)

  -- at its end
  wide : length picture % width + 1 ≡ width → length (picture ++ mb ∷ []) ≡ (length picture / width + 1) * width + 0
  wide h =
      let p = parts (length picture) width in
      let n = more in
      let d : (length picture / width + 1) * width ≡ length picture / width * width + width = omega arith in
      omega arith

  pub first-column : length picture % width + 1 ≡ width → length (picture ++ mb ∷ []) % width ≡ 0
  first-column h = remainder _ width (length picture / width + 1) 0 some (wide h)

  first-row : length picture % width + 1 ≡ width → length (picture ++ mb ∷ []) / width ≡ length picture / width + 1
  first-row h = quotient _ width (length picture / width + 1) 0 some (wide h)

  -- the column of the macroblock: it is the last
  last-same : (length picture % width + 1 < width) ⊎ (length picture % width + 1 ≡ width) →
      last_in width (picture ++ mb ∷ []) (length picture % width) ≡ Some mb
  unfolding last_in
  last-same (inl h) = rw (next-column h, next-row h, lt-ltb (length picture % width) (length picture % width + 1) (omega arith)) (here _ refl)
  last-same (inr h) = rw (first-column h, first-row h, le-ltb (length picture % width) 0 (omega arith))
      (rw (before-one (length picture / width)) (here _ refl))
    where
      before-one : (n : ℕ) → before (n + 1) ≡ Some n
      before-one n = let e : n + 1 ≡ suc n = omega arith in rw e refl

  -- another column: as before
  earlier-row : (c r : ℕ) → c < width → length picture / width ≡ r →
      option_and_then (λ r. slice_get (picture ++ mb ∷ []) (r * width + c)) (before r) ≡ option_and_then (λ r. slice_get picture (r * width + c)) (before r)
  earlier-row c zero h e = refl
  earlier-row c (suc r) h e =
      let p = parts (length picture) width in
      let q : length picture ≡ suc r * width + length picture % width = subst (λ q. length picture ≡ q * width + length picture % width) e p in
      front picture _ (r * width + c) (omega arith)

  same-row : (c : ℕ) → c < length picture % width →
      slice_get (picture ++ mb ∷ []) (length picture / width * width + c) ≡ slice_get picture (length picture / width * width + c)
  same-row c h = let p = parts (length picture) width in front picture _ _ (omega arith)

  last-below : (c : ℕ) → c < length picture % width → last_in width picture c ≡ slice_get picture (length picture / width * width + c)
  unfolding last_in
  last-below c h = rw (lt-ltb c (length picture % width) h) refl

  last-above : (c : ℕ) → length picture % width ≤ c →
      last_in width picture c ≡ option_and_then (λ r. slice_get picture (r * width + c)) (before (length picture / width))
  unfolding last_in
  last-above c h = rw (le-ltb c (length picture % width) h) refl

  last-other : (c : ℕ) → c < width → (c < length picture % width) ⊎ (length picture % width < c) → (length picture % width + 1 < width) ⊎
      (length picture % width + 1 ≡ width) → last_in width (picture ++ mb ∷ []) c ≡ last_in width picture c
  unfolding last_in
  last-other c w (inl b) (inl h) = rw (next-column h, next-row h, lt-ltb c (length picture % width + 1) (omega arith)) (same-row c b ∙ sym (last-below c b))
  last-other c w (inl b) (inr h) =
      let e : before (length picture / width + 1) ≡ Some (length picture / width) = before-suc _ in
      rw (first-column h, first-row h, le-ltb c 0 (omega arith), e) (same-row c b ∙ sym (last-below c b))
    where
      before-suc : (n : ℕ) → before (n + 1) ≡ Some n
      before-suc n = let e : n + 1 ≡ suc n = omega arith in rw e refl
  last-other c w (inr b) (inl h) = rw (next-column h, next-row h, le-ltb c (length picture % width + 1) (omega arith))
      (earlier-row c (length picture / width) w refl ∙ sym (last-above c (omega arith)))
  last-other c w (inr b) (inr h) = absurd (omega arith)

  left-next : length picture % width + 1 < width → last_left width (picture ++ mb ∷ []) ≡ Some mb
  unfolding last_left
  left-next h = let e : length picture % width + 1 ≡ suc (length picture % width) = omega arith in rw (next-column h, next-row h, e) (here _ refl)

  left-first : length picture % width + 1 ≡ width → last_left width (picture ++ mb ∷ []) ≡ None
  unfolding last_left
  left-first h = rw (first-column h) refl

  corner-first : length picture % width + 1 ≡ width → last_corner width (picture ++ mb ∷ []) ≡ None
  unfolding last_corner
  corner-first h = rw (first-column h) refl

  corner-here : length picture % width + 1 < width → last_corner width (picture ++ mb ∷ []) ≡ last_in width picture (length picture % width)
  unfolding last_corner
  corner-here h =
      let e : length picture % width + 1 ≡ suc (length picture % width) = omega arith in
      rw (next-column h, next-row h, e) (earlier-row (length picture % width) (length picture / width) (omega arith) refl ∙
      sym (last-above (length picture % width) (omega arith)))

  corner-next : length picture % width + 1 < width → (edge : Option Edge) → IsEdge Lower edge (last_in width picture (length picture % width)) →
      IsEdge Lower edge (last_corner width (picture ++ mb ∷ []))
  corner-next h edge i = rw (corner-here h) i

  apart : (a b : ℕ) → (a ≡ b) ⊎ ((a < b) ⊎ (b < a))
  apart a b = grind arith

  -- the row of contexts with the new edge
  above-next : (row : List (Option Edge)) (edge : Edge) → length row ≡ width → Lower edge mb → (length picture % width + 1 < width) ⊎
      (length picture % width + 1 ≡ width) → ((c : ℕ) → c < width → IsEdge Lower (get_or row c None) (last_in width picture c)) → (c : ℕ) → c < width →
      IsEdge Lower (get_or (slice_set row (length picture % width) (Some edge)) c None) (last_in width (picture ++ mb ∷ []) c)
  above-next row edge n i way old c h = go (apart c (length picture % width))
    where
      go : (c ≡ length picture % width) ⊎ ((c < length picture % width) ⊎ (length picture % width < c)) →
          IsEdge Lower (get_or (slice_set row (length picture % width) (Some edge)) c None) (last_in width (picture ++ mb ∷ []) c)
      go (inl e) = let l : length picture % width < length row = let m = mod-lt (length picture) some in omega arith in
          rw (e, last-same way, get_or-set_same row (length picture % width) (Some edge) None l) i
      go (inr o) = rw (last-other c h o way, get_or-set_other row (length picture % width) c (Some edge) None (differs o)) (old c h)
        where
          differs : (c < length picture % width) ⊎ (length picture % width < c) → c ≢ length picture % width
          differs (inl b) = λ e. absurd (omega arith)
          differs (inr b) = λ e. absurd (omega arith)

  pub goes-on : (near near' : Near) (edge side : Edge) → Keeps width picture near → near.column + 1 < vec_len near.above →
      near'.above.items ≡ slice_set near.above.items near.column (Some edge) → vec_len near'.above ≡ vec_len near.above → near'.left ≡ Some side →
      near'.corner ≡ get_or near.above.items near.column None → near'.column ≡ near.column + 1 → length near.above.items ≡ vec_len near.above →
      Lower edge mb → Right side mb → Keeps width (picture ++ mb ∷ []) near'
  goes-on near near' edge side k h a v l o c n b r =
      let s = k.sized in
      let q = k.column in
      let room : length picture % width + 1 < width = omega arith in
      record {
        sized = v ∙ k.sized;
        column = c ∙ ap (λ n. n + 1) k.column ∙ sym (next-column room);
        above = rw (a, k.column) (above-next near.above.items edge (n ∙ k.sized) b (inl room) k.above);
        left = rw (l, left-next room) r;
        corner = rw (o, k.column) (corner-next room (get_or near.above.items (length picture % width) None)
            (k.above (length picture % width) (mod-lt (length picture) some)));
      }

  pub goes-round : (near near' : Near) (edge : Edge) → Keeps width picture near → near.column < vec_len near.above → vec_len near.above ≤ near.column + 1 →
      near'.above.items ≡ slice_set near.above.items near.column (Some edge) → vec_len near'.above ≡ vec_len near.above → near'.left ≡ None →
      near'.corner ≡ None → near'.column ≡ 0 → length near.above.items ≡ vec_len near.above → Lower edge mb → Keeps width (picture ++ mb ∷ []) near'
  goes-round near near' edge k h g a v l o c n b =
      let s = k.sized in
      let q = k.column in
      let full : length picture % width + 1 ≡ width = omega arith in
      record {
        sized = v ∙ k.sized;
        column = c ∙ sym (first-column full);
        above = rw (a, k.column) (above-next near.above.items edge (n ∙ k.sized) b (inr full) k.above);
        left = rw (l, left-first full) tt;
        corner = rw (o, corner-first full) tt;
      }

pub starts : (width : ℕ) (near : Near) → 0 < width → vec_len near.above ≡ width → near.column ≡ 0 → near.left ≡ None → near.corner ≡ None →
    ((c : ℕ) → c < width → get_or near.above.items c None ≡ None) → Keeps width [] near
unfolding last_in last_left last_corner
starts width near some v c l o a =
    let m : 0 % width ≡ 0 = remainder 0 width 0 0 some (omega arith) in
    let d : 0 / width ≡ 0 = quotient 0 width 0 0 some (omega arith) in
    record {
      sized = v;
      column = c ∙ sym m;
      above = λ c h. let e = le-ltb c 0 (omega arith) in rw (a c h, m, d, e) tt;
      left = rw (l, m) tt;
      corner = rw (o, m) tt;
    }
