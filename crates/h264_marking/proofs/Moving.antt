-- A steady window: each missing number moves its numbers on by one.
use Rattle.std.proofs.Common.{◌≡◌, ◌≢◌, ℕ, zero, suc, ◌+◌, ◌-◌, ◌%◌, ◌<◌, ◌≤◌, nat_lt, ◌⊎◌, inl, inr, Bool, true, false, cond, not, ◌&&◌, ◌||◌, ◌==◌, Option}
use Rattle.std.proofs.Common.{Some, None, List, [], ◌∷◌, ◌++◌, map, length, ℤ, pos, ◌-ℤ◌, int_eq, refl, ap, ap₂, sym, ◌∙◌, subst, arith, append_assoc}
use Rattle.std.proofs.Common.{length-append, eqb-true, ne_eqb, le-ltb, ltb-false, ltb-true, mod-lt, mod-eq_of_lt}
use Rattle.std.proofs.Math.Nat.{add-mod_left, mod-add-mod}
use Rattle.std.proofs.lemmas.Int.{ints, clamps}
use Rattle.std.proofs.lemmas.Bool.{cases_lt, and_parts}
use Rattle.std.proofs.lemmas.Bool.Decides.{Decides-int_eq}
use Rattle.std.specs.List.{list_any}
use Rattle.std.specs.Int.{int_min}
use Rattle.std.specs.Option.{is_none, option_map, option_and_then}
use lib.Signed.{◌<ℤ◌, ◌≤ℤ◌}
use Rattle.h264_marking.specs.declared.frame.Term.{Term}
use Rattle.h264_marking.specs.declared.frame.Term.TheVariants.{Short, Long}
use Rattle.h264_marking.specs.declared.frame.ReferenceFrame.{ReferenceFrame}
use Rattle.h264_marking.specs.declared.frame.Numbering.{Numbering}
use Rattle.h264_marking.specs.Frames.{References, frame_places, frame_num_wrap, short_term_num, is_short, has_frame_num, without_pic_num}
use Rattle.h264_marking.specs.Window.{lesser, least_pic_num, slide, missing_frame, with_missing, filled}
use Rattle.h264_marking.specs.Gaps.{numbers_from, last_or, all_filled}
use Rattle.h264_marking.specs.Unused.{Avoid}
use Rattle.h264_marking.specs.Steady.{is_missing, are_missing, is_window, AreLong, missing_after, IsSteady, moved}
use Rattle.h264_marking.proofs.Missing.{following, Stands, step, not-f, avoids, ends}

-- ---- from the tests

missing-by : (number : ℕ) (picture : Option ℕ) (frame_num : ℕ) (term : Term) → (is_short term && frame_num == number && is_none picture) ≡ true →
    (let f : ReferenceFrame = record { picture = picture; frame_num = frame_num; term = term } in f) ≡ missing_frame number
missing-by number None frame_num Short h = ap missing_frame (eqb-true frame_num number (and_parts (frame_num == number) true h).0)
missing-by number (Some p) frame_num Short h = let no = (and_parts (frame_num == number) false h).1 in cc
missing-by number picture frame_num (Long i) h = cc

missing-all : (n : Numbering) (before : ℕ) (fs : List ReferenceFrame) → are_missing n.max_frame_num before fs ≡ true → fs ≡ missing_after n (length fs) before
missing-all n before [] h = refl
missing-all n before (f ∷ fs) h =
    let p = and_parts (is_missing ((before + 1) % n.max_frame_num) f) (are_missing n.max_frame_num ((before + 1) % n.max_frame_num) fs) h in
    ap₂ (λ (x : ReferenceFrame) (xs : List ReferenceFrame). x ∷ xs) (missing-by ((before + 1) % n.max_frame_num) f.picture f.frame_num f.term p.0)
    (missing-all n ((before + 1) % n.max_frame_num) fs p.1)

record Parts (n : Numbering) (before shorts : ℕ) (frames : List ReferenceFrame) : Type 0 where
  longs : List ReferenceFrame
  are_long : AreLong longs
  frames_are : frames ≡ longs ++ missing_after n shorts before

parts : (n : Numbering) (before shorts : ℕ) (frames : List ReferenceFrame) → is_window n.max_frame_num before shorts frames ≡ true →
    Parts n before shorts frames
parts n before shorts [] h = record { longs = []; are_long = tt; frames_are = ap (λ (k : ℕ). missing_after n k before) (sym (eqb-true shorts 0 h)) }
parts n before shorts (f ∷ fs) h = by (parts n before shorts fs) (is_short f.term) refl h
  where
    by : (is_window n.max_frame_num before shorts fs ≡ true → Parts n before shorts fs) → (short : Bool) → is_short f.term ≡ short →
        cond short (length (f ∷ fs) == shorts && are_missing n.max_frame_num before (f ∷ fs)) (is_window n.max_frame_num before shorts fs) ≡ true →
        Parts n before shorts (f ∷ fs)
    by others true e h =
        let p = and_parts (length (f ∷ fs) == shorts) (are_missing n.max_frame_num before (f ∷ fs)) h in
        record {
          longs = [];
          are_long = tt;
          frames_are = missing-all n before (f ∷ fs) p.1 ∙
              ap (λ (k : ℕ). missing_after n k before) (eqb-true (length (f ∷ fs)) shorts p.0);
        }
    by others false e h =
        let p = others h in
        record { longs = f ∷ p.longs; are_long = (e, p.are_long); frames_are = ap (λ (xs : List ReferenceFrame). f ∷ xs) p.frames_are }

pub steady-is : (n : Numbering) (last before shorts : ℕ) (frames : List ReferenceFrame) → is_window n.max_frame_num before shorts frames ≡ true →
    length frames ≡ frame_places n.max_num_ref_frames → 0 < shorts → shorts < n.max_frame_num → before < n.max_frame_num →
    last ≡ (before + shorts) % n.max_frame_num → IsSteady n last frames
steady-is n last before shorts frames h full some few within last_is =
    let p = parts n before shorts frames h in
    record {
      longs = p.longs;
      before = before;
      shorts = shorts;
      are_long = p.are_long;
      frames_are = p.frames_are;
      full = full;
      some = some;
      few = few;
      within = within;
      last_is = last_is;
    }

-- ---- long-term frames stay

no-num : (t : Term) (wrap : ℤ) → is_short t ≡ false → short_term_num t wrap ≡ None
no-num Short wrap h = cc
no-num (Long i) wrap h = refl

module _ (c : Numbering) where
  long-least : (longs fs : List ReferenceFrame) → AreLong longs → least_pic_num c (longs ++ fs) ≡ least_pic_num c fs
  long-least [] fs h = refl
  long-least (f ∷ longs) fs h = ap (λ (o : Option ℤ). lesser o (least_pic_num c (longs ++ fs))) (no-num f.term (frame_num_wrap c f.frame_num) h.0) ∙
      long-least longs fs h.1

  long-kept : (w : ℤ) (longs fs : List ReferenceFrame) → AreLong longs → without_pic_num c w (longs ++ fs) ≡ longs ++ without_pic_num c w fs
  long-kept w [] fs h = refl
  long-kept w (f ∷ longs) fs h = rw (no-num f.term (frame_num_wrap c f.frame_num) h.0) (ap (λ (xs : List ReferenceFrame). f ∷ xs) (long-kept w longs fs h.1))

long-any : (number : ℕ) (longs fs : List ReferenceFrame) → AreLong longs → list_any (has_frame_num number) (longs ++ fs) ≡ list_any (has_frame_num number) fs
long-any number [] fs h = refl
long-any number (f ∷ longs) fs h = rw h.0 (long-any number longs fs h.1)

-- ---- the numbers rise

module _ (n : Numbering) (x : ℕ) (x-in : x < n.max_frame_num) where
  abbrev current : Numbering
  current = record n { frame_num = x }

  abbrev wrap : ℕ → ℤ
  wrap q = frame_num_wrap current q

  wrap-by : (q s : ℕ) (a b : Bool) → nat_lt x q ≡ a → nat_lt x s ≡ b → q < n.max_frame_num → q ≢ x → ((s ≡ q + 1) × (q + 1 < n.max_frame_num)) ⊎
      ((s ≡ 0) × (q + 1 ≡ n.max_frame_num)) →
      cond a (pos q -ℤ pos n.max_frame_num) (pos q) <ℤ cond b (pos s -ℤ pos n.max_frame_num) (pos s)
  wrap-by q s true true ea eb h ne (inl f) = let e = f.0 in omega (arith, ints, e)
  wrap-by q s true false ea eb h ne (inl f) = absurd (let e = f.0 in let l = ltb-true x q ea in let g = ltb-false x s eb in omega (arith, e, l, g))
  wrap-by q s false true ea eb h ne (inl f) = absurd (let e = f.0 in let g = ltb-false x q ea in let l = ltb-true x s eb in ne (omega (arith, e, l, g)))
  wrap-by q s false false ea eb h ne (inl f) = let e = f.0 in omega (arith, ints, e)
  wrap-by q s a true ea eb h ne (inr f) = absurd (let e = f.0 in let l = ltb-true x s eb in omega (arith, e, l))
  wrap-by q s true false ea eb h ne (inr f) = let e = f.0 in omega (arith, ints, e, h)
  wrap-by q s false false ea eb h ne (inr f) = absurd (let e = f.1 in let g = ltb-false x q ea in ne (omega (arith, e, g, x-in)))

  rises : (q : ℕ) → q < n.max_frame_num → q ≢ x → wrap q <ℤ wrap ((q + 1) % n.max_frame_num)
  rises q h ne = wrap-by q ((q + 1) % n.max_frame_num) (nat_lt x q) (nat_lt x ((q + 1) % n.max_frame_num)) refl refl h ne (following n.max_frame_num q h)

  module _ (p : ℕ) (p-in : p < n.max_frame_num) where
    abbrev Stand : ℕ → ℕ → ℕ → Type 0
    Stand q i k = Stands n.max_frame_num p x p-in x-in q i k

    after : (q i k : ℕ) → Stand q i (suc k) → Stand ((q + 1) % n.max_frame_num) (suc i) k
    after q i k s = step n.max_frame_num p x p-in x-in q i k s

    apart : (q i k : ℕ) → Stand q (suc i) k → q ≢ x
    apart q i k s = not-f n.max_frame_num p x p-in x-in q i k s

    lesser-first : (a b : ℤ) → a <ℤ b → lesser (Some a) (Some b) ≡ Some a
    lesser-first a b h = let e : int_min a b ≡ a = omega (arith, ints, clamps, h) in ap (λ (z : ℤ). let o : Option ℤ = Some z in o) e

    -- the first of them is the least
    least-first : (q i k : ℕ) → Stand q i (suc k) → least_pic_num current (missing_after n (suc k) q) ≡ Some (wrap ((q + 1) % n.max_frame_num))
    least-first q i zero s = refl
    least-first q i (suc k) s =
        let t = after q i (suc k) s in
        ap (lesser (Some (wrap ((q + 1) % n.max_frame_num)))) (least-first ((q + 1) % n.max_frame_num) (suc i) k t)
        ∙ lesser-first _ _ (rises ((q + 1) % n.max_frame_num) t.within (apart ((q + 1) % n.max_frame_num) i (suc k) t))

    not-so : (b : Bool) → (b ≡ true → ⊥) → b ≡ false
    not-so true h = absurd (h refl)
    not-so false h = refl

    unlike : (w z : ℤ) → w <ℤ z → int_eq z w ≡ false
    unlike w z h = not-so (int_eq z w) (λ b. let e = (Decides-int_eq z w).0 b in omega (arith, ints, e, h))

    -- the others stay
    others-kept : (w : ℤ) (q i k : ℕ) → Stand q (suc i) k → w ≤ℤ wrap q → without_pic_num current w (missing_after n k q) ≡ missing_after n k q
    others-kept w q i zero s h = refl
    others-kept w q i (suc k) s h =
        let t = after q (suc i) k s in
        let l : w <ℤ wrap ((q + 1) % n.max_frame_num) = (let r = rises q s.within (apart q i (suc k) s) in omega (arith, ints, r, h)) in
        let rest = missing_after n k ((q + 1) % n.max_frame_num) in
        ap (λ (b : Bool). cond (not b) (missing_frame ((q + 1) % n.max_frame_num) ∷ without_pic_num current w rest) (without_pic_num current w rest))
        (unlike w (wrap ((q + 1) % n.max_frame_num)) l)
        ∙ ap (λ (xs : List ReferenceFrame). missing_frame ((q + 1) % n.max_frame_num) ∷ xs)
        (others-kept w ((q + 1) % n.max_frame_num) (suc i) k t (omega (arith, ints, l)))

-- none of them has another number
none-has : (p x : ℕ) (numbers : List ℕ) → Avoid p x numbers → list_any (has_frame_num x) (map missing_frame numbers) ≡ false
none-has p x [] h = refl
none-has p x (q ∷ numbers) h = ap (λ (b : Bool). b || list_any (has_frame_num x) (map missing_frame numbers)) (ne_eqb q x h.1) ∙ none-has p x numbers h.2

-- one more
one-more : (n : Numbering) (k q : ℕ) → missing_after n k q ++
    missing_frame ((last_or q (numbers_from k ((q + 1) % n.max_frame_num) n.max_frame_num) + 1) % n.max_frame_num) ∷ [] ≡ missing_after n (suc k) q
one-more n zero q = refl
one-more n (suc k) q = ap (λ (xs : List ReferenceFrame). missing_frame ((q + 1) % n.max_frame_num) ∷ xs) (one-more n k ((q + 1) % n.max_frame_num))

-- ---- one missing number

pub length-missing : (n : Numbering) (k before : ℕ) → length (missing_after n k before) ≡ k
length-missing n zero before = refl
length-missing n (suc k) before = ap suc (length-missing n k ((before + 1) % n.max_frame_num))

module _ (n : Numbering) (longs : List ReferenceFrame) (k : ℕ) (are_long : AreLong longs) (few : suc k < n.max_frame_num)
    (full : length longs + suc k ≡ frame_places n.max_num_ref_frames) where
  abbrev M : ℕ
  M = n.max_frame_num

  -- the frames, with those of the window for the numbers after this one
  abbrev pub windowed : References → ℕ → References
  windowed refs before = record refs { frames = longs ++ missing_after n (suc k) before }

  stands-to : (p s x : ℕ) → p < M → s ≡ p + suc k + 1 → x ≡ s % M → (s < M) ⊎ (M ≤ s) → (s ≡ x) ⊎ (s ≡ x + M)
  stands-to p s x h is e (inl l) = inl (let z : x ≡ s = e ∙ mod-eq_of_lt l in sym z)
  stands-to p s x h is e (inr g) =
      let over : s ≡ M + (s - M) = omega (arith, g) in
      let l : s - M < M = omega (arith, is, h, few, g) in
      let z : x ≡ s - M = e ∙ ap (λ (y : ℕ). y % M) over ∙ add-mod_left M (s - M) ∙ mod-eq_of_lt l in
      inr (omega (arith, z, over))

  module _ (p x : ℕ) (p-in : p < M) (x-in : x < M) (x-is : x ≡ (p + suc k + 1) % M) where
    abbrev first : ℕ
    first = (p + 1) % M

    abbrev others : List ReferenceFrame
    others = missing_after n k first

    abbrev c : Numbering
    c = record n { frame_num = x }

    stands : Stands M p x p-in x-in p 0 (suc k)
    stands = record {
      within = p-in;
      few = omega (arith, few);
      from = inl (omega arith);
      to = stands-to p (p + suc k + 1) x p-in refl x-is (cases_lt (p + suc k + 1) M);
    }

    stands-next : Stands M p x p-in x-in first 1 k
    stands-next = step M p x p-in x-in p 0 k stands

    taken : nat_lt (length (longs ++ missing_frame first ∷ others)) (frame_places n.max_num_ref_frames) ≡ false
    taken =
        let a = length-append longs (missing_frame first ∷ others) in
        let b = length-missing n k first in
        le-ltb _ _ (omega (arith, a, b, full))

    first-goes : without_pic_num c (wrap n x x-in first) (missing_frame first ∷ others) ≡ others
    first-goes =
        ap (λ (b : Bool). cond (not b) (missing_frame first ∷ without_pic_num c (wrap n x x-in first) others)
        (without_pic_num c (wrap n x x-in first) others)) ((Decides-int_eq (wrap n x x-in first) (wrap n x x-in first)).1 refl)
        ∙ others-kept n x x-in p p-in (wrap n x x-in first) first 0 k stands-next (omega (arith, ints))

    slid : slide c (longs ++ missing_frame first ∷ others) ≡ Some (longs ++ others)
    slid =
        let all = longs ++ missing_frame first ∷ others in
        ap (λ (b : Bool). let o : Option (List ReferenceFrame) =
        cond b (Some all) (option_map (λ least. without_pic_num c least all) (least_pic_num c all)) in o) taken
        ∙ ap (option_map (λ least. without_pic_num c least all))
        (long-least c longs (missing_frame first ∷ others) are_long ∙ least-first n x x-in p p-in p 0 k stands)
        ∙ ap (λ (xs : List ReferenceFrame). let o : Option (List ReferenceFrame) = Some xs in o)
        (long-kept c (wrap n x x-in first) longs (missing_frame first ∷ others) are_long ∙ ap (λ (xs : List ReferenceFrame). longs ++ xs) first-goes)

    joins : with_missing x (longs ++ others) ≡ Some (longs ++ missing_after n (suc k) first)
    joins =
        ap (λ (b : Bool). let o : Option (List ReferenceFrame) = cond b None (Some ((longs ++ others) ++ missing_frame x ∷ [])) in o)
        (long-any x longs others are_long ∙ none-has p x (numbers_from k ((first + 1) % M) M) (avoids M p x p-in x-in first 1 k stands-next))
        ∙ ap (λ (xs : List ReferenceFrame). let o : Option (List ReferenceFrame) = Some xs in o) (append_assoc longs others (missing_frame x ∷ [])
        ∙ ap (λ (xs : List ReferenceFrame). longs ++ xs)
        (ap (λ (y : ℕ). others ++ missing_frame y ∷ []) (ends M p x p-in x-in first 1 k stands-next) ∙ one-more n k first))

    pub next-filled : (refs : References) → refs.frames ≡ longs ++ missing_after n (suc k) p →
        filled (record n { frame_num = x }) refs ≡ Some (windowed refs first)
    unfolding filled
    next-filled refs are =
        ap (λ (xs : List ReferenceFrame). option_map (λ frames. let r : References = record refs { frames = frames } in r)
        (option_and_then (with_missing x) (slide c xs))) are
        ∙ ap (λ (o : Option (List ReferenceFrame)). option_map (λ frames. let r : References = record refs { frames = frames } in r)
        (option_and_then (with_missing x) o)) slid
        ∙ ap (option_map (λ frames. let r : References = record refs { frames = frames } in r)) joins

  -- ---- all of them

  next-x : (p last : ℕ) → last ≡ (p + suc k) % M → (last + 1) % M ≡ (p + suc k + 1) % M
  next-x p last e = ap (λ (y : ℕ). (y + 1) % M) e ∙ mod-add-mod (p + suc k) M 1

  next-last : (p last : ℕ) → last ≡ (p + suc k) % M → (last + 1) % M ≡ ((p + 1) % M + suc k) % M
  next-last p last e =
      let same : p + suc k + 1 ≡ p + 1 + suc k = omega arith in
      next-x p last e ∙ ap (λ (y : ℕ). y % M) same ∙ sym (mod-add-mod (p + 1) M (suc k))

  next-moved : (p count : ℕ) → ((p + 1) % M + count) % M ≡ (p + suc count) % M
  next-moved p count =
      let same : p + 1 + count ≡ p + suc count = omega arith in
      mod-add-mod (p + 1) M count ∙ ap (λ (y : ℕ). y % M) same

  some-frames : 0 < M
  some-frames = omega (arith, few)

  pub all-next : (count p last : ℕ) (refs : References) → p < M → last ≡ (p + suc k) % M → refs.frames ≡ longs ++ missing_after n (suc k) p →
      all_filled n (numbers_from count ((last + 1) % M) M) refs ≡ Some (windowed refs ((p + count) % M))
  all-next zero p last refs h e are =
      let none : p + 0 ≡ p = omega arith in
      let same : p ≡ (p + 0) % M = sym (ap (λ (y : ℕ). y % M) none ∙ mod-eq_of_lt h) in
      ap (λ (xs : List ReferenceFrame). let o : Option References = Some (record refs { frames = xs }) in o)
      (are ∙ ap (λ (q : ℕ). longs ++ missing_after n (suc k) q) same)
  all-next (suc count) p last refs h e are =
      ap (option_and_then (all_filled n (numbers_from count (((last + 1) % M + 1) % M) M)))
      (next-filled p ((last + 1) % M) h (mod-lt _ some-frames) (next-x p last e) refs are)
      ∙ all-next count ((p + 1) % M) ((last + 1) % M) (windowed refs ((p + 1) % M)) (mod-lt _ some-frames) (next-last p last e) refl
      ∙ ap (λ (q : ℕ). let o : Option References = Some (windowed refs q) in o) (next-moved p count)

  moved-longs : (count : ℕ) (ls fs : List ReferenceFrame) → AreLong ls → map (moved M count) (ls ++ fs) ≡ ls ++ map (moved M count) fs
  moved-longs count [] fs h = refl
  moved-longs count (f ∷ ls) fs h =
      ap₂ (λ (x : ReferenceFrame) (xs : List ReferenceFrame). x ∷ xs)
      (ap (λ (b : Bool). let g : ReferenceFrame = cond b (record f { frame_num = (f.frame_num + count) % M }) f in g) h.0) (moved-longs count ls fs h.1)

  moved-missing : (count j p : ℕ) → map (moved M count) (missing_after n j p) ≡ missing_after n j ((p + count) % M)
  moved-missing count zero p = refl
  moved-missing count (suc j) p =
      let swap : p + 1 + count ≡ p + count + 1 = omega arith in
      let same : ((p + 1) % M + count) % M ≡ ((p + count) % M + 1) % M = mod-add-mod (p + 1) M count ∙ ap (λ (y : ℕ). y % M) swap ∙
      sym (mod-add-mod (p + count) M 1) in
      ap₂ (λ (q : ℕ) (xs : List ReferenceFrame). missing_frame q ∷ xs) same (moved-missing count j ((p + 1) % M) ∙ ap (missing_after n j) same)

  pub moved-window : (count p : ℕ) → map (moved M count) (longs ++ missing_after n (suc k) p) ≡ longs ++ missing_after n (suc k) ((p + count) % M)
  moved-window count p = moved-longs count longs (missing_after n (suc k) p) are_long ∙
      ap (λ (xs : List ReferenceFrame). longs ++ xs) (moved-missing count (suc k) p)

-- ---- of a steady window

module _ (n : Numbering) (last : ℕ) (refs : References) where
  full-by : (s : IsSteady n last refs.frames) → length s.longs + s.shorts ≡ frame_places n.max_num_ref_frames
  full-by s =
      let a = length-append s.longs (missing_after n s.shorts s.before) in
      let b = length-missing n s.shorts s.before in
      let c = ap length s.frames_are in
      let d = s.full in
      omega (arith, a, b, c, d)

  all-moved-by : (k : ℕ) (s : IsSteady n last refs.frames) → s.shorts ≡ suc k → (count : ℕ) →
      all_filled n (numbers_from count ((last + 1) % n.max_frame_num) n.max_frame_num) refs ≡
      Some (record refs { frames = map (moved n.max_frame_num count) refs.frames })
  all-moved-by k s e count =
      let few : suc k < n.max_frame_num = (let f = s.few in omega (arith, e, f)) in
      let full : length s.longs + suc k ≡ frame_places n.max_num_ref_frames = (let f = full-by s in omega (arith, e, f)) in
      let are : refs.frames ≡ s.longs ++ missing_after n (suc k) s.before = s.frames_are ∙ ap (λ (j : ℕ). s.longs ++ missing_after n j s.before) e in
      let is : last ≡ (s.before + suc k) % n.max_frame_num = s.last_is ∙ ap (λ (j : ℕ). (s.before + j) % n.max_frame_num) e in
      all-next n s.longs k s.are_long few full count s.before last refs s.within is are
      ∙ ap (λ (xs : List ReferenceFrame). let o : Option References = Some (record refs { frames = xs }) in o)
      (sym (ap (map (moved n.max_frame_num count)) are ∙ moved-window n s.longs k s.are_long few full count s.before))

  some-shorts : (j : ℕ) → 0 < j → j ≡ suc (j - 1)
  some-shorts j h = omega (arith, h)

  -- so many missing numbers after the last one
  pub all-moved : (s : IsSteady n last refs.frames) (count : ℕ) → all_filled n (numbers_from count ((last + 1) % n.max_frame_num) n.max_frame_num) refs ≡
      Some (record refs { frames = map (moved n.max_frame_num count) refs.frames })
  all-moved s count = all-moved-by (s.shorts - 1) s (some-shorts s.shorts s.some) count

  missing-pictures : (j p q : ℕ) → map (λ (f : ReferenceFrame). f.picture) (missing_after n j p) ≡ map (λ (f : ReferenceFrame). f.picture) (missing_after n j q)
  missing-pictures zero p q = refl
  missing-pictures (suc j) p q = ap (λ (xs : List (Option ℕ)). None ∷ xs) (missing-pictures j ((p + 1) % n.max_frame_num) ((q + 1) % n.max_frame_num))

  same-pictures : (longs : List ReferenceFrame) (j p q : ℕ) → map (λ (f : ReferenceFrame). f.picture) (longs ++ missing_after n j p) ≡
      map (λ (f : ReferenceFrame). f.picture) (longs ++ missing_after n j q)
  same-pictures [] j p q = missing-pictures j p q
  same-pictures (f ∷ longs) j p q = ap (λ (xs : List (Option ℕ)). f.picture ∷ xs) (same-pictures longs j p q)

  -- the next number is filled, and the window is steady still, with the same pictures
  pub record Next : Type 0 where
    pub held : References
    pub fits : filled (record n { frame_num = (last + 1) % n.max_frame_num }) refs ≡ Some held
    pub steady : IsSteady n ((last + 1) % n.max_frame_num) held.frames
    pub pictures : map (λ (f : ReferenceFrame). f.picture) held.frames ≡ map (λ (f : ReferenceFrame). f.picture) refs.frames

  next-by : (k : ℕ) (s : IsSteady n last refs.frames) → s.shorts ≡ suc k → Next
  next-by k s e =
      let few : suc k < n.max_frame_num = (let f = s.few in omega (arith, e, f)) in
      let full : length s.longs + suc k ≡ frame_places n.max_num_ref_frames = (let f = full-by s in omega (arith, e, f)) in
      let are : refs.frames ≡ s.longs ++ missing_after n (suc k) s.before = s.frames_are ∙ ap (λ (j : ℕ). s.longs ++ missing_after n j s.before) e in
      let is : last ≡ (s.before + suc k) % n.max_frame_num = s.last_is ∙ ap (λ (j : ℕ). (s.before + j) % n.max_frame_num) e in
      let some : 0 < n.max_frame_num = omega (arith, few) in
      let first = (s.before + 1) % n.max_frame_num in
      let a = length-append s.longs (missing_after n (suc k) first) in
      let b = length-missing n (suc k) first in
      record {
        held = windowed n s.longs k s.are_long few full refs first;
        fits = next-filled n s.longs k s.are_long few full s.before ((last + 1) % n.max_frame_num) s.within (mod-lt _ some)
            (next-x n s.longs k s.are_long few full s.before last is) refs are;
        steady = record {
          longs = s.longs;
          before = first;
          shorts = suc k;
          are_long = s.are_long;
          frames_are = refl;
          full = omega (arith, a, b, full);
          some = omega arith;
          few = few;
          within = mod-lt _ some;
          last_is = next-last n s.longs k s.are_long few full s.before last is;
        };
        pictures = same-pictures s.longs (suc k) first s.before ∙ sym (ap (map (λ (f : ReferenceFrame). f.picture)) are);
      }

  pub steady-next : IsSteady n last refs.frames → Next
  steady-next s = next-by (s.shorts - 1) s (some-shorts s.shorts s.some)

  pub last-within : IsSteady n last refs.frames → last < n.max_frame_num
  last-within s = let some : 0 < n.max_frame_num = (let f = s.few in omega (arith, f)) in subst (λ (x : ℕ). x < n.max_frame_num) (sym s.last_is) (mod-lt _ some)

-- the last of so many numbers after this one
pub last-after : (M k last : ℕ) → last < M → last_or last (numbers_from k ((last + 1) % M) M) ≡ (last + k) % M
last-after M zero last h = let none : last + 0 ≡ last = omega arith in sym (ap (λ (y : ℕ). y % M) none ∙ mod-eq_of_lt h)
last-after M (suc k) last h =
    let same : last + 1 + k ≡ last + suc k = omega arith in
    let some : 0 < M = omega (arith, h) in
    last-after M k ((last + 1) % M) (mod-lt _ some) ∙ mod-add-mod (last + 1) M k ∙ ap (λ (y : ℕ). y % M) same
