-- Slice data give macroblocks of their slice.
use Rattle.std.proofs.Common.{◌≡◌, ℕ, zero, suc, ◌<◌, ◌≤◌, ◌==◌, ◌||◌, nat_lt, Bool, true, false, IsTrue, List, [], ◌∷◌, ◌++◌, length, take, map, replicate}
use Rattle.std.proofs.Common.{Some, None, refl, ap, sym, ◌∙◌, subst, arith, ⊎_elim, append_assoc, length-append}
use Rattle.std.specs.List.{AllByRecursion, slice_get}
use Rattle.std.specs.Option.{is_some}
use Rattle.std.proofs.lemmas.Bool.{cases_lt}
use Rattle.std.proofs.lemmas.Bool.Decides.{nat_tests}
use Rattle.std.proofs.lemmas.List.{take-append-le, append-nil}
use Rattle.std.proofs.lemmas.Option.{slice_get_past}
use Rattle.std.proofs.Math.Seq.{take-append_seam}
use Rattle.h264_base.specs.declared.mode.SliceType.{SliceType}
use Rattle.h264_base.specs.declared.mode.SliceType.TheVariants as slice_type
use Rattle.h264_base.specs.Grammar.{Grammar}
use Rattle.h264_base.proofs.Gives.{Gives, gives-done, gives-any, gives-bind, gives-check, gives-if, gives-both, gives-weaker}
use Rattle.h264_near.specs.declared.motion.Motion.{Motion}
use Rattle.h264_near.specs.declared.motion.Vector.{Vector}
use Rattle.h264_near.specs.Coded.{CodedMacroblock}
use Rattle.h264_near.proofs.Places.{front, seam}
use Rattle.h264_vectors.specs.declared.slice.SliceContext.{SliceContext}
use Rattle.h264_vectors.specs.Derived.{picture_of, has_picture, motion_of}
use Rattle.h264_mbsyntax.specs.Macroblock.{coded, pcm_of, intra4x4, intra16x16, pcm, intra, inter, by_type, macroblock}
use Rattle.h264_mbsyntax.specs.declared.slice.Standing.{Standing}
use Rattle.h264_mbsyntax.specs.declared.slice.Standing.TheVariants.{Next, Skipping}
use Rattle.h264_mbsyntax.specs.Possible.{Refers, IsPossible}
use Rattle.h264_mbsyntax.specs.Slice.{Step, skipped_of, skip, unskipped, after_run, run_of_skips, by_slice_type, next, go_on, macroblocks, slice_data}
use Rattle.h264_mbsyntax.specs.OfSlice.{IsDerived, IsOfSlice, AreOfSlice}
use Rattle.h264_mbsyntax.proofs.Fits.{all-derived}
use Rattle.h264_mbsyntax.proofs.Possible.{possible, named}
use Rattle.h264_base.proofs.Plain.{some-same}

-- ---- one macroblock

module _ (width : ℕ) (slice : SliceContext) (picture : List CodedMacroblock) where
  abbrev Own : CodedMacroblock → Type 0
  Own m = (m.slice ≡ slice.number) × IsDerived m.prediction

  own-intra4x4 : Gives (intra4x4 width slice picture) Own
  unfolding intra4x4 coded
  own-intra4x4 = gives-bind _ Own _ _ (gives-any _)
      (λ modes a. gives-bind _ Own _ _ (gives-any _)
      (λ chroma b. gives-bind _ Own _ _ (gives-any _) (λ pattern c. gives-bind _ Own _ _ (gives-any _) (λ levels d. gives-done Own _ (refl, tt)))))

  own-intra16x16 : (bit kind : ℕ) → Gives (intra16x16 width slice picture bit kind) Own
  unfolding intra16x16 coded
  own-intra16x16 bit kind = gives-bind _ Own _ _ (gives-any _)
      (λ x a. gives-bind _ Own _ _ (gives-any _) (λ chroma b. gives-bind _ Own _ _ (gives-any _) (λ levels c. gives-done Own _ (refl, tt))))

  own-pcm : Gives (pcm slice picture) Own
  unfolding pcm pcm_of
  own-pcm = gives-bind _ Own _ _ (gives-any _) (λ samples a. gives-done Own _ (refl, tt))

  own-intra : (bit kind : ℕ) → Gives (intra width slice picture bit kind) Own
  unfolding intra
  own-intra bit kind = gives-if Own (kind == 0) _ _ own-intra4x4 (gives-if Own (kind == 25) _ _ own-pcm (own-intra16x16 bit kind))

  own-inter : (bit kind : ℕ) → Gives (inter width slice picture bit kind) Own
  unfolding inter coded
  own-inter bit kind = gives-bind _ Own _ _ (all-derived width slice picture bit kind)
      (λ d a. gives-bind _ Own _ _ (gives-any _)
      (λ pattern b. gives-bind _ Own _ _ (gives-any _) (λ levels c. gives-bind _ Own _ _ (gives-any _) (λ x e. gives-done Own _ (refl, a)))))

  own-type : (t : SliceType) (bit kind : ℕ) → Gives (by_type t width slice picture bit kind) Own
  unfolding by_type
  own-type slice_type.I bit kind = gives-bind _ Own _ _ (gives-any _) (λ x a. own-intra bit kind)
  own-type slice_type.P bit kind = gives-bind _ Own _ _ (gives-any _) (λ x a. gives-if Own (nat_lt kind 5) _ _ (own-inter bit kind) (own-intra bit _))

  own-macroblock : Gives (macroblock width slice picture) (λ v. Own v.macroblock)
  unfolding macroblock
  own-macroblock = gives-bind _ (λ v. Own v.macroblock) _ _ (gives-any _)
      (λ kind a. gives-bind Own _ _ _ (own-type slice.slice_type _ _) (λ m h. gives-done _ _ h))

  abbrev IsNext : CodedMacroblock → Type 0
  IsNext m = IsOfSlice width slice picture m

  gives-macroblock : Gives (macroblock width slice picture) (λ v. IsNext v.macroblock)
  gives-macroblock = gives-weaker (macroblock width slice picture) _ (λ v. IsNext v.macroblock)
      (gives-both (λ v. Own v.macroblock) (λ v. IsPossible width slice picture v.macroblock.prediction) _ own-macroblock (possible width slice picture))
      (λ v b. record { number = b.0.0; possible = b.1; derived = b.0.1 })

  -- ---- a skipped one

  all-refer : (n : ℕ) (m : Motion) → Refers slice (Some m) → AllByRecursion (Refers slice) (replicate n (Some m))
  all-refer zero m h = tt
  all-refer (suc n) m h = (h, all-refer n m h)

  all-some : (n : ℕ) (m : Motion) → map is_some (replicate n (Some m)) ≡ replicate n true
  all-some zero m = refl
  all-some (suc n) m = ap (λ l. true ∷ l) (all-some n m)

  first-refers : (v : Vector) → IsTrue (has_picture slice 0) → Refers slice (Some (motion_of slice 0 v))
  unfolding motion_of
  first-refers v h = named slice 0 (picture_of slice 0) refl h

  is-skipped : (v : Vector) → IsTrue (has_picture slice 0) → IsNext (skipped_of slice picture v)
  unfolding skipped_of coded
  is-skipped v h = record { number = refl; possible = all-refer 16 (motion_of slice 0 v) (first-refers v h); derived = all-some 16 (motion_of slice 0 v) }

-- ---- one macroblock more

none-of : {A : Type 0} (xs : List A) (x : A) → slice_get xs (length xs) ≡ Some x → ⊥
none-of xs x e = let n = slice_get_past xs (length xs) (omega arith) in let s : None ≡ Some x = sym n ∙ e in absurd (cc)

module _ (width : ℕ) (slice : SliceContext) (before : List CodedMacroblock) where
  abbrev Are : List CodedMacroblock → Type 0
  Are after = AreOfSlice width slice before after

  none-yet : Are before
  none-yet = record {
    own = [];
    joined = sym (append-nil before);
    each = λ a m l e. absurd (let n = slice_get_past before a l in let s : None ≡ Some m = sym n ∙ e in cc);
  }

  one-more : (picture : List CodedMacroblock) (m : CodedMacroblock) → Are picture → IsOfSlice width slice picture m → Are (picture ++ m ∷ [])
  one-more picture m h n = record {
    own = h.own ++ m ∷ [];
    joined = ap (λ l. l ++ m ∷ []) h.joined ∙ append_assoc before h.own (m ∷ []);
    each = λ a x l e.
        let long = length-append picture (m ∷ []) in
        ⊎_elim
        (λ (q : a < length picture).
        rw (take-append-le a picture (m ∷ []) (omega arith)) (h.each a x l (sym (front picture (m ∷ []) a q) ∙ e)))
        (λ (q : length picture ≤ a).
        ⊎_elim
        (λ (z : length picture < a). absurd (let p = slice_get_past (picture ++ m ∷ []) a (omega arith) in let s : None ≡ Some x = sym p ∙ e in cc))
        (λ (z : a ≤ length picture).
        let is : a ≡ length picture = omega arith in
        let same : m ≡ x = some-same m x (sym (seam picture m [] a is) ∙ e) in
        let t : take a (picture ++ m ∷ []) ≡ picture = ap (λ k. take k (picture ++ m ∷ [])) is ∙ take-append_seam picture (m ∷ []) in
        rw t (subst (λ y. IsOfSlice width slice picture y) same n))
        (cases_lt (length picture) a))
        (cases_lt a (length picture));
  }

-- ---- slice data

module _ (fits : CodedMacroblock → Bool) (width : ℕ) (slice : SliceContext) (before : List CodedMacroblock) where
  abbrev Slices : List CodedMacroblock → Type 0
  Slices after = AreOfSlice width slice before after

  -- a run that goes on has its picture
  abbrev IsReady : Standing → Type 0
  IsReady Next = Unit {0}
  IsReady (Skipping bit zero) = Unit {0}
  IsReady (Skipping bit (suc more)) = IsTrue (has_picture slice 0)

  abbrev GoesOn : Step → Type 0
  GoesOn None = Unit {0}
  GoesOn (Some x) = IsReady x.0 × Slices x.1

  ready : (bit more : ℕ) → IsTrue (has_picture slice 0) → IsReady (Skipping bit more)
  ready bit zero h = tt
  ready bit (suc more) h = h

  gives-skip : (picture : List CodedMacroblock) (bit more : ℕ) → IsTrue (has_picture slice 0) → Slices picture →
      Gives (skip width slice picture bit more) GoesOn
  unfolding skip
  gives-skip picture bit more h s = gives-bind _ GoesOn _ _ (gives-any _)
      (λ x a. gives-done GoesOn _ (ready bit more h, one-more width slice before picture _ s (is-skipped width slice picture _ h)))

  gives-unskipped : (left : ℕ) (picture : List CodedMacroblock) → Slices picture → Gives (unskipped fits width slice left picture) GoesOn
  unfolding unskipped
  gives-unskipped left picture s = gives-bind _ GoesOn _ _ (gives-any _)
      (λ a x. gives-bind _ GoesOn _ _ (gives-any _)
      (λ b y. gives-bind _ GoesOn _ _ (gives-macroblock width slice picture)
      (λ m n. gives-bind _ GoesOn _ _ (gives-any _) (λ c z. gives-done GoesOn _ (tt, one-more width slice before picture _ s n)))))

  gives-after : (left : ℕ) (picture : List CodedMacroblock) (bit n : ℕ) → IsTrue (n == 0 || has_picture slice 0) → Slices picture →
      Gives (after_run fits width slice left picture (Skipping bit n)) GoesOn
  unfolding after_run
  gives-after left picture bit zero h s = gives-unskipped left picture s
  gives-after left picture bit (suc k) h s = let z : (suc k == 0) ≡ false = grind (arith, nat_tests) in gives-skip picture bit k (rw z at h) s

  gives-run : (left : ℕ) (picture : List CodedMacroblock) → Slices picture → Gives (run_of_skips fits width slice left picture) GoesOn
  unfolding run_of_skips
  gives-run left picture s = gives-bind _ GoesOn _ _ (gives-any _)
      (λ run a. gives-bind _ GoesOn _ _ (gives-any _) (λ x b. gives-bind _ GoesOn _ _ (gives-check _ _ _) (λ y h. gives-after left picture _ _ h s)))

  gives-by : (t : SliceType) (left : ℕ) (picture : List CodedMacroblock) → Slices picture → Gives (by_slice_type t fits width slice left picture) GoesOn
  unfolding by_slice_type
  gives-by slice_type.I left picture s = gives-unskipped left picture s
  gives-by slice_type.P left picture s = gives-run left picture s

  gives-next : (left : ℕ) (picture : List CodedMacroblock) (standing : Standing) → IsReady standing → Slices picture →
      Gives (next fits width slice left picture standing) GoesOn
  unfolding next
  gives-next left picture Next h s = gives-bind _ GoesOn _ _ (gives-any _)
      (λ a x. gives-if GoesOn _ _ _ (gives-by slice.slice_type left picture s) (gives-done GoesOn None tt))
  gives-next left picture (Skipping bit (suc k)) h s = gives-skip picture bit k h s
  gives-next left picture (Skipping bit zero) h s =
      gives-bind _ GoesOn _ _ (gives-any _) (λ a x. gives-if GoesOn _ _ _ (gives-unskipped left picture s) (gives-done GoesOn None tt))

  gives-on : (picture : List CodedMacroblock) (rest : Standing → List CodedMacroblock → Grammar (List CodedMacroblock)) (x : Step) → Slices picture →
      GoesOn x → ((t : Standing) (p : List CodedMacroblock) → IsReady t → Slices p → Gives (rest t p) Slices) → Gives (go_on picture rest x) Slices
  gives-on picture rest None s h k = gives-done Slices picture s
  gives-on picture rest (Some x) s h k = k x.0 x.1 h.0 h.1

  gives-macroblocks : (n : ℕ) (standing : Standing) (picture : List CodedMacroblock) → IsReady standing → Slices picture →
      Gives (macroblocks fits width slice n standing picture) Slices
  unfolding macroblocks
  gives-macroblocks zero standing picture h s =
      gives-bind GoesOn Slices _ _ (gives-next 0 picture standing h s) (λ x g. gives-on picture _ x s g (λ t p r q. gives-done Slices p q))
  gives-macroblocks (suc n) standing picture h s =
      gives-bind GoesOn Slices _ _ (gives-next (suc n) picture standing h s) (λ x g. gives-on picture _ x s g (λ t p r q. gives-macroblocks n t p r q))

  pub of-slice : (size : ℕ) → Gives (slice_data fits width size slice before) Slices
  unfolding slice_data
  of-slice size = gives-bind _ Slices _ _ (gives-any _)
      (λ a x. gives-bind _ Slices _ _ (gives-any _) (λ b y. gives-macroblocks _ Next before tt (none-yet width slice before)))
