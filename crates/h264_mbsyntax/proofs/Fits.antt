-- The flag that goes from part to part is the test over the sixteen blocks: parts lie apart, each has a block, and together they are all sixteen.
use Rattle.std.proofs.Common.{◌≡◌, ℕ, zero, suc, ◌==◌, ◌&&◌, ◌||◌, not, Bool, true, false, List, [], ◌∷◌, ◌++◌, map, replicate, get_or, Option, Some, None}
use Rattle.std.proofs.Common.{refl, ap, sym, ◌∙◌, subst}
use Rattle.std.specs.Option.{is_some}
use Rattle.std.specs.List.{list_all, list_any, range_with_len}
use Rattle.std.proofs.Math.ListN as math
use Rattle.h264_base.proofs.Gives.{Gives, gives-done, gives-any, gives-bind, gives-if, gives-weaker}
use Rattle.h264_near.specs.declared.motion.Motion.{Motion}
use Rattle.h264_near.specs.declared.motion.Vector.{Vector}
use Rattle.h264_plane.specs.Blocks.{column_of, row_of}
use Rattle.h264_near.specs.Coded.{CodedMacroblock}
use Rattle.h264_vectors.specs.declared.slice.SliceContext.{SliceContext}
use Rattle.h264_vectors.specs.declared.part.Part.{Part}
use Rattle.h264_vectors.specs.declared.part.Direction.TheVariants as direction
use Rattle.h264_vectors.specs.Vectors.{part}
use Rattle.h264_vectors.specs.Derived.{motion_of, in_part, is_inside, with_part, with_vector, derive, Derived, none_yet, sub_parts_of, vector_fits}
use Rattle.h264_vectors.specs.Agrees.{places_with, places_after}
use Rattle.h264_vectors.specs.Inter.{part_motion, part_motions, one_part, two_parts, quarters, split_parts, motions_by, motions, is_inferred}
use Rattle.h264_vectors.proofs.Parts.{places-with, quarter0, quarter1, quarter2, quarter3}
use Rattle.h264_mbsyntax.specs.Fit.{motion_fits, all_fit}
use Rattle.std.proofs.lemmas.Bool.{and_parts}

-- no block of the part is derived, and it has a block
abbrev apart : List Bool → Part → Bool
apart places p = list_all (λ n. not (is_inside p n && get_or places n false)) (range_with_len 0 16) && list_any (is_inside p) (range_with_len 0 16)

abbrev apart_all : List Bool → List Part → Bool
apart_all places [] = true
apart_all places (p ∷ parts) = apart places p && apart_all (places_with places p) parts

inside : (f r a : Bool) → (f && (r && (not a || f))) ≡ (r && f)
inside true true true = refl
inside true true false = refl
inside true false true = refl
inside true false false = refl
inside false true a = refl
inside false false a = refl

outside : (g r x : Bool) → (g && (r && x)) ≡ ((g && r) && x)
outside true r x = refl
outside false r x = refl

module _ (limit : ℕ) (old : List (Option Motion)) (p : Part) (m : Motion) where
  abbrev before : ℕ → Bool
  before n = motion_fits limit (get_or old n None)

  abbrev free : ℕ → Bool
  free n = not (is_inside p n && is_some (get_or old n None))

  abbrev following : ℕ → Bool
  following n = motion_fits limit (in_part p n m (get_or old n None))

  at-free : (o : Option Motion) → not (true && is_some o) ≡ true → motion_fits limit o ≡ true
  at-free None e = refl
  at-free (Some x) e = absurd (cc)

  one-more : (ns : List ℕ) → list_all free ns ≡ true →
      list_all following ns ≡ (list_all before ns && (not (list_any (is_inside p) ns) || motion_fits limit (Some m)))
  one-more [] e = refl
  one-more (n ∷ ns) e =
      let b = and_parts (free n) (list_all free ns) e in
      go (is_inside p n) refl (get_or old n None) b.0 (one-more ns b.1)
    where
      go : (t : Bool) → is_inside p n ≡ t → (o : Option Motion) → not (is_inside p n && is_some o) ≡ true →
          list_all following ns ≡ (list_all before ns && (not (list_any (is_inside p) ns) || motion_fits limit (Some m))) →
          (motion_fits limit (in_part p n m o) && list_all following ns) ≡
          ((motion_fits limit o && list_all before ns) && (not (is_inside p n || list_any (is_inside p) ns) || motion_fits limit (Some m)))
      go true i o f h = let k = rw i at f in rw (i, at-free o k, h) (inside (motion_fits limit (Some m)) (list_all before ns) (list_any (is_inside p) ns))
      go false i o f h = rw (i, h) (outside (motion_fits limit o) (list_all before ns) _)

module _ (width : ℕ) (slice : SliceContext) (picture : List CodedMacroblock) where
  abbrev Good : List Bool → Derived → Type 0
  Good places d = (map is_some d.motions ≡ places) × (d.fit ≡ all_fit slice.vector_limit d.motions)

  free-by : (places : List Bool) (d : Derived) (p : Part) (m : Motion) (ns : List ℕ) → map is_some d.motions ≡ places →
      list_all (λ n. not (is_inside p n && get_or places n false)) ns ≡ true → list_all (free slice.vector_limit d.motions p m) ns ≡ true
  free-by places d p m [] e h = refl
  free-by places d p m (n ∷ ns) e h =
      let b = and_parts (not (is_inside p n && get_or places n false)) _ h in
      let same : get_or places n false ≡ is_some (get_or d.motions n None) = ap (λ l. get_or l n false) (sym e) ∙ math.get_or-map is_some d.motions n None in
      rw (sym same, b.0) (free-by places d p m ns e b.1)

  good-next : (places : List Bool) (d : Derived) (p : Part) (i : ℕ) (v : Vector) → apart places p ≡ true → Good places d →
      Good (places_with places p) (with_vector slice d p i v)
  unfolding with_vector with_part motion_of
  good-next places d p i v a g =
      let b = and_parts _ (list_any (is_inside p) (range_with_len 0 16)) a in
      let more = one-more slice.vector_limit d.motions p (motion_of slice i v) (range_with_len 0 16)
      (free-by places d p (motion_of slice i v) (range_with_len 0 16) g.0 b.0) in (
        places-with d.motions p (motion_of slice i v) ∙ ap (λ s. places_with s p) g.0,
        ap (λ t. t && vector_fits slice.vector_limit v) g.1 ∙
            sym (rw b.1 at more),
      )

  gives-part : (places : List Bool) (p : Part) (i : ℕ) (d : Derived) → apart places p ≡ true → Good places d →
      Gives (part_motion width slice picture p i d) (Good (places_with places p))
  unfolding part_motion derive
  gives-part places p i d a g = gives-bind _ _ _ _ (gives-any _)
      (λ across x. gives-bind _ _ _ _ (gives-any _) (λ down y. gives-done (Good (places_with places p)) _ (good-next places d p i _ a g)))

  gives-parts : (places : List Bool) (i : ℕ) (parts : List Part) (d : Derived) → apart_all places parts ≡ true → Good places d →
      Gives (part_motions width slice picture i parts d) (Good (places_after places parts))
  unfolding part_motions
  gives-parts places i [] d a g = gives-done _ d g
  gives-parts places i (p ∷ parts) d a g = let b = and_parts (apart places p) (apart_all (places_with places p) parts) a in
      gives-bind (Good (places_with places p)) _ _ _ (gives-part places p i d b.0 g) (λ next h. gives-parts (places_with places p) i parts next b.1 h)

  -- all sixteen blocks are derived, and the flag is that of all of them
  abbrev Same : Derived → Type 0
  Same d = Good (replicate 16 true) d

  none-good : Good (replicate 16 false) none_yet
  none-good = (refl, refl)

  gives-one : (inferred : Bool) → Gives (one_part width slice picture inferred (part 0 0 4 4 direction.Median)) Same
  unfolding one_part places_with column_of row_of
  gives-one inferred = gives-bind _ Same _ _ (gives-any _) (λ i x. gives-part (replicate 16 false) _ i none_yet refl none-good)

  gives-two : (inferred : Bool) (p q : Part) → apart_all (replicate 16 false) (p ∷ q ∷ []) ≡ true →
      places_with (places_with (replicate 16 false) p) q ≡ replicate 16 true → Gives (two_parts width slice picture inferred p q) Same
  unfolding two_parts
  gives-two inferred p q a whole =
      let b = and_parts (apart (replicate 16 false) p) _ a in
      let c = and_parts (apart (places_with (replicate 16 false) p) q) true b.1 in
      gives-bind _ Same _ _ (gives-any _) (λ i x. gives-bind _ Same _ _ (gives-any _)
      (λ j y. gives-bind (Good (places_with (replicate 16 false) p)) Same _ _ (gives-part (replicate 16 false) p i none_yet b.0 none-good)
      (λ d g. subst (λ l. Gives (part_motion width slice picture q j d) (Good l)) whole (gives-part (places_with (replicate 16 false) p) q j d c.0 g))))

  apart0 : (t : ℕ) → apart_all (replicate 16 false) (sub_parts_of 0 0 t) ≡ true
  unfolding places_with column_of row_of
  apart0 zero = refl
  apart0 (suc zero) = refl
  apart0 (suc (suc zero)) = refl
  apart0 (suc (suc (suc t))) = refl

  apart1 : (t : ℕ) → apart_all (replicate 4 true ++ replicate 12 false) (sub_parts_of 2 0 t) ≡ true
  unfolding places_with column_of row_of
  apart1 zero = refl
  apart1 (suc zero) = refl
  apart1 (suc (suc zero)) = refl
  apart1 (suc (suc (suc t))) = refl

  apart2 : (t : ℕ) → apart_all (replicate 8 true ++ replicate 8 false) (sub_parts_of 0 2 t) ≡ true
  unfolding places_with column_of row_of
  apart2 zero = refl
  apart2 (suc zero) = refl
  apart2 (suc (suc zero)) = refl
  apart2 (suc (suc (suc t))) = refl

  apart3 : (t : ℕ) → apart_all (replicate 12 true ++ replicate 4 false) (sub_parts_of 2 2 t) ≡ true
  unfolding places_with column_of row_of
  apart3 zero = refl
  apart3 (suc zero) = refl
  apart3 (suc (suc zero)) = refl
  apart3 (suc (suc (suc t))) = refl

  good-at : (a b : List Bool) (d : Derived) → a ≡ b → Good a d → Good b d
  good-at a b d e g = (g.0 ∙ e, g.1)

  gives-quarters : (t0 t1 t2 t3 i0 i1 i2 i3 : ℕ) → Gives (quarters width slice picture (t0 ∷ t1 ∷ t2 ∷ t3 ∷ []) (i0 ∷ i1 ∷ i2 ∷ i3 ∷ [])) Same
  unfolding quarters
  gives-quarters t0 t1 t2 t3 i0 i1 i2 i3 =
      gives-bind _ Same _ _ (gives-parts (replicate 16 false) i0 (sub_parts_of 0 0 t0) none_yet (apart0 t0) none-good) (λ d0 g0.
      gives-bind _ Same _ _ (gives-parts (replicate 4 true ++ replicate 12 false) i1 (sub_parts_of 2 0 t1) d0 (apart1 t1) (good-at _ _ d0 (quarter0 t0) g0))
      (λ d1 g1.
      gives-bind _ Same _ _ (gives-parts (replicate 8 true ++ replicate 8 false) i2 (sub_parts_of 0 2 t2) d1 (apart2 t2) (good-at _ _ d1 (quarter1 t1) g1))
      (λ d2 g2.
      subst (λ l. Gives (part_motions width slice picture i3 (sub_parts_of 2 2 t3) d2) (Good l)) (quarter3 t3)
      (gives-parts (replicate 12 true ++ replicate 4 false) i3 (sub_parts_of 2 2 t3) d2 (apart3 t3) (good-at _ _ d2 (quarter2 t2) g2)))))

  gives-split : (inferred : Bool) → Gives (split_parts width slice picture inferred) Same
  unfolding split_parts
  gives-split inferred = gives-bind _ Same _ _ (gives-any _)
      (λ t0 x0. gives-bind _ Same _ _ (gives-any _) (λ t1 x1. gives-bind _ Same _ _ (gives-any _) (λ t2 x2. gives-bind _ Same _ _ (gives-any _) (λ t3 x3.
      gives-bind _ Same _ _ (gives-any _) (λ i0 y0. gives-bind _ Same _ _ (gives-any _)
      (λ i1 y1. gives-bind _ Same _ _ (gives-any _) (λ i2 y2. gives-bind _ Same _ _ (gives-any _) (λ i3 y3. gives-quarters t0 t1 t2 t3 i0 i1 i2 i3))))))))

  gives-by : (inferred : Bool) (kind : ℕ) → Gives (motions_by width slice picture inferred kind) Same
  unfolding motions_by places_with column_of row_of
  gives-by inferred kind = gives-if Same (kind == 0) _ _ (gives-one inferred)
      (gives-if Same (kind == 1) _ _ (gives-two inferred _ _ refl refl)
      (gives-if Same (kind == 2) _ _ (gives-two inferred _ _ refl refl) (gives-split inferred)))

  whole-gives : (bit kind : ℕ) → Gives (motions width slice picture bit kind) Same
  unfolding motions
  whole-gives bit kind = gives-bind _ Same _ _ (gives-any _) (λ x t. gives-by (is_inferred slice kind) kind)

  pub one-flag : (bit kind : ℕ) → Gives (motions width slice picture bit kind) (λ d. d.fit ≡ all_fit slice.vector_limit d.motions)
  one-flag bit kind = gives-weaker (motions width slice picture bit kind) Same _ (whole-gives bit kind) (λ d g. g.1)

  -- each block is in a part
  pub all-derived : (bit kind : ℕ) → Gives (motions width slice picture bit kind) (λ d. map is_some d.motions ≡ replicate 16 true)
  all-derived bit kind = gives-weaker (motions width slice picture bit kind) Same _ (whole-gives bit kind) (λ d g. g.0)
