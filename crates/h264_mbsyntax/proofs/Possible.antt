-- What the grammar gives refers to what is there.
use Rattle.std.proofs.Common.{◌≡◌, ⊎_elim, ℕ, zero, suc, ◌+◌, ◌<◌, ◌≤◌, ◌==◌, ◌||◌, not, nat_lt, Bool, true, false, IsTrue, List, [], ◌∷◌, ◌++◌, length, map}
use Rattle.std.proofs.Common.{replicate, get_or, Option, Some, None, Result, Ok, Err, refl, arith, length-append, if◌then◌else◌}
use Rattle.std.specs.Option.{is_some, unwrap_or}
use Rattle.std.specs.List.{AllByRecursion, range_with_len}
use Rattle.std.proofs.lemmas.Bool.{cases_lt}
use Rattle.std.proofs.lemmas.List.{take-append-le, get_or_append_left}
use Rattle.std.proofs.Math.Seq.{take-append_seam, get_or-append_seam}
use Rattle.h264_base.specs.declared.mode.SliceType.{SliceType}
use Rattle.h264_base.specs.declared.mode.SliceType.TheVariants as slice_type
use Rattle.h264_base.specs.declared.stop.Stop.{Stop}
use Rattle.h264_base.specs.declared.stop.Stop.TheVariants.{No, Outside, Memory, Read as ReadFailed, Write}
use Rattle.h264_base.specs.Call.{Call, span}
use Rattle.h264_base.specs.Grammar.{Grammar}
use Rattle.h264_base.specs.Meets.{Reader, Meets}
use Rattle.h264_base.proofs.Gives.{Gives, gives-done, gives-any, gives-bind, gives-check, gives-if, gives-run, gives-weaker}
use Rattle.h264_near.specs.declared.motion.Motion.{Motion}
use Rattle.h264_intra.specs.declared.luma4.Intra4x4PredMode.{Intra4x4PredMode}
use Rattle.h264_intra.specs.declared.luma4.Intra4x4PredMode.TheVariants.{Vertical}
use Rattle.h264_intra.specs.declared.sides.Sides.{Sides}
use Rattle.h264_near.specs.Coded.{CodedMacroblock}
use Rattle.h264_near.specs.Intra.{block_samples, macroblock_samples}
use Rattle.h264_vectors.specs.declared.slice.SliceContext.{SliceContext}
use Rattle.h264_vectors.specs.declared.part.Part.{Part}
use Rattle.h264_vectors.specs.Derived.{picture_of, has_picture, motion_of, in_part, is_inside, with_part, with_vector, derive, Derived, none_yet, sub_parts_of}
use Rattle.h264_mbsyntax.specs.Intra.{fits_block, block_mode, block_modes, chroma_mode}
use Rattle.h264_vectors.specs.Inter.{read_ref_idx, ref_index, part_motion, part_motions, one_part, two_parts, quarters, split_parts, motions_by, motions}
use Rattle.h264_vectors.specs.Inter.{is_inferred}
use Rattle.h264_mbsyntax.specs.Macroblock.{coded, pcm_of, intra4x4, intra16x16, pcm, intra, inter, by_type, macroblock}
use Rattle.h264_mbsyntax.specs.declared.macroblock.Macroblock.{Macroblock}
use Rattle.h264_mbsyntax.specs.Holds.{IsPlaced}
use Rattle.h264_mbsyntax.specs.Possible.{HaveSides, HasChromaSides, Refers, IsPossible, IsRead}

-- ---- a property of what was read

met-by : {X A S : Type 0} (took : S → List Call → Type 0) (failures : S → ℕ) (R R' : X → A → Type 0) (P : A → Type 0) (g : Grammar A) (old new : Reader)
    (s s' : S) (r : Result X Stop) → Gives g P → ((x : X) (v : A) → R x v → P v → R' x v) → Meets (span took failures s s') R g old new r →
    Meets (span took failures s s') R' g old new r
met-by took failures R R' P g old new s s' (Ok x) h k m =
    record {
      meets = (m.meets.0, k x m.meets.0 m.meets.1 (gives-run P g old.body old.at new.at m.meets.0 h m.meets.2), m.meets.2, m.meets.3, m.meets.4);
      same = m.same;
    }
met-by took failures R R' P g old new s s' (Err (No bit rule)) h k m = record { meets = m.meets; same = m.same }
met-by took failures R R' P g old new s s' (Err (Outside bit feature)) h k m = record { meets = m.meets; same = m.same }
met-by took failures R R' P g old new s s' (Err Memory) h k m = record { meets = m.meets; same = m.same }
met-by took failures R R' P g old new s s' (Err ReadFailed) h k m = record { meets = m.meets; same = m.same }
met-by took failures R R' P g old new s s' (Err Write) h k m = record { meets = m.meets; same = m.same }

-- the picture that an index names
pub named : (slice : SliceContext) (i : ℕ) (o : Option ℕ) → picture_of slice i ≡ o → IsTrue (is_some o) → picture_of slice i ≡ Some (unwrap_or o 0)
named slice i None e h = absurd (cc)
named slice i (Some p) e h = e

-- ---- modes

module _ (width : ℕ) (slice : SliceContext) (picture : List CodedMacroblock) where
  abbrev samples : List Intra4x4PredMode → Sides
  samples modes = block_samples width picture slice.number slice.constrained_intra modes

  gives-mode : (predicted : Intra4x4PredMode) (s : Sides) → Gives (block_mode predicted s) (λ mode. IsTrue (fits_block mode s))
  unfolding block_mode
  gives-mode predicted s = gives-bind _ _ _ _ (gives-any _)
      (λ flag f. gives-bind _ _ _ _ (gives-any _) (λ mode m. gives-bind _ _ _ _ (gives-check _ _ _) (λ x h. gives-done _ mode h)))

  sides-next : (modes : List Intra4x4PredMode) (mode : Intra4x4PredMode) → HaveSides width slice picture modes → IsTrue (fits_block mode (samples modes)) →
      HaveSides width slice picture (modes ++ mode ∷ [])
  sides-next modes mode all own b h =
      let l = length-append modes (mode ∷ []) in
      ⊎_elim
      (λ (q : b < length modes). rw (get_or_append_left modes (mode ∷ []) Vertical b q, take-append-le b modes (mode ∷ []) (omega arith)) (all b q))
      (λ (q : length modes ≤ b). let e : b ≡ length modes = omega arith in
      rw (e, get_or-append_seam modes mode [] Vertical, take-append_seam modes (mode ∷ [])) own)
      (cases_lt b (length modes))

  gives-modes : (n : ℕ) (modes : List Intra4x4PredMode) → HaveSides width slice picture modes →
      Gives (block_modes width picture slice.number slice.constrained_intra n modes)
      (λ all. (length all ≡ length modes + n) × HaveSides width slice picture all)
  unfolding block_modes
  gives-modes zero modes h = gives-done _ modes (omega arith, h)
  gives-modes (suc n) modes h = gives-bind _ _ _ _ (gives-mode _ (samples modes))
      (λ mode m. gives-weaker (block_modes width picture slice.number slice.constrained_intra n (modes ++ mode ∷ [])) _ _
      (gives-modes n (modes ++ mode ∷ []) (sides-next modes mode h m))
      (λ all r. let l = length-append modes (mode ∷ []) in let k = r.0 in (omega arith, r.1)))

  gives-chroma : Gives (chroma_mode (macroblock_samples width picture slice.number slice.constrained_intra)) (HasChromaSides width slice picture)
  unfolding chroma_mode
  gives-chroma = gives-bind _ _ _ _ (gives-any _)
      (λ e t. gives-bind _ _ _ _ (gives-any _) (λ x k. gives-bind _ _ _ _ (gives-check _ _ _) (λ y h. gives-done _ _ (record { sides = h }))))

  -- ---- intra macroblocks

  abbrev Possible : CodedMacroblock → Type 0
  Possible m = IsPossible width slice picture m.prediction

  gives-intra4x4 : Gives (intra4x4 width slice picture) Possible
  unfolding intra4x4 coded
  gives-intra4x4 = gives-bind _ _ _ _ (gives-modes 16 [] (λ b h. absurd (omega arith)))
      (λ modes m. gives-bind _ _ _ _ gives-chroma
      (λ chroma s. gives-bind _ _ _ _ (gives-any _) (λ pattern p. gives-bind _ _ _ _ (gives-any _) (λ c d. gives-done Possible _ (m.0, m.1, s)))))

  gives-intra16x16 : (bit kind : ℕ) → Gives (intra16x16 width slice picture bit kind) Possible
  unfolding intra16x16 coded
  gives-intra16x16 bit kind = gives-bind _ _ _ _ (gives-check _ _ _)
      (λ x h. gives-bind _ _ _ _ gives-chroma (λ chroma s. gives-bind _ _ _ _ (gives-any _) (λ c d. gives-done Possible _ (h, s))))

  gives-pcm : Gives (pcm slice picture) Possible
  unfolding pcm pcm_of
  gives-pcm = gives-bind _ _ _ _ (gives-any _) (λ samples t. gives-done Possible _ tt)

  gives-intra : (bit kind : ℕ) → Gives (intra width slice picture bit kind) Possible
  unfolding intra
  gives-intra bit kind = gives-if Possible (kind == 0) _ _ gives-intra4x4 (gives-if Possible (kind == 25) _ _ gives-pcm (gives-intra16x16 bit kind))

  -- ---- inter macroblocks

  abbrev Refer : Derived → Type 0
  Refer d = AllByRecursion (Refers slice) d.motions

  refers-at : (motions : List (Option Motion)) (n : ℕ) → AllByRecursion (Refers slice) motions → Refers slice (get_or motions n None)
  refers-at [] n a = tt
  refers-at (m ∷ motions) zero a = a.0
  refers-at (m ∷ motions) (suc n) a = refers-at motions n a.1

  refers-pick : (b : Bool) (m : Motion) (old : Option Motion) → Refers slice (Some m) → Refers slice old → Refers slice (if b then Some m else old)
  refers-pick true m old h o = h
  refers-pick false m old h o = o

  refers-with : (motions : List (Option Motion)) (p : Part) (m : Motion) → Refers slice (Some m) → AllByRecursion (Refers slice) motions →
      AllByRecursion (Refers slice) (with_part motions p m)
  unfolding with_part
  refers-with motions p m h a = go (range_with_len 0 16)
    where
      go : (ns : List ℕ) → AllByRecursion (Refers slice) (map (λ n. in_part p n m (get_or motions n None)) ns)
      go [] = tt
      go (n ∷ ns) = (refers-pick (is_inside p n) m (get_or motions n None) h (refers-at motions n a), go ns)

  refers-derived : (d : Derived) (p : Part) (i : ℕ) (across down : _) → IsTrue (has_picture slice i) → Refer d →
      Refer (derive width slice picture d (record { place = p; ref_idx = i }) (record { across = across; down = down }))
  unfolding derive with_vector motion_of
  refers-derived d p i across down h a = refers-with d.motions p _ (named slice i (picture_of slice i) refl h) a

  gives-part : (p : Part) (i : ℕ) (d : Derived) → IsTrue (has_picture slice i) → Refer d → Gives (part_motion width slice picture p i d) Refer
  unfolding part_motion
  gives-part p i d h a = gives-bind _ _ _ _ (gives-any _)
      (λ across x. gives-bind _ _ _ _ (gives-any _) (λ down y. gives-done Refer _ (refers-derived d p i across.value down.value h a)))

  gives-parts : (i : ℕ) (parts : List Part) (d : Derived) → IsTrue (has_picture slice i) → Refer d → Gives (part_motions width slice picture i parts d) Refer
  unfolding part_motions
  gives-parts i [] d h a = gives-done Refer d a
  gives-parts i (p ∷ parts) d h a = gives-bind Refer Refer _ _ (gives-part p i d h a) (λ next b. gives-parts i parts next h b)

  gives-index : (inferred : Bool) → IsTrue (not inferred || has_picture slice 0) → Gives (ref_index slice inferred) (λ i. IsTrue (has_picture slice i))
  unfolding ref_index read_ref_idx
  gives-index true h = gives-done _ 0 h
  gives-index false h = gives-bind _ _ _ _ (gives-any _)
      (λ e x. gives-bind _ _ _ _ (gives-any _) (λ t y. gives-bind _ _ _ _ (gives-check _ _ _) (λ u k. gives-done _ _ k)))

  all-none : (n : ℕ) → AllByRecursion (Refers slice) (replicate n None)
  all-none zero = tt
  all-none (suc n) = (tt, all-none n)

  none-refers : Refer none_yet
  none-refers = all-none 16

  gives-one : (inferred : Bool) (p : Part) → IsTrue (not inferred || has_picture slice 0) → Gives (one_part width slice picture inferred p) Refer
  unfolding one_part
  gives-one inferred p h = gives-bind _ _ _ _ (gives-index inferred h) (λ i k. gives-part p i none_yet k none-refers)

  gives-two : (inferred : Bool) (p q : Part) → IsTrue (not inferred || has_picture slice 0) → Gives (two_parts width slice picture inferred p q) Refer
  unfolding two_parts
  gives-two inferred p q h = gives-bind _ _ _ _ (gives-index inferred h)
      (λ i k. gives-bind _ _ _ _ (gives-index inferred h)
      (λ j l. gives-bind Refer Refer _ _ (gives-part p i none_yet k none-refers) (λ d a. gives-part q j d l a)))

  gives-quarters : (t0 t1 t2 t3 i0 i1 i2 i3 : ℕ) → IsTrue (has_picture slice i0) → IsTrue (has_picture slice i1) → IsTrue (has_picture slice i2) →
      IsTrue (has_picture slice i3) → Gives (quarters width slice picture (t0 ∷ t1 ∷ t2 ∷ t3 ∷ []) (i0 ∷ i1 ∷ i2 ∷ i3 ∷ [])) Refer
  unfolding quarters
  gives-quarters t0 t1 t2 t3 i0 i1 i2 i3 h0 h1 h2 h3 =
      gives-bind Refer Refer _ _ (gives-parts i0 (sub_parts_of 0 0 t0) none_yet h0 none-refers)
      (λ d0 a0. gives-bind Refer Refer _ _ (gives-parts i1 (sub_parts_of 2 0 t1) d0 h1 a0)
      (λ d1 a1. gives-bind Refer Refer _ _ (gives-parts i2 (sub_parts_of 0 2 t2) d1 h2 a1) (λ d2 a2. gives-parts i3 (sub_parts_of 2 2 t3) d2 h3 a2)))

  gives-split : (inferred : Bool) → IsTrue (not inferred || has_picture slice 0) → Gives (split_parts width slice picture inferred) Refer
  unfolding split_parts
  gives-split inferred h = gives-bind _ _ _ _ (gives-any _)
      (λ t0 x0. gives-bind _ _ _ _ (gives-any _) (λ t1 x1. gives-bind _ _ _ _ (gives-any _) (λ t2 x2. gives-bind _ _ _ _ (gives-any _) (λ t3 x3.
      gives-bind _ _ _ _ (gives-index inferred h)
      (λ i0 k0. gives-bind _ _ _ _ (gives-index inferred h)
      (λ i1 k1. gives-bind _ _ _ _ (gives-index inferred h)
      (λ i2 k2. gives-bind _ _ _ _ (gives-index inferred h) (λ i3 k3. gives-quarters t0 t1 t2 t3 i0 i1 i2 i3 k0 k1 k2 k3))))))))

  gives-motions-by : (inferred : Bool) (kind : ℕ) → IsTrue (not inferred || has_picture slice 0) → Gives (motions_by width slice picture inferred kind) Refer
  unfolding motions_by
  gives-motions-by inferred kind h = gives-if Refer (kind == 0) _ _ (gives-one inferred _ h)
      (gives-if Refer (kind == 1) _ _ (gives-two inferred _ _ h) (gives-if Refer (kind == 2) _ _ (gives-two inferred _ _ h) (gives-split inferred h)))

  gives-motions : (bit kind : ℕ) → Gives (motions width slice picture bit kind) Refer
  unfolding motions
  gives-motions bit kind = gives-bind _ _ _ _ (gives-check _ _ _) (λ x h. gives-motions-by (is_inferred slice kind) kind h)

  gives-inter : (bit kind : ℕ) → Gives (inter width slice picture bit kind) Possible
  unfolding inter coded
  gives-inter bit kind = gives-bind _ _ _ _ (gives-motions bit kind)
      (λ d a. gives-bind _ _ _ _ (gives-any _)
      (λ pattern p. gives-bind _ _ _ _ (gives-any _) (λ c x. gives-bind _ _ _ _ (gives-any _) (λ t y. gives-done Possible _ a))))

  gives-type : (t : SliceType) (bit kind : ℕ) → Gives (by_type t width slice picture bit kind) Possible
  unfolding by_type
  gives-type slice_type.I bit kind = gives-bind _ _ _ _ (gives-any _) (λ x t. gives-intra bit kind)
  gives-type slice_type.P bit kind = gives-bind _ _ _ _ (gives-any _) (λ x t. gives-if Possible (nat_lt kind 5) _ _ (gives-inter bit kind) (gives-intra bit _))

  pub possible : Gives (macroblock width slice picture) (λ v. IsPossible width slice picture v.macroblock.prediction)
  unfolding macroblock
  possible = gives-bind _ _ _ _ (gives-any _) (λ kind k. gives-bind Possible _ _ _ (gives-type slice.slice_type _ _) (λ m h. gives-done _ _ h))

pub met-read : {S : Type 0} {took : S → List Call → Type 0} {failures : S → ℕ} {old new : Reader} {s s' : S} {r : Result ℕ Stop} (width : ℕ)
    (slice : SliceContext) (picture : List CodedMacroblock) (mb : Macroblock) →
    Meets (span took failures s s') (IsPlaced mb) (macroblock width slice picture) old new r →
    Meets (span took failures s s') (IsRead width slice picture mb) (macroblock width slice picture) old new r
met-read {took = took} {failures = failures} {old = old} {new = new} {s = s} {s' = s'} {r = r} width slice picture mb m =
    met-by took failures (IsPlaced mb) (IsRead width slice picture mb) _ (macroblock width slice picture) old new s s' r (possible width slice picture)
    (λ x v a p. record { placed = a.0; holds = a.1; possible = p }) m
