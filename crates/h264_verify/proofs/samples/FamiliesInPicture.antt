-- A picture that is decoded from two families of frames: where these agree at the pictures that its lists name, it has the same samples.
use Rattle.std.proofs.Common.{◌≡◌, ℕ, zero, suc, ◌+◌, ◌*◌, ◌<◌, ◌≤◌, true, false, List, [], ◌∷◌, ◌++◌, map, replicate, take, length, get_or, Option, Some}
use Rattle.std.proofs.Common.{None, refl, ap, sym, ◌∙◌, subst, arith, ⊎_elim}
use Rattle.std.specs.List.{AllByRecursion, slice_get}
use Rattle.std.specs.Option.{is_some, option_and_then}
use Rattle.std.proofs.lemmas.Bool.{cases_lt}
use Rattle.std.proofs.lemmas.List.{take-append-le, get_or-replicate}
use Rattle.std.proofs.lemmas.Nat.{mul-le}
use Rattle.std.proofs.lemmas.Option.{slice_get-get_or, slice_get_within, get_or_from_slice_get}
use Rattle.std.proofs.Math.ListN as math
use Rattle.h264_plane.specs.declared.frame.Component.{Component}
use Rattle.h264_plane.specs.declared.frame.Frame.{Frame}
use Rattle.h264_plane.specs.Frames.{plane_of}
use Rattle.h264_plane.specs.Places.{side}
use Rattle.h264_plane.specs.Samples.{at}
use Rattle.h264_near.specs.declared.motion.Motion.{Motion}
use Rattle.h264_near.specs.Coded.{CodedMacroblock, Prediction, Intra4x4, Intra16x16, Pcm, Inter}
use Rattle.h264_near.proofs.Places.{front, length-taken}
use Rattle.h264_vectors.specs.declared.slice.SliceContext.{SliceContext}
use Rattle.h264_mbsyntax.specs.Possible.{Refers as RefersAt, IsPossible as IsPossibleAsRead}
use Rattle.h264_mbsyntax.specs.OfSlice.{IsDerived, IsOfSlice, AreOfSlice}
use Rattle.h264_recon.specs.Constructed.{IsPossible}
use Rattle.h264_recon.proofs.Possible.{given-allowed}
use Rattle.h264_picture.specs.Context.{slice_context}
use Rattle.h264_picture.specs.Decoded.{Parameters, nothing, macroblock_at}
use Rattle.h264_picture.specs.Sources.{Sources, IsSharedBy, AreSharedBy, AreShared}
use Rattle.h264_recon.specs.Table.{table}
use Rattle.h264_picture.proofs.Sources.{decoded-shared}
use Rattle.h264_picture.proofs.Unique.{one_decoded}
use Rattle.h264_verify.specs.Pictures.{CodedSlice, CodedPicture, last_in, last_slice}
use Rattle.h264_verify.specs.Lists.{context_in, named_in}
use Rattle.h264_verify.specs.Decoding.{slices_of, EachSlice, number_of, parameters_of, Refers, IsDecoded}
use Rattle.h264_verify.specs.Family.{HaveSameSamples}

-- ---- the slices of a picture, the last one first, as they were read

-- a picture with this first slice, of which only that is known
abbrev pub with_first : CodedSlice → CodedPicture
with_first first = record { first = first; later = [] }

-- the macroblocks of a picture up to the end of the last of these slices
abbrev pub macroblocks_of : List CodedSlice → List CodedMacroblock
macroblocks_of [] = []
macroblocks_of (s ∷ slices) = s.macroblocks

-- after these pictures, in a picture with this first slice, these slices have the macroblocks of those before and their own
abbrev pub AreReadSlices : CodedSlice → List CodedPicture → List CodedSlice → Type 0
AreReadSlices first ps [] = Unit {0}
AreReadSlices first ps (s ∷ slices) = AreOfSlice first.sps.frame_size.width (context_in (with_first first ∷ ps) s) (macroblocks_of slices) s.macroblocks ×
    AreReadSlices first ps slices

pub last-of : (first : CodedSlice) (later : List CodedSlice) → macroblocks_of (later ++ first ∷ []) ≡ (last_in first later).macroblocks
last-of first [] = refl
last-of first (s ∷ later) = refl

-- the slice of a macroblock
pub record IsFound (first : CodedSlice) (ps : List CodedPicture) (P : CodedSlice → Type 0) (a : ℕ) (all : List CodedMacroblock) (m : CodedMacroblock) : Type 0
  where
    pub slice : CodedSlice
    pub has : P slice
    pub is : IsOfSlice first.sps.frame_size.width (context_in (with_first first ∷ ps) slice) (take a all) m

no-macroblock : (a : ℕ) (m : CodedMacroblock) → slice_get [] a ≡ Some m → ⊥
no-macroblock a m e = let l = slice_get_within [] a m e in absurd (omega (arith, l))

pub found : (first : CodedSlice) (ps : List CodedPicture) (P : CodedSlice → Type 0) (slices : List CodedSlice) → AreReadSlices first ps slices →
    EachSlice P slices → (a : ℕ) (m : CodedMacroblock) → slice_get (macroblocks_of slices) a ≡ Some m → IsFound first ps P a (macroblocks_of slices) m
found first ps P [] r q a m e = absurd (no-macroblock a m e)
found first ps P (s ∷ slices) r q a m e = ⊎_elim
    (λ (l : a < length (macroblocks_of slices)).
    let own = r.0.own in
    let is = r.0.joined in
    let same : slice_get (macroblocks_of slices) a ≡ Some m = sym (front (macroblocks_of slices) own a l) ∙ ap (λ x. slice_get x a) (sym is) ∙ e in
    let f = found first ps P slices r.1 q.1 a m same in
    let t : take a (macroblocks_of slices) ≡ take a s.macroblocks = sym (take-append-le a (macroblocks_of slices) own (omega (arith, l))) ∙
    ap (λ x. take a x) (sym is) in
    record { slice = f.slice; has = f.has; is = subst (λ x. IsOfSlice first.sps.frame_size.width (context_in (with_first first ∷ ps) f.slice) x m) t f.is })
    (λ (l : length (macroblocks_of slices) ≤ a). record { slice = s; has = q.0; is = r.0.each a m l e })
    (cases_lt a (length (macroblocks_of slices)))

each-both : (P Q : CodedSlice → Type 0) (slices : List CodedSlice) → EachSlice P slices → EachSlice Q slices → EachSlice (λ s. P s × Q s) slices
each-both P Q [] h k = tt
each-both P Q (s ∷ slices) h k = ((h.0, k.0), each-both P Q slices h.1 k.1)

-- ---- a motion and its picture

context-number : (ps : List CodedPicture) (s : CodedSlice) → (context_in ps s).number ≡ number_of s
unfolding slice_context
context-number ps s = refl

context-intra : (ps : List CodedPicture) (s : CodedSlice) → (context_in ps s).constrained_intra ≡ (parameters_of s).constrained_intra
unfolding slice_context
context-intra ps s = refl

table-length : {A : Type 0} (n : ℕ) (f : ℕ → A) → length (table n f) ≡ n
unfolding table
table-length zero f = refl
table-length (suc n) f = ap (λ k. suc k) (table-length n (λ k. f (suc k)))

pub context-length : (ps : List CodedPicture) (s : CodedSlice) → length (context_in ps s).references ≡ 16
unfolding slice_context
context-length ps s = table-length 16 _

-- the index names the picture, by a place of the list
pub named-at : (references : List (Option ℕ)) (i n : ℕ) → option_and_then (λ p. p) (slice_get references i) ≡ Some n → get_or references i None ≡ Some n
named-at references i n e = by (slice_get references i) refl e
  where
    by : (o : Option (Option ℕ)) → slice_get references i ≡ o → option_and_then (λ p. p) o ≡ Some n → get_or references i None ≡ Some n
    by None f e = absurd (cc)
    by (Some x) f e = get_or_from_slice_get references i x None f ∙ e

pub inside-at : (references : List (Option ℕ)) (i n : ℕ) → option_and_then (λ p. p) (slice_get references i) ≡ Some n → i < length references
inside-at references i n e = by (slice_get references i) refl e
  where
    by : (o : Option (Option ℕ)) → slice_get references i ≡ o → option_and_then (λ p. p) o ≡ Some n → i < length references
    by None f e = absurd (cc)
    by (Some x) f e = slice_get_within references i x f

pub motion-at : (slice : SliceContext) (motions : List (Option Motion)) (n : ℕ) → AllByRecursion (RefersAt slice) motions →
    RefersAt slice (get_or motions n None)
motion-at slice [] n a = tt
motion-at slice (m ∷ motions) zero a = a.0
motion-at slice (m ∷ motions) (suc n) a = motion-at slice motions n a.1

pub some-at : (motions : List (Option Motion)) (n : ℕ) → map is_some motions ≡ replicate 16 true → n < 16 → is_some (get_or motions n None) ≡ true
some-at motions n e h = sym (math.get_or-map is_some motions n None) ∙ ap (λ l. get_or l n false) e ∙ get_or-replicate 16 n true false h

-- ---- one picture

module _ (frames others : ℕ → Frame) (p : CodedPicture) (ps : List CodedPicture) where
  abbrev across : ℕ
  across = p.first.sps.frame_size.width

  abbrev down : ℕ
  down = p.first.sps.frame_size.height

  abbrev picture : List CodedMacroblock
  picture = (last_slice p).macroblocks

  -- the pictures that a slice's list names have the same samples in both families, in the picture
  abbrev pub NamesSame : CodedSlice → Type 0
  NamesSame s = (k n : ℕ) → k < 16 → get_or (named_in (p ∷ ps) s) k None ≡ Some n → HaveSameSamples frames others n p.first.sps.frame_size

  module _ (f g : Frame) (d : IsDecoded frames p ps f) (e : IsDecoded others p ps g) (read : AreReadSlices p.first ps (slices_of p))
      (same : EachSlice NamesSame (slices_of p)) where
    abbrev pub HaveSameSamplesIn : Frame → Frame → Type 0
    HaveSameSamplesIn f g = (c : Component) (x y : ℕ) → x < side c * across → y < side c * down → at (plane_of c f) x y ≡ at (plane_of c g) x y

    abbrev one : Sources
    one = record { reference = d.reference; place = d.place; slices = d.slices }

    abbrev other : Sources
    other = record { reference = e.reference; place = e.place; slices = e.slices }

    abbrev Parts : CodedSlice → Type 0
    Parts s = (Refers frames p ps d.place d.reference s × Refers others p ps e.place e.reference s) ×
        (((d.slices (number_of s) ≡ parameters_of s) × (e.slices (number_of s) ≡ parameters_of s)) × NamesSame s)

    parts : EachSlice Parts (slices_of p)
    parts = each-both _ _ (slices_of p) (each-both _ _ (slices_of p) d.refers e.refers)
        (each-both _ _ (slices_of p) (each-both _ _ (slices_of p) d.parameters e.parameters) same)

    at-slice : (a : ℕ) (m : CodedMacroblock) → slice_get picture a ≡ Some m → IsFound p.first ps Parts a picture m
    at-slice a m h =
        let l = last-of p.first p.later in
        subst (λ x. IsFound p.first ps Parts a x m) l (found p.first ps Parts (slices_of p) read parts a m (ap (λ x. slice_get x a) l ∙ h))

    number-at : (s : CodedSlice) (before : List CodedMacroblock) (m : CodedMacroblock) → IsOfSlice across (context_in (with_first p.first ∷ ps) s) before m →
        m.slice ≡ number_of s
    number-at s before m i = i.number ∙ context-number (with_first p.first ∷ ps) s

    parameters-same : (a : ℕ) (m : CodedMacroblock) → slice_get picture a ≡ Some m → d.slices m.slice ≡ e.slices m.slice
    parameters-same a m h =
        let i = at-slice a m h in
        let n = number-at i.slice (take a picture) m i.is in
        ap (λ k. d.slices k) n ∙ i.has.1.0.0 ∙ sym i.has.1.0.1 ∙ ap (λ k. e.slices k) (sym n)

    -- the picture to which a block refers
    named-same : (s : CodedSlice) → Parts s → (m : Motion) → RefersAt (context_in (p ∷ ps) s) (Some m) → IsSharedBy across down one other (Some m)
    named-same s has m r c x y i j =
        let references = (context_in (p ∷ ps) s).references in
        let k = m.ref_idx in
        let named = named-at references k m.picture r in
        let inside = inside-at references k m.picture r in
        let long = context-length (p ∷ ps) s in
        let small : k < 16 = omega (arith, inside, long) in
        has.0.0.samples k m.picture small named c x y
        ∙ has.1.1 k m.picture small named c x y i j
        ∙ sym (has.0.1.samples k m.picture small named c x y)

    block-same : (s : CodedSlice) → Parts s → (o : Option Motion) → RefersAt (context_in (p ∷ ps) s) o → is_some o ≡ true → IsSharedBy across down one other o
    block-same s has None r t = cc
    block-same s has (Some m) r t = named-same s has m r

    prediction-same : (s : CodedSlice) (before : List CodedMacroblock) (prediction : Prediction) → Parts s →
        IsPossibleAsRead across (context_in (p ∷ ps) s) before prediction → IsDerived prediction → AreSharedBy across down one other prediction
    prediction-same s before (Intra4x4 modes chroma) has h k = tt
    prediction-same s before (Intra16x16 mode chroma) has h k = tt
    prediction-same s before (Pcm samples) has h k = tt
    prediction-same s before (Inter motions) has h k =
        λ n l. block-same s has (get_or motions n None) (motion-at (context_in (p ∷ ps) s) motions n h) (some-at motions n k l)

    shared : AreShared across down one other picture
    shared = record {
      parameters = parameters-same;
      references = λ a m h. let i = at-slice a m h in prediction-same i.slice (take a picture) m.prediction i.has i.is.possible i.is.derived;
    }

    -- its intra modes refer to sides that there are
    allowed : length picture ≡ down * across → (c r : ℕ) → c < across → r < down →
        IsPossible (macroblock_at e.slices e.place across picture (r * across + c)).prediction
        (macroblock_at e.slices e.place across picture (r * across + c)).available
    unfolding macroblock_at
    allowed whole c r k l =
        let a = r * across + c in
        let m = get_or picture a nothing in
        let more = mul-le (r + 1) across down across (omega arith) (omega arith) in
        let long : a < length picture = omega arith in
        let i = at-slice a m (slice_get-get_or picture a nothing long) in
        let context = context_in (p ∷ ps) i.slice in
        let parameters : e.slices m.slice ≡ parameters_of i.slice = ap (λ n. e.slices n) (number-at i.slice (take a picture) m i.is) ∙ i.has.1.0.1 in
        let same : (e.slices m.slice).constrained_intra ≡ context.constrained_intra = ap (λ (q : Parameters). q.constrained_intra) parameters ∙
        sym (context-intra (p ∷ ps) i.slice) in
        rw same (given-allowed across context (take a picture) e.place (e.slices m.slice).weights (e.slices m.slice).filter.chroma_qp_index_offset m c r
        (length-taken picture a (omega arith)) k i.is.number i.is.possible).possible

    pub alike : HaveSameSamplesIn f g
    alike = λ c x y i j.
        one_decoded (record { across = across; down = down; reference = e.reference }) e.place e.slices picture (λ c. at (plane_of c f))
        (λ c. at (plane_of c g)) (allowed e.samples.whole)
        (decoded-shared across down one other picture (λ c. at (plane_of c f)) shared d.samples) e.samples c x y i j
