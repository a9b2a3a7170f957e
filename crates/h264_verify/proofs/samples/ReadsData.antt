-- Slice data after what is kept before them.
use Rattle.std.proofs.Common.{◌≡◌, ℕ, Bool, ◌&&◌, true, false, List, [], ◌∷◌, Option, Result, Ok, refl, ap, sym, ◌∙◌, length}
use Rattle.std.proofs.lemmas.Bool.{and_parts}
use Rattle.h264_base.specs.declared.stop.Stop.{Stop}
use Rattle.h264_base.specs.Call.{Call}
use Rattle.h264_base.specs.Body.{Body}
use Rattle.h264_sps.specs.declared.sps.Sps.{Sps}
use Rattle.h264_pps.specs.declared.Pps.{Pps}
use Rattle.h264_header.specs.declared.header.Header.{Header}
use Rattle.h264_near.specs.Coded.{CodedMacroblock}
use Rattle.h264_marking.specs.Frames.{References}
use Rattle.h264_lists.specs.declared.slot.RefSlot.{RefSlot}
use Rattle.h264_sps.specs.Usable.{is_usable, crops_within, holds_references, buffers_within, is_frame_size}
use Rattle.h264_mbsyntax.specs.Slice.{slice_data}
use Rattle.h264_picture.specs.Context.{slice_context}
use Rattle.h264_picture.specs.Levels.{transform_fits}
use Rattle.h264_picture.specs.Filter.{slice_filter}
use Rattle.h264_picture.specs.Weights.{slice_weights}
use Rattle.h264_verify.specs.Telling.{frame_span, Family}
use Rattle.h264_verify.specs.Lists.{context_in, list_in, list_of}
use Rattle.h264_verify.specs.declared.head.SlicePlace.{SlicePlace}
use Rattle.h264_verify.specs.declared.slices.Slice.{Slice}
use Rattle.h264_verify.specs.Sound.{HasPps}
use Rattle.h264_verify.specs.Decoding.{slices_of}
use Rattle.h264_verify.proofs.samples.FamiliesInSlice.{each-slice}
use Rattle.h264_verify.proofs.samples.FamiliesByPurpose.{some-map}
use Rattle.h264_verify.specs.declared.decoder.Decoder.{Decoder}
use Rattle.h264_verify.specs.Buffering.{within_newest}
use Rattle.h264_verify.specs.Keeping.{HoldsBegun, HoldsFrames, KeepsOutput, KeepsFrames, IsRead, BeginsFrames}
use Rattle.h264_dpb.specs.Turns.{Turn}
use Rattle.h264_verify.specs.Framing.{ReadsSlice, ReadsData}
use Rattle.h264_vectors.specs.declared.slice.SliceContext.{SliceContext}
use Rattle.h264_bits.specs.declared.element.Found.{Found}
use Rattle.h264_header.specs.declared.header.Marking.{Marking}
use Rattle.std.specs.Result.{result_unwrap_or}
use Rattle.h264_verify.specs.Outcome.{Outcome}
use Rattle.h264_verify.specs.Pictures.{CodedSlice, CodedPicture, last_slice, joined_to, picture_size, held_in}
use Rattle.h264_marking.specs.Ended.{numbering_of}
use Rattle.h264_verify.specs.Data.{picture_set, coded_so_far, slice_syntax, data_in}
use Rattle.h264_header.proofs.Entries.{where-ok}
use Rattle.h264_verify.specs.CourseOutcome.{structure_from}

-- what macroblocks take from their slice says nothing of the marking
context-same : (pps : Pps) (sps : Sps) (h : Header) (m : Option (Found Marking)) (list : List RefSlot) →
    slice_context pps sps (record h { marking = m }) list ≡ slice_context pps sps h list
unfolding slice_context
context-same pps sps h m list = refl

syntax-is : (width size : ℕ) (c : SliceContext) (picture : List CodedMacroblock) → slice_data (transform_fits c) width size c picture ≡
    slice_syntax width size c picture
unfolding slice_syntax
syntax-is width size c picture = refl

pub usable_size : (sps : Sps) → is_usable sps ≡ true → is_frame_size sps.frame_size ≡ true
unfolding is_usable
usable_size sps e = (and_parts (is_frame_size sps.frame_size) (crops_within sps.frame_size sps.frame_cropping && (holds_references sps && buffers_within sps))
    e).0

filter-same : (pps : Pps) (h : Header) (m : Option (Found Marking)) → slice_filter pps (record h { marking = m }) ≡ slice_filter pps h
unfolding slice_filter
filter-same pps h m = refl

weights-same : (h : Header) (m : Option (Found Marking)) → slice_weights (record h { marking = m }) ≡ slice_weights h
unfolding slice_weights
weights-same h m = refl

-- a list that is built of these frames
pub listed : (pictures : List CodedPicture) (s : CodedSlice) (held : References) (list : List RefSlot) → held ≡ held_in pictures →
    list_of s.header.kind.value (numbering_of s.sps s.header) held ≡ Ok list → list ≡ list_in pictures s
listed pictures s held list h e = sym (ap (λ (r : Result (List RefSlot) ℕ). result_unwrap_or r [])
    (ap (λ (x : References). list_of s.header.kind.value (numbering_of s.sps s.header) x) (sym h) ∙ e))

-- what the code reads slice data by is what the units so far give
module _ (place : SlicePlace) (kept : Slice) (pictures : List CodedPicture) (s : CodedSlice) (is : IsRead place kept pictures s) where
  pub context-is : (c : SliceContext) → c ≡ slice_context place.pps.now place.sps.now kept.header kept.list.items →
      c ≡ context_in (joined_to place.begins s pictures) s
  context-is c e =
      e ∙ ap (λ (x : Pps). slice_context x place.sps.now kept.header kept.list.items) is.pps
      ∙ ap (λ (x : Sps). slice_context s.pps x kept.header kept.list.items) is.sps
      ∙ ap (λ (x : Header). slice_context s.pps s.sps x kept.list.items) is.header
      ∙ context-same s.pps s.sps s.header kept.header.marking kept.list.items
      ∙ ap (λ (l : List RefSlot). slice_context s.pps s.sps s.header l) is.list

  pub data-same : (c : SliceContext) → c ≡ slice_context place.pps.now place.sps.now kept.header kept.list.items →
      slice_data (transform_fits c) (picture_set place.begins s pictures).frame_size.width (picture_size (picture_set place.begins s pictures)) c
      (coded_so_far place.begins pictures) ≡ data_in place.begins pictures s
  data-same c e =
      let width = (picture_set place.begins s pictures).frame_size.width in
      let size = picture_size (picture_set place.begins s pictures) in
      let coded = coded_so_far place.begins pictures in
      syntax-is width size c coded ∙ ap (λ (x : SliceContext). slice_syntax width size x coded) (context-is c e)

  pub filter-is : slice_filter place.pps.now kept.header ≡ slice_filter s.pps s.header
  filter-is = ap (λ (x : Pps). slice_filter x kept.header) is.pps ∙ ap (λ (x : Header). slice_filter s.pps x) is.header ∙
      filter-same s.pps s.header kept.header.marking

  pub weights-are : slice_weights kept.header ≡ slice_weights s.header
  weights-are = ap slice_weights is.header ∙ weights-same s.header kept.header.marking

-- a slice that was read belongs to its picture
begun-first : (frames : Family) (s : CodedSlice) (pictures : List CodedPicture) (ms : List CodedMacroblock) (d : Decoder) →
    HoldsBegun frames (record { first = s; later = [] }) pictures (s ∷ []) ms d →
    HoldsBegun frames (record { first = record s { macroblocks = ms }; later = [] }) pictures (record s { macroblocks = ms } ∷ []) ms d
begun-first frames s pictures ms d h = record {
  begun = h.begun;
  placed = h.placed;
  format = h.format;
  settled = h.settled;
  so_far = record {
    holds = h.so_far.holds;
    numbers = (h.so_far.numbers.0, tt);
    sets = (h.so_far.sets.0, tt);
    frames_are = some-map (λ f. HoldsFrames f (record { first = s; later = [] }) pictures (s ∷ []) ms d) _ frames (λ f x. record {
      references = (record { each = x.references.0.each }, tt);
      samples = λ making m. x.samples making (record { parameters = (m.parameters.0, tt); offsets = m.offsets; places = m.places });
    }) h.so_far.frames_are;
  };
}

begun-later : (frames : Family) (s : CodedSlice) (p : CodedPicture) (ps : List CodedPicture) (ms : List CodedMacroblock) (d : Decoder) →
    HoldsBegun frames p ps (s ∷ slices_of p) ms d →
    HoldsBegun frames (record p { later = record s { macroblocks = ms } ∷ p.later }) ps (record s { macroblocks = ms } ∷ slices_of p) ms d
begun-later frames s p ps ms d h = record {
  begun = h.begun;
  placed = h.placed;
  format = h.format;
  settled = h.settled;
  so_far = record {
    holds = h.so_far.holds;
    numbers = (h.so_far.numbers.0, h.so_far.numbers.1);
    sets = (h.so_far.sets.0, h.so_far.sets.1);
    frames_are = some-map (λ f. HoldsFrames f p ps (s ∷ slices_of p) ms d) _ frames (λ f x. record {
      references = (record { each = x.references.0.each }, each-slice (λ t k. record { each = k.each }) (slices_of p) x.references.1);
      samples = λ making m. x.samples making (record { parameters = (m.parameters.0, m.parameters.1); offsets = m.offsets; places = m.places });
    }) h.so_far.frames_are;
  };
}

first-kept : (frames : Family) (s : CodedSlice) (pictures : List CodedPicture) (ms : List CodedMacroblock) (d : Decoder) →
    HoldsBegun frames (record { first = s; later = [] }) pictures (s ∷ []) ms d ×
    KeepsOutput frames (within_newest (record { first = s; later = [] } ∷ pictures)) (length pictures) d →
    KeepsFrames frames true false (joined_to true (record s { macroblocks = ms }) pictures) d
first-kept frames s pictures ms d h = record { format = h.0.format; output = h.1; picture = begun-first frames s pictures ms d h.0 }

later-kept : (frames : Family) (s : CodedSlice) (p : CodedPicture) (ps : List CodedPicture) (ms : List CodedMacroblock) (d : Decoder) →
    HoldsBegun frames p ps (s ∷ slices_of p) ms d × KeepsOutput frames (within_newest (p ∷ ps)) (length ps) d →
    KeepsFrames frames true false (joined_to false (record s { macroblocks = ms }) (p ∷ ps)) d
later-kept frames s p ps ms d h = record { format = h.0.format; output = h.1; picture = begun-later frames s p ps ms d h.0 }

module _ {S X : Type 0} (took : S → List Call → Type 0) (failures : S → ℕ) (frames : Family) (new : Decoder) (s s' : S) (r : Result X Stop)
    (slice : CodedSlice) where
  pub first-read : (o : Outcome (List CodedMacroblock × ℕ)) (pictures : List CodedPicture) →
      ReadsSlice (frame_span took failures frames s s') o
      (λ ms. HoldsBegun frames (record { first = slice; later = [] }) pictures (slice ∷ []) ms new ×
      KeepsOutput frames (within_newest (record { first = slice; later = [] } ∷ pictures)) (length pictures) new) r →
      ReadsData (frame_span took failures frames s s') o (λ ms. joined_to true (record slice { macroblocks = ms }) pictures) new r
  first-read o pictures k = record {
    macroblocks = k.macroblocks;
    end = k.end;
    plays = k.plays;
    keeps = where-ok r (first-kept frames slice pictures k.macroblocks new) k.keeps;
  }

  pub later-read : (o : Outcome (List CodedMacroblock × ℕ)) (p : CodedPicture) (ps : List CodedPicture) →
      ReadsSlice (frame_span took failures frames s s') o
      (λ ms. HoldsBegun frames p ps (slice ∷ slices_of p) ms new × KeepsOutput frames (within_newest (p ∷ ps)) (length ps) new) r →
      ReadsData (frame_span took failures frames s s') o (λ ms. joined_to false (record slice { macroblocks = ms }) (p ∷ ps)) new r
  later-read o p ps k = record {
    macroblocks = k.macroblocks;
    end = k.end;
    plays = k.plays;
    keeps = where-ok r (later-kept frames slice p ps k.macroblocks new) k.keeps;
  }

-- the slice data of a slice after what is kept before them
pub read-after : {S X : Type 0} (took : S → List Call → Type 0) (failures : S → ℕ) (frames : Family) (old new : Decoder) (s s' : S) (r : Result X Stop)
    (begins : Bool) (pictures : List CodedPicture) (slice : CodedSlice) (c : SliceContext) (body : Body) (at : ℕ) →
    c ≡ context_in (joined_to begins slice pictures) slice → slice.header.first_mb_in_slice.value ≡ length (coded_so_far begins pictures) →
    (begins ≡ false → HasPps slice.pps pictures) → BeginsFrames frames begins slice pictures old →
    ((p : CodedPicture) (ps : List CodedPicture) (slices : List CodedSlice) (ms : List CodedMacroblock) (t : Turn) → c ≡ context_in (p ∷ ps) slice →
    slice.header.first_mb_in_slice.value ≡ length ms → slice.pps ≡ p.first.pps → KeepsOutput frames t (length ps) old →
    HoldsBegun frames p ps slices ms old →
    ReadsSlice (frame_span took failures frames s s')
    (structure_from (slice_data (transform_fits c) p.first.sps.frame_size.width (picture_size p.first.sps) c ms) body at)
    (λ ms'. HoldsBegun frames p ps (slice ∷ slices) ms' new × KeepsOutput frames t (length ps) new) r) →
    ReadsData (frame_span took failures frames s s')
    (structure_from (slice_data (transform_fits c) (picture_set begins slice pictures).frame_size.width (picture_size (picture_set begins slice pictures))
    c (coded_so_far begins pictures)) body at) (λ ms. joined_to begins (record slice { macroblocks = ms }) pictures) new r
read-after took failures frames old new s s' r true pictures slice c body at is n set k f =
    first-read took failures frames new s s' r slice _ pictures
    (f (record { first = slice; later = [] }) pictures [] [] (within_newest (record { first = slice; later = [] } ∷ pictures)) is n refl k.output k.picture)
read-after took failures frames old new s s' r false [] slice c body at is n set k f = absurd k
read-after took failures frames old new s s' r false (p ∷ ps) slice c body at is n set k f =
    later-read took failures frames new s s' r slice _ p ps
    (f p ps (slices_of p) (last_slice p).macroblocks (within_newest (p ∷ ps)) is n (sym (set refl)) k.output k.picture)
