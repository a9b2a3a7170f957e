-- The samples of a picture, slice by slice.
use Rattle.std.proofs.Common.{◌≡◌, ◌≢◌, ℕ, ◌+◌, ◌<◌, Bool, true, false, List, [], ◌∷◌, length, get_or, Option, Some, None, Result, Ok, Err, ℤ, refl, ap, sym}
use Rattle.std.proofs.Common.{◌∙◌, subst, arith}
use Rattle.std.specs.Option.{option_map_or}
use Rattle.h264_base.specs.Call.{Call, span}
use Rattle.h264_base.specs.Run.{run}
use Rattle.h264_base.specs.declared.stop.Stop.{Stop}
use Rattle.h264_base.specs.declared.stop.Stop.TheVariants.{No, Outside, Memory, Read, Write}
use Rattle.h264_base.specs.Body.{Body}
use Rattle.h264_base.specs.Grammar.{Grammar}
use Rattle.h264_base.specs.Meets.{Reader, Meets, MeetsBy, Answers, AnswersBy}
use Rattle.h264_plane.specs.declared.frame.Frame.{Frame}
use Rattle.h264_near.specs.Coded.{CodedMacroblock}
use Rattle.h264_pps.specs.declared.Pps.{Pps}
use Rattle.h264_header.specs.declared.header.Header.{Header}
use Rattle.h264_header.specs.declared.header.Deblocking.{Deblocking}
use Rattle.h264_header.specs.declared.header.Deblocking.TheVariants as stated
use Rattle.h264_vectors.specs.declared.slice.SliceContext.{SliceContext}
use Rattle.h264_lists.specs.declared.slot.RefSlot.{RefSlot}
use Rattle.h264_recon.specs.Placed.{weights_by}
use Rattle.h264_picture.specs.Weights.{slice_weights}
use Rattle.h264_picture.specs.declared.sequence.Sequence.{Sequence}
use Rattle.h264_picture.specs.declared.work.Work.{Work}
use Rattle.h264_picture.specs.declared.samples.SliceSamples.{SliceSamples}
use Rattle.h264_picture.specs.Context.{slice_context}
use Rattle.h264_picture.specs.Filter.{slice_filter, filter_in}
use Rattle.h264_picture.specs.Holds.{HoldsMacroblocks, IsActive}
use Rattle.h264_picture.specs.Making.{Making, HoldsSamples, MakesSliceWith, IsSliceOf}
use Rattle.h264_picture.specs.Places.{lent, first_place, places, is_active_place, HasBegun, HasSize, IsReleased, KeepsFrames as KeepsLent, MakesFrames}
use Rattle.h264_picture.specs.Places.{purpose_of, HasBegunIn}
use Rattle.h264_dpb.specs.Turns.{Turn}
use Rattle.h264_dpb.specs.declared.output.Output.{Output}
use Rattle.h264_dpb.specs.Kept.{is_occupied, HasFrames}
use Rattle.h264_picture.proofs.Canvases.{another-place}
use Rattle.h264_verify.proofs.samples.FamiliesByPurpose.{some-of, some-made, some-map, some-both}
use Rattle.h264_verify.specs.Telling.{frame_span, Family}
use Rattle.h264_verify.specs.declared.decoder.Decoder.{Decoder}
use Rattle.h264_verify.specs.declared.decoder.Format.{Format}
use Rattle.h264_verify.specs.Pictures.{CodedSlice, CodedPicture, picture_size}
use Rattle.h264_verify.specs.Lists.{list_in, context_in}
use Rattle.h264_verify.specs.Decoding.{EachSlice, number_of, parameters_of}
use Rattle.h264_verify.specs.CourseOutcome.{structure_from}
use Rattle.h264_verify.specs.Framing.{ReadsSlice}
use Rattle.h264_verify.specs.Keeping.{KeepsOutput, HasFormat, IsRoomFor, IsSized, IsNear}
use Rattle.h264_verify.specs.Memory.{format_of}
use Rattle.h264_verify.specs.Keeping.{HasReferences, AreFalling, IsMaking, HoldsBegun, place_by, HoldsFrames, IsPlaced}
use Rattle.h264_verify.proofs.language.ToldAsIs.{elements-tell, elements-front}
use Rattle.h264_verify.proofs.samples.FamiliesInSlice.{each-slice}
use Rattle.h264_verify.proofs.samples.LentFrames.{output-kept, holds-serves, near-is, near-reference, near-taken, same-place, reference-kept}
use Rattle.std.specs.Prelude.{IfSome}

-- ---- what goes with a slice

offset-in : (d : Deblocking) (c : ℤ) → (filter_in d c).chroma_qp_index_offset ≡ c
offset-in (stated.AllEdges offsets) c = refl
offset-in stated.Off c = refl
offset-in (stated.WithinSlice offsets) c = refl

pub offset-of : (pps : Pps) (h : Header) → (slice_filter pps h).chroma_qp_index_offset ≡ pps.chroma_qp_index_offset
unfolding slice_filter
offset-of pps h = offset-in h.deblocking pps.chroma_qp_index_offset

pub active-and : (P Q : Sequence → Type 0) (o : Option Sequence) → IsActive P o → ((s : Sequence) → o ≡ Some s → P s → Q s) → IsActive Q o
active-and P Q None h f = absurd h
active-and P Q (Some s) h f = f s refl h

pub context-number : (pps : Pps) (s : CodedSlice) (list : List RefSlot) → (slice_context s.pps s.sps s.header list).number ≡ number_of s
unfolding slice_context
context-number pps s list = refl

context-offset : (s : CodedSlice) (list : List RefSlot) → (slice_context s.pps s.sps s.header list).chroma_qp_index_offset ≡ s.pps.chroma_qp_index_offset
unfolding slice_context
context-offset s list = refl

context-intra : (s : CodedSlice) (list : List RefSlot) → (slice_context s.pps s.sps s.header list).constrained_intra ≡ s.pps.constrained_intra_pred_flag
unfolding slice_context
context-intra s list = refl

-- A slice of the picture that is decoded, with the places of its reference pictures.
module _ (frames : Family) (p : CodedPicture) (ps : List CodedPicture) (slices : List CodedSlice) (s : CodedSlice) (ms : List CodedMacroblock) (t : Turn)
    (old new : Decoder) (slice : SliceContext) (samples : SliceSamples)
    (is : slice ≡ context_in (p ∷ ps) s) (filter : samples.filter ≡ slice_filter s.pps s.header)
    (weights : weights_by samples.weights ≡ slice_weights s.header) (o : KeepsOutput frames t (length ps) old) (h : HoldsBegun frames p ps slices ms old)
    (number : number_of s ≡ length ms) (set : s.pps ≡ p.first.pps)
    (near : MakesFrames old.work → (k n : ℕ) → k < 16 → get_or slice.references k None ≡ Some n → IsNear old n (get_or samples.places k 0)) where
  pub number-is : slice.number ≡ number_of s
  number-is = ap (λ (c : SliceContext). c.number) is ∙ context-number s.pps s (list_in (p ∷ ps) s)

  chroma-is : slice.chroma_qp_index_offset ≡ s.pps.chroma_qp_index_offset
  chroma-is = ap (λ (c : SliceContext). c.chroma_qp_index_offset) is ∙ context-offset s (list_in (p ∷ ps) s)

  filter-chroma : samples.filter.chroma_qp_index_offset ≡ slice.chroma_qp_index_offset
  filter-chroma = ap (λ (f : _). f.chroma_qp_index_offset) filter ∙ offset-of s.pps s.header ∙ sym chroma-is

  -- what its samples depend on is that of the slices with it
  pub is-slice : MakesFrames old.work → (making : Making) → EachSlice (λ s. making.slices (number_of s) ≡ parameters_of s) (s ∷ slices) →
      ((n : ℕ) → (making.slices n).filter.chroma_qp_index_offset ≡ p.first.pps.chroma_qp_index_offset) → ((n : ℕ) → making.place n ≡ place_by old n) →
      IsSliceOf making slice samples old.work
  is-slice made making params offsets places-are =
      active-and (λ (q : Sequence). HasBegunIn old.work.base old.place q.canvas)
      (MakesSliceWith making slice samples old.work.base) old.work.active h.begun (λ q a b. record {
        parameters = ap making.slices number-is ∙ params.0 ∙
            ap (λ (c : Bool). record { constrained_intra = c; filter = slice_filter s.pps s.header; weights = slice_weights s.header })
            (sym (ap (λ (c : SliceContext). c.constrained_intra) is ∙ context-intra s (list_in (p ∷ ps) s))) ∙
            ap (λ (f : _). record { constrained_intra = slice.constrained_intra; filter = f; weights = slice_weights s.header }) (sym filter)
            ∙ ap (λ (w : _). record { constrained_intra = slice.constrained_intra; filter = samples.filter; weights = w }) (sym weights);
        offset = filter-chroma;
        offsets = λ n. offsets n ∙ ap (λ (x : Pps). x.chroma_qp_index_offset) (sym set) ∙ sym chroma-is ∙ sym filter-chroma;
        placed = λ k n small e.
            let r = near made k n small e in
            let at : get_or samples.places k 0 ≡ old.work.base + making.place n = near-is old n (get_or samples.places k 0) r ∙
            ap (λ (x : ℕ). old.work.base + x) (sym (places-are n)) in
            let count : places old.work ≡ q.places = ap (λ (x : Option Sequence). option_map_or (λ (y : Sequence). y.places) x 0) a in
            let to = r.to in
            let taken = near-taken old n (get_or samples.places k 0) r in
            let apart : old.work.base + making.place n ≢ old.place = λ f.
            let same : get_or samples.places k 0 ≡ old.place = at ∙ f in
            let g : true ≡ false = sym taken ∙ ap (λ (x : ℕ). is_occupied x old.output) same ∙
            (some-of (IsPlaced old) frames old.work o.made made h.placed).free in cc in
            (at, another-place old.work.base old.place (making.place n) q b (omega (arith, at, count, to)) apart);
      })

  -- ---- and with it the work holds the macroblocks with their samples

  module _ (output : new.output ≡ old.output) (format : new.format ≡ old.format) (place : new.place ≡ old.place)
      (first : first_place new.work ≡ first_place old.work) (places-are : places new.work ≡ places old.work) (kept : KeepsLent old.work new.work)
      (begun : HasBegun old.place new.work) (released : IsReleased old.work → IsReleased new.work)
      (size : (width height : ℕ) → HasSize width height old.work → HasSize width height new.work) (purpose : purpose_of new.work ≡ purpose_of old.work) where
    pub making-before : (making : Making) → IsMaking p.first.pps.chroma_qp_index_offset (s ∷ slices) new making →
        IsMaking p.first.pps.chroma_qp_index_offset slices old making
    making-before making m = record { parameters = m.parameters.1; offsets = m.offsets; places = λ n. m.places n ∙ same-place old new n output first }

    referred : (f : ℕ → Frame) → MakesFrames old.work → HasFrames f (lent old.work) old.output → HasReferences f (p ∷ ps) (length ps) new s
    referred f m x = record {
      each = λ k n small e. reference-kept f (length ps) old new n output first kept
          (near-reference f (length ps) old n _ x o.ordered (near m k n small (ap (λ (c : SliceContext). get_or c.references k None) is ∙ e)));
    }

    -- the samples of the slices so far
    abbrev pub MakesSamples : List CodedMacroblock → Type 0
    MakesSamples after = (making : Making) → MakesFrames old.work × IsMaking p.first.pps.chroma_qp_index_offset (s ∷ slices) new making →
        HoldsSamples p.first.sps.frame_size.width (picture_size p.first.sps) making after new.work

    frames-on : (after : List CodedMacroblock) → MakesSamples after → IfSome frames (λ f. HoldsFrames f p ps (s ∷ slices) after new)
    frames-on after made =
        some-both (λ f. MakesFrames old.work × HasFrames f (lent old.work) old.output) (λ f. HoldsFrames f p ps slices ms old) _ frames
        (λ f x y. record {
          references = (
            referred f x.0 x.1,
            each-slice (λ r e. record {
              each =
                  λ k n small g. reference-kept f (length ps) old new n output first kept (e.each k n small g);
            }) slices y.references,
          );
          samples = λ making m. made making (x.0, m);
        })
        (some-both (λ f. MakesFrames old.work) (λ f. HasFrames f (lent old.work) old.output) _ frames (λ f x y. (x, y)) (some-made frames old.work o.made)
        o.frames_are)
        h.so_far.frames_are

    pub begun-on : (after : List CodedMacroblock) → length ms < length after →
        HoldsMacroblocks p.first.sps.frame_size.width (picture_size p.first.sps) after new.work → MakesSamples after →
        HoldsBegun frames p ps (s ∷ slices) after new ×
        KeepsOutput frames t (length ps) new
    begun-on after longer holds made = (
      record {
        begun = subst (λ (x : ℕ). HasBegun x new.work) (sym place) begun;
        placed = some-map (λ f. IsPlaced old) (λ f. IsPlaced new) frames (λ f x. record {
          active = subst (λ (y : ℕ). is_active_place (first_place new.work) y ≡ true) (sym place)
              (subst (λ (b : ℕ). is_active_place b old.place ≡ true) (sym first) x.active);
          free = subst (λ (y : Output). is_occupied new.place y ≡ false) (sym output) (subst (λ (y : ℕ). is_occupied y old.output ≡ false) (sym place) x.free);
        }) h.placed;
        format = format ∙ h.format;
        settled = λ not. record {
          released = released (h.settled not).released;
          sized = subst (λ (x : Output). IsSized new.format x) (sym output)
              (subst (λ (x : Option Format). IsSized x old.output) (sym format) (h.settled not).sized);
        };
        so_far = record {
          holds = holds;
          numbers = (omega (arith, number, longer), subst (λ (n : ℕ). AreFalling n slices) (sym number) h.so_far.numbers);
          sets = (set, h.so_far.sets);
          frames_are = frames-on after made;
        };
      },
      output-kept frames t (length ps) old new o output purpose (λ q a n. kept q n) fits,
    )
      where
        fits : HasFormat new.format new.work
        fits = subst (λ (x : Option Format). HasFormat x new.work) (sym (format ∙ h.format))
            (record { serves = holds-serves _ _ after new.work holds; size = size _ _ sized; places = places-are ∙ room.places })
          where
            room : IsRoomFor (format_of p.first.sps) old.work
            room = subst (λ (x : Option Format). HasFormat x old.work) h.format o.format

            sized : HasSize p.first.sps.frame_size.width p.first.sps.frame_size.height old.work
            sized = room.size

-- ---- slice data that were read

-- one answer of a grammar
same-answer : (a b : List CodedMacroblock) (i j : ℕ) (r : Result (List CodedMacroblock × ℕ) Stop) → r ≡ Ok (a, i) → r ≡ Ok (b, j) → a ≡ b
same-answer a b i j r e f = let k : ◌≡◌ {A = Result (List CodedMacroblock × ℕ) Stop} (Ok (a, i)) (Ok (b, j)) = sym e ∙ f in
    let p : ◌≡◌ {A = List CodedMacroblock × ℕ} (a, i) (b, j) = cc in ap (λ (x : List CodedMacroblock × ℕ). x.0) p

module _ {S X : Type 0} (frames : Family) (took : S → List Call → Type 0) (failures : S → ℕ) (g : Grammar (List CodedMacroblock)) (body : Body)
    (i j width size : ℕ) (work : Work) (s s' : S)
    (P : Making → Type 0) (K : List CodedMacroblock → Type 0)
    (goes : (after : List CodedMacroblock) → (run g body i).answer ≡ Ok (after, j) → HoldsMacroblocks width size after work →
    ((making : Making) → P making → HoldsSamples width size making after work) → K after) where
  abbrev Made : Making → X → List CodedMacroblock → Type 0
  Made making x after = HoldsSamples width size making after work

  abbrev Held : X → List CodedMacroblock → Type 0
  Held x after = HoldsMacroblocks width size after work

  slice-by : (r : Result X Stop) → MeetsBy (span took failures s s') Held g (record { body = body; at = i }) j r →
      AnswersBy (span took failures s s') Held g (record { body = body; at = i }) j r →
      ((making : Making) → P making → MeetsBy (span took failures s s') (Made making) g (record { body = body; at = i }) j r) →
      ReadsSlice (frame_span took failures frames s s') (structure_from g body i) K r
  slice-by (Ok x) m a f = record {
    macroblocks = m.0;
    end = j;
    plays = record { plays = (m.2, elements-tell frames took s s' body (run g body i).elements m.3, m.4) };
    keeps = goes m.0 m.2 m.1 (λ making p. let n = f making p in
        subst (λ (after : List CodedMacroblock). HoldsSamples width size making after work) (same-answer n.0 m.0 j j (run g body i).answer n.2 m.2) n.1);
  }
  slice-by (Err (No bit rule)) m a f = record {
    macroblocks = [];
    end = 0;
    plays = record { plays = (m.0, elements-tell frames took s s' body (run g body i).elements m.1, m.2) };
    keeps = tt;
  }
  slice-by (Err (Outside bit feature)) m a f =
      record { macroblocks = []; end = 0; plays = record { plays = (m.0, elements-tell frames took s s' body (run g body i).elements m.1, m.2) }; keeps = tt }
  slice-by (Err Memory) m a f = absurd a
  slice-by (Err Read) m a f = absurd a
  slice-by (Err Write) m a f = record {
    macroblocks = [];
    end = 0;
    plays = record { plays = (elements-front frames took s s' body (run g body i).elements m.0, m.1) };
    keeps = tt;
  }

pub reads-slice : {S X : Type 0} (frames : Family) (took : S → List Call → Type 0) (failures : S → ℕ) (g : Grammar (List CodedMacroblock)) (width size : ℕ)
    (work : Work) (old new : Reader) (s s' : S) (r : Result X Stop)
    (P : Making → Type 0) (K : List CodedMacroblock → Type 0) →
    ((after : List CodedMacroblock) → (run g old.body old.at).answer ≡ Ok (after, new.at) → HoldsMacroblocks width size after work →
    ((making : Making) → P making → HoldsSamples width size making after work) → K after) →
    Meets (span took failures s s') (λ (x : X) after. HoldsMacroblocks width size after work) g old new r →
    Answers (span took failures s s') (λ (x : X) after. HoldsMacroblocks width size after work) g old new r →
    ((making : Making) → P making → Meets (span took failures s s') (λ (x : X) after. HoldsSamples width size making after work) g old new r) →
    ReadsSlice (frame_span took failures frames s s') (structure_from g old.body old.at) K r
reads-slice frames took failures g width size work old new s s' r P K goes m a f =
    slice-by frames took failures g old.body old.at new.at width size work s s' P K goes r m.meets a (λ making p. (f making p).meets)
