use Rattle.std.proofs.Common.{refl, sym, ◌∙◌, subst, ◌≡◌, ◌<◌, ℕ, List, ◌∷◌, get_or, Some, None}
use Rattle.h264_verify.specs.Keeping.{IsMaking, IsNear, HoldsFrames}
use Rattle.h264_picture.specs.Places.{MakesFrames}
use Rattle.h264_verify.proofs.samples.FamiliesByPurpose.{some-of, some-map}
use Rattle.h264_verify.specs.declared.decoder.Decoder.{Decoder}
use Rattle.h264_verify.proofs.samples.SliceDataGrow.{slice-adds}
use Rattle.h264_verify.proofs.kept.KeepsOutput.{has-places}
use Rattle.h264_verify.proofs.samples.SliceSamples.{begun-on, is-slice, reads-slice, number-is, making-before}
use Rattle.h264_verify.proofs.decoder.Decoder.slice.Goals as goal

pub places-places-requires : goal.places-places-requires
places-places-requires g c = c.requires.kept.named

-- a sequence is active, and it has places
pub slice-requires-clause-active : goal.slice-requires-clause-active
slice-requires-clause-active g c = has-places _ _ _ c.args.self.now.work c.requires.kept.holds

pub returns-clause-no_memory : goal.returns-clause-no_memory
returns-clause-no_memory g c = c.slice.ensures.no_memory _ _ _ c.requires.kept.holds

pub returns-clause-reads : goal.returns-clause-reads
returns-clause-reads g c = λ frames p ps slices s ms t is filter weights number set o h.
    let near : MakesFrames c.args.self.now.work → (k n : ℕ) → k < 16 → get_or c.args.slice.now.references k None ≡ Some n →
    IsNear c.args.self.now n (get_or c.slice_samples.result.places k 0) =
    λ made k n small e. subst (λ (x : List ℕ). IsNear c.args.self.now n (get_or x k 0)) (sym c.slice_samples.ensures.places)
    (c.places-places.ensures made k n small e) in
    let filter-is = c.slice_samples.ensures.filter ∙ filter in
    let weights-are = c.slice_samples.ensures.weights ∙ weights in
    let new : Decoder = record c.args.self.now { work = c.slice.new.self } in
    let is-of = number-is frames p ps slices s ms t c.args.self.now new c.args.slice.now c.slice_samples.result is filter-is weights-are o h number set near in
    let holds = c.slice.ensures.meets p.first.sps.frame_size.width _ ms h.so_far.holds (is-of ∙ number) in
    let answers = c.slice.ensures.answers p.first.sps.frame_size.width _ ms h.so_far.holds (is-of ∙ number) in
    let begun = c.slice.ensures.begun c.args.self.now.place h.begun in
    let kept = c.slice.ensures.kept c.args.self.now.place h.begun in
    reads-slice frames _ _ _ p.first.sps.frame_size.width _ c.slice.new.self _ _ _ _ _
    (λ making. MakesFrames c.args.self.now.work × IsMaking p.first.pps.chroma_qp_index_offset (s ∷ slices) new making) _
    (λ after answer all made. begun-on frames p ps slices s ms t c.args.self.now new c.args.slice.now c.slice_samples.result is filter-is weights-are o h
    number set near refl refl refl c.slice.ensures.first c.slice.ensures.places kept begun c.slice.ensures.released c.slice.ensures.size
    c.slice.ensures.purpose after
    (slice-adds _ _ _ _ ms after _ _ _ answer) all made)
    holds answers
    (λ making m.
    let before = making-before frames p ps slices s ms t c.args.self.now new c.args.slice.now c.slice_samples.result is filter-is weights-are o h number set
    near refl refl refl c.slice.ensures.first c.slice.ensures.places kept begun c.slice.ensures.released c.slice.ensures.size c.slice.ensures.purpose making
    m.1 in
    c.slice.ensures.samples p.first.sps.frame_size.width _ making ms
    (some-of _ frames c.args.self.now.work o.made m.0 (some-map (λ f. HoldsFrames f p ps slices ms c.args.self.now) _ frames
    (λ f x. x.samples making before) h.so_far.frames_are)) (is-of ∙ number)
    (is-slice frames p ps slices s ms t c.args.self.now new c.args.slice.now c.slice_samples.result is filter-is weights-are o h number set near m.0 making
    m.1.parameters before.offsets before.places))
