use Rattle.std.proofs.Common.{sym, ap, ◌∙◌, subst, List, []}
use Rattle.std.proofs.lemmas.Result.{err_from_is_err_and}
use Rattle.h264_base.specs.Grammar.{Grammar}
use Rattle.h264_lists.specs.declared.slot.RefSlot.{RefSlot}
use Rattle.h264_near.specs.Coded.{CodedMacroblock}
use Rattle.h264_picture.specs.Context.{slice_context}
use Rattle.h264_verify.specs.Telling.{frame_span}
use Rattle.h264_verify.specs.Pictures.{joined_to}
use Rattle.h264_verify.specs.Framing.{ReadsData}
use Rattle.h264_verify.specs.CourseOutcome.{structure_from}
use Rattle.h264_verify.proofs.language.OutcomesPlayed.{memory-plays}
use Rattle.h264_verify.proofs.kept.KeepsOutput.{enters-some}
use Rattle.h264_verify.proofs.samples.NamedPlaces.{slices-some}
use Rattle.h264_verify.proofs.samples.ReadsData.{context-is, filter-is, weights-are, read-after, data-same}
use Rattle.h264_verify.proofs.data.read_data.Goals as goal

pub begin_if-requires-clause-kept : goal.begin_if-requires-clause-kept
begin_if-requires-clause-kept g c = λ begun. let k = c.requires.kept in
    enters-some k.frames c.args.place.now.begins k.slice k.on k.pictures c.args.decoder.now begun k.keeps

pub slice-requires-clause-kept : goal.slice-requires-clause-kept
slice-requires-clause-kept g c =
    let k = c.requires.kept in
    let place = c.args.place.now in
    let begun = c.in_ok-begin_if.ensures.holds k.frames k.on k.slice k.pictures (sym k.is.sps) k.live k.keeps in
    let value = c.slice_context-context.ensures.value ∙
    ap (λ (l : List RefSlot). slice_context place.pps.now place.sps.now c.args.slice.now.header l) c.as_slice.ensures.value in
    slices-some k.frames k.slice c.begin_if.new.decoder k.typed place.begins k.pictures _ (context-is place c.args.slice.now k.pictures k.slice k.is _ value)
    k.next k.sound begun

pub returns-in_err-begin_if-clause-reads : goal.returns-in_err-begin_if-clause-reads
returns-in_err-begin_if-clause-reads g c =
    let p = err_from_is_err_and c.from_residual.result c.from_residual.ensures.1 in
    rw (p.1, p.2, c.in_err-begin_if.ensures.err)
    (λ frames on pictures s is first none live set k. record { macroblocks = []; end = 0; plays = memory-plays _ _ _ _ _; keeps = tt })

pub returns-clause-reads : goal.returns-clause-reads
returns-clause-reads g c = λ frames on pictures s is first none live set k.
    let place = c.args.place.now in
    let slice = c.args.slice.now in
    let begun = c.in_ok-begin_if.ensures.holds frames on s pictures (sym is.sps) live k in
    let value = c.slice_context-context.ensures.value ∙
    ap (λ (l : List RefSlot). slice_context place.pps.now place.sps.now slice.header l) c.as_slice.ensures.value in
    let context = context-is place slice pictures s is _ value in
    let filter = filter-is place slice pictures s is in
    let weights = weights-are place slice pictures s is in
    let same = data-same place slice pictures s is _ value in
    subst (λ (q : Grammar (List CodedMacroblock)). ReadsData (frame_span g.S.Elements.took g.S.Elements.failures frames c.args.sink.now c.slice.new.sink)
    (structure_from q c.args.bits.now.body c.args.bits.now.at) (λ ms. joined_to place.begins (record s { macroblocks = ms }) pictures) c.slice.new.self
    c.slice.result) same
    (read-after _ _ frames _ _ _ _ _ place.begins pictures s _ _ _ context first set begun
    (λ p ps slices ms t is number same o b. c.slice.ensures.reads frames p ps slices s ms t is filter weights number same o b))
