use Rattle.std.proofs.Common.{ℕ, ◌-◌, ◌*◌, ◌<◌, ◌^◌, sym, ◌∙◌, subst}
use Rattle.std.proofs.lemmas.Result.{err_from_is_err_and}
use Rattle.h264_units.specs.UnitHeader.{header_of}
use Rattle.h264_verify.specs.Order.{header_demands}
use Rattle.h264_verify.proofs.language.OutcomesPlayed.{named-by}
use Rattle.h264_verify.proofs.judged.UnitJoins.{within}
use Rattle.h264_verify.proofs.judged.WantOfMemory.{named-memory}
use Rattle.h264_verify.proofs.language.Played.{err-named}
use Rattle.h264_verify.proofs.judged.SliceSets.{first-met}
use Rattle.h264_verify.proofs.judged.UnitParts.{is-unsound, stops-header, stops-told, stops-closing, turns-on, pauses-on}
use Rattle.h264_verify.proofs.unit.judge_unit.Goals as goal
use Rattle.h264_cavlc.proofs.Loops.{quiet-after}

pub close_if-requires-clause-room : goal.close_if-requires-clause-room
close_if-requires-clause-room g c = subst (λ (n : ℕ). n < 2 ^ 64 - 1) (sym (c.in_ok-tell_unit.ensures.plays c.requires.kept.frames).plays.2) c.requires.count

pub join-requires-clause-room : goal.join-requires-clause-room
join-requires-clause-room g c = subst (λ (n : ℕ). n < 2 ^ 64 - 1)
    (sym (c.in_ok-close_if.ensures.kept ∙ (c.in_ok-tell_unit.ensures.plays c.requires.kept.frames).plays.2)) c.requires.count

pub join-requires-clause-fits : goal.join-requires-clause-fits
join-requires-clause-fits g c = (first-met _ _ _ (first-met _ _ _ c.in_ok-check_header.ensures).1).0

pub returns-clause-kept : goal.returns-clause-kept
returns-clause-kept g c = quiet-after c.join.result _ _ _ (c.in_ok-close_if.ensures.kept ∙ (c.in_ok-tell_unit.ensures.plays c.requires.kept.frames).plays.2)
    c.join.ensures.kept

pub close_if-requires-clause-kept : goal.close_if-requires-clause-kept
close_if-requires-clause-kept g c = let k = c.requires.kept in
    record { depth = c.args.extent.depth; frames = k.frames; before = k.before; slices_are = k.keeps.slices; keeps = k.keeps.decoder }

pub join-requires-clause-kept : goal.join-requires-clause-kept
join-requires-clause-kept g c =
    let k = c.requires.kept in
    let ended = c.in_ok-close_if.ensures.ended k.before k.keeps.slices in
    let e = c.in_ok-close_if.ensures.closes c.args.extent.depth k.frames k.before k.keeps.slices k.keeps.decoder in
    record {
      frames = e.made;
      before = k.before;
      keeps = within {depth = c.args.extent.depth} {frames = k.frames} {made = e.made} {before = k.before} c.args.state.now c.close_if.new.slices
          c.close_if.new.decoder k.keeps (rw c.is_ending.ensures at ended)
          (rw c.is_ending.ensures at e.keeps);
    }

-- ---- it stops

pub returns-in_err-check_emulation : goal.returns-in_err-check_emulation
returns-in_err-check_emulation g c =
    let p = err_from_is_err_and c.from_residual.result c.from_residual.ensures.1 in
    let named = named-by _ _ _ c.in_err-check_emulation.ensures.err.1 in
    rw (p.1, p.2) (record {
      turns = λ frames before k. is-unsound c.args.extent _ _ before c.args.unit.now frames _ _ _ c.in_err-check_emulation.ensures.value named;
      counts = tt;
      pictures = tt;
      no_memory = λ frames before k m. absurd (named-memory _ named m);
      pauses = λ frames before k m. absurd (named-memory _ named m);
      kept = tt;
    })

pub returns-in_err-check_header : goal.returns-in_err-check_header
returns-in_err-check_header g c =
    let p = err_from_is_err_and c.from_residual-in_err-check_header.result c.from_residual-in_err-check_header.ensures.1 in
    let header = c.in_err-check_header.ensures in
    let named = err-named (header_demands (8 * c.args.unit.now.from) (header_of c.args.unit.now)) _ (sym header) in
    rw (p.1, p.2) (record {
      turns = λ frames before k. stops-header c.args.extent _ _ before c.args.unit.now frames _ _ _ c.in_ok-check_emulation.ensures.value _ header;
      counts = tt;
      pictures = tt;
      no_memory = λ frames before k m. absurd (named-memory _ named m);
      pauses = λ frames before k m. absurd (named-memory _ named m);
      kept = tt;
    })

pub returns-in_err-tell_unit : goal.returns-in_err-tell_unit
returns-in_err-tell_unit g c =
    let p = err_from_is_err_and c.from_residual-in_err-tell_unit.result c.from_residual-in_err-tell_unit.ensures.1 in
    rw (p.1, p.2) (record {
      turns = λ frames before k. stops-told c.args.extent _ _ before c.args.unit.now frames _ _ _ c.in_ok-check_emulation.ensures.value _
          c.in_ok-check_header.ensures _ _ (c.in_err-tell_unit.ensures.plays frames);
      counts = tt;
      pictures = tt;
      no_memory = λ frames before k m. absurd (c.in_err-tell_unit.ensures.no_memory m);
      pauses = λ frames before k m. absurd (c.in_err-tell_unit.ensures.no_memory m);
      kept = tt;
    })

pub returns-in_err-close_if : goal.returns-in_err-close_if
returns-in_err-close_if g c =
    let p = err_from_is_err_and c.from_residual-in_err-close_if.result c.from_residual-in_err-close_if.ensures.1 in
    let closes = rw c.is_ending.ensures at c.in_err-close_if.ensures.closes in
    rw (p.1, p.2) (record {
      turns = λ frames before k. stops-closing c.args.extent _ _ before c.args.unit.now frames _ _ _ c.in_ok-check_emulation.ensures.value _
          c.in_ok-check_header.ensures _ _ c.in_ok-tell_unit.ensures.plays _ _ _ (closes c.args.extent.depth frames before k.slices k.decoder);
      counts = tt;
      pictures = tt;
      no_memory = λ frames before k m. absurd (c.in_err-close_if.ensures.no_memory m);
      pauses = λ frames before k m. absurd (c.in_err-close_if.ensures.no_memory m);
      kept = tt;
    })

-- ---- the picture before it has ended, and what is in it is judged

pub returns-clause-turns : goal.returns-clause-turns
returns-clause-turns g c =
    let header = c.in_ok-check_header.ensures in
    let says = c.in_ok-tell_unit.ensures.plays in
    let closes = rw c.is_ending.ensures at c.in_ok-close_if.ensures.closes in
    λ frames before k.
    let slices = rw c.is_ending.ensures at (c.in_ok-close_if.ensures.ended before k.slices) in
    let e = closes c.args.extent.depth frames before k.slices k.decoder in
    turns-on c.args.extent _ _ before c.args.unit.now frames _ _ _ c.in_ok-check_emulation.ensures.value _ header _ _ says _ _ _ e _ _
    (c.join.ensures.joins e.made before (within {depth = c.args.extent.depth} {frames = frames} {made = e.made} {before = before} c.args.state.now
    c.close_if.new.slices c.close_if.new.decoder k slices e.keeps))

pub returns-clause-no_memory : goal.returns-clause-no_memory
returns-clause-no_memory g c =
    let closes = rw c.is_ending.ensures at c.in_ok-close_if.ensures.closes in
    λ frames before k m.
    let slices = rw c.is_ending.ensures at (c.in_ok-close_if.ensures.ended before k.slices) in
    let e = closes c.args.extent.depth frames before k.slices k.decoder in
    c.join.ensures.no_memory e.made before (within {depth = c.args.extent.depth} {frames = frames} {made = e.made} {before = before} c.args.state.now
    c.close_if.new.slices c.close_if.new.decoder k slices e.keeps) m

pub returns-clause-pauses : goal.returns-clause-pauses
returns-clause-pauses g c =
    let header = c.in_ok-check_header.ensures in
    let says = c.in_ok-tell_unit.ensures.plays in
    let closes = rw c.is_ending.ensures at c.in_ok-close_if.ensures.closes in
    λ frames before k m.
    let slices = rw c.is_ending.ensures at (c.in_ok-close_if.ensures.ended before k.slices) in
    let e = closes c.args.extent.depth frames before k.slices k.decoder in
    pauses-on c.args.extent _ _ before c.args.unit.now frames c.args.state.now _ _ c.in_ok-check_emulation.ensures.value _ header _ _ says _ _ _ e _
    (c.join.ensures.pauses e.made before (within {depth = c.args.extent.depth} {frames = frames} {made = e.made} {before = before} c.args.state.now
    c.close_if.new.slices c.close_if.new.decoder k slices e.keeps) m)
