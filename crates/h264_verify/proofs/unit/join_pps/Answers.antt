use Rattle.std.proofs.Common.{ap, refl, sym, ◌∙◌}
use Rattle.std.proofs.lemmas.Result.{err_from_is_err_and}
use Rattle.h264_sets.specs.Sets.{with_pps}
use Rattle.h264_verify.specs.Content as contents
use Rattle.h264_verify.proofs.samples.FamiliesAgree.{agree-none}
use Rattle.h264_verify.proofs.judged.UnitJoins.{joins-on, joins-stops, passed-joins}
use Rattle.h264_verify.proofs.judged.WantOfMemory.{answers-memory, error-as}
use Rattle.h264_verify.proofs.language.OutcomesPlayed.{gives-plays}
use Rattle.h264_verify.proofs.language.ReadsStructures.{pps-read}
use Rattle.h264_verify.proofs.unit.join_pps.Goals as goal

pub returns-in_err-set : goal.returns-in_err-set
returns-in_err-set g c =
    let p = err_from_is_err_and c.from_residual.result c.from_residual.ensures.1 in
    let first = rw c.requires.rbsp at c.new-bits.ensures in
    rw (p.1, p.2) (record {
      joins = λ frames before k. joins-stops c.args.extent frames _ _ before c.args.unit.now _ frames (agree-none _ frames) _ _ _ _
          (pps-read c.args.extent frames _ _ before c.args.unit.now _ _ _ _ _ c.requires.kind first c.in_err-set.ensures.meets
          c.in_err-set.ensures.answers);
      counts = tt;
      pictures = tt;
      no_memory = error-as _ (answers-memory _ _ _ _ _ _ _ _ _ c.in_err-set.ensures.meets c.in_err-set.ensures.answers);
      kept = tt;
    })

pub returns-clause-joins : goal.returns-clause-joins
returns-clause-joins g c =
    let first = rw c.requires.rbsp at c.new-bits.ensures in
    λ frames before k. joins-on c.args.extent frames _ _ before c.args.unit.now _ frames (agree-none _ frames) _ _ _ _
    (pps-read c.args.extent frames _ _ before c.args.unit.now _ _ _ _ _ c.requires.kind first c.in_ok-set.ensures.meets c.in_ok-set.ensures.answers)
    _ tt (gives-plays _ _ (λ (u : Unit {0}). u) tt _) refl
    (passed-joins c.args.extent.depth frames before c.args.unit.now (contents.OfPps c.in_ok-set.set) 8 c.args.state.now _ tt refl
    (sym c.requires.kind) (rw c.requires.kind at k) c.pass.ensures.units
    (c.pass.ensures.sets ∙ c.put_pps.ensures.replaced ∙ ap (λ m. with_pps m c.in_ok-set.set) k.sets) c.pass.ensures.picture c.pass.ensures.due
    c.pass.ensures.others c.pass.ensures.decoder)
