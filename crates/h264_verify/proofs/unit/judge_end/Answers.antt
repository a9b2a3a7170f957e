use Rattle.std.proofs.Common.{ℕ, ◌≡◌, Bool, true, false, Result, Ok, Err, [], ◌∷◌, refl, length, arith, if◌then◌else◌}
use Rattle.h264_base.specs.declared.rule.Rule.{Rule}
use Rattle.h264_base.specs.declared.stop.Stop.{Stop}
use Rattle.h264_base.specs.declared.stop.Stop.TheVariants.{No}
use Rattle.std.proofs.lemmas.Result.{err_from_is_err_and}
use Rattle.h264_verify.specs.Pictures.{goes_on, runs_of}
use Rattle.h264_verify.specs.Buffering.{after_all, last_frames}
use Rattle.h264_verify.specs.Units.{picture_demand}
use Rattle.h264_verify.proofs.language.OutcomesPlayed.{named-by}
use Rattle.h264_verify.specs.Order.{close_steps}
use Rattle.h264_verify.proofs.language.Played.{met, unmet, played, stops, last-stops}
use Rattle.h264_verify.proofs.kept.KeepsOutput.{ended-gap}
use Rattle.h264_verify.proofs.language.CourseParts.{end-begins, end-gives}
use Rattle.h264_verify.proofs.judged.WantOfMemory.{error-as, named-memory, write-alone}
use Rattle.h264_verify.proofs.unit.judge_end.Goals as goal

check-err : (holds : Bool) (rule : Rule) (bit : ℕ) (e : Stop) → (let r : Result (Unit {0}) Stop = Err e in r ≡ (if holds then Ok tt else Err (No bit rule))) →
    e ≡ No bit rule
check-err true rule bit e h = cc
check-err false rule bit e h = cc

pub close-requires-clause-kept : goal.close-requires-clause-kept
close-requires-clause-kept g c = let k = c.requires.kept in
    record { depth = c.args.depth; frames = k.frames; before = k.before; slices_are = k.keeps.slices; keeps = k.keeps.decoder }

pub finish_frames-requires-clause-kept : goal.finish_frames-requires-clause-kept
finish_frames-requires-clause-kept g c =
    let k = c.requires.kept in
    let e = c.in_ok-close.ensures.closes c.args.depth k.frames k.before k.keeps.slices k.keeps.decoder in
    record {
      depth = c.args.depth;
      frames = e.made;
      turn = after_all (runs_of k.before);
      next = length (runs_of k.before);
      few = omega (arith, k.keeps.slices.kept.pictures_are, c.requires.pictures, c.requires.units);
      keeps = ended-gap c.args.depth e.made (goes_on k.before) (runs_of k.before) _ e.keeps;
    }

pub returns-in_err-close : goal.returns-in_err-close
returns-in_err-close g c =
    let p = err_from_is_err_and c.from_residual.result c.from_residual.ensures.1 in
    rw (p.1, p.2) (record {
      ends = λ frames before k.
          let e = c.in_err-close.ensures.closes c.args.depth frames before k.slices k.decoder in
          record {
            made = e.made;
            same = e.same;
            plays =
                stops _ _ (close_steps c.args.depth before) _ (end-begins _ _ c.args.depth before c.args.bit _) e.plays;
          };
      no_memory = error-as _ c.in_err-close.ensures.no_memory;
    })

pub returns-in_err-check : goal.returns-in_err-check
returns-in_err-check g c =
    let p = err_from_is_err_and c.from_residual-in_err-check.result c.from_residual-in_err-check.ensures.1 in
    rw (p.1, p.2) (record {
      ends = λ frames before k.
          let ended = c.in_ok-close.ensures.ended before k.slices in
          let e = c.in_ok-close.ensures.closes c.args.depth frames before k.slices k.decoder in
          let broken = rw (c.has_pictures.ensures (runs_of before) ended.kept.pictures_are) at c.in_err-check.ensures in
          record {
            made = e.made;
            same = e.same;
            plays = unmet _ _ (picture_demand c.args.depth before c.args.bit ∷ []) _
                (played _ _ (close_steps c.args.depth before) _ (end-begins _ _ c.args.depth before c.args.bit _) e.plays) broken;
          };
      no_memory = named-memory _ (named-by _ _ _ (check-err _ _ _ _ c.in_err-check.ensures));
    })

pub returns-in_err-finish_frames : goal.returns-in_err-finish_frames
returns-in_err-finish_frames g c =
    let p = err_from_is_err_and c.from_residual-in_err-finish_frames.result c.from_residual-in_err-finish_frames.ensures.1 in
    rw (p.1, p.2) (record {
      ends = λ frames before k.
          let ended = c.in_ok-close.ensures.ended before k.slices in
          let e = c.in_ok-close.ensures.closes c.args.depth frames before k.slices k.decoder in
          let there = rw (c.has_pictures.ensures (runs_of before) ended.kept.pictures_are) at c.in_ok-check.ensures in
          let gap = ended-gap c.args.depth e.made (goes_on before) (runs_of before) _ e.keeps in
          record {
            made = e.made;
            same = e.same;
            plays = last-stops _ _ (met _ _ (picture_demand c.args.depth before c.args.bit ∷ []) (last_frames c.args.depth (runs_of before))
                (played _ _ (close_steps c.args.depth before) _ (end-begins _ _ c.args.depth before c.args.bit _) e.plays) there)
                (c.in_err-finish_frames.ensures.plays c.args.depth e.made (after_all (runs_of before)) (length (runs_of before)) gap);
          };
      no_memory = λ m. write-alone _ c.in_err-finish_frames.ensures.no_memory m;
    })

pub returns : goal.returns
returns g c = record {
  ends = λ frames before k.
      let ended = c.in_ok-close.ensures.ended before k.slices in
      let e = c.in_ok-close.ensures.closes c.args.depth frames before k.slices k.decoder in
      let there = rw (c.has_pictures.ensures (runs_of before) ended.kept.pictures_are) at c.in_ok-check.ensures in
      let gap = ended-gap c.args.depth e.made (goes_on before) (runs_of before) _ e.keeps in
      let written = c.frames_told.ensures c.args.depth (runs_of before)
      (c.in_ok-finish_frames.ensures.written c.args.depth e.made (after_all (runs_of before)) (length (runs_of before)) gap) in
      record {
        made = e.made;
        same = e.same;
        plays = end-gives _ _ c.args.depth before c.args.bit _
            (met _ _ (picture_demand c.args.depth before c.args.bit ∷ []) (last_frames c.args.depth (runs_of before))
            (played _ _ (close_steps c.args.depth before) _ (end-begins _ _ c.args.depth before c.args.bit _) e.plays) there)
            (c.in_ok-finish_frames.ensures.plays c.args.depth e.made (after_all (runs_of before)) (length (runs_of before)) gap)
            (rw (k.units, ended.kept.pictures_are, written) refl);
      };
  no_memory = λ m. cc;
}
