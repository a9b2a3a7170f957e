use Rattle.std.proofs.Common.{◌≡◌, ◌≤◌, ◌+◌, ℕ, Bool, true, false, Result, Ok, Err, if◌then◌else◌, refl, rules, arith, ◌∙◌, []}
use Rattle.std.proofs.lemmas.Result.{err_from_is_err_and}
use Rattle.std.proofs.lemmas.Int.{to_z-of_z}
use Rattle.std.specs.Int.{w32}
use mir.Val.{SFits}
use Rattle.h264_base.specs.declared.stop.Stop.{Stop}
use Rattle.h264_base.specs.declared.stop.Stop.TheVariants.{Memory}
use Rattle.h264_pps.specs.declared.Pps.{Pps}
use Rattle.h264_sps.specs.declared.sps.Sps.{Sps}
use Rattle.h264_picture.specs.Buffer.{buffer_size}
use Rattle.h264_dpb.specs.Ending.{ended_of}
use Rattle.h264_verify.specs.Buffering.{frame_count}
use Rattle.h264_verify.specs.Keeping.{slice_at}
use Rattle.h264_verify.specs.Pictures.{goes_on, runs_of}
use Rattle.h264_verify.specs.Order.{slice_rules, told_rules}
use Rattle.h264_verify.proofs.language.Played.{begins, played, stops, last}
use Rattle.h264_verify.proofs.kept.KeepsEntered.{slice-kept}
use Rattle.h264_verify.proofs.judged.SliceJudged.{ended-is}
use Rattle.h264_verify.proofs.slices.judge_rules.Goals as goal

-- how many pictures have begun
more-of : (a b : ℕ) → a ≡ b → a ≤ b + 1
more-of a b e = omega (arith, e)

entered-more : (begins : Bool) (old mid new : ℕ) → new ≡ (if begins then mid + 1 else mid) → mid ≡ old → new ≤ old + 1
entered-more true old mid new n e = omega (arith, n, e)
entered-more false old mid new n e = omega (arith, n, e)

-- what is well is no want of memory
no-error : (let r : Result (Unit {0}) Stop = Ok tt in r ≡ Err Memory) → ⊥
no-error e = cc

pub returns-in_err-check_rules-clause-plays : goal.returns-in_err-check_rules-clause-plays
returns-in_err-check_rules-clause-plays g c =
    let slice = slice_at c.args.place.now c.args.slice.now.header [] in
    let p = err_from_is_err_and c.from_residual.result c.from_residual.ensures.1 in
    rw (p.1, p.2) (λ depth frames before k b d. stops _ _ (slice_rules depth c.args.place.now.begins (runs_of before) slice) _
    (begins _ _ (told_rules depth c.args.place.now.begins (runs_of before) slice) _) (c.in_err-check_rules.ensures.plays depth frames before k b d))

pub returns-in_err-check_rules-clause-pictures : goal.returns-in_err-check_rules-clause-pictures
returns-in_err-check_rules-clause-pictures g c = more-of _ _ c.in_err-check_rules.ensures.pictures

pub returns-in_err-tell_slice-clause-plays : goal.returns-in_err-tell_slice-clause-plays
returns-in_err-tell_slice-clause-plays g c =
    let slice = slice_at c.args.place.now c.args.slice.now.header [] in
    let p = err_from_is_err_and c.from_residual-in_err-tell_slice.result c.from_residual-in_err-tell_slice.ensures.1 in
    rw (p.1, p.2) (λ depth frames before k b d.
    let told = rw (c.from.ensures.value, (c.in_ok-check_rules.ensures.entered before [] k b).count) at (c.in_err-tell_slice.ensures.plays frames) in
    last _ _ (played _ _ (slice_rules depth c.args.place.now.begins (runs_of before) slice) _
    (begins _ _ (told_rules depth c.args.place.now.begins (runs_of before) slice) _) (c.in_ok-check_rules.ensures.plays depth frames before k b d)) told)

pub returns-in_err-tell_slice-clause-pictures : goal.returns-in_err-tell_slice-clause-pictures
returns-in_err-tell_slice-clause-pictures g c = more-of _ _ c.in_ok-check_rules.ensures.pictures

pub returns : goal.returns
returns g c = record {
  plays = λ depth frames before k b d.
      let slice = slice_at c.args.place.now c.args.slice.now.header [] in
      let told = rw (c.from.ensures.value, (c.in_ok-check_rules.ensures.entered before [] k b).count) at (c.in_ok-tell_slice.ensures.plays frames) in
      last _ _ (played _ _ (slice_rules depth c.args.place.now.begins (runs_of before) slice) _
      (begins _ _ (told_rules depth c.args.place.now.begins (runs_of before) slice) _) (c.in_ok-check_rules.ensures.plays depth frames before k b d)) told;
  entered = λ before ms k b.
      let sets : Pps × Sps = (c.args.place.now.pps.now, c.args.place.now.sps.now) in
      let slice = slice_at c.args.place.now c.args.slice.now.header ms in
      let entered = c.in_ok-check_rules.ensures.entered before ms k b in
      let opened = c.enter.ensures.picture (goes_on before) (runs_of before) slice refl entered.picture b c.numbering_of-numbering.ensures
      c.bit_after-following.ensures in
      let fits : SFits w32 c.frame_count.result = search rules in
      let told : c.ended_of-ended.result ≡ ended_of c.args.place.now.sps.now c.args.slice.now.header c.check_rules.new.slices.pictures
      (frame_count c.check_rules.new.slices.count) (buffer_size c.args.place.now.sps.now) =
      rw (to_z-of_z w32 c.frame_count.result fits, c.frame_count.ensures, c.buffer_size.ensures.value) at c.ended_of-ended.ensures in
      let end = c.enter.ensures.end (goes_on before) (runs_of before) slice
      (λ begun. told ∙ ended-is before c.args.place.now.begins slice c.check_rules.new.slices entered begun) entered.picture entered.end b in
      slice-kept before c.args.place.now.unit.now c.args.slice.now.header ms c.check_rules.new.slices c.enter.new.slices c.args.place.now.begins sets entered
      opened end c.enter.ensures.newest c.enter.ensures.pictures c.enter.ensures.others;
  frames = λ depth frames before k b d. c.in_ok-check_rules.ensures.frames depth frames before k b d;
  filled = λ begun. rw c.enter.ensures.others (c.in_ok-check_rules.ensures.filled begun);
  list = rw c.enter.ensures.others (rw c.numbering_of-numbering.ensures at c.in_ok-check_rules.ensures.list);
  due = c.enter.ensures.due;
  header = c.enter.ensures.header;
  typed = c.in_ok-check_rules.ensures.typed;
  format = c.in_ok-check_rules.ensures.format;
  pictures = entered-more c.args.place.now.begins _ _ _ c.enter.ensures.pictures c.in_ok-check_rules.ensures.pictures;
  no_memory = no-error;
  kept = (c.in_ok-tell_slice.ensures.plays c.requires.kept.frames).plays.2 ∙ c.in_ok-check_rules.ensures.kept;
}
