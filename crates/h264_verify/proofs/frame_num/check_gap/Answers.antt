use Rattle.std.proofs.Common.{◌≡◌, ◌∙◌, ℕ, ◌<◌, Bool, true, false, not, ◌||◌, [], Result, Ok, Err, if◌then◌else◌, refl, arith}
use Rattle.std.proofs.lemmas.Result.{err_from_is_err_and}
use Rattle.h264_base.specs.Call.{span}
use Rattle.h264_base.specs.declared.rule.Rule.TheVariants.{FrameNum}
use Rattle.h264_base.specs.declared.stop.Stop.{Stop}
use Rattle.h264_base.specs.declared.stop.Stop.TheVariants.{No}
use Rattle.h264_header.specs.Picture.{is_idr, is_reference}
use Rattle.h264_marking.specs.declared.frame.Numbering.{Numbering}
use Rattle.h264_marking.specs.Gaps.{gap_before, is_new_num}
use Rattle.h264_marking.specs.Ended.{numbering_of}
use Rattle.h264_dpb.specs.Turns.{Turn}
use Rattle.h264_verify.specs.declared.state.Depth.{Depth}
use Rattle.h264_verify.specs.Telling.{Family, took_with}
use Rattle.h264_verify.specs.Outcome.{Plays}
use Rattle.h264_verify.specs.CourseOutcome.{outcome_of}
use Rattle.h264_verify.specs.Order.{gap_rules}
use Rattle.h264_verify.specs.Keeping.{WhereMade, FillsFrames, slice_at}
use Rattle.h264_verify.proofs.language.OutcomesPlayed.{err-as}
use Rattle.h264_verify.proofs.judged.MissingNumbers.{new-filled}
use Rattle.h264_verify.proofs.language.Played.{begins, met, unmet, played, stops, rules-last}
use Rattle.h264_verify.proofs.frame_num.check_gap.Given.{Over}
use Rattle.h264_verify.proofs.frame_num.check_gap.Goals.{In_ok-last}
use Rattle.h264_verify.proofs.frame_num.check_gap.Goals as goal

gap-not-idr : (idr : Bool) (prev : ℕ) (n : Numbering) → 0 < gap_before idr prev n → idr ≡ false
gap-not-idr true prev n h = absurd (omega (arith, h))
gap-not-idr false prev n h = refl

pub fill_frames-requires-clause-few : goal.fill_frames-requires-clause-few
fill_frames-requires-clause-few g c = rw (c.gap_before-count.ensures, c.requires.numbered, c.is_some-idr.ensures)
    (λ some. (c.requires.goes (gap-not-idr (is_idr c.args.head.now.header.now) c.args.prev_ref_frame_num.now
    (numbering_of c.args.head.now.place.sps.now c.args.head.now.header.now) some)).few)

pub fill_frames-requires-clause-places : goal.fill_frames-requires-clause-places
fill_frames-requires-clause-places g c =
    rw (c.gap_before-count.ensures, c.requires.numbered, c.is_some-idr.ensures)
    (λ some. (c.requires.goes (gap-not-idr (is_idr c.args.head.now.header.now) c.args.prev_ref_frame_num.now
    (numbering_of c.args.head.now.place.sps.now c.args.head.now.header.now) some)).places)

pub returns-in_err-check_missing-clause-plays : goal.returns-in_err-check_missing-clause-plays
returns-in_err-check_missing-clause-plays g c =
    let p = err_from_is_err_and c.from_residual.result c.from_residual.ensures.1 in
    let slice = slice_at c.args.head.now.place c.args.head.now.header.now [] in
    rw (p.1, p.2) (λ depth frames t next k.
    unmet _ _ _ _ (begins _ _ (gap_rules depth slice c.args.prev_ref_frame_num.now c.args.held.now t.buffer) _)
    (rw (c.gap_before-count.ensures, c.requires.numbered, c.is_some-idr.ensures) at c.in_err-check_missing.ensures))

pub returns-in_err-last-clause-plays : goal.returns-in_err-last-clause-plays
returns-in_err-last-clause-plays g c =
    let p = err_from_is_err_and c.from_residual-in_err-last.result c.from_residual-in_err-last.ensures.1 in
    let slice = slice_at c.args.head.now.place c.args.head.now.header.now [] in
    rw (p.1, p.2) (λ depth frames t next k.
    stops _ _ _ _ (met _ _ _ _ (begins _ _ (gap_rules depth slice c.args.prev_ref_frame_num.now c.args.held.now t.buffer) _)
    (rw (c.gap_before-count.ensures, c.requires.numbered, c.is_some-idr.ensures) at c.in_ok-check_missing.ensures))
    ((rw (c.gap_before-count.ensures, c.requires.numbered, c.is_some-idr.ensures) at c.in_err-last.ensures.plays) depth frames t next k))

pub returns-in_err-last-clause-no_memory : goal.returns-in_err-last-clause-no_memory
returns-in_err-last-clause-no_memory g c =
    let p = err_from_is_err_and c.from_residual-in_err-last.result c.from_residual-in_err-last.ensures.1 in
    rw (p.1, p.2) (λ h. c.in_err-last.ensures.no_memory (err-as _ _ h))

-- the missing numbers are filled, and then this is the answer of the rule on the picture's own
module _ (g : Over) (c : In_ok-last g) (depth : Depth) (frames : Family) (t : Turn) (next : ℕ)
    (k : WhereMade depth (FillsFrames frames t next) c.args.decoder.now) where
  number-plays : (r : Result (Unit {0}) Stop) → (let n = numbering_of c.args.head.now.place.sps.now c.args.head.now.header.now in
      let idr = is_idr c.args.head.now.header.now in let bit = c.args.head.now.header.now.frame_num.bit in
      r ≡ (if idr || not (is_reference c.args.head.now.header.now) || is_new_num c.args.prev_ref_frame_num.now n.frame_num c.fill_frames.new.held
      then Ok tt else Err (No bit FrameNum))) →
      Plays (span (took_with frames g.S.Elements.took) g.S.Elements.failures c.args.sink.now c.fill_frames.new.sink) (λ (x : Unit {0}). x)
      (outcome_of (gap_rules depth (slice_at c.args.head.now.place c.args.head.now.header.now []) c.args.prev_ref_frame_num.now c.args.held.now t.buffer)) r
  number-plays r h = rules-last _ _ _ (played _ _ _ _
      (met _ _ _ _ (begins _ _
      (gap_rules depth (slice_at c.args.head.now.place c.args.head.now.header.now []) c.args.prev_ref_frame_num.now c.args.held.now t.buffer) _)
      (rw (c.gap_before-count.ensures, c.requires.numbered, c.is_some-idr.ensures) at c.in_ok-check_missing.ensures))
      ((rw (c.gap_before-count.ensures, c.requires.numbered, c.is_some-idr.ensures) at c.in_ok-last.ensures.plays) depth frames t next k))
      (h ∙ new-filled _ _ _ _ (numbering_of c.args.head.now.place.sps.now c.args.head.now.header.now) c.args.held.now _
      (rw (c.gap_before-count.ensures, c.requires.numbered, c.is_some-idr.ensures) at c.in_ok-last.ensures.held))

pub returns-in_err-check_new-clause-plays : goal.returns-in_err-check_new-clause-plays
returns-in_err-check_new-clause-plays g c =
    let p = err_from_is_err_and c.from_residual-in_err-check_new.result c.from_residual-in_err-check_new.ensures.1 in
    rw (p.1, p.2) (λ depth frames t next k. number-plays g (goal.at.returns-in_err-check_new-clause-plays g c).In_ok-last depth frames t next k _
    (rw (c.requires.numbered, c.is_some-idr.ensures) at c.in_err-check_new.ensures))

pub returns-clause-plays : goal.returns-clause-plays
returns-clause-plays g c = λ depth frames t next k. number-plays g (goal.at.returns-clause-plays g c).In_ok-last depth frames t next k _
    (rw (c.requires.numbered, c.is_some-idr.ensures) at c.in_ok-check_new.ensures)

pub returns-clause-filled : goal.returns-clause-filled
returns-clause-filled g c = rw (c.gap_before-count.ensures, c.requires.numbered, c.is_some-idr.ensures) at c.in_ok-last.ensures.held
