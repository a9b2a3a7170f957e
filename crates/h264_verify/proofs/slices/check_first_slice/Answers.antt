use Rattle.std.proofs.Common.{List, [], ◌≡◌, ℕ, ◌∙◌, Some, Ok, OnOk, sym, ap, subst}
use Rattle.std.proofs.lemmas.Result.{err_from_is_err_and}
use Rattle.h264_marking.specs.Frames.{References}
use Rattle.h264_verify.specs.Keeping.{pictures_by, slice_at}
use Rattle.h264_verify.specs.declared.slices.PicturesSoFar.{PicturesSoFar}
use Rattle.h264_poc.specs.declared.picture.Picture.{Picture}
use Rattle.h264_dpb.specs.Buffered.{Buffered}
use Rattle.h264_dpb.specs.Turns.{Shown}
use Rattle.h264_verify.specs.declared.state.Depth.{Depth}
use Rattle.h264_verify.specs.Course.{Steps}
use Rattle.h264_verify.specs.Order.{rules_before_gap, rules_after_gap, gap_rules, first_slice_rules}
use Rattle.h264_verify.specs.Pictures.{CodedSlice}
use Rattle.h264_verify.specs.Lists.{list_of}
use Rattle.h264_verify.proofs.language.Played.{begins, met, unmet, played, stops, rules-last}
use Rattle.h264_verify.proofs.language.SliceSteps.{stops-at, answers-last}
use Rattle.h264_verify.proofs.judged.SliceRules.{type-met}
use Rattle.h264_verify.proofs.slices.check_first_slice.Goals as goal
use Rattle.h264_base.proofs.Plain.{on-ok}

-- its rules, in turn
abbrev rules-at : Depth → PicturesSoFar → List Picture → Buffered Shown → CodedSlice → Steps
rules-at depth slices pictures b slice = first_slice_rules depth (pictures_by slices pictures b) slice

pub returns-in_err-check_type-clause-plays : goal.returns-in_err-check_type-clause-plays
returns-in_err-check_type-clause-plays g c =
    let slice = slice_at c.args.head.now.place c.args.head.now.header.now [] in
    let p = err_from_is_err_and c.from_residual.result c.from_residual.ensures.1 in
    rw (p.1, p.2) (λ depth frames t next pictures k kept. unmet _ _ (rules_before_gap slice) _
    (begins _ _ (rules-at depth c.args.slices.now pictures t.buffer slice) _) (stops-at 0 (rules_before_gap slice) _ c.in_err-check_type.ensures))

pub returns-in_err-check_idr_num-clause-plays : goal.returns-in_err-check_idr_num-clause-plays
returns-in_err-check_idr_num-clause-plays g c =
    let slice = slice_at c.args.head.now.place c.args.head.now.header.now [] in
    let p = err_from_is_err_and c.from_residual-in_err-check_idr_num.result c.from_residual-in_err-check_idr_num.ensures.1 in
    rw (p.1, p.2) (λ depth frames t next pictures k kept. unmet _ _ (rules_before_gap slice) _
    (begins _ _ (rules-at depth c.args.slices.now pictures t.buffer slice) _)
    (stops-at 1 (rules_before_gap slice) _ (_, c.in_ok-check_type.ensures, c.in_err-check_idr_num.ensures)))

pub returns-in_err-check_gap-clause-plays : goal.returns-in_err-check_gap-clause-plays
returns-in_err-check_gap-clause-plays g c =
    let slice = slice_at c.args.head.now.place c.args.head.now.header.now [] in
    let p = err_from_is_err_and c.from_residual-in_err-check_gap.result c.from_residual-in_err-check_gap.ensures.1 in
    rw (p.1, p.2) (λ depth frames t next pictures k kept.
    stops _ _ (gap_rules depth slice c.args.slices.now.prev_ref_frame_num c.args.slices.now.held t.buffer) _ (met _ _ (rules_before_gap slice) _
    (begins _ _ (rules-at depth c.args.slices.now pictures t.buffer slice) _)
    (answers-last (rules_before_gap slice) _ (_, c.in_ok-check_type.ensures, c.in_ok-check_idr_num.ensures)))
    (c.in_err-check_gap.ensures.plays depth frames t next k))

-- what is kept of the slices, but for frame_num and the held frames
others-of : (old new : PicturesSoFar) (prev : ℕ) (held : References) → new ≡
    record old { counts = new.counts; count = new.count; prev_ref_frame_num = prev; held = held } →
    new ≡ record old { counts = new.counts; count = new.count; prev_ref_frame_num = new.prev_ref_frame_num; held = new.held }
others-of old new prev held e =
    let p : new.prev_ref_frame_num ≡ prev = ap (λ (s : PicturesSoFar). s.prev_ref_frame_num) e in
    let h : new.held ≡ held = ap (λ (s : PicturesSoFar). s.held) e in
    e ∙ ap (λ (x : ℕ). record old { counts = new.counts; count = new.count; prev_ref_frame_num = x; held = held }) (sym p) ∙
    ap (λ (x : References). record old { counts = new.counts; count = new.count; prev_ref_frame_num = new.prev_ref_frame_num; held = x }) (sym h)

pub returns : goal.returns
returns g c =
    let same = c.check_new_picture.ensures.others in
    let r = c.check_new_picture.result in
    record {
      plays = λ depth frames t next pictures k kept.
          let slice = slice_at c.args.head.now.place c.args.head.now.header.now [] in
          let before = pictures_by c.args.slices.now pictures t.buffer in
          rules-last _ _ (rules_after_gap before slice)
          (played _ _ (gap_rules depth slice before.prev_ref_frame_num before.held before.buffer) _
          (met _ _ (rules_before_gap slice) _ (begins _ _ (first_slice_rules depth before slice) _)
          (answers-last (rules_before_gap slice) _ (_, c.in_ok-check_type.ensures, c.in_ok-check_idr_num.ensures)))
          (c.in_ok-check_gap.ensures.plays depth frames t next k)) (rw c.in_ok-check_gap.ensures.held at (c.check_new_picture.ensures.judged pictures kept));
      gap = λ depth frames t next k. on-ok r (c.in_ok-check_gap.ensures.keeps depth frames t next k);
      no_memory = c.check_new_picture.ensures.no_memory;
      format = c.in_ok-check_gap.ensures.format;
      counts = c.check_new_picture.ensures.counts;
      count = c.check_new_picture.ensures.count;
      held = on-ok r (ap (λ (s : PicturesSoFar). s.held) same ∙ c.in_ok-check_gap.ensures.held);
      filled = on-ok r (c.in_ok-check_gap.ensures.filled ∙ ap (λ (s : PicturesSoFar). Some s.held) (sym same));
      typed = on-ok r (type-met c.args.head.now.place.sps.now c.args.head.now.header.now _ c.in_ok-check_type.ensures);
      prev = on-ok r (ap (λ (s : PicturesSoFar). s.prev_ref_frame_num) same ∙ c.in_ok-check_gap.ensures.prev);
      others = others-of c.args.slices.now _ _ _ same;
      list = subst (λ (s : PicturesSoFar). OnOk r (list_of c.args.head.now.header.now.kind.value c.args.head.now.numbering s.held ≡
          Ok c.check_new_picture.new.list.items)) (sym same) c.check_new_picture.ensures.list;
      kept = on-ok r c.in_ok-check_gap.ensures.kept;
    }
