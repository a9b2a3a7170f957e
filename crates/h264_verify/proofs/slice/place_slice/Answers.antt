use Rattle.std.proofs.Common.{◌≡◌, Result, Ok, Err, OnOk, OnErr, ap, ◌∙◌, ◌*◌, refl}
use Rattle.std.specs.Option.{is_some}
use Rattle.std.proofs.lemmas.Result.{err_from_is_err_and}
use Rattle.h264_base.specs.declared.stop.Stop.{Stop}
use Rattle.h264_verify.specs.declared.slices.PicturesSoFar.{PicturesSoFar}
use Rattle.h264_verify.specs.Telling.{frame_span}
use Rattle.h264_verify.specs.Pictures.{goes_on, runs_of}
use Rattle.h264_verify.specs.Framing.{JudgesSlice, slice_after}
use Rattle.h264_verify.proofs.language.SliceSteps.{sets-before, some-of}
use Rattle.h264_verify.proofs.kept.KeepsEntered.{begins-as}
use Rattle.h264_verify.proofs.judged.SliceJudged.{slice-begins, slice-closed, slice-stands, before-held}
use Rattle.h264_verify.proofs.language.Played.{stops, unmet}
use Rattle.h264_verify.specs.Order.{close_if, standing_demands, coded_before}
use Rattle.h264_verify.specs.Slices.{first_mb_demands}
use Rattle.h264_verify.proofs.slice.place_slice.Goals as goal

-- what follows where it is well, and where it is not
on-ok : (r : Result (Unit {0}) Stop) {A : Type 0} → (Ok tt ≡ r → A) → OnOk r A
on-ok (Ok x) f = f refl
on-ok (Err e) f = tt

on-err : (r : Result (Unit {0}) Stop) (P : Result (Unit {0}) Stop → Type 0) → ((e : Stop) → Err e ≡ r → P (Err e)) → OnErr r (P r)
on-err (Ok x) P f = tt
on-err (Err e) P f = f e refl

pub close_if-requires-clause-kept : goal.close_if-requires-clause-kept
close_if-requires-clause-kept g c = let k = c.requires.kept in
    record { depth = k.depth; frames = k.frames; before = k.before; slices_are = k.slices_are; keeps = k.keeps }

-- ---- the picture before it does not end, or its sets do not stand

pub returns-in_err-close_if-clause-refused : goal.returns-in_err-close_if-clause-refused
returns-in_err-close_if-clause-refused g c =
    let h = c.args.state.now.slice.header in
    let p = err_from_is_err_and c.from_residual.result c.from_residual.ensures.1 in
    rw (p.1, p.2) (λ depth frames before named k m w d.
    let b = begins-as before h c.args.state.now.slices _ k c.requires.begins in
    let e = c.in_err-close_if.ensures.closes depth frames before k d in
    record {
      made = e.made;
      same = e.same;
      plays = stops _ _ (close_if c.args.begins depth before) _ (slice-begins _ _ depth before c.args.unit.now h c.args.begins b _) e.plays;
      enters = tt;
    })

pub returns-in_err-close_if-clause-pictures : goal.returns-in_err-close_if-clause-pictures
returns-in_err-close_if-clause-pictures g c = ap (λ (s : PicturesSoFar). s.pictures) c.in_err-close_if.ensures.others

pub returns-in_err-check_standing-clause-refused : goal.returns-in_err-check_standing-clause-refused
returns-in_err-check_standing-clause-refused g c =
    let h = c.args.state.now.slice.header in
    let p = err_from_is_err_and c.from_residual-in_err-check_standing.result c.from_residual-in_err-check_standing.ensures.1 in
    rw (p.1, p.2) (λ depth frames before named k m w d.
    let b = begins-as before h c.args.state.now.slices _ k c.requires.begins in
    let e = c.in_ok-close_if.ensures.closes depth frames before k d in
    let broken = rw c.from-bit.ensures.value at (c.in_err-check_standing.ensures.judged named w) in
    record {
      made = e.made;
      same = e.same;
      plays = unmet _ _ (standing_demands c.args.begins named.1 c.close_if.new.slices.due c.args.state.now.sets (8 * c.args.unit.now.from) h) _
          (slice-closed _ _ depth before c.args.unit.now h c.args.begins b c.close_if.new.slices.due c.args.state.now.sets
          (c.in_ok-close_if.ensures.ended before k).due m named w _ _ _ e.plays) broken;
      enters = tt;
    })

pub returns-in_err-check_standing-clause-pictures : goal.returns-in_err-check_standing-clause-pictures
returns-in_err-check_standing-clause-pictures g c = ap (λ (s : PicturesSoFar). s.pictures) c.in_ok-close_if.ensures.others

-- ---- they stand: it begins where it should, or not

pub returns : goal.returns
returns g c =
    let h = c.args.state.now.slice.header in
    let r = c.check_first_mb.result in
    record {
      refused = λ depth frames before named k m w d.
          let b = begins-as before h c.args.state.now.slices _ k c.requires.begins in
          let kept = c.in_ok-close_if.ensures.ended before k in
          let e = c.in_ok-close_if.ensures.closes depth frames before k d in
          let stands = rw c.from-bit.ensures.value at (c.in_ok-check_standing.ensures.judged named w) in
          let first = c.check_first_mb.ensures.judged depth (runs_of before)
          (before-held depth e.made (goes_on before) c.args.begins (runs_of before) h c.close_if.new.decoder b e.keeps) in
          on-err r (λ (x : Result (Unit {0}) Stop). JudgesSlice depth
          (frame_span g.S.Elements.took g.S.Elements.failures frames c.args.sink.now c.close_if.new.sink)
          (slice_after before c.args.unit.now h c.args.begins) named c.close_if.new.decoder x)
          (λ stop broken. record {
            made = e.made;
            same = e.same;
            plays = unmet _ _ (first_mb_demands depth (coded_before c.args.begins (runs_of before)) h) _
                (slice-stands _ _ depth before c.args.unit.now h c.args.begins b c.close_if.new.slices.due c.args.state.now.sets kept.due m named w _ _ _ _
                e.plays stands) (broken ∙ first);
            enters = tt;
          });
      placed = λ depth frames before k d.
          let b = begins-as before h c.args.state.now.slices _ k c.requires.begins in
          let e = c.in_ok-close_if.ensures.closes depth frames before k d in
          let first = c.check_first_mb.ensures.judged depth (runs_of before)
          (before-held depth e.made (goes_on before) c.args.begins (runs_of before) h c.close_if.new.decoder b e.keeps) in
          on-ok r (λ well. record {
            closes = e;
            ended = c.in_ok-close_if.ensures.ended before k;
            stands = λ named w. rw c.from-bit.ensures.value at (c.in_ok-check_standing.ensures.judged named w);
            first = well ∙ first;
          });
      sets = on-ok r (λ well. c.in_ok-check_standing.ensures.activated);
      named = on-ok r (λ well.
          let some = some-of _ c.requires.named in
          ap is_some (sets-before c.args.state.now.sets _ h _ c.in_ok-check_standing.ensures.activated some.1));
      format = c.in_ok-close_if.ensures.format;
      pictures = ap (λ (s : PicturesSoFar). s.pictures) c.in_ok-close_if.ensures.others;
      units = refl;
      slice = refl;
      no_memory = c.check_first_mb.ensures.no_memory;
      kept = on-ok r (λ well. c.in_ok-close_if.ensures.kept);
    }
