use Rattle.std.proofs.Common.{refl}
use Rattle.h264_dpb.specs.Shown.{frame_call}
use Rattle.h264_lines.specs.Chosen.{pending_call}
use Rattle.h264_pages.proofs.Choosing.{took-none}
use Rattle.h264_pages.proofs.Surveying.{surveyed-more}
use Rattle.h264_pages.proofs.survey.narrowed.NarrowedFrameOut.frame.Goals as goal

pub returns-clause-ok : goal.returns-clause-ok
returns-clause-ok g c =
    let call = frame_call c.args._count c.args._frame.now c.args._rectangle in
    let s = c.args.self.now in
    rw c.if-self.false (record {
      told =
          λ before h. (
            h.0,
            took-none g.S.Elements.took s.choice s.reading s.reading (pending_call s.pending) (pending_call s.pending) s.sink before call refl refl h.1,
            surveyed-more call c.note_frame.ensures.told before h.2,
          );
    })
