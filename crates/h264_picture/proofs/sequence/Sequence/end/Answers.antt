use Rattle.std.proofs.Common.{◌≡◌, Option, Some, ap, ◌∙◌}
use Rattle.h264_picture.specs.declared.canvas.Canvas.{Canvas}
use Rattle.h264_picture.specs.Lent.{lent_within, written_place}
use Rattle.h264_picture.proofs.Made.{whole-made}
use Rattle.h264_picture.proofs.sequence.Sequence.end.Goals as goal

pub returns-in-Some-clause-decoded : goal.returns-in-Some-clause-decoded
returns-in-Some-clause-decoded c width size making picture h n = whole-made width size making picture c.args.self.now _ h n
    (λ k e.
    let same : c.in-Some.canvas ≡ k = cc (c.in-Some.is, e) in
    ap (λ (o : Option Canvas). lent_within c.end.new.self (written_place o)) c.in-Some.is ∙ c.end.ensures.lent ∙
    ap (λ (x : Canvas). Some x.frames.frame) same)
