use Rattle.std.proofs.Common.{◌≡◌, Bool, true, false, List, [], ◌∷◌, if◌then◌else◌, refl, ap, ◌∙◌}
use Rattle.h264_dpb.specs.Buffered.{places_taken}
use Rattle.h264_dpb.specs.Turns.{Turn}
use Rattle.h264_verify.specs.declared.state.Depth.TheVariants as depths
use Rattle.h264_verify.specs.Pictures.{CodedPicture, goes_on, runs_of}
use Rattle.h264_verify.specs.Buffering.{within_newest, after_all}
use Rattle.h264_verify.specs.Keeping.{buffer_by}
use Rattle.h264_verify.proofs.kept.WhereMade.{some-made, none-made}
use Rattle.h264_verify.proofs.state.State.places_taken.Goals as goal

-- the buffer while the newest picture may go on, and once it has ended
buffer-of : (on : Bool) (pictures : List CodedPicture) → buffer_by on false pictures ≡ (if on then within_newest pictures else after_all pictures)
buffer-of true [] = refl
buffer-of false [] = refl
buffer-of true (p ∷ ps) = refl
buffer-of false (p ∷ ps) = refl

pub returns-in-None : goal.returns-in-None
returns-in-None c = λ frames before k. absurd (none-made _ depths.Full _ c.in-None.is k.decoder)

pub returns-in-Some : goal.returns-in-Some
returns-in-Some c = λ frames before k.
    let o = (some-made _ depths.Full _ _ c.in-Some.is k.decoder).1.output in
    c.places_taken.ensures _ _ _ o.buffer o.ordered ∙ ap (λ (t : Turn). places_taken t.buffer) (buffer-of (goes_on before) (runs_of before))
