-- What is kept of the macroblocks of the picture that may go on.
use Rattle.std.proofs.Common.{◌≡◌, ◌==◌, ℕ, Bool, true, false, if◌then◌else◌, List, [], ◌∷◌, length, Option, Some, None, Result, Ok, Err, refl, ap, subst}
use Rattle.h264_base.specs.declared.rule.Rule.TheVariants.{Incomplete}
use Rattle.h264_base.specs.declared.stop.Stop.{Stop}
use Rattle.h264_base.specs.declared.stop.Stop.TheVariants.{No}
use Rattle.h264_near.specs.Coded.{CodedMacroblock}
use Rattle.h264_picture.specs.declared.work.Work.{Work}
use Rattle.h264_picture.specs.Holds.{HoldsMacroblocks}
use Rattle.h264_verify.specs.Pictures.{CodedPicture, last_slice, picture_size, open_of}
use Rattle.h264_verify.specs.Order.{whole_picture, coded_before}
use Rattle.h264_verify.specs.Keeping.{HoldsCoded, HoldsNewest, HoldsOpen}
use Rattle.h264_verify.specs.Outcome.{answers}
use Rattle.h264_verify.specs.Course.{nothing}
use Rattle.h264_verify.specs.CourseOutcome.{outcome_of}
use Rattle.h264_verify.specs.declared.picture.OpenPicture.{OpenPicture}

-- A slice that goes on has as many macroblocks before it as are kept.
pub coded-before : (pictures : List CodedPicture) (work : Work) (n : ℕ) →
    ((width size : ℕ) (picture : List CodedMacroblock) → HoldsMacroblocks width size picture work → n ≡ length picture) → HoldsNewest false pictures work →
    n ≡ coded_before false pictures
coded-before [] work n c k = absurd k
coded-before (p ∷ pictures) work n c k = c p.first.sps.frame_size.width (picture_size p.first.sps) (last_slice p).macroblocks k

-- What comes of a rule that is checked.
pub checked-outcome : (whole : Bool) (stop : Stop) (r : Result (Unit {0}) Stop) → r ≡ (if whole then Ok tt else Err stop) →
    answers r ≡ (if whole then answers (Ok tt) else answers (Err stop))
checked-outcome true stop r h = ap (λ (x : Result (Unit {0}) Stop). answers x) h
checked-outcome false stop r h = ap (λ (x : Result (Unit {0}) Stop). answers x) h

-- The end of the picture that may go on.
pub whole-outcome : (on : Bool) (pictures : List CodedPicture) (picture : Option OpenPicture) (o : OpenPicture) (work : Work) (whole : Bool) → picture ≡
    Some o → HoldsOpen (open_of on pictures) picture → HoldsCoded (open_of on pictures) work →
    ((width size : ℕ) (ms : List CodedMacroblock) → HoldsMacroblocks width size ms work → whole ≡ (length ms == size)) →
    (if whole then answers (Ok tt) else answers (Err (No o.following Incomplete))) ≡ outcome_of (if on then whole_picture pictures else nothing)
whole-outcome on [] picture o work whole e h k c = absurd (subst (HoldsOpen None) e h)
whole-outcome false (p ∷ pictures) picture o work whole e h k c = absurd (subst (HoldsOpen None) e h)
whole-outcome true (p ∷ pictures) picture o work whole e h k c =
    rw ((subst (HoldsOpen (Some p)) e h).following, c p.first.sps.frame_size.width (picture_size p.first.sps) (last_slice p).macroblocks k) refl

pub none-whole : (on : Bool) (pictures : List CodedPicture) (picture : Option OpenPicture) → picture ≡ None → HoldsOpen (open_of on pictures) picture →
    answers {A = Unit {0}} (Ok tt) ≡ outcome_of (if on then whole_picture pictures else nothing)
none-whole true [] picture e h = refl
none-whole false [] picture e h = refl
none-whole true (p ∷ pictures) picture e h = absurd (subst (HoldsOpen (Some p)) e h)
none-whole false (p ∷ pictures) picture e h = refl
