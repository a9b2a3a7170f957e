-- What is kept stands for the list of pictures.
use Rattle.std.proofs.Common.{◌≡◌, List, ◌∷◌, Option, refl, ap, sym, subst}
use Rattle.std.specs.Option.{ok_or}
use Rattle.h264_base.specs.declared.stop.Stop.{Stop}
use Rattle.h264_poc.specs.declared.picture.Count.{Count}
use Rattle.h264_poc.specs.declared.picture.Picture.{Picture}
use Rattle.h264_poc.specs.declared.step.History.{History}
use Rattle.h264_poc.specs.Counts.{prev_of, prev_frame_num, prev_frame_num_offset, follows_non_reference, start_of, prev_by, count_with, count_of, offset_of}
use Rattle.h264_poc.specs.Counts.{history_after, Keeps}

pub answered : (o r : Option Count) (s : Stop) → o ≡ r → ok_or o s ≡ ok_or r s
answered o r s e = ap (λ (x : Option Count). ok_or x s) e

pub counted-as : (pictures : List Picture) (p : Picture) (h : History) → Keeps pictures h →
    count_of pictures p ≡ count_with p h.prev (offset_of h p) h.non_reference
unfolding count_of
counted-as pictures p h k = rw (k.prev, k.frame_num, k.frame_num_offset, k.non_reference) refl

pub kept-as : (pictures : List Picture) (p : Picture) (h h' : History) → Keeps pictures h →
    h' ≡ history_after h p (prev_by p.order p.resets (start_of p.idr h.prev)) (offset_of h p) → Keeps (p ∷ pictures) h'
unfolding prev_of prev_frame_num prev_frame_num_offset follows_non_reference
kept-as pictures p h h' k e =
    let K : History → Type 0 = Keeps (p ∷ pictures) in
    subst K (sym e) (record {
      prev = rw k.prev refl;
      frame_num = refl;
      frame_num_offset = rw (k.frame_num, k.frame_num_offset) refl;
      non_reference = refl;
    })
