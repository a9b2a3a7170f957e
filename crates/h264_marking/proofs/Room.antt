-- No more frames are held than there are places.
use Rattle.std.proofs.Common.{◌≡◌, ℕ, ◌+◌, ◌<◌, ◌≤◌, Bool, true, false, Option, Some, None, Result, Ok, Err, List, [], ◌∷◌, ◌++◌, length, nat_lt, ℤ, refl, ap}
use Rattle.std.proofs.Common.{sym, ◌∙◌, cond, arith, length-append}
use Rattle.std.proofs.lemmas.Bool.Decides.{nat_tests}
use Rattle.std.specs.Prelude.{unwrap_or, OnOk}
use Rattle.std.specs.Option.{is_some, option_map, option_and_then, ok_or}
use Rattle.std.specs.Result.{result_unwrap_or}
use Rattle.h264_base.specs.declared.rule.Rule.TheVariants.{MarkCommand}
use Rattle.h264_base.specs.declared.stop.Stop.{Stop}
use Rattle.h264_base.specs.declared.stop.Stop.TheVariants.{No}
use Rattle.h264_header.specs.declared.header.Marking.{Marking}
use Rattle.h264_header.specs.declared.header.Marking.TheVariants as mode
use Rattle.h264_marking.specs.declared.frame.ReferenceFrame.{ReferenceFrame}
use Rattle.h264_marking.specs.declared.frame.Numbering.{Numbering}
use Rattle.h264_marking.specs.Frames.{References, frame_places, without_pic_num}
use Rattle.h264_marking.specs.Window.{least_pic_num, slide, with_missing, missing_frame, filled}
use Rattle.h264_marking.specs.Operations.{Marks, marks_of, with_frames, all_operated}
use Rattle.h264_marking.specs.Held.{with_own, own_frame, idr_references, slid_and_joined, joined, marked, mark_answer}
use Rattle.h264_marking.proofs.Kept.{slid-fewer}

abbrev frames_or : List ReferenceFrame → Option References → List ReferenceFrame
frames_or d None = d
frames_or d (Some refs) = refs.frames

-- where the frames have places, the window makes room for one more
slid-by : (c : Numbering) (xs ys : List ReferenceFrame) (free : Bool) (least : Option ℤ) → nat_lt (length xs) (frame_places c.max_num_ref_frames) ≡ free →
    least_pic_num c xs ≡ least → length xs ≤ frame_places c.max_num_ref_frames →
    cond free (Some xs) (option_map (λ n. without_pic_num c n xs) least) ≡ Some ys → length ys < frame_places c.max_num_ref_frames
slid-by c xs ys true least f l few is = let same : xs ≡ ys = cc in let lt : length xs < frame_places c.max_num_ref_frames = grind (arith, nat_tests) in
    omega (arith, ap length same)
slid-by c xs ys false None f l few is = cc
slid-by c xs ys false (Some n) f l few is = let same : without_pic_num c n xs ≡ ys = cc in let fewer = slid-fewer c n xs l in omega (arith, ap length same)

slid-room : (c : Numbering) (xs ys : List ReferenceFrame) → length xs ≤ frame_places c.max_num_ref_frames → slide c xs ≡ Some ys →
    length ys < frame_places c.max_num_ref_frames
slid-room c xs ys few is = slid-by c xs ys _ _ refl refl few is

missing-by : (n : ℕ) (ys zs : List ReferenceFrame) (held : Bool) →
    (let o : Option (List ReferenceFrame) = cond held None (Some (ys ++ missing_frame n ∷ [])) in o) ≡ Some zs → length zs ≡ length ys + 1
missing-by n ys zs true is = cc
missing-by n ys zs false is = let same : ys ++ missing_frame n ∷ [] ≡ zs = cc in sym (ap length same) ∙ length-append ys (missing_frame n ∷ [])

filled-by : (m : Numbering) (refs next : References) (o : Option (List ReferenceFrame)) → slide m refs.frames ≡ o →
    length refs.frames ≤ frame_places m.max_num_ref_frames →
    option_map (λ frames. record refs { frames = frames }) (option_and_then (with_missing m.frame_num) o) ≡ Some next →
    length next.frames ≤ frame_places m.max_num_ref_frames
filled-by m refs next None s few is = cc
filled-by m refs next (Some ys) s few is =
    let by : (p : Option (List ReferenceFrame)) → with_missing m.frame_num ys ≡ p →
    option_map (λ frames. let r : References = record refs { frames = frames } in r) p ≡ Some next →
    length next.frames ≤ frame_places m.max_num_ref_frames =
    λ p. elim p as (λ p. with_missing m.frame_num ys ≡ p → option_map (λ frames. let r : References = record refs { frames = frames } in r) p ≡ Some next →
    length next.frames ≤ frame_places m.max_num_ref_frames) [
      | None ↦ λ w e. cc
      | Some zs ↦ λ w e. (
          let same : zs ≡ next.frames = ap (λ (o : Option References). frames_or zs o) e in
          let more = missing-by m.frame_num ys zs _ w in
          let room = slid-room m refs.frames ys few s in
          omega (arith, ap length same))
    ]
    in by (with_missing m.frame_num ys) refl is

pub filled-room : (m : Numbering) (refs next : References) → filled m refs ≡ Some next → length refs.frames ≤ frame_places m.max_num_ref_frames →
    length next.frames ≤ frame_places m.max_num_ref_frames
unfolding filled
filled-room m refs next is few = filled-by m refs next (slide m refs.frames) refl few is

with_own-by : (c : Numbering) (picture : ℕ) (marks : Marks) (next : References) (free : Bool) →
    nat_lt (length marks.held.frames) (frame_places c.max_num_ref_frames) ≡ free →
    cond free (Some (record marks.held { frames = marks.held.frames ++ own_frame c picture marks ∷ [] })) None ≡ Some next →
    length next.frames ≤ frame_places c.max_num_ref_frames
with_own-by c picture marks next false f is = cc
with_own-by c picture marks next true f is =
    let lt : length marks.held.frames < frame_places c.max_num_ref_frames = grind (arith, nat_tests) in
    let same : marks.held.frames ++ own_frame c picture marks ∷ [] ≡ next.frames = ap (λ (o : Option References). frames_or [] o) is in
    let more = length-append marks.held.frames (own_frame c picture marks ∷ []) in
    omega (arith, ap length same)

own-room : (c : Numbering) (picture : ℕ) (marks : Marks) (next : References) → with_own c picture marks ≡ Some next →
    length next.frames ≤ frame_places c.max_num_ref_frames
own-room c picture marks next is = with_own-by c picture marks next _ refl is

slid-own-room : (c : Numbering) (picture : ℕ) (refs next : References) (o : Option (List ReferenceFrame)) →
    option_and_then (λ frames. with_own c picture (with_frames (marks_of refs) frames)) o ≡ Some next → length next.frames ≤ frame_places c.max_num_ref_frames
slid-own-room c picture refs next None is = cc
slid-own-room c picture refs next (Some frames) is = own-room c picture (with_frames (marks_of refs) frames) next is

pub from-ok : {A : Type 0} (o : Option A) (bit : ℕ) (next : A) → ok_or o bit ≡ Ok next → o ≡ Some next
from-ok None bit next is = cc
from-ok (Some a) bit next is = cc

joined-room : (c : Numbering) (picture bit : ℕ) (r : Result Marks ℕ) (next : References) → joined c picture bit r ≡ Ok next →
    length next.frames ≤ frame_places c.max_num_ref_frames
joined-room c picture bit (Err at) next is = cc
joined-room c picture bit (Ok marks) next is = own-room c picture marks next (from-ok (with_own c picture marks) bit next is)

pub marked-room : (c : Numbering) (picture bit : ℕ) (marking : Marking) (refs next : References) → marked c picture bit marking refs ≡ Ok next →
    length next.frames ≤ frame_places c.max_num_ref_frames
unfolding marked
marked-room c picture bit (mode.Idr no_output long_term) refs next is = let same : idr_references c picture long_term ≡ next = cc in
    (let one = ap (λ (r : References). length r.frames) same in omega arith)
marked-room c picture bit mode.SlidingWindow refs next is =
    slid-own-room c picture refs next (slide c refs.frames) (from-ok (slid_and_joined c picture refs) bit next is)
marked-room c picture bit (mode.Adaptive operations) refs next is = joined-room c picture bit (all_operated c operations.items (marks_of refs)) next is

-- what the code of a gap answers, and what it leaves
some-mapped : {A B : Type 0} (f : A → B) (o : Option A) → is_some (option_map f o) ≡ is_some o
some-mapped f None = refl
some-mapped f (Some x) = refl

frames-left : (refs : References) (o : Option (List ReferenceFrame)) →
    (let r : References = record refs { frames = unwrap_or o refs.frames } in r) ≡
    unwrap_or (option_map (λ frames. let r : References = record refs { frames = frames } in r) o) refs
frames-left refs None = refl
frames-left refs (Some frames) = refl

pub filled-some : (m : Numbering) (refs now : References) (r : Bool) → refs ≡ now →
    r ≡ is_some (option_and_then (with_missing m.frame_num) (slide m refs.frames)) → is_some (filled m now) ≡ r
unfolding filled
filled-some m refs now r e is = rw (← e, is) (some-mapped _ (option_and_then (with_missing m.frame_num) (slide m refs.frames)))

pub filled-left : (m : Numbering) (refs now : References) (left : List ReferenceFrame) → refs ≡ now →
    left ≡ unwrap_or (option_and_then (with_missing m.frame_num) (slide m refs.frames)) refs.frames →
    (let r : References = record refs { frames = left } in r) ≡ unwrap_or (filled m now) now
unfolding filled
filled-left m refs now left e is = rw (← e, is) (frames-left refs (option_and_then (with_missing m.frame_num) (slide m refs.frames)))

filled-kept-by : (m : Numbering) (now left : References) (o : Option References) → filled m now ≡ o → left ≡ unwrap_or o now →
    length now.frames ≤ frame_places m.max_num_ref_frames → length left.frames ≤ frame_places m.max_num_ref_frames
filled-kept-by m now left None f is few = rw is few
filled-kept-by m now left (Some next) f is few = rw is (filled-room m now next f few)

pub filled-kept : (m : Numbering) (now left : References) → left ≡ unwrap_or (filled m now) now → length now.frames ≤ frame_places m.max_num_ref_frames →
    length left.frames ≤ frame_places m.max_num_ref_frames
filled-kept m now left is few = filled-kept-by m now left (filled m now) refl is few

-- what a marking leaves
marked-kept-by : (c : Numbering) (picture bit : ℕ) (marking : Marking) (refs left : References) (result : Result (Unit {0}) Stop) (r : Result References ℕ) →
    marked c picture bit marking refs ≡ r → result ≡ mark_answer r → left ≡ result_unwrap_or r refs →
    OnOk result (length left.frames ≤ frame_places c.max_num_ref_frames)
marked-kept-by c picture bit marking refs left result (Ok next) m answer is = rw (answer, is) (marked-room c picture bit marking refs next m)
marked-kept-by c picture bit marking refs left result (Err at) m answer is = rw answer tt

pub marked-kept : (c : Numbering) (picture bit : ℕ) (marking : Marking) (refs left : References) (result : Result (Unit {0}) Stop) →
    result ≡ mark_answer (marked c picture bit marking refs) → left ≡ result_unwrap_or (marked c picture bit marking refs) refs →
    OnOk result (length left.frames ≤ frame_places c.max_num_ref_frames)
marked-kept c picture bit marking refs left result answer is =
    marked-kept-by c picture bit marking refs left result (marked c picture bit marking refs) refl answer is

-- what the code of the sliding window answers, and what it leaves
pub met-answer : (o : Option References) (bit : ℕ) (r : Bool) → r ≡ is_some o → r ≡ true →
    (let done : Result (Unit {0}) Stop = Ok tt in done) ≡ mark_answer (ok_or o bit)
met-answer None bit r is t = cc
met-answer (Some refs) bit r is t = refl

pub unmet-answer : (o : Option References) (bit : ℕ) (r : Bool) (stop : Stop) → r ≡ is_some o → r ≡ false → stop ≡ No bit MarkCommand →
    (let refused : Result (Unit {0}) Stop = Err stop in refused) ≡ mark_answer (ok_or o bit)
unmet-answer None bit r stop is f e = rw e refl
unmet-answer (Some refs) bit r stop is f e = cc

pub joined-left : (o : Option References) (bit : ℕ) (refs left : References) → left ≡ unwrap_or o refs → left ≡ result_unwrap_or (ok_or o bit) refs
joined-left None bit refs left is = is
joined-left (Some next) bit refs left is = is
