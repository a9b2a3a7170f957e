-- The pictures that are held for reference stand in the buffer.
use Rattle.std.proofs.Common.{◌≡◌, ℕ, ◌==◌, ◌||◌, nat_lt, Bool, true, false, List, [], ◌∷◌, ◌++◌, map, length, Option, Some, None, Result, Ok, Err, ℤ, refl}
use Rattle.std.proofs.Common.{ap, sym, ◌∙◌, subst, if◌then◌else◌}
use Rattle.std.specs.List.{filter, list_any}
use Rattle.std.specs.Option.{option_map}
use Rattle.h264_base.proofs.Chains.{map-some, then-some}
use Rattle.h264_header.specs.declared.header.Operation.{Operation}
use Rattle.h264_header.specs.declared.header.Operation.TheVariants.{UnmarkShortTerm, UnmarkLongTerm, MakeLongTerm, LimitLongTerm, UnmarkAll}
use Rattle.h264_header.specs.declared.header.Operation.TheVariants.{MakeCurrentLongTerm}
use Rattle.h264_header.specs.declared.header.MarkingOperation.{MarkingOperation}
use Rattle.h264_header.specs.declared.header.Marking.{Marking}
use Rattle.h264_header.specs.declared.header.Marking.TheVariants as depth
use Rattle.h264_header.specs.Marking.{number_of}
use Rattle.h264_marking.specs.declared.frame.ReferenceFrame.{ReferenceFrame}
use Rattle.h264_marking.specs.declared.frame.Term.TheVariants.{Long}
use Rattle.h264_marking.specs.declared.frame.Numbering.{Numbering}
use Rattle.h264_marking.specs.Frames.{References, frame_places, has_pic_num, has_frame_num, long_term_num, without_pic_num, without_index}
use Rattle.h264_marking.specs.Window.{least_pic_num, slide, missing_frame, with_missing, filled}
use Rattle.h264_marking.specs.Operations.{Marks, marks_of, with_frames, pic_num_x, is_below, made_long, operated, go_on, all_operated}
use Rattle.h264_marking.specs.Held.{own_frame, with_own, slid_and_joined, joined, marked, idr_references}
use Rattle.h264_marking.specs.Ended.{resets_by}
use Rattle.h264_marking.proofs.Room.{from-ok}
use Rattle.h264_dpb.specs.Bumping.{is_picture, is_held}
use Rattle.h264_dpb.specs.Turns.{names}
use Rattle.h264_dpb.proofs.Truths.{true-or, or-true}

-- ---- which pictures are held

or-either : (a b c d : Bool) → (a ≡ true → (c || d) ≡ true) → (b ≡ true → (c || d) ≡ true) → (a || b) ≡ true → (c || d) ≡ true
or-either true b c d f g h = f refl
or-either false b c d f g h = g h

pub or-on : (a b c : Bool) → (b ≡ true → c ≡ true) → (a || b) ≡ true → (a || c) ≡ true
or-on true b c f h = refl
or-on false b c f h = f h

abbrev pub pictures_in : List ReferenceFrame → List (Option ℕ)
pictures_in frames = map (λ (f : ReferenceFrame). f.picture) frames

-- the picture of this number is among these frames
abbrev pub IsAmong : ℕ → List ReferenceFrame → Type 0
IsAmong n frames = is_held (pictures_in frames) n ≡ true

filter-by : (n : ℕ) (p : ReferenceFrame → Bool) (f : ReferenceFrame) (fs : List ReferenceFrame) (b : Bool) → p f ≡ b →
    (IsAmong n (filter p fs) → IsAmong n fs) → IsAmong n (if b then f ∷ filter p fs else filter p fs) → IsAmong n (f ∷ fs)
filter-by n p f fs true e g h = or-on (is_picture n f.picture) _ _ g h
filter-by n p f fs false e g h = or-true (is_picture n f.picture) _ (g h)

filter-holds : (n : ℕ) (p : ReferenceFrame → Bool) (fs : List ReferenceFrame) → IsAmong n (filter p fs) → IsAmong n fs
filter-holds n p [] h = h
filter-holds n p (f ∷ fs) h = filter-by n p f fs (p f) refl (filter-holds n p fs) h

long-by : (b : Bool) (index : ℕ) (f : ReferenceFrame) → ReferenceFrame.picture (if b then record f { term = Long index } else f) ≡ f.picture
long-by true index f = refl
long-by false index f = refl

long-picture : (c : Numbering) (number : ℤ) (index : ℕ) (f : ReferenceFrame) → (made_long c number index f).picture ≡ f.picture
long-picture c number index f = long-by (has_pic_num c number f) index f

map-holds : (n : ℕ) (g : ReferenceFrame → ReferenceFrame) (same : (f : ReferenceFrame) → (g f).picture ≡ f.picture) (fs : List ReferenceFrame) →
    pictures_in (map g fs) ≡ pictures_in fs
map-holds n g same [] = refl
map-holds n g same (f ∷ fs) = ap (λ (o : Option ℕ). o ∷ pictures_in (map g fs)) (same f) ∙ ap (λ (l : List (Option ℕ)). f.picture ∷ l) (map-holds n g same fs)

-- one more frame
after-holds : (n : ℕ) (fs : List ReferenceFrame) (f : ReferenceFrame) → IsAmong n (fs ++ f ∷ []) → (is_picture n f.picture || is_held (pictures_in fs) n) ≡ true
after-holds n [] f h = h
after-holds n (g ∷ fs) f h = or-either (is_picture n g.picture) (is_held (pictures_in (fs ++ f ∷ [])) n) (is_picture n f.picture)
    (is_picture n g.picture || is_held (pictures_in fs) n) (λ e. or-true (is_picture n f.picture) _ (true-or _ _ e))
    (λ e. or-either (is_picture n f.picture) (is_held (pictures_in fs) n) (is_picture n f.picture) _ (λ q. true-or _ _ q)
    (λ q. or-true (is_picture n f.picture) _ (or-true (is_picture n g.picture) _ q)) (after-holds n fs f e)) h

slid-by : (n : ℕ) (c : Numbering) (fs gs : List ReferenceFrame) (b : Bool) (least : Option ℤ) →
    (let o : Option (List ReferenceFrame) = if b then Some fs else option_map (λ least. without_pic_num c least fs) least in o) ≡ Some gs → IsAmong n gs →
    IsAmong n fs
slid-by n c fs gs true least e h = let same : fs ≡ gs = cc in subst (λ (l : List ReferenceFrame). IsAmong n l) (sym same) h
slid-by n c fs gs false None e h = cc
slid-by n c fs gs false (Some x) e h = let same : without_pic_num c x fs ≡ gs = cc in
    filter-holds n _ fs (subst (λ (l : List ReferenceFrame). IsAmong n l) (sym same) h)

slid-holds : (n : ℕ) (c : Numbering) (fs gs : List ReferenceFrame) → slide c fs ≡ Some gs → IsAmong n gs → IsAmong n fs
slid-holds n c fs gs e h = slid-by n c fs gs (nat_lt (length fs) (frame_places c.max_num_ref_frames)) (least_pic_num c fs) e h

missing-by : (n number : ℕ) (fs gs : List ReferenceFrame) (b : Bool) →
    (let o : Option (List ReferenceFrame) = if b then None else Some (fs ++ missing_frame number ∷ []) in o) ≡ Some gs → IsAmong n gs → IsAmong n fs
missing-by n number fs gs true e h = cc
missing-by n number fs gs false e h = let same : fs ++ missing_frame number ∷ [] ≡ gs = cc in
    after-holds n fs (missing_frame number) (subst (λ (l : List ReferenceFrame). IsAmong n l) (sym same) h)

-- a missing number brings none
pub filled-holds : (n : ℕ) (m : Numbering) (refs next : References) → filled m refs ≡ Some next → IsAmong n next.frames → IsAmong n refs.frames
unfolding filled
filled-holds n m refs next e h =
    let a = map-some (λ frames. let r : References = record refs { frames = frames } in r) _ next e in
    let b = then-some (with_missing m.frame_num) (slide m refs.frames) a.0 a.1 in
    let same : a.0 ≡ next.frames = ap (λ (r : References). r.frames) a.2 in
    slid-holds n m refs.frames b.0 b.1 (missing-by n m.frame_num b.0 a.0 (list_any (has_frame_num m.frame_num) b.0) b.2
    (subst (λ (l : List ReferenceFrame). IsAmong n l) (sym same) h))

-- ---- operations

if-some : {A : Type 0} (b : Bool) (x y : A) → (if b then Some x else None) ≡ Some y → x ≡ y
if-some true x y e = cc
if-some false x y e = cc

operated-holds : (n : ℕ) (c : Numbering) (o : Operation) (marks next : Marks) → operated c o marks ≡ Some next → IsAmong n next.held.frames →
    IsAmong n marks.held.frames
operated-holds n c (UnmarkShortTerm difference) marks next e h = let same = if-some _ _ _ e in
    filter-holds n _ marks.held.frames (subst (λ (m : Marks). IsAmong n m.held.frames) (sym same) h)
operated-holds n c (UnmarkLongTerm number) marks next e h = let same = if-some _ _ _ e in
    filter-holds n _ marks.held.frames (subst (λ (m : Marks). IsAmong n m.held.frames) (sym same) h)
operated-holds n c (MakeLongTerm difference index) marks next e h =
    let same = if-some _ _ _ e in
    let all = subst (λ (m : Marks). IsAmong n m.held.frames) (sym same) h in
    filter-holds n _ marks.held.frames (subst (λ (l : List (Option ℕ)). is_held l n ≡ true)
    (map-holds n (made_long c (pic_num_x c difference) index) (long-picture c (pic_num_x c difference) index) (without_index index marks.held.frames))
    all)
operated-holds n c (LimitLongTerm limit) marks next e h = let same = if-some _ _ _ e in
    filter-holds n _ marks.held.frames (subst (λ (m : Marks). IsAmong n m.held.frames) (sym same) h)
operated-holds n c UnmarkAll marks next e h = let same = if-some _ _ _ e in
    let none : IsAmong n [] = subst (λ (m : Marks). IsAmong n m.held.frames) (sym same) h in cc
operated-holds n c (MakeCurrentLongTerm index) marks next e h = let same = if-some _ _ _ e in
    filter-holds n _ marks.held.frames (subst (λ (m : Marks). IsAmong n m.held.frames) (sym same) h)

went-on : (r : Option Marks) (bit : ℕ) (rest : Marks → Result Marks ℕ) (next : Marks) → go_on r bit rest ≡ Ok next → (m : Marks) × (r ≡ Some m) ×
    (rest m ≡ Ok next)
went-on None bit rest next e = cc
went-on (Some m) bit rest next e = (m, refl, e)

all-holds : (n : ℕ) (c : Numbering) (os : List MarkingOperation) (marks next : Marks) → all_operated c os marks ≡ Ok next → IsAmong n next.held.frames →
    IsAmong n marks.held.frames
unfolding all_operated
all-holds n c [] marks next e h = let same : marks ≡ next = cc in subst (λ (m : Marks). IsAmong n m.held.frames) (sym same) h
all-holds n c (o ∷ os) marks next e h =
    let s = went-on (operated c o.operation marks) o.bit (all_operated c os) next e in
    operated-holds n c o.operation marks s.0 s.1 (all-holds n c os s.0 next s.2 h)

-- ---- a picture that is marked

own-by : (n : ℕ) (c : Numbering) (picture : ℕ) (marks : Marks) (next : References) (b : Bool) →
    (let o : Option References = if b then Some (record marks.held { frames = marks.held.frames ++ own_frame c picture marks ∷ [] }) else None in
    o ≡ Some next) → IsAmong n next.frames → (picture == n || is_held (pictures_in marks.held.frames) n) ≡ true
own-by n c picture marks next b e h =
    let same = if-some b _ _ e in
    after-holds n marks.held.frames (own_frame c picture marks) (subst (λ (r : References). IsAmong n r.frames) (sym same) h)

own-holds : (n : ℕ) (c : Numbering) (picture : ℕ) (marks : Marks) (next : References) → with_own c picture marks ≡ Some next → IsAmong n next.frames →
    (picture == n || is_held (pictures_in marks.held.frames) n) ≡ true
own-holds n c picture marks next e h = own-by n c picture marks next (nat_lt (length marks.held.frames) (frame_places c.max_num_ref_frames)) e h

joined-holds : (n : ℕ) (c : Numbering) (picture bit : ℕ) (os : List MarkingOperation) (refs next : References) (r : Result Marks ℕ) →
    all_operated c os (marks_of refs) ≡ r → joined c picture bit r ≡ Ok next → IsAmong n next.frames → (picture == n || is_held (names refs) n) ≡ true
joined-holds n c picture bit os refs next (Err at) a is h = cc
joined-holds n c picture bit os refs next (Ok marks) a is h =
    or-on (picture == n) _ _ (λ k. all-holds n c os (marks_of refs) marks a k)
    (own-holds n c picture marks next (from-ok (with_own c picture marks) bit next is) h)

-- it alone joins those that were held
pub marked-holds : (n : ℕ) (c : Numbering) (picture bit : ℕ) (marking : Marking) (refs next : References) → marked c picture bit marking refs ≡ Ok next →
    IsAmong n next.frames → (picture == n || is_held (names refs) n) ≡ true
unfolding marked
marked-holds n c picture bit (depth.Idr no_output long_term) refs next is h =
    let same : idr_references c picture long_term ≡ next = cc in
    or-on (picture == n) false _ (λ e. cc) (subst (λ (r : References). IsAmong n r.frames) (sym same) h)
marked-holds n c picture bit depth.SlidingWindow refs next is h =
    let s = then-some (λ frames. with_own c picture (with_frames (marks_of refs) frames)) (slide c refs.frames) next
    (from-ok (slid_and_joined c picture refs) bit next is) in
    or-on (picture == n) _ _ (λ k. slid-holds n c refs.frames s.0 s.1 k) (own-holds n c picture (with_frames (marks_of refs) s.0) next s.2 h)
marked-holds n c picture bit (depth.Adaptive operations) refs next is h = joined-holds n c picture bit operations.items refs next _ refl is h

-- ---- where nothing else is held: after an IDR picture and operation 5

abbrev IsBare : Marks → Type 0
IsBare marks = marks.held.frames ≡ []

bare-on : (c : Numbering) (o : Operation) (marks next : Marks) → operated c o marks ≡ Some next → (number_of o == 5) ≡ true → IsBare next
bare-on c (UnmarkShortTerm difference) marks next e f = cc
bare-on c (UnmarkLongTerm number) marks next e f = cc
bare-on c (MakeLongTerm difference index) marks next e f = cc
bare-on c (LimitLongTerm limit) marks next e f = cc
bare-on c UnmarkAll marks next e f = let same = if-some _ _ _ e in subst IsBare same refl
bare-on c (MakeCurrentLongTerm index) marks next e f = cc

bare-stays : (c : Numbering) (o : Operation) (marks next : Marks) → operated c o marks ≡ Some next → IsBare marks → IsBare next
bare-stays c (UnmarkShortTerm difference) marks next e b = let same = if-some _ _ _ e in
    subst IsBare same (ap (λ (l : List ReferenceFrame). without_pic_num c (pic_num_x c difference) l) b)
bare-stays c (UnmarkLongTerm number) marks next e b = let same = if-some _ _ _ e in
    subst IsBare same (ap (λ (l : List ReferenceFrame). without_index number l) b)
bare-stays c (MakeLongTerm difference index) marks next e b = let same = if-some _ _ _ e in
    subst IsBare same (ap (λ (l : List ReferenceFrame). map (made_long c (pic_num_x c difference) index) (without_index index l)) b)
bare-stays c (LimitLongTerm limit) marks next e b = let same = if-some _ _ _ e in
    subst IsBare same (ap (λ (l : List ReferenceFrame). filter (λ f. is_below limit (long_term_num f.term)) l) b)
bare-stays c UnmarkAll marks next e b = let same = if-some _ _ _ e in subst IsBare same refl
bare-stays c (MakeCurrentLongTerm index) marks next e b = let same = if-some _ _ _ e in
    subst IsBare same (ap (λ (l : List ReferenceFrame). without_index index l) b)

bare-all : (c : Numbering) (os : List MarkingOperation) (marks next : Marks) → all_operated c os marks ≡ Ok next → IsBare marks → IsBare next
unfolding all_operated
bare-all c [] marks next e b = let same : marks ≡ next = cc in subst IsBare same b
bare-all c (o ∷ os) marks next e b =
    let s = went-on (operated c o.operation marks) o.bit (all_operated c os) next e in
    bare-all c os s.0 next s.2 (bare-stays c o.operation marks s.0 s.1 b)

pub reset-by : (a b : Bool) (P : Type 0) → (a || b) ≡ true → (a ≡ true → P) → (b ≡ true → P) → P
reset-by true b P e f g = f refl
reset-by false b P e f g = g e

reset-all : (c : Numbering) (os : List MarkingOperation) (marks next : Marks) → all_operated c os marks ≡ Ok next →
    list_any (λ (o : MarkingOperation). number_of o.operation == 5) os ≡ true → IsBare next
unfolding all_operated
reset-all c [] marks next e r = cc
reset-all c (o ∷ os) marks next e r =
    let s = went-on (operated c o.operation marks) o.bit (all_operated c os) next e in
    reset-by (number_of o.operation == 5) _ (IsBare next) r (λ f. bare-all c os s.0 next s.2 (bare-on c o.operation marks s.0 s.1 f))
    (λ f. reset-all c os s.0 next s.2 f)

joined-bare : (n : ℕ) (c : Numbering) (picture bit : ℕ) (os : List MarkingOperation) (refs next : References) (r : Result Marks ℕ) →
    all_operated c os (marks_of refs) ≡ r → list_any (λ (o : MarkingOperation). number_of o.operation == 5) os ≡ true → joined c picture bit r ≡ Ok next →
    IsAmong n next.frames → (picture == n) ≡ true
joined-bare n c picture bit os refs next (Err at) a t is h = cc
joined-bare n c picture bit os refs next (Ok marks) a t is h =
    let k = own-holds n c picture marks next (from-ok (with_own c picture marks) bit next is) h in
    let l : (picture == n || false) ≡ true =
    subst (λ (fs : List ReferenceFrame). (picture == n || is_held (pictures_in fs) n) ≡ true) (reset-all c os (marks_of refs) marks a t) k in
    alone (picture == n) l
  where
    alone : (b : Bool) → (b || false) ≡ true → b ≡ true
    alone true e = refl
    alone false e = e

-- it alone is held
pub reset-holds : (n : ℕ) (c : Numbering) (picture bit : ℕ) (marking : Marking) (refs next : References) → marked c picture bit marking refs ≡ Ok next →
    resets_by marking ≡ true → IsAmong n next.frames → (picture == n) ≡ true
unfolding marked
reset-holds n c picture bit (depth.Idr no_output long_term) refs next is t h = cc
reset-holds n c picture bit depth.SlidingWindow refs next is t h = cc
reset-holds n c picture bit (depth.Adaptive operations) refs next is t h = joined-bare n c picture bit operations.items refs next _ refl t is h
