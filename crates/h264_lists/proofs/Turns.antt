-- Modifications of a list.
use Rattle.std.proofs.Common.{◌≡◌, ℕ, ℤ, zero, suc, ◌+◌, ◌-◌, ◌<◌, ◌≤◌, Bool, true, false, not, cond, List, [], ◌∷◌, ◌++◌, take, drop, length, get_or, Option}
use Rattle.std.proofs.Common.{Some, None, Result, Ok, Err, refl, ap, sym, ◌∙◌, arith, length-append, length-take, length-drop, zero-add}
use Rattle.std.specs.List.{insert, remove, position, position_or_len, find}
use Rattle.std.proofs.lemmas.Bool.Decides.{nat_tests}
use Rattle.std.proofs.lemmas.Int.{ints}
use Rattle.std.proofs.lemmas.List.{append-nil, take_all, drop_all, drop_more, take-append-drop, take-append-le}
use Rattle.h264_header.specs.declared.header.PicNumModification.{PicNumModification}
use Rattle.h264_marking.specs.declared.frame.ReferenceFrame.{ReferenceFrame}
use Rattle.h264_marking.specs.declared.frame.Numbering.{Numbering}
use Rattle.h264_lists.specs.declared.slot.RefSlot.{RefSlot}
use Rattle.h264_lists.specs.declared.slot.RefSlot.TheVariants.{Held}
use Rattle.h264_lists.specs.Modified.{IsWithin, pred_after, is_named, is_in, without_first, put_at, go_on, modified, source}
use Rattle.h264_lists.proofs.Order.{prefix-short}

pub within-more : (m n : ℕ) (z : ℤ) → m ≤ n → IsWithin m z → IsWithin n z
within-more m n z h w = let l = w.low in let u = w.high in record { low = omega (arith, ints); high = omega (arith, ints) }

position-some : {X : Type 0} (p : X → Bool) (xs : List X) (j : ℕ) → position p xs ≡ Some j → (position_or_len p xs ≡ j) × (j < length xs)
position-some p xs j e = grind (arith, nat_tests)

position-none : {X : Type 0} (p : X → Bool) (xs : List X) → position p xs ≡ None → position_or_len p xs ≡ length xs
position-none p xs e = let h = prefix-short (λ x. not (p x)) xs in grind (arith, nat_tests)

without-turn : (b : Bool) (slot : RefSlot) (slots rest : List RefSlot) (n : ℕ) → rest ≡ remove slots n →
    cond b slots (slot ∷ rest) ≡ remove (slot ∷ slots) (cond (not b) (1 + n) 0)
without-turn true slot slots rest n e = refl
without-turn false slot slots rest n e = let more : 1 + n ≡ suc n = omega arith in rw more (ap (λ (x : List RefSlot). slot ∷ x) e)

without-removes : (is : RefSlot → Bool) (slots : List RefSlot) → without_first is slots ≡ remove slots (position_or_len is slots)
without-removes is [] = refl
without-removes is (slot ∷ slots) = without-turn (is slot) slot slots (without_first is slots) (position_or_len is slots) (without-removes is slots)

remove-after : {X : Type 0} (xs ys : List X) (j : ℕ) → xs ++ remove ys j ≡ remove (xs ++ ys) (length xs + j)
remove-after [] ys j = rw zero-add refl
remove-after {X} (x ∷ xs) ys j = let more : suc (length xs) + j ≡ suc (length xs + j) = omega arith in
    rw more (ap (λ (l : List X). x ∷ l) (remove-after xs ys j))

length-remove : {X : Type 0} (xs : List X) (i : ℕ) → i < length xs → length (remove xs i) ≡ length xs - 1
length-remove {X} xs i h =
    let a = length-append (take i xs) (drop (suc i) xs) in
    let t = length-take i xs in
    let d = length-drop (suc i) xs in
    omega arith

remove-at : (is : RefSlot → Bool) (slots : List RefSlot) (k : ℕ) → k ≤ length slots →
    take k slots ++ without_first is (drop k slots) ≡ remove slots (k + position_or_len is (drop k slots))
remove-at is slots k h =
    let begun : length (take k slots) ≡ k = (let t = length-take k slots in omega arith) in
    let whole = take-append-drop k slots in
    ap (λ (x : List RefSlot). take k slots ++ x) (without-removes is (drop k slots)) ∙
    rw (begun, whole) at (remove-after (take k slots) (drop k slots) (position_or_len is (drop k slots)))

-- the frame leaves a place at or after k
pub leaves-its : (is : RefSlot → Bool) (slots : List RefSlot) (k j : ℕ) → k < length slots → position is (drop k slots) ≡ Some j → (k + j < length slots) ×
    (take (length slots - 1) (take k slots ++ without_first is (drop k slots)) ≡ remove slots (k + j))
leaves-its is slots k j h e =
    let found = position-some is (drop k slots) j e in
    let d = length-drop k slots in
    let below : k + j < length slots = omega (arith, found.1) in
    let at = rw found.0 at (remove-at is slots k (omega arith)) in
    let len = length-remove slots (k + j) below in
    (below, ap (take (length slots - 1)) at ∙ take_all (length slots - 1) (remove slots (k + j)) (omega arith))

-- it leaves none, and the last of the list goes
remove-end : {X : Type 0} (xs : List X) (n : ℕ) → length xs ≤ n → remove xs n ≡ xs
remove-end xs n h = rw (take_all n xs h, drop_all (suc n) xs (omega arith)) (append-nil xs)

remove-last : {X : Type 0} (xs : List X) → take (length xs - 1) xs ≡ remove xs (length xs - 1)
remove-last {X} xs = sym (ap (λ (l : List X). take (length xs - 1) xs ++ l) (drop_all (suc (length xs - 1)) xs (omega arith)) ∙
    append-nil (take (length xs - 1) xs))

pub leaves-last : (is : RefSlot → Bool) (slots : List RefSlot) (k : ℕ) → k < length slots → position is (drop k slots) ≡ None →
    take (length slots - 1) (take k slots ++ without_first is (drop k slots)) ≡ remove slots (length slots - 1)
leaves-last is slots k h e =
    let none = position-none is (drop k slots) e in
    let d = length-drop k slots in
    let same = remove-at is slots k (omega arith) ∙ remove-end slots (k + position_or_len is (drop k slots)) (omega arith) in
    ap (take (length slots - 1)) same ∙ remove-last slots

insert-take : {X : Type 0} (A W : List X) (x : X) (n : ℕ) → length A ≤ n → take (suc n) (A ++ x ∷ W) ≡ insert (take n (A ++ W)) (length A) x
insert-take [] W x n h = refl
insert-take (a ∷ A) W x zero h = absurd (omega arith)
insert-take {X} (a ∷ A) W x (suc n) h = ap (λ (l : List X). a ∷ l) (insert-take A W x n (omega arith))

pub put-in : (named : ReferenceFrame → Bool) (f : ReferenceFrame) (slots left new : List RefSlot) (k : ℕ) → k < length slots →
    take (length slots - 1) (take k slots ++ without_first (is_in named) (drop k slots)) ≡ left → new ≡ insert left k (Held f) →
    new ≡ put_at (length slots) k named f slots
put-in named f slots left new k h e n =
    let begun : length (take k slots) ≡ k = (let t = length-take k slots in omega arith) in
    let all : suc (length slots - 1) ≡ length slots = omega arith in
    let put = rw (all, begun) at (insert-take (take k slots) (without_first (is_in named) (drop k slots)) (Held f) (length slots - 1) (omega arith)) in
    n ∙ sym (ap (λ (l : List RefSlot). insert l k (Held f)) e) ∙ sym put

-- at or after the list's length nothing changes
pub put-after : (named : ReferenceFrame → Bool) (f : ReferenceFrame) (slots : List RefSlot) (k : ℕ) → length slots ≤ k →
    slots ≡ put_at (length slots) k named f slots
put-after named f slots k h =
    let all = take_all k slots h in
    let len = ap length all in
    let e = take-append-le (length slots) (take k slots) (Held f ∷ without_first (is_in named) (drop k slots)) (omega arith) in
    sym (e ∙ ap (take (length slots)) all ∙ take_all (length slots) slots (omega arith))

-- the list after one more modification
abbrev pub turned : Numbering → ℕ → List ReferenceFrame → ℕ → ℤ → PicNumModification → List PicNumModification → List RefSlot → Result (List RefSlot) ℕ
turned current places frames k now m ms slots =
    go_on (find (is_named current now m.modification) frames) m.bit
    (λ f. modified (source current places frames) (k + 1) now ms (put_at places k (is_named current now m.modification) f slots))

turn-of : (current : Numbering) (places k : ℕ) (frames : List ReferenceFrame) (pred : ℤ) (m : PicNumModification) (ms : List PicNumModification)
    (slots : List RefSlot) → modified (source current places frames) k pred (m ∷ ms) slots ≡
    turned current places frames k (pred_after current pred m.modification) m ms slots
unfolding modified
turn-of current places k frames pred m ms slots = refl

turn-at : (current : Numbering) (places k : ℕ) (frames : List ReferenceFrame) (pred : ℤ) (ms : List PicNumModification) (d : PicNumModification)
    (slots : List RefSlot) → k < length ms →
    modified (source current places frames) k pred (drop k ms) slots ≡
    turned current places frames k (pred_after current pred (get_or ms k d).modification) (get_or ms k d) (drop (k + 1) ms) slots
turn-at current places k frames pred ms d slots h =
    ap (λ (l : List PicNumModification). modified (source current places frames) k pred l slots) (drop_more ms k d h) ∙
    turn-of current places k frames pred (get_or ms k d) (drop (k + 1) ms) slots

pub turns-end : (current : Numbering) (places k : ℕ) (frames : List ReferenceFrame) (pred : ℤ) (ms : List PicNumModification) (slots : List RefSlot) →
    length ms ≤ k → modified (source current places frames) k pred (drop k ms) slots ≡ Ok slots
unfolding modified
turns-end current places k frames pred ms slots h = rw (drop_all k ms h) refl

turned-none : (current : Numbering) (places k : ℕ) (frames : List ReferenceFrame) (now : ℤ) (m : PicNumModification) (ms : List PicNumModification)
    (slots : List RefSlot) → None ≡ find (is_named current now m.modification) frames → Err m.bit ≡ turned current places frames k now m ms slots
turned-none current places k frames now m ms slots e =
    ap (λ (o : Option ReferenceFrame). go_on o m.bit
    (λ f. modified (source current places frames) (k + 1) now ms (put_at places k (is_named current now m.modification) f slots))) e

turned-some : (current : Numbering) (places k : ℕ) (frames : List ReferenceFrame) (now : ℤ) (m : PicNumModification) (ms : List PicNumModification)
    (f : ReferenceFrame) (slots : List RefSlot) → Some f ≡ find (is_named current now m.modification) frames →
    modified (source current places frames) (k + 1) now ms (put_at places k (is_named current now m.modification) f slots) ≡
    turned current places frames k now m ms slots
turned-some current places k frames now m ms f slots e =
    ap (λ (o : Option ReferenceFrame). go_on o m.bit
    (λ f. modified (source current places frames) (k + 1) now ms (put_at places k (is_named current now m.modification) f slots))) e

-- the modification at k names no held frame; sent is what a function is given for now
pub refused-at : (current : Numbering) (places k : ℕ) (frames : List ReferenceFrame) (pred now sent : ℤ) (ms : List PicNumModification)
    (d : PicNumModification) (slots : List RefSlot) (whole : Result (List RefSlot) ℕ) → k < length ms →
    modified (source current places frames) k pred (drop k ms) slots ≡ whole → now ≡ pred_after current pred (get_or ms k d).modification → sent ≡ now →
    None ≡ find (is_named current sent (get_or ms k d).modification) frames → Err (get_or ms k d).bit ≡ whole
refused-at current places k frames pred now sent ms d slots whole h so_far after same none =
    let named = rw (same ∙ after) at none in
    turned-none current places k frames (pred_after current pred (get_or ms k d).modification) (get_or ms k d) (drop (k + 1) ms) slots named ∙
    sym (turn-at current places k frames pred ms d slots h) ∙ so_far

-- it names one, which is put at k
pub goes-on-at : (current : Numbering) (places k : ℕ) (frames : List ReferenceFrame) (pred now sent : ℤ) (ms : List PicNumModification)
    (d : PicNumModification) (slots new : List RefSlot) (f : ReferenceFrame) (whole : Result (List RefSlot) ℕ) → k < length ms →
    modified (source current places frames) k pred (drop k ms) slots ≡ whole → now ≡ pred_after current pred (get_or ms k d).modification → sent ≡ now →
    Some f ≡ find (is_named current sent (get_or ms k d).modification) frames → length slots ≡ places →
    new ≡ put_at (length slots) k (is_named current sent (get_or ms k d).modification) f slots →
    modified (source current places frames) (k + 1) sent (drop (k + 1) ms) new ≡ whole
goes-on-at current places k frames pred now sent ms d slots new f whole h so_far after same some len put =
    let named = rw (same ∙ after) at some in
    rw (put, len, same ∙ after) (turned-some current places k frames (pred_after current pred (get_or ms k d).modification) (get_or ms k d) (drop (k + 1) ms)
    f slots named ∙ sym (turn-at current places k frames pred ms d slots h) ∙ so_far)
