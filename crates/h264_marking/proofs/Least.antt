-- The least FrameNumWrap, and what the window leaves.
use Rattle.std.proofs.Common.{◌≡◌, ℕ, ◌+◌, ◌<◌, Bool, true, false, Option, Some, None, List, [], ◌∷◌, ◌++◌, take, length, get_or, ℤ, refl, ap, sym, ◌∙◌, cond}
use Rattle.std.proofs.Common.{arith}
use Rattle.std.proofs.lemmas.List.{take_more}
use Rattle.std.proofs.lemmas.Int.{ints, clamps}
use Rattle.std.specs.Prelude.{◌||◌, int_lt}
use Rattle.std.specs.List.{list_any}
use Rattle.std.specs.Int.{int_min}
use Rattle.std.proofs.lemmas.Bool.Decides.{Decides-int_eq}
use Rattle.std.proofs.Math.Bool.{or-true}
use Rattle.h264_marking.specs.declared.frame.ReferenceFrame.{ReferenceFrame}
use Rattle.h264_marking.specs.declared.frame.Numbering.{Numbering}
use Rattle.h264_marking.specs.Frames.{pic_num, is_pic_num, has_pic_num}
use Rattle.h264_marking.specs.Window.{lesser, least_pic_num}

int_min-assoc : (x y z : ℤ) → int_min (int_min x y) z ≡ int_min x (int_min y z)
int_min-assoc x y z = omega (arith, ints, clamps)

lesser-none : (a : Option ℤ) → lesser a None ≡ a
lesser-none None = refl
lesser-none (Some a) = refl

lesser-assoc : (a b c : Option ℤ) → lesser (lesser a b) c ≡ lesser a (lesser b c)
lesser-assoc None b c = refl
lesser-assoc (Some a) None c = refl
lesser-assoc (Some a) (Some b) None = refl
lesser-assoc (Some a) (Some b) (Some c) = ap (λ (z : ℤ). let o : Option ℤ = Some z in o) (int_min-assoc a b c)

least_pic_num-push : (c : Numbering) (xs : List ReferenceFrame) (x : ReferenceFrame) → least_pic_num c (xs ++ x ∷ []) ≡
    lesser (least_pic_num c xs) (pic_num c x)
least_pic_num-push c [] x = lesser-none (pic_num c x)
least_pic_num-push c (y ∷ ys) x = ap (lesser (pic_num c y)) (least_pic_num-push c ys x) ∙ sym (lesser-assoc (pic_num c y) (least_pic_num c ys) (pic_num c x))

-- one more frame, as at a step of a loop
pub least_pic_num-more : (c : Numbering) (xs : List ReferenceFrame) (i : ℕ) (d : ReferenceFrame) → i < length xs →
    least_pic_num c (take (i + 1) xs) ≡ lesser (least_pic_num c (take i xs)) (pic_num c (get_or xs i d))
least_pic_num-more c xs i d h = ap (least_pic_num c) (take_more xs i d h) ∙ least_pic_num-push c (take i xs) (get_or xs i d)

is_pic_num-same : (n a : ℤ) (more : Bool) → a ≡ n → (is_pic_num n (Some a) || more) ≡ true
is_pic_num-same n a more e = let same = (Decides-int_eq a n).1 e in rw same refl

lesser-held : (n : ℤ) (o least : Option ℤ) (more : Bool) → lesser o least ≡ Some n → (least ≡ Some n → more ≡ true) → (is_pic_num n o || more) ≡ true
lesser-held n None least more h k = k h
lesser-held n (Some a) None more h k = is_pic_num-same n a more cc
lesser-held n (Some a) (Some b) more h k =
    let by : (t : Bool) → (let o : Option ℤ = Some (cond t b a) in o) ≡ Some n → (is_pic_num n (Some a) || more) ≡ true =
    λ t. elim t as (λ t. (let o : Option ℤ = Some (cond t b a) in o) ≡ Some n → (is_pic_num n (Some a) || more) ≡ true) [
      | true ↦ λ e. (let held : more ≡ true = k e in rw held (or-true (is_pic_num n (Some a))))
      | false ↦ λ e. is_pic_num-same n a more cc
    ]
    in by (int_lt b a) h

-- some frame has it
pub least_pic_num-held : (c : Numbering) (n : ℤ) (xs : List ReferenceFrame) → least_pic_num c xs ≡ Some n → list_any (has_pic_num c n) xs ≡ true
least_pic_num-held c n [] h = cc
least_pic_num-held c n (x ∷ xs) h = lesser-held n (pic_num c x) (least_pic_num c xs) (list_any (has_pic_num c n) xs) h (least_pic_num-held c n xs)

pub least_pic_num-step : (c : Numbering) (xs : List ReferenceFrame) (i : ℕ) (d : ReferenceFrame) (least p r : Option ℤ) → i < length xs →
    least ≡ least_pic_num c (take i xs) → p ≡ pic_num c (get_or xs i d) → r ≡ lesser least p → r ≡ least_pic_num c (take (i + 1) xs)
least_pic_num-step c xs i d least p r h kept own is = is ∙ rw (kept, own) (sym (least_pic_num-more c xs i d h))
