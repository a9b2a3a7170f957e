-- Gaps that are filled number by number.
use Rattle.std.proofs.Common.{◌≡◌, ℕ, suc, ◌+◌, ◌-◌, ◌%◌, ◌<◌, List, ◌∷◌, Option, Some, None, unwrap_or, Result, Ok, Err, refl, ap, sym, ◌∙◌, arith}
use Rattle.std.proofs.Common.{if◌then◌else◌}
use Rattle.std.specs.Option.{is_some, option_and_then}
use Rattle.h264_base.specs.declared.rule.Rule.TheVariants.{FrameNum}
use Rattle.h264_base.specs.declared.stop.Stop.{Stop}
use Rattle.h264_base.specs.declared.stop.Stop.TheVariants.{No}
use Rattle.h264_marking.specs.declared.frame.Numbering.{Numbering}
use Rattle.h264_marking.specs.Frames.{References}
use Rattle.h264_marking.specs.Window.{filled}
use Rattle.h264_marking.specs.Gaps.{numbers_from, last_or, all_filled}

-- the missing numbers after this one
abbrev numbers_after : ℕ → ℕ → ℕ → List ℕ
numbers_after count number max_frame_num = numbers_from count ((number + 1) % max_frame_num) max_frame_num

-- So many of the missing numbers have been filled; the rest is still to come.
pub record Filled (n : Numbering) (count prev : ℕ) (held : References) (turn last : ℕ) (now : References) : Type 0 where
  pub frames : all_filled n (numbers_after count prev n.max_frame_num) held ≡ all_filled n (numbers_after (count - turn) last n.max_frame_num) now
  pub number : last_or prev (numbers_after count prev n.max_frame_num) ≡ last_or last (numbers_after (count - turn) last n.max_frame_num)

-- what filling one answers
pub filled-some : (o : Option References) (old new : References) (x : Unit {0}) (e : Stop) → Ok x ≡ (if is_some o then Ok tt else Err e) →
    new ≡ unwrap_or o old → o ≡ Some new
filled-some None old new x e h k = cc
filled-some (Some refs) old new x e h k = ap Some (sym k)

pub filled-none : (o : Option References) (e f : Stop) → (let r : Result (Unit {0}) Stop = Err f in r ≡ (if is_some o then Ok tt else Err e)) → (o ≡ None) ×
    (f ≡ e)
filled-none None e f h = (refl, cc)
filled-none (Some refs) e f h = cc

pub filled-first : (n : Numbering) (count prev : ℕ) (held : References) → Filled n count prev held 0 prev held
filled-first n count prev held =
    let e : count - 0 ≡ count = omega arith in
    record {
      frames = ap (λ k. all_filled n (numbers_after k prev n.max_frame_num) held) (sym e);
      number = ap (λ k. last_or prev (numbers_after k prev n.max_frame_num)) (sym e);
    }

-- one more number
numbers-step : (k count number max_frame_num : ℕ) → count ≡ suc k →
    numbers_after count number max_frame_num ≡ (number + 1) % max_frame_num ∷ numbers_after k ((number + 1) % max_frame_num) max_frame_num
numbers-step k count number max_frame_num e = ap (λ c. numbers_after c number max_frame_num) e

step : (n : Numbering) (left k last : ℕ) (now next : References) → left ≡ suc k →
    filled (record n { frame_num = (last + 1) % n.max_frame_num }) now ≡ Some next →
    all_filled n (numbers_after left last n.max_frame_num) now ≡ all_filled n (numbers_after k ((last + 1) % n.max_frame_num) n.max_frame_num) next
step n left k last now next e f = ap (λ l. all_filled n l now) (numbers-step k left last n.max_frame_num e) ∙
    ap (option_and_then (all_filled n (numbers_after k ((last + 1) % n.max_frame_num) n.max_frame_num))) f

step-none : (n : Numbering) (left k last : ℕ) (now : References) → left ≡ suc k → filled (record n { frame_num = (last + 1) % n.max_frame_num }) now ≡ None →
    all_filled n (numbers_after left last n.max_frame_num) now ≡ None
step-none n left k last now e f = ap (λ l. all_filled n l now) (numbers-step k left last n.max_frame_num e) ∙
    ap (option_and_then (all_filled n (numbers_after k ((last + 1) % n.max_frame_num) n.max_frame_num))) f

pub left-is : (count turn : ℕ) → turn < count → count - turn ≡ suc (count - (turn + 1))
left-is count turn h = omega arith

pub filled-next : (n : Numbering) (count prev : ℕ) (held : References) (turn last : ℕ) (now next : References) (x : Unit {0}) (bit : ℕ) →
    Filled n count prev held turn last now → turn < count →
    Ok x ≡ (if is_some (filled (record n { frame_num = (last + 1) % n.max_frame_num }) now) then Ok tt else Err (No bit FrameNum)) →
    next ≡ unwrap_or (filled (record n { frame_num = (last + 1) % n.max_frame_num }) now) now →
    Filled n count prev held (turn + 1) ((last + 1) % n.max_frame_num) next
filled-next n count prev held turn last now next x bit f h ok new = record {
  frames = f.frames ∙ step n (count - turn) (count - (turn + 1)) last now next (left-is count turn h)
      (filled-some (filled (record n { frame_num = (last + 1) % n.max_frame_num }) now) now next x (No bit FrameNum) ok new);
  number = f.number ∙ ap (last_or last) (numbers-step (count - (turn + 1)) (count - turn) last n.max_frame_num (left-is count turn h));
}

pub filled-refused : (n : Numbering) (count prev : ℕ) (held : References) (turn last : ℕ) (now : References) (e : Stop) (bit : ℕ) →
    Filled n count prev held turn last now → turn < count →
    (let r : Result (Unit {0}) Stop = Err e in
    r ≡ (if is_some (filled (record n { frame_num = (last + 1) % n.max_frame_num }) now) then Ok tt else Err (No bit FrameNum))) →
    (all_filled n (numbers_from count ((prev + 1) % n.max_frame_num) n.max_frame_num) held ≡ None) × (e ≡ No bit FrameNum)
filled-refused n count prev held turn last now e bit f h err =
    let g = filled-none (filled (record n { frame_num = (last + 1) % n.max_frame_num }) now) (No bit FrameNum) e err in
    (f.frames ∙ step-none n (count - turn) (count - (turn + 1)) last now (left-is count turn h) g.0, g.1)

pub none-left : (count : ℕ) → count - count ≡ 0
none-left count = omega arith

pub filled-last : (n : Numbering) (count prev : ℕ) (held : References) (last : ℕ) (now : References) → Filled n count prev held count last now →
    (all_filled n (numbers_from count ((prev + 1) % n.max_frame_num) n.max_frame_num) held ≡ Some now) ×
    (last ≡ last_or prev (numbers_from count ((prev + 1) % n.max_frame_num) n.max_frame_num))
filled-last n count prev held last now f = (
  f.frames ∙ ap (λ k. all_filled n (numbers_after k last n.max_frame_num) now) (none-left count),
  sym (f.number ∙ ap (λ k. last_or last (numbers_after k last n.max_frame_num)) (none-left count)),
)
