-- The exit status of one file, and of several.
use Rattle.std.proofs.Common.{◌≡◌, ℕ, max, List, [], ◌∷◌, ◌++◌, map, length, get_or, refl, ap, ◌∙◌, subst, arith}
use Rattle.h264_command.specs.Commands.{Output, from_to}
use Rattle.h264_command.specs.More.{FileDone, FilesSpan, IsStatus, done_status, worst}
use Rattle.h264_words.specs.Words.{Given}
use Rattle.h264_words.specs.declared.command_line.Task.{Task}

pub worst-more : (files : List FileDone) (f : FileDone) → worst (files ++ f ∷ []) ≡ max (worst files) (done_status f.done)
worst-more [] f = let here : max (done_status f.done) 0 ≡ max 0 (done_status f.done) = omega arith in here
worst-more (e ∷ files) f =
    let next = worst-more files f in
    let over : max (done_status e.done) (max (worst files) (done_status f.done)) ≡ max (max (done_status e.done) (worst files)) (done_status f.done) =
    omega arith in
    ap (max (done_status e.done)) next ∙ over

-- the one element of a list
pub single : {X Y : Type 0} (of : X → Y) (xs : List X) (d : X) → length xs ≡ 1 → of (get_or xs 0 d) ∷ [] ≡ map of xs
single of [] d e = absurd (omega (arith, e))
single of (x ∷ []) d e = refl
single of (x ∷ y ∷ xs) d e = absurd (omega (arith, e))

-- what comes of a task, with the same rows and devices
pub moved : {task : Task} {given given' : Given} {files : FilesSpan} {status : ℕ} {was was' out err err' now : Output} → given ≡ given' → was ≡ was' →
    err ≡ err' →
    IsStatus task given files status (from_to was out) (from_to err now) → IsStatus task given' files status (from_to was' out) (from_to err' now)
moved {task} {given} {given'} {files} {status} {was} {was'} {out} {err} {err'} {now} g o e s =
    subst (λ x. IsStatus task given' files status (from_to was' out) (from_to x now)) e
    (subst (λ x. IsStatus task given' files status (from_to x out) (from_to err now)) o
    (subst (λ x. IsStatus task x files status (from_to was out) (from_to err now)) g s))
