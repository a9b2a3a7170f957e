-- The last of some items, and of some more.
use Rattle.std.proofs.Common.{◌≡◌, ℕ, ◌+◌, ◌-◌, ◌≤◌, List, ◌++◌, length, drop, sym, ap, ◌∙◌, arith}
use Rattle.std.proofs.lemmas.List.{drop-append-le, length-append, length-drop}
use Rattle.circular_buffer.specs.Buffer.{keep_last}
use Rattle.std.proofs.Math.Seq.{drop-drop}

pub keep-keep : {A : Type 0} (n : ℕ) (xs ys : List A) → keep_last n (keep_last n xs ++ ys) ≡ keep_last n (xs ++ ys)
keep-keep n xs ys =
    let k : length xs - n ≤ length xs = omega arith in
    let e = drop-append-le (length xs - n) xs ys k in
    let a = length-append (drop (length xs - n) xs) ys in
    let b = length-drop (length xs - n) xs in
    let c = length-append xs ys in
    let at : length xs - n + (length (drop (length xs - n) xs ++ ys) - n) ≡ length (xs ++ ys) - n = omega (arith, a, b, c) in
    ap (λ l. drop (length (drop (length xs - n) xs ++ ys) - n) l) (sym e)
    ∙ drop-drop (length (drop (length xs - n) xs ++ ys) - n) (length xs - n) (xs ++ ys)
    ∙ ap (λ i. drop i (xs ++ ys)) at
