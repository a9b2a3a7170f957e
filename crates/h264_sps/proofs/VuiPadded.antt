-- An array whose first places are those of a list, and whose other places are empty.
use Rattle.std.proofs.Common.{◌≡◌, ℕ, ◌-◌, ◌≤◌, List, ◌++◌, take, drop, length, replicate, ap, sym, ◌∙◌, arith}
use Rattle.std.proofs.lemmas.List.{take-append-drop, length-take-le}
use Rattle.h264_sps.specs.declared.hrd.Cpb.{Cpb}
use Rattle.h264_sps.specs.declared.hrd.Cpbs.{Cpbs}
use Rattle.h264_sps.specs.Hrd.{cpbs_of, no_cpb}

pub padded : {X : Type 0} (xs : List X) (i n : ℕ) (z : X) → i ≤ n → length xs ≡ n → drop i xs ≡ replicate (n - i) z →
    xs ≡ take i xs ++ replicate (n - length (take i xs)) z
padded xs i n z h k e =
    let l : length (take i xs) ≡ i = length-take-le i xs (omega arith) in
    sym (take-append-drop i xs) ∙ ap (λ r. take i xs ++ r) e ∙ ap (λ m. take i xs ++ replicate (n - m) z) (sym l)

pub cpbs-are : (xs : List Cpb) (i n : ℕ) → i ≡ n → n ≤ 32 → length xs ≡ 32 → drop i xs ≡ replicate (32 - i) no_cpb →
    (let c : Cpbs = record { entries = xs; count = n } in c) ≡ cpbs_of (take i xs)
cpbs-are xs i n at few k e =
    let l : length (take i xs) ≡ i = length-take-le i xs (omega arith) in
    let p = padded xs i 32 no_cpb (omega arith) k e in
    let same : n ≡ length (take i xs) = omega arith in
    ap (λ (o : List Cpb). let c : Cpbs = record { entries = o; count = n } in c) p
    ∙ ap (λ m. let c : Cpbs = record { entries = take i xs ++ replicate (32 - length (take i xs)) no_cpb; count = m } in c) same
