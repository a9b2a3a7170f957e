-- An array whose first places are those of a list, and whose other places are empty.
use Rattle.std.proofs.Common.{◌≡◌, ℕ, ℤ, pos, ◌-◌, ◌≤◌, List, ◌++◌, take, drop, length, replicate, ap, ◌∙◌, arith}
use Rattle.std.proofs.lemmas.List.{length-take-le}
use Rattle.h264_sps.specs.declared.count_type.Cycle.{Cycle}
use Rattle.h264_sps.proofs.VuiPadded.{padded}
use Rattle.h264_sps.specs.Counting.{cycle_of}

pub cycle-is : (xs : List ℤ) (i length' : ℕ) → i ≡ length' → length' ≤ 255 → length xs ≡ 255 → drop i xs ≡ replicate (255 - i) (pos 0) →
    (let c : Cycle = record { offset_for_ref_frame = xs; length = length' } in c) ≡ cycle_of (take i xs)
cycle-is xs i n at few k e =
    let l : length (take i xs) ≡ i = length-take-le i xs (omega arith) in
    let p = padded xs i 255 (pos 0) (omega arith) k e in
    let same : n ≡ length (take i xs) = omega arith in
    ap (λ (o : List ℤ). let c : Cycle = record { offset_for_ref_frame = o; length = n } in c) p
    ∙ ap (λ m. let c : Cycle = record { offset_for_ref_frame = take i xs ++ replicate (255 - length (take i xs)) (pos 0); length = m } in c) same
