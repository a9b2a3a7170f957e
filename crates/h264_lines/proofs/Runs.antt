-- A run of a list.
use Rattle.std.proofs.Common.{◌≡◌, ℕ, ◌+◌, ◌-◌, ◌<◌, ◌≤◌, List, length, take, drop, slice_index, arith, ◌∙◌}
use Rattle.std.proofs.lemmas.List.{length-drop, length-take, get_or-take, get_or-drop}

pub length-run : (xs : List ℕ) (a n : ℕ) → a + n ≤ length xs → length (take (a + n - a) (drop a xs)) ≡ n
length-run xs a n room =
    let d = length-drop a xs in
    let e = length-take (a + n - a) (drop a xs) in omega (arith, d, e)

pub run-at : (xs : List ℕ) (a n x : ℕ) → a + n ≤ length xs → x < n → slice_index (take (a + n - a) (drop a xs)) x ≡ slice_index xs (a + x)
run-at xs a n x room p = get_or-take (a + n - a) (drop a xs) x 0 (omega arith) ∙ get_or-drop a xs x 0
