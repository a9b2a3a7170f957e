-- The definitions on pictures whose order of output is known.
use Rattle.std.proofs.Common.{◌≡◌, ℕ, Bool, true, false, List, [], ◌∷◌, ◌++◌, map, ℤ, pos, refl}
use Rattle.h264_dpb.specs.declared.entry.Entry.{Entry}
use Rattle.h264_dpb.specs.Bumping.{Step, bumped, made_room, placed, marked, emptied, stored_reference, stored_other, flushed}
use Rattle.h264_dpb.specs.Buffered.{reference_step, other_step}

abbrev picture : ℕ → ℕ → Bool → Entry ℕ
picture k count reference = record { of = k; count = pos count; waiting = true; reference = reference }

abbrev counts : List (Entry ℕ) → List ℤ
counts es = map (λ e. e.count) es

-- an IDR picture with count 0, and then two pictures with counts 8 and 4 that are not used for reference, in a buffer of so many places
abbrev one : ℕ → Step ℕ
one size = reference_step (picture 0 0 true) (λ k. true) 0 (record { entries = []; missing = 0; size = size })

abbrev two : ℕ → Step ℕ
two size = other_step (picture 1 8 false) (record { entries = (one size).entries; missing = 0; size = size })

abbrev three : ℕ → Step ℕ
three size = other_step (picture 2 4 false) (record { entries = (two size).entries; missing = 0; size = size })

abbrev output : ℕ → List ℤ
output size = counts ((one size).written ++ (two size).written ++ (three size).written ++ (flushed true (three size).entries).written)

in-one-place : output 1 ≡ pos 0 ∷ pos 8 ∷ pos 4 ∷ []
unfolding bumped made_room placed marked emptied stored_reference stored_other flushed
in-one-place = refl

in-two-places : output 2 ≡ pos 0 ∷ pos 4 ∷ pos 8 ∷ []
unfolding bumped made_room placed marked emptied stored_reference stored_other flushed
in-two-places = refl

-- of the same count the first in decoding order goes first
abbrev same : Step ℕ
same = flushed true (picture 3 7 false ∷ picture 1 7 true ∷ picture 2 5 false ∷ [])

ties : map (λ (e : Entry ℕ). e.of) same.written ≡ 2 ∷ 3 ∷ 1 ∷ []
unfolding bumped made_room emptied flushed
ties = refl
