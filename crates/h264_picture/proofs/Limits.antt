-- The rows of the levels.
use Rattle.std.proofs.Common.{◌≡◌, ℕ, ◌≤◌, Bool, true, false, nat_le, ◌==◌, List, [], ◌∷◌, refl, find}
use Rattle.std.specs.Prelude.{IfSome}
use Rattle.std.specs.Option.{option_map}
use Rattle.std.specs.List.{list_all}
use Rattle.std.proofs.lemmas.Bool.{leb-true, and_parts}
use Rattle.h264_tables.specs.declared.level.Limits.{Limits}
use Rattle.h264_tables.specs.Level.{LevelRow, level_rows, level_named, limits_of}

abbrev slow : LevelRow → Bool
slow r = nat_le r.limits.max_vector 512

-- vectors are bounded in each row
bounded : (p : LevelRow → Bool) (rows : List LevelRow) → list_all slow rows ≡ true →
    IfSome (option_map (λ (r : LevelRow). r.limits) (find p rows)) (λ (l : Limits). l.max_vector ≤ 512)
bounded p [] a = tt
bounded p (r ∷ rows) a =
    let b = and_parts (slow r) (list_all slow rows) a in
    go (p r) refl b.0 (bounded p rows b.1)
  where
    go : (t : Bool) → p r ≡ t → slow r ≡ true → IfSome (option_map (λ (r : LevelRow). r.limits) (find p rows)) (λ (l : Limits). l.max_vector ≤ 512) →
        IfSome (option_map (λ (r : LevelRow). r.limits) (find p (r ∷ rows))) (λ (l : Limits). l.max_vector ≤ 512)
    go true e l f = rw e (leb-true r.limits.max_vector 512 l)
    go false e l f = rw e f

pub limits-bounded : (n : ℕ) (set3 : Bool) → IfSome (limits_of n set3) (λ (l : Limits). l.max_vector ≤ 512)
unfolding limits_of level_rows
limits-bounded n set3 = bounded (λ (r : LevelRow). r.level == level_named n set3) level_rows refl
