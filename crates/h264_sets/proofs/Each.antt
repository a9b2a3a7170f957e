-- What holds of each set that is kept.
use Rattle.std.proofs.Common.{◌≡◌, ℕ, zero, suc, List, [], ◌∷◌, Option, Some, None, replicate, subst}
use Rattle.std.specs.Prelude.{slice_set}
use Rattle.h264_sets.specs.Sets.{set_at, EachSet}

pub none-each : {T : Type 0} (P : T → Type 0) (n : ℕ) → EachSet P (replicate n None)
none-each P zero = tt
none-each P (suc n) = none-each P n

pub put-each : {T : Type 0} (P : T → Type 0) (sets : List (Option T)) (id : ℕ) (set : T) → P set → EachSet P sets → EachSet P (slice_set sets id (Some set))
put-each P [] id set h e = tt
put-each P (None ∷ sets) zero set h e = (h, e)
put-each P (Some other ∷ sets) zero set h e = (h, e.1)
put-each P (None ∷ sets) (suc id) set h e = put-each P sets id set h e
put-each P (Some other ∷ sets) (suc id) set h e = (e.0, put-each P sets id set h e.1)

pub of-each : {T : Type 0} (P : T → Type 0) (sets : List (Option T)) (id : ℕ) (set : T) → EachSet P sets → set_at sets id ≡ Some set → P set
of-each P [] id set e s = cc
of-each P (None ∷ sets) zero set e s = cc
of-each P (Some other ∷ sets) zero set e s = let same : other ≡ set = cc in subst P same e.0
of-each P (None ∷ sets) (suc id) set e s = of-each P sets id set e s
of-each P (Some other ∷ sets) (suc id) set e s = of-each P sets id set e.1 s
