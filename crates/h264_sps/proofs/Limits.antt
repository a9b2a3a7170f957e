-- The rows of the levels: their numbers, and MaxFS.
use Rattle.std.proofs.Common.{◌≡◌, ℕ, ◌<◌, ◌≤◌, Bool, true, false, ◌&&◌, nat_le, ◌==◌, List, [], ◌∷◌, None, refl, ap, arith, find}
use Rattle.std.specs.Prelude.{IfSome}
use Rattle.std.specs.Option.{option_map}
use Rattle.std.specs.List.{list_all}
use Rattle.std.proofs.lemmas.Bool.{eqb-true, leb-true, and_parts}
use Rattle.h264_tables.specs.declared.level.Limits.{Limits}
use Rattle.h264_tables.specs.Level.{LevelRow, level_rows, level_named, limits_of}

abbrev low : LevelRow → Bool
low r = nat_le r.level 255

abbrev small : LevelRow → Bool
small r = nat_le r.limits.max_fs 36864

-- no row has a number above 255
none-above : (rows : List LevelRow) (n : ℕ) → list_all low rows ≡ true → 255 < n → find (λ (r : LevelRow). r.level == n) rows ≡ None
none-above [] n a h = refl
none-above (r ∷ rows) n a h =
    let b = and_parts (low r) (list_all low rows) a in
    go (r.level == n) refl b.0 (none-above rows n b.1 h)
  where
    go : (t : Bool) → (r.level == n) ≡ t → low r ≡ true → find (λ (r : LevelRow). r.level == n) rows ≡ None →
        find (λ (r : LevelRow). r.level == n) (r ∷ rows) ≡ None
    go true e l f = absurd (let x = eqb-true r.level n e in let y = leb-true r.level 255 l in omega arith)
    go false e l f = rw e f

named-same : (n : ℕ) (set3 : Bool) → 255 < n → level_named n set3 ≡ n
named-same n set3 h = go (n == 11) refl
  where
    go : (t : Bool) → (n == 11) ≡ t → level_named n set3 ≡ n
    go true e = absurd (let x = eqb-true n 11 e in omega arith)
    go false e = rw e refl

pub limits-none : (n : ℕ) (set3 : Bool) → 255 < n → limits_of n set3 ≡ None
unfolding limits_of level_rows
limits-none n set3 h = rw (named-same n set3 h) (ap (option_map (λ (r : LevelRow). r.limits)) (none-above level_rows n refl h))

-- frames are bounded in each row
bounded : (p : LevelRow → Bool) (rows : List LevelRow) → list_all small rows ≡ true →
    IfSome (option_map (λ (r : LevelRow). r.limits) (find p rows)) (λ (l : Limits). l.max_fs ≤ 36864)
bounded p [] a = tt
bounded p (r ∷ rows) a =
    let b = and_parts (small r) (list_all small rows) a in
    go (p r) refl b.0 (bounded p rows b.1)
  where
    go : (t : Bool) → p r ≡ t → small r ≡ true → IfSome (option_map (λ (r : LevelRow). r.limits) (find p rows)) (λ (l : Limits). l.max_fs ≤ 36864) →
        IfSome (option_map (λ (r : LevelRow). r.limits) (find p (r ∷ rows))) (λ (l : Limits). l.max_fs ≤ 36864)
    go true e l f = rw e (leb-true r.limits.max_fs 36864 l)
    go false e l f = rw e f

pub limits-bounded : (n : ℕ) (set3 : Bool) → IfSome (limits_of n set3) (λ (l : Limits). l.max_fs ≤ 36864)
unfolding limits_of level_rows
limits-bounded n set3 = bounded (λ (r : LevelRow). r.level == level_named n set3) level_rows refl
