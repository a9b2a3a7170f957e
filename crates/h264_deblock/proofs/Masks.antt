-- A choice lane by lane, by a mask that is 255 in a lane or 0.
use Rattle.std.proofs.Common.{◌≡◌, ℕ, ◌-◌, ◌%◌, ◌<◌, cond, arith, min, max, ltb}

pub fill : (x y z : ℕ) → y ≡ min x 1 → z ≡ (256 - y) % 256 → z ≡ cond (ltb 0 x) 255 0
fill x y z e f = grind arith

pub choice : (on a b m : ℕ) → a < 256 → b < 256 → m ≡ cond (ltb 0 on) 255 0 → max (min a m) (min b (255 - m)) ≡ cond (ltb 0 on) a b
choice on a b m p q e = grind arith
