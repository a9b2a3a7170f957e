-- The initial delays of schedules, one after another.
use Rattle.std.proofs.Common.{◌≡◌, ℕ, suc, ◌+◌, ◌-◌, ◌<◌, ◌≤◌, List, get_or, Option, None, Some, sym, ap, ◌∙◌, arith}
use Rattle.std.specs.Option.{option_and_then}
use Rattle.h264_sps.specs.Hrd.{no_cpb}
use Rattle.h264_sps.specs.declared.hrd.Hrd.{Hrd}
use Rattle.h264_strict.specs.declared.sei.timing.InitialDelay.{InitialDelay}
use Rattle.h264_strict.specs.SeiTiming.{initial_delay, delays_from}

module _ (hrd : Hrd) (n k : ℕ) (bytes : List ℕ) (i : ℕ) where
  abbrev going-on : (m : ℕ) → Option (InitialDelay × ℕ) → Option (Unit {0} × ℕ)
  going-on m o = option_and_then (λ (x : InitialDelay × ℕ). delays_from hrd m (k + 1) bytes x.1) o

  pub delays-next : (j : ℕ) (d : InitialDelay) → k < n → Some (d, j) ≡ initial_delay hrd (get_or hrd.cpbs.entries k no_cpb) bytes i →
      delays_from hrd (n - k) k bytes i ≡ delays_from hrd (n - (k + 1)) (k + 1) bytes j
  unfolding delays_from
  delays-next j d few e =
      let up : n - k ≡ suc (n - (k + 1)) = omega arith in
      ap (λ m. delays_from hrd m k bytes i) up ∙ ap (going-on (n - (k + 1))) (sym e)

  pub delays-stop : k < n → None ≡ initial_delay hrd (get_or hrd.cpbs.entries k no_cpb) bytes i → delays_from hrd (n - k) k bytes i ≡ None
  unfolding delays_from
  delays-stop few e =
      let up : n - k ≡ suc (n - (k + 1)) = omega arith in
      ap (λ m. delays_from hrd m k bytes i) up ∙ ap (going-on (n - (k + 1))) (sym e)

  pub delays-over : n ≤ k → delays_from hrd (n - k) k bytes i ≡ Some (tt, i)
  unfolding delays_from
  delays-over over = let none : n - k ≡ 0 = omega arith in ap (λ m. delays_from hrd m k bytes i) none
