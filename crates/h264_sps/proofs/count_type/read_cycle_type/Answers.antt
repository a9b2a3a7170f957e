use Rattle.std.proofs.Common.{refl}
use Rattle.h264_base.proofs.Steps.{bind, bind_as, stop, done}
use Rattle.std.proofs.Common.{rules}
use Rattle.std.proofs.lemmas.Int.{to_z-of_z}
use Rattle.std.specs.Int.{w32}
use mir.Val.{SFits}
use Rattle.h264_sps.specs.Counting.{cycle_type}
use Rattle.h264_sps.proofs.Ways.{passed-on, still}
use Rattle.h264_sps.proofs.count_type.read_cycle_type.Goals as goal

pub returns-in_err-always_zero : goal.returns-in_err-always_zero
unfolding cycle_type
returns-in_err-always_zero g c = passed-on _ c.from_residual.ensures.1 (stop _ c.in_err-always_zero.ensures)

pub returns-in_err-non_ref : goal.returns-in_err-non_ref
unfolding cycle_type
returns-in_err-non_ref g c = passed-on _ c.from_residual-in_err-non_ref.ensures.1 (bind _ c.in_ok-always_zero.ensures (stop _ c.in_err-non_ref.ensures))

pub returns-in_err-bottom : goal.returns-in_err-bottom
unfolding cycle_type
returns-in_err-bottom g c = passed-on _ c.from_residual-in_err-bottom.ensures.1
    (bind _ c.in_ok-always_zero.ensures (bind _ c.in_ok-non_ref.ensures (stop _ c.in_err-bottom.ensures)))

pub returns-in_err-count : goal.returns-in_err-count
unfolding cycle_type
returns-in_err-count g c = passed-on _ c.from_residual-in_err-count.ensures.1
    (bind _ c.in_ok-always_zero.ensures (bind _ c.in_ok-non_ref.ensures (bind _ c.in_ok-bottom.ensures (stop _ c.in_err-count.ensures.meets))))

pub returns-in_err-cycle : goal.returns-in_err-cycle
unfolding cycle_type
returns-in_err-cycle g c = passed-on _ c.from_residual-in_err-cycle.ensures.1
    (bind _ c.in_ok-always_zero.ensures (bind _ c.in_ok-non_ref.ensures
    (bind _ c.in_ok-bottom.ensures (bind _ c.in_ok-count.ensures.meets (stop _ c.in_err-cycle.ensures)))))

pub returns : goal.returns
unfolding cycle_type
returns g c = let fits0 : SFits w32 c.in_ok-non_ref.non_ref = search rules in let fits1 : SFits w32 c.in_ok-bottom.bottom = search rules in
    bind _ c.in_ok-always_zero.ensures (bind _ c.in_ok-non_ref.ensures
    (bind _ c.in_ok-bottom.ensures (bind _ c.in_ok-count.ensures.meets
    (bind_as _ c.in_ok-cycle.ensures (λ v e. done _ _ _ _ _ _ _ (simp to_z-of_z (rw e refl)))))))

pub read_cycle-requires : goal.read_cycle-requires
read_cycle-requires g c = record {
  few = c.in_ok-count.ensures.within;
  room = still c.in_ok-count.ensures.meets (still c.in_ok-bottom.ensures (still c.in_ok-non_ref.ensures (still c.in_ok-always_zero.ensures c.requires)));
}
