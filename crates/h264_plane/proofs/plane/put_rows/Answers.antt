use Rattle.std.proofs.Common.{◌≡◌, ◌+◌, ◌-◌, ◌*◌, ◌≤◌, take, drop, length, length-take, length-drop, arith, refl, sym}
use Rattle.std.proofs.lemmas.Nat.{mul-le}
use Rattle.h264_plane.specs.Samples.{at, rows_of}
use Rattle.h264_plane.proofs.Blocks.{block_none, block_row}
use Rattle.h264_plane.proofs.Runs.{length_put, run_at}
use Rattle.h264_plane.proofs.plane.put_rows.Goals as goal

pub loop-n-init : goal.loop-n-init
loop-n-init g c =
    let a = c.args in
    record {
      start = omega arith;
      size = refl;
      block = λ h e r. record {
        width = refl;
        height = refl;
        samples = λ u v i j. sym (block_none g.row.W a.x a.y a.block.now (at (rows_of a.width h a.samples.now)) u v);
      };
    }

pub loop-n-preserved : goal.loop-n-preserved
loop-n-preserved g c =
    let a = c.args in
    let l = c.loop-n in
    let w = g.row.W in
    let count = w * l.n + w - w * l.n in
    let run = take count (drop (w * l.n) a.block.now) in
    let fits : w * l.n + w ≤ length a.block.now = omega (arith, mul-le w (l.n + 1) w g.row.H (omega arith) (omega arith)) in
    let long : length run ≡ w = simp (length-take, length-drop) (omega arith) in
    let within : l.start + w ≤ length a.samples.now =
    omega (arith, l.invariant.start, mul-le (a.y + l.n + 1) a.width (a.y + g.row.H) a.width (omega arith) (omega arith)) in
    record {
      start = omega (arith, l.invariant.start);
      size = length_put l.start (l.start + w - l.start) l.samples c.put_row.new.out (length a.samples.now) l.invariant.size
          (rw c.put_row.ensures (omega arith)) (omega arith);
      block = λ h e r.
          block_row (rows_of a.width h a.samples.now) (rows_of a.width h l.samples) _ w l.n a.x a.y a.block.now count (omega arith) fits
          (l.invariant.block h e r)
          (run_at a.width h a.x (a.y + l.n) l.samples c.put_row.new.out run l.start (l.start + w - l.start) (omega (arith, l.invariant.size)) (omega arith)
          (omega arith) c.put_row.ensures l.invariant.start (omega arith));
    }
