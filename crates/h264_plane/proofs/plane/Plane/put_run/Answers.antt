use Rattle.std.proofs.Common.{◌≡◌, ◌+◌, ◌-◌, ◌*◌, length, arith}
use Rattle.h264_plane.proofs.Runs.{run_put}
use Rattle.h264_plane.proofs.plane.Plane.put_run.Goals as goal

pub returns : goal.returns
returns c =
    let a = c.args in
    let f = c.self.inside in
    let columns = rw (← c.self.view_is) at c.requires.columns in
    let row = rw (← c.self.view_is) at c.requires.row in
    let start = a.y * f.width + a.x in
    let count : start + length a.run.now - start ≡ length a.run.now = omega arith in
    rw (← c.self.view_is)
    (run_put f.width f.height a.x a.y f.samples c.as_mut_slice-samples.result.now c.copy_from_slice.new.self a.run.now _ c.self.invariant.whole columns row
    c.as_mut_slice-samples.ensures.value count c.copy_from_slice.ensures.after)
