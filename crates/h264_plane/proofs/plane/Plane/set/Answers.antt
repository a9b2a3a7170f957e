use Rattle.std.proofs.Common.{◌≡◌, ◌*◌, length, arith}
use Rattle.h264_plane.proofs.Places.{set_is}
use Rattle.h264_plane.proofs.plane.Plane.set.Goals as goal

pub returns : goal.returns
returns c =
    let column = rw (← c.self.view_is) at c.requires.column in
    let row = rw (← c.self.view_is) at c.requires.row in
    let f = c.self.inside in
    let whole : length f.samples.items ≡ f.height * f.width = omega (arith, f.samples.ok, c.self.invariant.whole) in
    rw (← c.self.view_is) (set_is f.width f.height c.args.x c.args.y f.samples.items c.args.sample whole column row)
