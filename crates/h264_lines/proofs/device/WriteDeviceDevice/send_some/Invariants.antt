use Rattle.std.specs.Prelude.{◌≡◌}
use Rattle.std.specs.Io.KnownBytes.{Keeps}
use Rattle.h264_lines.proofs.device.WriteDeviceDevice.send_some.Given as goal

abbrev pub invariant-loop : goal.invariant-loop
invariant-loop g l = Keeps (g.W.Write.contents l.fn.self.writer) (g.W.Write.contents l.self.writer) × (l.self.failed ≡ l.fn.self.failed)
