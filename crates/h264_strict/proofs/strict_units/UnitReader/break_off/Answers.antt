use Rattle.std.proofs.Common.{false, Option, sym}
use Rattle.std.proofs.Math.Path.{subst₂}
use Rattle.h264_strict.specs.StrictUnits.{TellsOfBytes}
use Rattle.h264_strict.specs.declared.buffer.Lack.{Lack}
use Rattle.h264_strict.specs.declared.strict_extent.Extent.{Extent}
use Rattle.h264_strict.proofs.Units.{tells-cut}
use Rattle.h264_strict.proofs.strict_units.UnitReader.break_off.Goals as goal

pub returns : goal.returns
returns c bytes t =
    let s = c.args.self in
    subst₂ (λ (r : Extent) (l : Option Lack). TellsOfBytes r false s.noted.found l bytes) (sym c.cut_off.ensures) (sym c.lack-lack.ensures)
    (tells-cut s.splitter s.extent s.noted bytes t)
