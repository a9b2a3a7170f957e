use Rattle.std.proofs.Common.{true, Option, sym, subst, ◌∙◌}
use Rattle.std.proofs.Math.Path.{subst₂}
use Rattle.std.proofs.lemmas.Bool.{false_from_ne_true, false≢true}
use Rattle.h264_strict.specs.StrictUnits.{TookBytes, TellsOfBytes}
use Rattle.h264_strict.specs.declared.buffer.Lack.{Lack}
use Rattle.h264_strict.specs.declared.strict_extent.Extent.{Extent}
use Rattle.h264_strict.specs.declared.strict_extent.Extent.TheVariants as extents
use Rattle.h264_strict.proofs.Units.{whole-of, tells-stopped, tells-stop, tells-none, tells-unit, tells-unread}
use Rattle.h264_strict.proofs.strict_units.UnitReader.finish.Goals as goal

pub returns-then-not-is_whole : goal.returns-then-not-is_whole
returns-then-not-is_whole c bytes t =
    let s = c.args.self in
    subst (λ (l : Option Lack). TellsOfBytes s.extent true s.noted.found l bytes) (sym c.lack-lack.ensures)
    (tells-stopped s.splitter s.extent s.noted bytes t true (sym c.is_whole.ensures ∙ c.if-not-is_whole.true))

pub returns-in-Err : goal.returns-in-Err
returns-in-Err c bytes t =
    let s = c.args.self in
    let going = subst (λ (r : Extent). TookBytes s.splitter r s.noted bytes) (whole-of s.extent (sym c.is_whole.ensures ∙ c.if-not-is_whole.false)) t in
    subst₂ (λ (r : Extent) (l : Option Lack). TellsOfBytes r true s.noted.found l bytes) (sym c.extent_after.ensures) (sym c.lack-lack.ensures)
    (tells-stop s.splitter c.finish.new.self s.noted bytes c.in-Err.stop going c.in-Err.ensures.err)

pub returns-in-None : goal.returns-in-None
returns-in-None c bytes t =
    let s = c.args.self in
    let going = subst (λ (r : Extent). TookBytes s.splitter r s.noted bytes) (whole-of s.extent (sym c.is_whole.ensures ∙ c.if-not-is_whole.false)) t in
    subst (λ (r : Extent). TellsOfBytes r true c.read_whole.result.found c.read_whole.result.lack bytes) (sym c.read_whole.ensures.extent)
    (tells-none s.splitter c.finish.new.self s.noted bytes going c.in-Ok.ensures.ok c.read_whole.result.found c.read_whole.result.lack
    c.read_whole.ensures.found c.read_whole.ensures.lack (false_from_ne_true _ (λ h. false≢true (c.in-None.ensures.when.1 h))))

pub returns-in-Ok-note_unit : goal.returns-in-Ok-note_unit
returns-in-Ok-note_unit c bytes t =
    let s = c.args.self in
    let going = subst (λ (r : Extent). TookBytes s.splitter r s.noted bytes) (whole-of s.extent (sym c.is_whole.ensures ∙ c.if-not-is_whole.false)) t in
    subst (λ (r : Extent). TellsOfBytes r true c.read_whole-in-Ok-note_unit.result.found c.read_whole-in-Ok-note_unit.result.lack bytes)
    (sym c.read_whole-in-Ok-note_unit.ensures.extent)
    (tells-unit s.splitter c.finish.new.self s.noted bytes going c.in-Ok.ensures.ok c.take_unit.new.self c.in-Some.unit c.in-Some.ensures.some
    c.note_unit.new.noted c.read_whole-in-Ok-note_unit.result.found c.read_whole-in-Ok-note_unit.result.lack c.in-Ok-note_unit.ensures.noted
    c.read_whole-in-Ok-note_unit.ensures.found c.read_whole-in-Ok-note_unit.ensures.lack)

pub returns : goal.returns
returns c bytes t =
    let s = c.args.self in
    let going = subst (λ (r : Extent). TookBytes s.splitter r s.noted bytes) (whole-of s.extent (sym c.is_whole.ensures ∙ c.if-not-is_whole.false)) t in
    subst (λ (l : Option Lack). TellsOfBytes extents.Memory true c.note_unit.new.noted.found l bytes) (sym c.lack-lack.ensures)
    (tells-unread s.splitter c.finish.new.self s.noted bytes going c.in-Ok.ensures.ok c.take_unit.new.self c.in-Some.unit c.in-Some.ensures.some
    c.note_unit.new.noted c.in-Err-note_unit.ensures.unnoted)
