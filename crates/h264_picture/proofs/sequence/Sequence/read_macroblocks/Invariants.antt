use Rattle.std.proofs.Common.{◌≡◌, ℕ, ◌+◌, ◌-◌, ◌≤◌, List, Option}
use Rattle.h264_base.proofs.Steps.{Leads}
use Rattle.h264_near.specs.Coded.{CodedMacroblock}
use Rattle.h264_mbsyntax.specs.declared.slice.Standing.TheVariants.{Next}
use Rattle.h264_mbsyntax.specs.Slice.{macroblocks}
use Rattle.h264_picture.specs.Levels.{transform_fits}
use Rattle.h264_picture.specs.Holds.{IsWithin, KeepsPlace, RefersOn}
use Rattle.h264_picture.specs.Making.{Making, Reads}
use Rattle.h264_picture.specs.Sound.{ArePlacesIn}
use Rattle.h264_picture.proofs.sequence.Sequence.read_macroblocks.Given as goal

abbrev pub invariant-loop-turn : goal.invariant-loop-turn
invariant-loop-turn g l = record {
  rest : (width size : ℕ) (making : Option Making) (picture : List CodedMacroblock) → Reads width size making l.slice picture l.fn.self →
      (now : List CodedMacroblock) × Reads width size making l.slice now l.self ×
      Leads g.S.Elements.took g.S.Elements.failures (macroblocks (transform_fits l.slice.context) width l.slice.context l.left Next picture)
      (macroblocks (transform_fits l.slice.context) width l.slice.context (l.left - l.turn) l.standing now) l.fn.bits l.bits l.fn.sink l.sink;
  within : l.self.mb.qp ≤ 51;
  refers : RefersOn l.slice.context l.standing;
  standing_is : IsWithin (l.left - l.turn) l.standing;
  below : l.turn ≤ l.left;
  next_is : l.self.picture.next ≡ l.fn.self.picture.next + l.turn;
  size_is : l.self.size ≡ l.fn.self.size;
  same : KeepsPlace l.fn.self l.self;
  places : ArePlacesIn l.self.canvas l.slice.places;
  quiet : g.S.Elements.failures l.sink ≡ g.S.Elements.failures l.fn.sink;
}

abbrev pub decreases-loop-turn : goal.decreases-loop-turn
decreases-loop-turn g l = l.left - l.turn
