use Rattle.std.proofs.Common.{◌≡◌, ℕ, true, Option, Some, ap, refl, sym, ◌∙◌, subst}
use Rattle.std.proofs.lemmas.Bool.{ne_eqb}
use Rattle.h264_base.specs.Body.{Body}
use Rattle.h264_units.specs.Stream.{NalUnit}
use Rattle.h264_units.specs.UnitHeader.{header_of, nal_unit_type, is_slice}
use Rattle.h264_units.specs.UnitTypes.{type_number}
use Rattle.h264_units.specs.declared.nal_unit_type.NalUnitType.TheVariants as types
use Rattle.h264_units.proofs.UnitNumbers.{is-not}
use Rattle.h264_verify.specs.declared.state.Depth.{Depth}
use Rattle.h264_verify.specs.Content as contents
use Rattle.h264_verify.specs.Memory.{reads_slices, bytes_of}
use Rattle.h264_verify.proofs.samples.FamiliesAgree.{agree-none}
use Rattle.h264_verify.proofs.laws.ToldInOrder.{slice-goes}
use Rattle.h264_verify.proofs.judged.UnitJoins.{joins-on, passed-joins, some-slice}
use Rattle.h264_verify.proofs.judged.WantOfMemory.{bytes-by, unread, read-bytes, read-slice}
use Rattle.h264_verify.proofs.language.OutcomesPlayed.{gives-plays}
use Rattle.h264_verify.proofs.language.ReadsStructures.{passed-read}
use Rattle.h264_verify.proofs.unit.join.Given.{Over}
use Rattle.h264_verify.proofs.unit.join.Goals.{In_default-kind}
use Rattle.h264_verify.proofs.unit.join.Goals as goal

-- ---- what is not read

pub returns-in_default-clause-joins : goal.returns-in_default-clause-joins
returns-in_default-clause-joins g c = λ frames before k.
    let unit = c.args.unit.now in
    let bytes = bytes-by c.args.extent.depth unit c.of.result.byte c.args.rbsp.now c.of.ensures c.requires.bytes in
    let is = c.nal_unit_type-kind.ensures ∙ ap nal_unit_type c.of.ensures in
    joins-on c.args.extent frames _ _ before unit _ frames (agree-none _ frames) (λ (u : Unit {0}). (contents.Passed, 0)) _ _ tt
    (passed-read c.args.extent _ _ before unit _ (rw c.of.ensures at (unread _ _ _ c.in_default.is bytes))) _ tt
    (gives-plays _ _ (λ (u : Unit {0}). u) tt _) refl
    (passed-joins c.args.extent.depth frames before unit contents.Passed _ c.args.state.now _ tt tt is (rw (← is) at k) c.pass.ensures.units
    (c.pass.ensures.sets ∙ k.sets) c.pass.ensures.picture c.pass.ensures.due c.pass.ensures.others c.pass.ensures.decoder)

-- ---- sets

pub join_sps-requires-clause-rbsp : goal.join_sps-requires-clause-rbsp
join_sps-requires-clause-rbsp g c = (read-bytes _ _ _ _ c.in-Some.is c.requires.bytes).1

pub join_pps-requires-clause-rbsp : goal.join_pps-requires-clause-rbsp
join_pps-requires-clause-rbsp g c = (read-bytes _ _ _ _ c.in-Some.is c.requires.bytes).1

pub join_sps-requires-clause-kind : goal.join_sps-requires-clause-kind
join_sps-requires-clause-kind g c = ap nal_unit_type (sym c.of.ensures) ∙ sym c.nal_unit_type-kind.ensures ∙ ap type_number c.in-SequenceSet.is

pub join_pps-requires-clause-kind : goal.join_pps-requires-clause-kind
join_pps-requires-clause-kind g c = ap nal_unit_type (sym c.of.ensures) ∙ sym c.nal_unit_type-kind.ensures ∙ ap type_number c.in-PictureSet.is

pub returns-in-SequenceSet-clause-no_memory : goal.returns-in-SequenceSet-clause-no_memory
returns-in-SequenceSet-clause-no_memory g c = λ frames before k m. absurd (c.join_sps.ensures.no_memory m)

pub returns-in-PictureSet-clause-no_memory : goal.returns-in-PictureSet-clause-no_memory
returns-in-PictureSet-clause-no_memory g c = λ frames before k m. absurd (c.join_pps.ensures.no_memory m)

pub returns-in-SequenceSet-clause-pauses : goal.returns-in-SequenceSet-clause-pauses
returns-in-SequenceSet-clause-pauses g c = λ frames before k m. absurd (c.join_sps.ensures.no_memory m)

pub returns-in-PictureSet-clause-pauses : goal.returns-in-PictureSet-clause-pauses
returns-in-PictureSet-clause-pauses g c = λ frames before k m. absurd (c.join_pps.ensures.no_memory m)

-- ---- slices

-- a unit whose RBSP was made, and that is no set
slice-here : (depth : Depth) (unit : NalUnit) (byte : ℕ) (o : Option Body) (x : Body) → byte ≡ header_of unit → o ≡ bytes_of depth unit → o ≡ Some x →
    (nal_unit_type byte ≡ 7 → ⊥) → (nal_unit_type byte ≡ 8 → ⊥) → (is_slice (nal_unit_type (header_of unit)) ≡ true) × (reads_slices depth ≡ true)
slice-here depth unit byte o x e b s seven eight =
    let r = read-slice depth (nal_unit_type byte) (read-bytes _ _ _ _ s (bytes-by depth unit byte o e b)).0 (ne_eqb _ _ seven) (ne_eqb _ _ eight) in
    (subst (λ (y : ℕ). is_slice (nal_unit_type y) ≡ true) e r.0, r.1)

here : (g : Over) (c : In_default-kind g) → (is_slice (nal_unit_type (header_of c.args.unit.now)) ≡ true) × (reads_slices c.args.extent.depth ≡ true)
here g c = slice-here c.args.extent.depth c.args.unit.now c.of.result.byte c.args.rbsp.now _ c.of.ensures c.requires.bytes c.in-Some.is
    (is-not _ types.SequenceSet _ c.nal_unit_type-kind.ensures c.in_default-kind.not-SequenceSet)
    (is-not _ types.PictureSet _ c.nal_unit_type-kind.ensures c.in_default-kind.not-PictureSet)

pub join_slice-requires-clause-first : goal.join_slice-requires-clause-first
join_slice-requires-clause-first g c = rw (read-bytes _ _ _ _ c.in-Some.is c.requires.bytes).1 at c.new-bits.ensures

pub join_slice-requires-clause-slice : goal.join_slice-requires-clause-slice
join_slice-requires-clause-slice g c = (here g (goal.at.join_slice-requires-clause-slice g c).In_default-kind).0

pub join_slice-requires-clause-kept : goal.join_slice-requires-clause-kept
join_slice-requires-clause-kept g c = some-slice c.args.extent.depth _ c.args.state.now (slice-goes (nal_unit_type (header_of c.args.unit.now))
    (here g (goal.at.join_slice-requires-clause-kept g c).In_default-kind).0) c.requires.kept

pub returns-in_default-kind-clause-joins : goal.returns-in_default-kind-clause-joins
returns-in_default-kind-clause-joins g c = λ frames before k.
    c.join_slice.ensures.joins c.args.extent frames before (here g (goal.at.returns-in_default-kind-clause-joins g c).In_default-kind).1 k

pub returns-in_default-kind-clause-pauses : goal.returns-in_default-kind-clause-pauses
returns-in_default-kind-clause-pauses g c = λ frames before k.
    c.join_slice.ensures.pauses c.args.extent frames before (here g (goal.at.returns-in_default-kind-clause-pauses g c).In_default-kind).1 k
