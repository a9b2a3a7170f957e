-- What a slice's header gives: its parameter sets are there. What is in a unit, by what its structures give.
use Rattle.std.proofs.Common.{◌≡◌, ℕ, ◌==◌, Bool, true, false, [], Option, refl, if◌then◌else◌}
use Rattle.std.specs.Option.{is_some}
use Rattle.h264_base.specs.Grammar.{Grammar, ◌>>=◌, read_word, check}
use Rattle.h264_bits.specs.Forms.{natural}
use Rattle.h264_base.proofs.Gives.{Gives, gives-done, gives-bind, gives-following, gives-if}
use Rattle.h264_sps.specs.declared.sps.Sps.{Sps}
use Rattle.h264_pps.specs.declared.Pps.{Pps}
use Rattle.h264_header.specs.declared.header.Header.{Header}
use Rattle.h264_header.specs.declared.header.SliceUnit.{SliceUnit}
use Rattle.h264_header.specs.Header.{header, named_sets}
use Rattle.h264_header.specs.Layout.{layout_of, sets_of}
use Rattle.h264_sps.specs.Sps.{sps}
use Rattle.h264_pps.specs.Pps.{pps}
use Rattle.h264_units.specs.Stream.{NalUnit}
use Rattle.h264_units.specs.UnitHeader.{is_slice}
use Rattle.h264_verify.specs.declared.state.Depth.{Depth}
use Rattle.h264_verify.specs.declared.state.Depth.TheVariants as depths
use Rattle.h264_verify.specs.declared.state.Extent.{Extent}
use Rattle.h264_verify.specs.Content.{Content}
use Rattle.h264_verify.specs.Content as contents
use Rattle.h264_verify.specs.History.{History, maps_of}
use Rattle.h264_verify.specs.Units.{slice_unit, header_or_passed, other_content}
use Rattle.h264_verify.specs.Order.{content}
use Rattle.h264_header.proofs.Ids.{seen-there}

named-gives : (sets : ℕ → Option (Pps × Sps)) → Gives (named_sets sets) (λ n. is_some (sets n.id.value) ≡ true)
unfolding named_sets read_word check ◌>>=◌ Gives
named-gives sets = λ e t h. seen-there layout_of (sets (natural e.value)) h

abbrev pub HasSets : (ℕ → Option (Pps × Sps)) → Header → Type 0
HasSets sets h = is_some (sets h.pic_parameter_set_id.value) ≡ true

pub sets-given : (sets : ℕ → Option (Pps × Sps)) (u : SliceUnit) → Gives (header sets u) (HasSets sets)
unfolding header
sets-given sets u = gives-following _ _ (HasSets sets)
    (λ first. gives-following _ _ _ (λ stated. gives-bind _ (HasSets sets) _ _ (named-gives sets)
    (λ named n. gives-following _ _ _ (λ num. gives-following _ _ _ (λ idr. gives-following _ _ _ (λ order. gives-following _ _ _
    (λ kind. gives-following _ _ _ (λ marking. gives-following _ _ _ (λ qp. gives-following _ _ _ (λ filter. gives-done (HasSets sets) _ n))))))))))

-- one of two structures, each where the test says so
gives-choice : {A : Type 0} (P : A → Type 0) (b : Bool) (g h : Grammar A) → (b ≡ true → Gives g P) → (b ≡ false → Gives h P) → Gives (if b then g else h) P
gives-choice P true g h k l = k refl
gives-choice P false g h k l = l refl

-- What is in a unit has this, where a set has it, the header of a slice that stands in a slice's unit, and what is passed over.
pub content-gives : (P : Content → Type 0) (extent : Extent) (kind : ℕ) (before : History) (unit : NalUnit) →
    Gives (sps extent.target) (λ set. P (contents.OfSps set)) → ((set : Pps) → P (contents.OfPps set)) →
    (is_slice kind ≡ true → Gives (header (sets_of (maps_of before)) (slice_unit unit)) (λ h. P (contents.OfSlice h []))) → P contents.Passed →
    Gives (content extent kind before unit) P
unfolding content
content-gives P extent kind before unit of-sps of-pps of-slice passed =
    gives-if P (kind == 7) _ _ (gives-bind _ P _ _ of-sps (λ set h. gives-done P _ h))
    (gives-if P (kind == 8) _ _ (gives-following (pps extent.target) _ P (λ set. gives-done P _ (of-pps set))) (others extent.depth))
  where
    or-passed : Gives (header_or_passed kind before unit) P
    or-passed = gives-choice P (is_slice kind) _ _ (λ slice. gives-bind _ P _ _ (of-slice slice) (λ h k. gives-done P _ k)) (λ _. gives-done P _ passed)

    others : (depth : Depth) → Gives (other_content depth kind before unit) P
    others depths.Units = gives-done P _ passed
    others depths.Headers = or-passed
    others depths.Full = or-passed
