-- Which calls of a stream are left where one picture or one macroblock is chosen. To be read beside docs/OUTPUT.md.
use Rattle.std.specs.Prelude.{ℕ, ◌+◌, ◌==◌, ◌&&◌, Bool, true, false, nat_lt, nat_le, if◌then◌else◌, List, [], ◌∷◌, ◌++◌}
use Rattle.std.specs.Prelude.{ℤ, Option, None, Some, ◌≡◌, option_map, is_some}
use Rattle.h264_base.specs.Call.{Call, OfUnit, OfSlice, OfElement}
use Rattle.h264_base.specs.declared.element_name.ElementName.{ElementName}
use Rattle.h264_base.specs.declared.element_name.ElementName.TheVariants as names
use Rattle.h264_lines.specs.declared.reading.Reading.{Reading}
use Rattle.h264_lines.specs.declared.reading.Reach.{Reach}
use Rattle.h264_lines.specs.declared.choice.Choice.{Choice}
use Rattle.h264_lines.specs.declared.lines.UnitCall.{UnitCall}
use Rattle.h264_units.specs.UnitTypes.{type_number}
use Rattle.h264_bits.specs.Forms.{natural}
use Rattle.h264_bits.specs.Counts.{grown}

-- a run of macroblocks that are skipped
abbrev pub after_run : ℕ → Reach → Reach
after_run run reach = if run == 0 then reach else record { macroblock = Some reach.next; next = grown reach.next run }

-- a macroblock that begins
abbrev pub after_type : Reach → Reach
after_type reach = record { macroblock = Some reach.next; next = grown reach.next 1 }

-- a slice that begins; the one of macroblock 0 begins a picture
abbrev pub after_first : ℕ → Reading → Reading
after_first first reading = record {
  pictures = if first == 0 then grown reading.pictures 1 else reading.pictures;
  reach = Some (record { macroblock = None; next = first });
}

unfoldable pub after_element : ElementName → ℤ → Reading → Reading
after_element names.FirstMbInSlice v reading = after_first (natural v) reading
after_element names.MbSkipRun v reading = record reading { reach = option_map (after_run (natural v)) reading.reach }
after_element names.MbType v reading = record reading { reach = option_map after_type reading.reach }
after_element name v reading = reading

-- ---- which calls are left

-- nothing is chosen, and all is left
abbrev pub no_choice : Choice
no_choice = record { picture = None; macroblock = None }

-- the picture of this number in decoding order, from 0; any where there is none
abbrev pub has_picture : Option ℕ → Reading → Bool
has_picture None reading = true
has_picture (Some number) reading = is_some reading.reach && (reading.pictures == number + 1)

abbrev pub has_address : ℕ → ℕ → Option ℕ → Bool
has_address address next None = false
has_address address next (Some first) = nat_le first address && nat_lt address next

abbrev pub reaches : ℕ → Option Reach → Bool
reaches address None = false
reaches address (Some reach) = has_address address reach.next reach.macroblock

-- the macroblock of this address; any where there is none
abbrev pub has_macroblock : Option ℕ → Reading → Bool
has_macroblock None reading = true
has_macroblock (Some address) reading = reaches address reading.reach

abbrev pub is_chosen : Choice → Reading → Bool
is_chosen choice reading = has_picture choice.picture reading && has_macroblock choice.macroblock reading

-- how far the stream was read, and the call of the unit of which nothing is left yet
pub record Choosing : Type 0 where
  pub reading : Reading
  pub pending : Option Call

abbrev pub at_first : Choosing
at_first = record { reading = record { pictures = 0; reach = None }; pending = None }

abbrev pub reading_after : Call → Reading → Reading
reading_after (OfUnit byte kind reference length) reading = record reading { reach = None }
reading_after (OfElement name bit value) reading = after_element name value reading
reading_after call reading = reading

-- with the reading after the call
abbrev pub pending_after : Choice → Call → Reading → Option Call → Option Call
pending_after choice (OfUnit byte kind reference length) reading pending = Some (OfUnit byte kind reference length)
pending_after choice (OfElement name bit value) reading pending = if is_chosen choice reading then None else pending
pending_after choice call reading pending = pending

abbrev pub next : Choice → Choosing → Call → Choosing
next choice s call =
    let reading = reading_after call s.reading in record { reading = reading; pending = pending_after choice call reading s.pending }

abbrev pub held : Option Call → List Call
held None = []
held (Some call) = call ∷ []

-- the call of a unit that is kept
abbrev pub pending_call : Option UnitCall → Option Call
pending_call None = None
pending_call (Some u) = Some (OfUnit u.byte (type_number u.nal_unit_type) u.nal_ref_idc u.length)

-- What is left of a call, with the reading after it: of the elements those that are chosen, each unit of them before the first, and no frames.
abbrev pub left_of : Choice → Call → Reading → Option Call → List Call
left_of choice (OfElement name bit value) reading pending =
    if is_chosen choice reading then held pending ++ (OfElement name bit value ∷ []) else []
left_of choice (OfSlice byte mb kind frame_num count) reading None =
    if is_chosen choice reading then OfSlice byte mb kind frame_num count ∷ [] else []
left_of choice call reading pending = []

abbrev pub left_by : Choice → Choosing → Call → List Call
left_by choice s call = left_of choice call (reading_after call s.reading) s.pending

unfoldable pub choosing_after : Choice → Choosing → List Call → Choosing
choosing_after choice s [] = s
choosing_after choice s (call ∷ calls) = choosing_after choice (next choice s call) calls

unfoldable pub left_in : Choice → Choosing → List Call → List Call
left_in choice s [] = []
left_in choice s (call ∷ calls) = left_by choice s call ++ left_in choice (next choice s call) calls

-- ---- what the sink inside took

-- what is left of these calls
pub record HoldsLeft {S : Type 0} (took : S → List Call → Type 0) (choice : Choice) (s : Choosing) (sink : S) (calls : List Call) : Type 0 where
  pub stands : choosing_after choice at_first calls ≡ s
  pub tells : took sink (left_in choice at_first calls)

-- what is left of these calls, and the first of what is left of one more, which was refused
pub record HoldsFront {S : Type 0} (took : S → List Call → Type 0) (choice : Choice) (sink : S) (calls : List Call) : Type 0 where
  pub refused : Call
  pub front : List Call
  pub rest : List Call
  pub whole : left_by choice (choosing_after choice at_first calls) refused ≡ front ++ rest
  pub tells : took sink (left_in choice at_first calls ++ front)

abbrev pub TookChosen : {S : Type 0} → (S → List Call → Type 0) → Choice → (broke_off : Bool) → Choosing → (sink : S) → List Call → Type 0
TookChosen took choice false s sink calls = HoldsLeft took choice s sink calls
TookChosen took choice true s sink calls = HoldsFront took choice sink calls
