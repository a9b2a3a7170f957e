-- Structures, and the same read part by part.
use Rattle.std.proofs.Common.{◌≡◌, ℕ, ◌+◌, Bool, true, false, ◌&&◌, List, [], ◌∷◌, get_or, nat_le, refl}
use Rattle.h264_base.specs.declared.element_name.ElementName.TheVariants.{CpbCntMinus1, BitRateScale, CpbSizeScale, BitRateValueMinus1, CpbSizeValueMinus1}
use Rattle.h264_base.specs.declared.element_name.ElementName.TheVariants.{CbrFlag, SarWidth, SarHeight, ColourPrimaries, TransferCharacteristics}
use Rattle.h264_base.specs.declared.element_name.ElementName.TheVariants.{MatrixCoefficients, ChromaSampleLocTypeTopField, ChromaSampleLocTypeBottomField}
use Rattle.h264_base.specs.declared.element_name.ElementName.TheVariants.{NumUnitsInTick, TimeScale, FixedFrameRateFlag, MotionVectorsOverPicBoundariesFlag}
use Rattle.h264_base.specs.declared.element_name.ElementName.TheVariants.{MaxBytesPerPicDenom, MaxBitsPerMbDenom, Log2MaxMvLengthHorizontal}
use Rattle.h264_base.specs.declared.element_name.ElementName.TheVariants.{Log2MaxMvLengthVertical, MaxNumReorderFrames, MaxDecFrameBuffering}
use Rattle.h264_base.specs.declared.element_name.ElementName.TheVariants.{InitialCpbRemovalDelayLengthMinus1, CpbRemovalDelayLengthMinus1}
use Rattle.h264_base.specs.declared.element_name.ElementName.TheVariants.{DpbOutputDelayLengthMinus1, TimeOffsetLength}
use Rattle.h264_base.specs.declared.rule.Rule.{Rule}
use Rattle.h264_base.specs.declared.rule.Rule.TheVariants.{Vui as VuiRule}
use Rattle.h264_base.specs.Word.{Unsigned}
use Rattle.h264_base.specs.Body.{Body}
use Rattle.h264_base.specs.Grammar.{Grammar, Done, ◌>>=◌, element, read_word, check}
use Rattle.h264_base.specs.Run.{run}
use Rattle.h264_bits.specs.Forms.{natural, bits, unsigned, flag, unsigned_to, repeated, each}
use Rattle.h264_sps.specs.declared.hrd.Cpb.{Cpb}
use Rattle.h264_sps.specs.declared.hrd.Cpbs.{Cpbs}
use Rattle.h264_sps.specs.declared.hrd.Hrd.{Hrd}
use Rattle.h264_sps.specs.declared.vui.ExtendedRatio.{ExtendedRatio}
use Rattle.h264_sps.specs.declared.vui.ColourDescription.{ColourDescription}
use Rattle.h264_sps.specs.declared.vui.ChromaLocation.{ChromaLocation}
use Rattle.h264_sps.specs.declared.vui.Timing.{Timing}
use Rattle.h264_sps.specs.declared.vui.BitstreamRestriction.{BitstreamRestriction}
use Rattle.h264_sps.specs.Hrd.{cpb, cpbs_of, hrd}
use Rattle.h264_sps.specs.Vui.{extended_ratio, colour_description, chroma_location, timing, bitstream_restriction}

-- checks of one rule at one bit are one check
three-checks : {A : Type 0} (rule : Rule) (bit : ℕ) (a b c : Bool) (g : Grammar A) (body : Body) (i : ℕ) →
    run (check rule bit a >>= (λ _. check rule bit b >>= (λ _. check rule bit c >>= (λ _. g)))) body i ≡
    run (check rule bit (a && (b && c)) >>= (λ _. g)) body i
unfolding run check ◌>>=◌
three-checks rule bit true true c g body i = refl
three-checks rule bit true false c g body i = refl
three-checks rule bit false b c g body i = refl

-- the parts that are read as one list of values
pub cpb-by_values : cpb ≡ (each unsigned [] (BitRateValueMinus1 ∷ CpbSizeValueMinus1 ∷ []) >>=
    (λ l. flag CbrFlag >>= (λ constant. Done
    (let c : Cpb = record { bit_rate_value_minus1 = get_or l 0 0; cpb_size_value_minus1 = get_or l 1 0; cbr_flag = constant } in c))))
unfolding cpb each unsigned flag read_word ◌>>=◌
cpb-by_values = refl

-- HRD parameters from initial_cpb_removal_delay_length_minus1 on, after the scales and the buffers
unfoldable pub hrd_from_lengths : List ℕ → Cpbs → Grammar Hrd
hrd_from_lengths scales cpbs = do
  l ← each (λ name. bits name 5) [] (InitialCpbRemovalDelayLengthMinus1 ∷ CpbRemovalDelayLengthMinus1 ∷ DpbOutputDelayLengthMinus1 ∷ TimeOffsetLength ∷ [])
  Done (record {
    bit_rate_scale = get_or scales 0 0;
    cpb_size_scale = get_or scales 1 0;
    cpbs = cpbs;
    initial_cpb_removal_delay_length_minus1 = get_or l 0 0;
    cpb_removal_delay_length_minus1 = get_or l 1 0;
    dpb_output_delay_length_minus1 = get_or l 2 0;
    time_offset_length = get_or l 3 0;
  })

pub hrd-by_values : hrd ≡ (unsigned_to CpbCntMinus1 31 >>=
    (λ n. each (λ name. bits name 4) [] (BitRateScale ∷ CpbSizeScale ∷ []) >>=
    (λ scales. repeated cpb [] (n + 1) >>= (λ cpbs. hrd_from_lengths scales (cpbs_of cpbs)))))
unfolding hrd hrd_from_lengths each bits read_word ◌>>=◌
hrd-by_values = refl

pub ratio-by_values : extended_ratio ≡ (each (λ name. bits name 16) [] (SarWidth ∷ SarHeight ∷ []) >>=
    (λ l. Done (let r : ExtendedRatio = record { sar_width = get_or l 0 0; sar_height = get_or l 1 0 } in r)))
unfolding extended_ratio each bits read_word ◌>>=◌
ratio-by_values = refl

pub colours-by_values : colour_description ≡
    (each (λ name. bits name 8) [] (ColourPrimaries ∷ TransferCharacteristics ∷ MatrixCoefficients ∷ []) >>=
    (λ l. Done (let c : ColourDescription = record {
      colour_primaries = get_or l 0 0;
      transfer_characteristics = get_or l 1 0;
      matrix_coefficients = get_or l 2 0;
    } in c)))
unfolding colour_description each bits read_word ◌>>=◌
colours-by_values = refl

pub location-by_values : chroma_location ≡
    (each unsigned [] (ChromaSampleLocTypeTopField ∷ ChromaSampleLocTypeBottomField ∷ []) >>=
    (λ l. Done (let c : ChromaLocation = record { top_field = get_or l 0 0; bottom_field = get_or l 1 0 } in c)))
unfolding chroma_location each unsigned read_word ◌>>=◌
location-by_values = refl

pub timing-by_values : timing ≡ (each (λ name. bits name 32) [] (NumUnitsInTick ∷ TimeScale ∷ []) >>=
    (λ l. flag FixedFrameRateFlag >>= (λ fixed. Done
    (let t : Timing = record { num_units_in_tick = get_or l 0 0; time_scale = get_or l 1 0; fixed_frame_rate_flag = fixed } in t))))
unfolding timing each bits flag read_word ◌>>=◌
timing-by_values = refl

-- a restriction whose flag is over, whose five numbers are l, and whose max_dec_frame_buffering is n
abbrev restriction_of : Bool → List ℕ → ℕ → BitstreamRestriction
restriction_of over l n = record {
  motion_vectors_over_pic_boundaries_flag = over;
  max_bytes_per_pic_denom = get_or l 0 0;
  max_bits_per_mb_denom = get_or l 1 0;
  log2_max_mv_length_horizontal = get_or l 2 0;
  log2_max_mv_length_vertical = get_or l 3 0;
  max_num_reorder_frames = get_or l 4 0;
  max_dec_frame_buffering = n;
}

-- the restriction after max_dec_frame_buffering, which stands at this bit and is n, with its rules one by one
unfoldable pub restriction_judged : ℕ → ℕ → Bool → List ℕ → ℕ → ℕ → Grammar BitstreamRestriction
restriction_judged refs buffer over l bit n = do
  _ ← check VuiRule bit (nat_le (get_or l 4 0) n)
  _ ← check VuiRule bit (nat_le refs n)
  _ ← check VuiRule bit (nat_le n buffer)
  Done (restriction_of over l n)

-- and with its rules as one
unfoldable pub restriction_judged_once : ℕ → ℕ → Bool → List ℕ → ℕ → ℕ → Grammar BitstreamRestriction
restriction_judged_once refs buffer over l bit n = do
  _ ← check VuiRule bit (nat_le (get_or l 4 0) n && (nat_le refs n && nat_le n buffer))
  Done (restriction_of over l n)

pub judged-once : (refs buffer : ℕ) (over : Bool) (l : List ℕ) (bit n : ℕ) (body : Body) (i : ℕ) → run (restriction_judged refs buffer over l bit n) body i ≡
    run (restriction_judged_once refs buffer over l bit n) body i
unfolding restriction_judged restriction_judged_once
judged-once refs buffer over l bit n body i = three-checks VuiRule bit _ _ _ _ body i

pub restriction-by_values : (refs buffer : ℕ) → bitstream_restriction refs buffer ≡
    (flag MotionVectorsOverPicBoundariesFlag >>=
    (λ over. each unsigned [] (MaxBytesPerPicDenom ∷ MaxBitsPerMbDenom ∷ Log2MaxMvLengthHorizontal ∷ Log2MaxMvLengthVertical ∷ MaxNumReorderFrames ∷ []) >>=
    (λ l. element MaxDecFrameBuffering Unsigned >>= (λ e. restriction_judged refs buffer over l e.bit (natural e.value)))))
unfolding bitstream_restriction restriction_judged each unsigned flag read_word ◌>>=◌
restriction-by_values refs buffer = refl
