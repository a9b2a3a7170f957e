-- What a header and its sets state passes the clamps of the definitions unchanged.
use Rattle.std.proofs.Common.{◌≡◌, ℕ, zero, suc, ◌≤◌, nat_le, Bool, true, false, List, Option, Some, None, ℤ, pos, negsuc, min, refl, ap, arith}
use Rattle.std.specs.Prelude.{max, unwrap_or, int_le}
use Rattle.std.specs.Option.{option_map_or}
use Rattle.std.proofs.lemmas.Bool.{and_parts, leb-true}
use Rattle.std.proofs.lemmas.Bool.Decides.{nat_tests}
use Rattle.h264_base.specs.declared.element_name.ElementName.{ElementName}
use Rattle.h264_base.specs.Body.{Body}
use Rattle.h264_base.specs.Grammar.{Element, Derives, ◌>>=◌, read_word, check}
use Rattle.h264_base.proofs.Gives.{Gives, gives-following, gives-bind, gives-derived}
use Rattle.h264_bits.specs.Forms.{signed_within}
use Rattle.h264_tables.specs.declared.level.Limits.{Limits}
use Rattle.h264_tables.specs.Level.{limits_of}
use Rattle.h264_tables.specs.ChromaQp.{clip_51}
use Rattle.h264_sps.specs.declared.sps.Sps.{Sps}
use Rattle.h264_sps.specs.Sps.{max_dpb_frames}
use Rattle.h264_sps.specs.Usable.{has_lengths, is_usable, is_accepted, is_frame_size, crops_within, holds_references, given_frames, dpb_frames}
use Rattle.h264_pps.specs.declared.Pps.{Pps}
use Rattle.h264_header.specs.declared.header.Header.{Header}
use Rattle.h264_header.specs.declared.header.SliceUnit.{SliceUnit}
use Rattle.h264_header.specs.Header.{header, filter_offsets, deblocking_of, deblocking}
use Rattle.h264_picture.specs.Buffer.{buffer_size}
use Rattle.h264_picture.specs.Context.{stated_qp, slice_qp}
use Rattle.h264_picture.specs.Filter.{clip_6, AreStated, HasOffsets}

pub qp-stated : (pps : Pps) (h : Header) (n : ℕ) → stated_qp pps h ≡ pos n → n ≤ 51 → slice_qp pps h ≡ n
qp-stated pps h n e most = rw e (let m : min n 51 ≡ n = omega arith in m)

-- ---- the filter's offsets

within-6 : (z : ℤ) → int_le (negsuc 5) z ≡ true → int_le z (pos 6) ≡ true → clip_6 z ≡ z
within-6 (pos n) low high = let most : n ≤ 6 = leb-true n 6 high in ap pos (omega arith)
within-6 (negsuc n) low high = let most : n ≤ 5 = leb-true n 5 low in ap negsuc (omega arith)

offset-gives : (name : ElementName) → Gives (signed_within name (negsuc 5) (pos 6)) (λ z. clip_6 z ≡ z)
unfolding Gives signed_within read_word check ◌>>=◌
offset-gives name = λ e low high. within-6 e.value low high

offsets-give : Gives filter_offsets AreStated
unfolding Gives filter_offsets
offsets-give = gives-bind (λ z. clip_6 z ≡ z) AreStated _ _ (offset-gives _)
    (λ a p. gives-bind (λ z. clip_6 z ≡ z) AreStated _ _ (offset-gives _) (λ b q. (p, q)))

kind-gives : (idc : ℕ) → Gives (deblocking_of idc) HasOffsets
unfolding Gives deblocking_of
kind-gives zero = gives-bind AreStated HasOffsets _ _ offsets-give (λ o h. h)
kind-gives (suc zero) = tt
kind-gives (suc (suc n)) = gives-bind AreStated HasOffsets _ _ offsets-give (λ o h. h)

deblocking-gives : (there : Bool) → Gives (deblocking there) HasOffsets
unfolding Gives deblocking
deblocking-gives false = (refl, refl)
deblocking-gives true = gives-following _ _ HasOffsets (λ idc. kind-gives idc)

header-gives : (sets : ℕ → Option (Pps × Sps)) (unit : SliceUnit) → Gives (header sets unit) (λ h. HasOffsets h.deblocking)
unfolding Gives header
header-gives sets unit = gives-following _ _ _
    (λ first. gives-following _ _ _ (λ stated. gives-following _ _ _ (λ named. gives-following _ _ _ (λ num. gives-following _ _ _
    (λ idr. gives-following _ _ _ (λ order. gives-following _ _ _ (λ kind. gives-following _ _ _ (λ marking. gives-following _ _ _
    (λ qp. gives-bind HasOffsets _ (deblocking named.layout.has_deblocking_control) _ (deblocking-gives _) (λ filter h. h))))))))))

pub offsets-stated : (sets : ℕ → Option (Pps × Sps)) (unit : SliceUnit) (body : Body) (i j : ℕ) (es : List Element) (h : Header) →
    Derives (header sets unit) body i es j h → HasOffsets h.deblocking
offsets-stated sets unit body i j es h d = gives-derived (header sets unit) (λ h. HasOffsets h.deblocking) body i es j h (header-gives sets unit) d

-- ---- the picture buffer

few-frames : (sps : Sps) → dpb_frames sps ≤ 16
few-frames sps = by (limits_of sps.level_idc sps.constraint_set_flags.set3)
  where
    by : (o : Option Limits) → option_map_or (λ (l : Limits). max_dpb_frames l sps.frame_size) o 0 ≤ 16
    by None = omega arith
    by (Some l) = omega arith

given-few : (o : Option ℕ) (frames : ℕ) → option_map_or (λ (n : ℕ). nat_le n frames) o true ≡ true → frames ≤ 16 →
    min (unwrap_or o frames) 16 ≡ unwrap_or o frames
given-few None frames h most = omega arith
given-few (Some n) frames h most = let less = leb-true n frames h in omega arith

pub buffer-stated : (sps : Sps) → is_accepted sps ≡ true → buffer_size sps ≡ max 1 (unwrap_or (given_frames sps) (dpb_frames sps))
unfolding buffer_size is_usable
buffer-stated sps h =
    let usable = (and_parts (has_lengths sps) _ h).1 in
    let rest = (and_parts (is_frame_size sps.frame_size) _ usable).1 in
    let more = (and_parts (crops_within sps.frame_size sps.frame_cropping) _ rest).1 in
    ap (λ n. max 1 n) (given-few (given_frames sps) (dpb_frames sps) ((and_parts (holds_references sps) _ more).1) (few-frames sps))
