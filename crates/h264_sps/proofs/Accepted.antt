-- What holds of a sequence parameter set that some unit gives.
use Rattle.std.proofs.Common.{◌≡◌, ℕ, zero, suc, ◌+◌, ◌*◌, ◌<◌, ◌≤◌, nat_le, Bool, true, false, ◌&&◌, IsTrue, List, Option, Some, None, Result, Ok, Err, refl}
use Rattle.std.proofs.Common.{sym, subst, arith}
use Rattle.std.specs.Prelude.{nat_lt, unwrap_or, IfSome, IfOk}
use Rattle.std.specs.Option.{is_some, option_map, option_map_or, option_and_then}
use Rattle.std.proofs.lemmas.Nat.{mul-le}
use Rattle.std.proofs.lemmas.Bool.{le-leb, leb-true, lt-ltb, and_from}
use Rattle.std.proofs.lemmas.Bool.Decides.{nat_tests}
use Rattle.h264_base.specs.declared.mode.Target.{Target}
use Rattle.h264_base.specs.Grammar.{Grammar, ◌>>=◌, read_word, check, support}
use Rattle.h264_base.specs.declared.element_name.ElementName.TheVariants.{FrameCroppingFlag, VuiParametersPresentFlag, BitstreamRestrictionFlag}
use Rattle.h264_base.specs.declared.rule.Rule.{Rule}
use Rattle.h264_base.specs.declared.stop.Stop.{Stop}
use Rattle.h264_base.specs.Call.{Call, span}
use Rattle.h264_base.specs.Meets.{Reader, Meets, Is}
use Rattle.h264_tables.specs.declared.level.Limits.{Limits}
use Rattle.h264_tables.specs.Level.{limits_of}
use Rattle.h264_bits.specs.Forms.{natural, flag, optional}
use Rattle.h264_sps.specs.declared.sps.FrameSize.{FrameSize as Size}
use Rattle.h264_sps.specs.declared.sps.FrameCropping.{FrameCropping}
use Rattle.h264_sps.specs.declared.vui.Vui.{Vui}
use Rattle.h264_sps.specs.declared.vui.BitstreamRestriction.{BitstreamRestriction}
use Rattle.h264_sps.specs.Usable.{has_lengths, has_count_lengths, is_frame_size, is_within, crops_within, is_usable, is_accepted}
use Rattle.h264_sps.specs.Vui.{bitstream_restriction, flagged, vui}
use Rattle.h264_sps.proofs.Limits.{limits-bounded}
use Rattle.h264_sps.specs.declared.sps.Sps.{Sps}
use Rattle.h264_sps.specs.declared.count_type.CountType.{CountType}
use Rattle.h264_sps.specs.Counting.{counting, of_type, lsb_type, cycle_type}
use Rattle.h264_sps.specs.Sps.{LevelNamed, ProfileAndLevel, no_limits, max_dpb_frames, level, profile_and_level, fits, frame_size, frame_cropping, sps}
use Rattle.h264_base.proofs.Gives.{Gives, gives-following, gives-bind, gives-met, gives-weaker}
use Rattle.h264_base.proofs.Plain.{some-same}
use Rattle.h264_bits.proofs.Given.{gives-to}

record HasRanges (s : Sps) : Type 0 where
  pub lengths : has_lengths s ≡ true
  pub usable : is_usable s ≡ true

few : (n : ℕ) → n ≤ 12 → nat_le (n + 4) 16 ≡ true
few n h = le-leb (n + 4) 16 (omega (arith, h))

abbrev HasCount : CountType → Type 0
HasCount c = has_count_lengths c ≡ true

of-kind : (kind : ℕ) → Gives (of_type kind) HasCount
unfolding of_type lsb_type cycle_type Gives
of-kind zero = gives-to _ _ _ _ (λ n h. few n h)
of-kind (suc zero) = gives-following _ _ _
    (λ _. gives-following _ _ _ (λ _. gives-following _ _ _ (λ _. gives-following _ _ _ (λ _. gives-following _ _ _ (λ _. refl)))))
of-kind (suc (suc n)) = refl

counts : Gives counting HasCount
unfolding counting
counts = gives-following _ _ _ of-kind

-- the limits are those of the level
record HasLevel (set3 : Bool) (n : LevelNamed) : Type 0 where
  pub is : limits_of n.level_idc set3 ≡ Some n.limits
  pub small : n.limits.max_fs ≤ 36864

level-of : (o : Option Limits) → is_some o ≡ true → IfSome o (λ (l : Limits). l.max_fs ≤ 36864) → (o ≡ Some (unwrap_or o no_limits)) ×
    ((unwrap_or o no_limits).max_fs ≤ 36864)
level-of None h b = cc
level-of (Some l) h b = (refl, b)

level-gives : (set3 : Bool) → Gives (level set3) (HasLevel set3)
unfolding level read_word support check ◌>>=◌ Gives
level-gives set3 = λ e _ t. let l = level-of (limits_of (natural e.value) set3) t (limits-bounded (natural e.value) set3) in record { is = l.0; small = l.1 }

abbrev HasFront : ProfileAndLevel → Type 0
HasFront f = HasLevel f.flags.set3 f.named

front-gives : (target : Target) → Gives (profile_and_level target) HasFront
unfolding profile_and_level check Gives
front-gives target = gives-following _ _ _
    (λ profile. gives-following _ _ _ (λ flags. gives-following _ _ _
    (λ _. gives-following _ _ _ (λ reserved. gives-bind (HasLevel flags.set3) _ (level flags.set3) _ (level-gives flags.set3) (λ named h. h)))))

-- the size is one of the level
record HasSize (limits : Limits) (refs : ℕ) (size : Size) : Type 0 where
  pub wide : 0 < size.width
  pub high : 0 < size.height
  pub macroblocks : size.width * size.height ≤ limits.max_fs
  pub across : size.width * size.width ≤ 8 * limits.max_fs
  pub down : size.height * size.height ≤ 8 * limits.max_fs
  pub references : refs ≤ max_dpb_frames limits size

size-gives : (limits : Limits) (refs : ℕ) → Gives (frame_size limits refs) (HasSize limits refs)
unfolding frame_size fits read_word check ◌>>=◌ Gives
size-gives limits refs = λ w h a b c d. record {
  wide = omega arith;
  high = omega arith;
  macroblocks = leb-true _ _ a;
  across = leb-true _ _ b;
  down = leb-true _ _ c;
  references = leb-true _ _ d;
}

side : (n max : ℕ) → n * n ≤ 8 * max → max ≤ 36864 → n ≤ 543
side n max h m = by (nat_le n 543) refl
  where
    by : (b : Bool) → nat_le n 543 ≡ b → n ≤ 543
    by true e = leb-true n 543 e
    by false e = let more : 544 ≤ n = grind (arith, nat_tests) in let sq : 544 * 544 ≤ n * n = mul-le 544 544 n n more more in absurd (omega (arith, h, m, sq))

-- the cropping rectangle leaves something
abbrev HasCrop : Size → Option FrameCropping → Type 0
HasCrop size o = crops_within size o ≡ true

crop-gives : (size : Size) → Gives (frame_cropping size) (λ c. is_within size c ≡ true)
unfolding frame_cropping read_word check ◌>>=◌ Gives
crop-gives size = λ l r a t b c. and_from _ _ (below _ _ a) (below _ _ c)
  where
    below : (n m : ℕ) → nat_lt (2 * n) (16 * m) ≡ true → nat_lt n (8 * m) ≡ true
    below n m h = grind (arith, nat_tests)

flagged-gives : {A : Type 0} (present : Grammar Bool) (part : Grammar A) (P : Option A → Type 0) → P None → Gives part (λ x. P (Some x)) →
    Gives (flagged present part) P
unfolding flagged optional Gives
flagged-gives present part P none some = gives-following _ _ _ by
  where
    by : (b : Bool) → Gives (optional b part) P
    by true = gives-bind (λ x. P (Some x)) P part _ some (λ x h. h)
    by false = none

-- the buffer holds the reference frames, and no more than the level allows, where its size is given
abbrev FitsIn : ℕ → ℕ → ℕ → Type 0
FitsIn refs max frames = (refs ≤ frames) × (frames ≤ max)

abbrev HasBuffering : ℕ → ℕ → Option Vui → Type 0
HasBuffering refs max o = (frames : ℕ) →
    option_map (λ (r : BitstreamRestriction). r.max_dec_frame_buffering) (option_and_then (λ (v : Vui). v.bitstream_restriction) o) ≡ Some frames →
    FitsIn refs max frames

check-gives : {B : Type 0} (rule : Rule) (bit : ℕ) (holds : Bool) (f : Unit {0} → Grammar B) (P : B → Type 0) → (IsTrue holds → Gives (f tt) P) →
    Gives (check rule bit holds >>= f) P
unfolding check ◌>>=◌ Gives
check-gives rule bit holds f P h = h

restriction-gives : (refs max : ℕ) → Gives (bitstream_restriction refs max) (λ r. FitsIn refs max r.max_dec_frame_buffering)
unfolding bitstream_restriction Gives
restriction-gives refs max = gives-following _ _ _
    (λ over. gives-following _ _ _ (λ bytes. gives-following _ _ _
    (λ mb_bits. gives-following _ _ _ (λ across. gives-following _ _ _
    (λ down. gives-following _ _ _ (λ reorder. gives-following _ _ _
    (λ e. check-gives _ _ _ _ _ (λ _. check-gives _ _ _ _ _ (λ b. check-gives _ _ _ _ _ (λ c. (leb-true _ _ b, leb-true _ _ c)))))))))))

restricted : (refs max : ℕ) (r : BitstreamRestriction) → FitsIn refs max r.max_dec_frame_buffering →
    (frames : ℕ) → Some r.max_dec_frame_buffering ≡ Some frames → FitsIn refs max frames
restricted refs max r h frames e = subst (λ n. FitsIn refs max n) (some-same _ _ e) h

none-given : (refs max frames : ℕ) → (let o : Option ℕ = None in o ≡ Some frames) → FitsIn refs max frames
none-given refs max frames e = cc

abbrev IsBuffering : ℕ → ℕ → Option BitstreamRestriction → Type 0
IsBuffering refs max o = (frames : ℕ) → option_map (λ (r : BitstreamRestriction). r.max_dec_frame_buffering) o ≡ Some frames → FitsIn refs max frames

vui-gives : (refs max : ℕ) → Gives (vui refs max) (λ v. HasBuffering refs max (Some v))
unfolding vui Gives
vui-gives refs max = gives-following _ _ _
    (λ _. gives-following _ _ _ (λ _. gives-following _ _ _
    (λ _. gives-following _ _ _ (λ _. gives-following _ _ _
    (λ _. gives-following _ _ _ (λ _. gives-following _ _ _
    (λ _. gives-following _ _ _ (λ _. gives-following _ _ _
    (λ _. gives-bind (IsBuffering refs max) _ (flagged (flag BitstreamRestrictionFlag) (bitstream_restriction refs max)) _
    (flagged-gives (flag BitstreamRestrictionFlag) (bitstream_restriction refs max) (IsBuffering refs max) (none-given refs max)
    (gives-weaker (bitstream_restriction refs max) (λ r. FitsIn refs max r.max_dec_frame_buffering) (λ r. IsBuffering refs max (Some r))
    (restriction-gives refs max) (λ r h. restricted refs max r h))) (λ o h. h))))))))))

-- the buffer holds the reference frames
holds-by : (refs : ℕ) (o : Option ℕ) (frames : ℕ) → ((n : ℕ) → o ≡ Some n → refs ≤ n) → refs ≤ frames → nat_le refs (unwrap_or o frames) ≡ true
holds-by refs None frames h k = le-leb refs frames k
holds-by refs (Some n) frames h k = le-leb refs n (h n refl)

-- and is no larger than this
buffers-by : (o : Option ℕ) (frames : ℕ) → ((n : ℕ) → o ≡ Some n → n ≤ frames) → option_map_or (λ (n : ℕ). nat_le n frames) o true ≡ true
buffers-by None frames h = refl
buffers-by (Some n) frames h = le-leb n frames (h n refl)

frame-of : (limits : Limits) (refs : ℕ) (size : Size) → limits.max_fs ≤ 36864 → HasSize limits refs size → is_frame_size size ≡ true
frame-of limits refs size small h =
    and_from _ _ (lt-ltb 0 size.width h.wide)
    (and_from _ _ (lt-ltb 0 size.height h.high)
    (and_from _ _ (le-leb (size.width * size.height) 36864 (let m = h.macroblocks in omega (arith, m, small)))
    (and_from _ _ (le-leb size.width 543 (side size.width limits.max_fs h.across small))
    (le-leb size.height 543 (side size.height limits.max_fs h.down small)))))

sps-gives : (target : Target) → Gives (sps target) HasRanges
unfolding sps is_usable Gives
sps-gives target = gives-bind HasFront _ (profile_and_level target) _ (front-gives target)
    (λ front level. gives-following _ _ _ (λ id. gives-to _ _ _ _
    (λ log2 short. gives-bind HasCount _ counting _ counts
    (λ count e. gives-following _ _ _ (λ refs. gives-following _ _ _
    (λ _. gives-bind (HasSize front.named.limits refs) _ (frame_size front.named.limits refs) _ (size-gives front.named.limits refs)
    (λ size fits. gives-following _ _ _ (λ _. gives-following _ _ _ (λ _.
    gives-bind (HasCrop size) _ (flagged (flag FrameCroppingFlag) (frame_cropping size)) _
    (flagged-gives (flag FrameCroppingFlag) (frame_cropping size) (HasCrop size) refl (crop-gives size)) (λ crop within.
    gives-bind (HasBuffering refs (max_dpb_frames front.named.limits size)) _
    (flagged (flag VuiParametersPresentFlag) (vui refs (max_dpb_frames front.named.limits size))) _
    (flagged-gives (flag VuiParametersPresentFlag) (vui refs (max_dpb_frames front.named.limits size))
    (HasBuffering refs (max_dpb_frames front.named.limits size)) (none-given refs (max_dpb_frames front.named.limits size))
    (vui-gives refs (max_dpb_frames front.named.limits size))) (λ usability buffering.
    gives-following _ _ _ (λ _.
    let most = λ (o : Option Limits). option_map_or (λ (l : Limits). max_dpb_frames l size) o 0 in
    record {
      lengths = and_from _ _ (few log2 short) e;
      usable = and_from _ _ (frame-of front.named.limits refs size level.small fits) (and_from _ _ within (and_from _ _
          (holds-by refs _ _ (λ n g. (buffering n g).0) (subst (λ o. refs ≤ most o) (sym level.is) fits.references))
          (buffers-by _ _ (λ n g. subst (λ o. n ≤ most o) (sym level.is) (buffering n g).1))));
    }))))))))))))

-- a set that some unit gives is accepted
pub gives-accepted : (target : Target) → Gives (sps target) (λ s. is_accepted s ≡ true)
gives-accepted target = gives-weaker (sps target) HasRanges (λ s. is_accepted s ≡ true) (sps-gives target)
    (λ s h. and_from (has_lengths s) (is_usable s) h.lengths h.usable)

-- so is one that was read
pub read-accepted : {S : Type 0} {took : S → List Call → Type 0} {failures : S → ℕ} {old new : Reader} {s s' : S} (target : Target) (r : Result Sps Stop) →
    Meets (span took failures s s') (Is (λ (x : Sps). x)) (sps target) old new r → IfOk r (λ s. is_accepted s ≡ true)
read-accepted target (Ok x) m = gives-met (λ s. is_accepted s ≡ true) (gives-accepted target) m
read-accepted target (Err e) m = tt
