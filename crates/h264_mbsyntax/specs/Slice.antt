-- slice_data() (7.3.4), one macroblock after another. To be read beside the standard.
use Rattle.std.specs.Prelude.{◌≡◌, ℕ, zero, suc, ◌-◌, ◌==◌, ◌||◌, nat_lt, nat_le, Bool, List, [], ◌∷◌, ◌++◌, length, replicate, Option, Some, None}
use Rattle.std.specs.Prelude.{if◌then◌else◌}
use Rattle.h264_base.specs.declared.element_name.ElementName.TheVariants.{MbSkipRun}
use Rattle.h264_base.specs.declared.mode.SliceType.{SliceType}
use Rattle.h264_base.specs.declared.mode.SliceType.TheVariants as slice_type
use Rattle.h264_base.specs.declared.rule.Rule.TheVariants.{Range, SliceEmpty, MbPast, NoReference, VectorRange, TransformRange}
use Rattle.h264_base.specs.Word.{Unsigned}
use Rattle.h264_base.specs.Grammar.{Grammar, Done, ◌>>=◌, element, check, more}
use Rattle.h264_bits.specs.Forms.{natural}
use Rattle.h264_near.specs.declared.motion.Vector.{Vector}
use Rattle.h264_near.specs.declared.skipped.Skipped.{Skipped}
use Rattle.h264_near.specs.Coded.{CodedMacroblock, Inter}
use Rattle.h264_vectors.specs.Vectors.{skip_vector, zero_vector}
use Rattle.h264_vectors.specs.declared.slice.SliceContext.{SliceContext}
use Rattle.h264_mbsyntax.specs.declared.slice.Standing.{Standing}
use Rattle.h264_mbsyntax.specs.declared.slice.Standing.TheVariants.{Next, Skipping}
use Rattle.h264_mbsyntax.specs.Residual.{no_coefficients}
use Rattle.h264_vectors.specs.Derived.{has_picture, motion_of, vector_fits}
use Rattle.h264_mbsyntax.specs.Macroblock.{macroblock, coded, predicted_qp}

-- the macroblocks so far and how slice data stand, or nothing where they have ended
abbrev pub Step : Type 0
Step = Option (Standing × List CodedMacroblock)

-- a skipped macroblock (7.4.4): P_Skip, without coefficients
unfoldable pub skipped_of : SliceContext → List CodedMacroblock → Vector → CodedMacroblock
skipped_of slice picture v = coded slice.number (Inter (replicate 16 (Some (motion_of slice 0 v)))) (no_coefficients (predicted_qp slice picture))

-- the skipped macroblock of this slice that stands still, with this QP_Y: its vector is 0 (8.4.1.1)
abbrev pub still_macroblock : SliceContext → ℕ → Skipped
still_macroblock slice qp = record { slice = slice.number; qp = qp; motion = motion_of slice 0 zero_vector }

unfoldable pub skip : ℕ → SliceContext → List CodedMacroblock → ℕ → ℕ → Grammar Step
skip width slice picture bit more_skips = do
  _ ← check VectorRange bit (vector_fits slice.vector_limit (skip_vector width picture slice.number))
  Done (Some (Skipping bit more_skips, picture ++ skipped_of slice picture (skip_vector width picture slice.number) ∷ []))

-- A macroblock that is not skipped, where so many are left in the picture; fits says whether its transform stays in its range (8.5).
unfoldable pub unskipped : (CodedMacroblock → Bool) → ℕ → SliceContext → ℕ → List CodedMacroblock → Grammar Step
unskipped fits width slice left picture = do
  a ← more
  _ ← check MbPast a.bit (nat_lt 0 left)
  m ← macroblock width slice picture
  _ ← check TransformRange m.bit (fits m.macroblock)
  Done (Some (Next, picture ++ m.macroblock ∷ []))

-- what follows mb_skip_run
unfoldable pub after_run : (CodedMacroblock → Bool) → ℕ → SliceContext → ℕ → List CodedMacroblock → Standing → Grammar Step
after_run fits width slice left picture Next = unskipped fits width slice left picture
after_run fits width slice left picture (Skipping bit zero) = unskipped fits width slice left picture
after_run fits width slice left picture (Skipping bit (suc k)) = skip width slice picture bit k

unfoldable pub run_of_skips : (CodedMacroblock → Bool) → ℕ → SliceContext → ℕ → List CodedMacroblock → Grammar Step
run_of_skips fits width slice left picture = do
  run ← element MbSkipRun Unsigned
  _ ← check Range run.bit (nat_le (natural run.value) left)
  _ ← check NoReference run.bit (natural run.value == 0 || has_picture slice 0)
  after_run fits width slice left picture (Skipping run.bit (natural run.value))

-- where more data follow
unfoldable pub by_slice_type : SliceType → (CodedMacroblock → Bool) → ℕ → SliceContext → ℕ → List CodedMacroblock → Grammar Step
by_slice_type slice_type.I fits width slice left picture = unskipped fits width slice left picture
by_slice_type slice_type.P fits width slice left picture = run_of_skips fits width slice left picture

-- the next macroblock, where so many are left in the picture
unfoldable pub next : (CodedMacroblock → Bool) → ℕ → SliceContext → ℕ → List CodedMacroblock → Standing → Grammar Step
next fits width slice left picture Next = do
  a ← more
  if a.follows then by_slice_type slice.slice_type fits width slice left picture else Done None
next fits width slice left picture (Skipping bit (suc k)) = skip width slice picture bit k
next fits width slice left picture (Skipping bit zero) = do
  a ← more
  if a.follows then unskipped fits width slice left picture else Done None

-- the macroblocks after the next one
abbrev pub go_on : List CodedMacroblock → (Standing → List CodedMacroblock → Grammar (List CodedMacroblock)) → Step → Grammar (List CodedMacroblock)
go_on picture rest None = Done picture
go_on picture rest (Some x) = rest x.0 x.1

-- macroblocks to the end of the slice data
unfoldable pub macroblocks : (CodedMacroblock → Bool) → ℕ → SliceContext → ℕ → Standing → List CodedMacroblock → Grammar (List CodedMacroblock)
macroblocks fits width slice zero standing picture = next fits width slice 0 picture standing >>= go_on picture (λ s p. Done p)
macroblocks fits width slice (suc n) standing picture =
    next fits width slice (suc n) picture standing >>= go_on picture (λ s p. macroblocks fits width slice n s p)

-- slice data of a picture that has so many macroblocks, after those of the slices before
unfoldable pub slice_data : (CodedMacroblock → Bool) → ℕ → ℕ → SliceContext → List CodedMacroblock → Grammar (List CodedMacroblock)
slice_data fits width size slice picture = do
  a ← more
  _ ← check SliceEmpty a.bit a.follows
  macroblocks fits width slice (size - length picture) Next picture

-- What the code says of the next macroblock, where K is what it keeps of the macroblocks so far.
abbrev pub Goes : (List CodedMacroblock → Type 0) → List CodedMacroblock → Option Standing → Step → Type 0
Goes K picture None None = K picture
Goes K picture None (Some x) = ⊥
Goes K picture (Some s) None = ⊥
Goes K picture (Some s) (Some x) = (s ≡ x.0) × K x.1
