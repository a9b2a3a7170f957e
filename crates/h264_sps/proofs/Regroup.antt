-- Structures, and the same read part by part.
use Rattle.std.proofs.Common.{◌≡◌, ℕ, Bool, true, false, ◌&&◌, cond, [], ◌∷◌, ◌==◌, get_or, Some, None, refl}
use Rattle.h264_base.specs.declared.element_name.ElementName.TheVariants.{ConstraintSet0Flag, ConstraintSet1Flag, ConstraintSet2Flag, ConstraintSet3Flag}
use Rattle.h264_base.specs.declared.element_name.ElementName.TheVariants.{ConstraintSet4Flag, ConstraintSet5Flag, FrameCropLeftOffset, FrameCropRightOffset}
use Rattle.h264_base.specs.declared.element_name.ElementName.TheVariants.{FrameCropTopOffset, FrameCropBottomOffset}
use Rattle.h264_base.specs.declared.rule.Rule.{Rule}
use Rattle.h264_base.specs.Body.{Body}
use Rattle.h264_base.specs.Grammar.{Grammar, Done, ◌>>=◌, read_word, check}
use Rattle.h264_base.specs.Run.{run}
use Rattle.h264_bits.specs.Forms.{bits, flag, each}
use Rattle.h264_sps.specs.declared.sps.ConstraintSetFlags.{ConstraintSetFlags}
use Rattle.h264_sps.specs.declared.sps.FrameCropping.{FrameCropping}
use Rattle.h264_sps.specs.declared.sps.FrameSize.{FrameSize as Size}
use Rattle.h264_sps.specs.Parts.{crop_offsets}
use Rattle.h264_sps.specs.Sps.{constraint_set_flags, frame_cropping}

-- checks of one rule at one bit are one check
pub four-checks : {A : Type 0} (rule : Rule) (bit : ℕ) (a b c d : Bool) (g : Grammar A) (body : Body) (i : ℕ) →
    run (check rule bit a >>= (λ _. check rule bit b >>= (λ _. check rule bit c >>= (λ _. check rule bit d >>= (λ _. g))))) body i ≡
    run (check rule bit (a && (b && (c && d))) >>= (λ _. g)) body i
unfolding run check ◌>>=◌
four-checks rule bit true true true d g body i = refl
four-checks rule bit true true false d g body i = refl
four-checks rule bit true false c d g body i = refl
four-checks rule bit false b c d g body i = refl

-- what a test found
pub found-some : {A : Type 0} (b : Bool) (x y : A) → cond b (Some x) None ≡ Some y → (b ≡ true) × (y ≡ x)
found-some true x y e = (refl, cc)
found-some false x y e = absurd (cc)

pub found-none : {A : Type 0} (b : Bool) (x : A) → cond b (Some x) None ≡ None → b ≡ false
found-none true x e = absurd (cc)
found-none false x e = refl

pub crop-by_sides : (size : Size) → frame_cropping size ≡
    (crop_offsets FrameCropLeftOffset FrameCropRightOffset size.width >>=
    (λ a. crop_offsets FrameCropTopOffset FrameCropBottomOffset size.height >>=
    (λ d. Done (let c : FrameCropping = record { left = a.0; right = a.1; top = d.0; bottom = d.1 } in c))))
unfolding frame_cropping crop_offsets read_word check ◌>>=◌
crop-by_sides size = refl

-- the parts that are read as one list of values
pub flags-by_values : constraint_set_flags ≡
    (each (λ name. bits name 1) [] (ConstraintSet0Flag ∷ ConstraintSet1Flag ∷ ConstraintSet2Flag ∷ ConstraintSet3Flag ∷ ConstraintSet4Flag ∷
    ConstraintSet5Flag ∷ []) >>= (λ l. Done (let flags : ConstraintSetFlags =
    record {
      set0 = get_or l 0 0 == 1;
      set1 = get_or l 1 0 == 1;
      set2 = get_or l 2 0 == 1;
      set3 = get_or l 3 0 == 1;
      set4 = get_or l 4 0 == 1;
      set5 = get_or l 5 0 == 1;
    } in flags)))
unfolding constraint_set_flags each bits flag read_word ◌>>=◌
flags-by_values = refl
