-- Elements that neither begin a slice nor macroblocks change nothing.
use Rattle.std.proofs.Common.{◌≡◌, ℤ, refl}
use Rattle.h264_base.specs.declared.element_name.ElementName.{ElementName}
use Rattle.h264_base.specs.declared.element_name.ElementName.TheVariants.{FirstMbInSlice, MbSkipRun, MbType}
use Rattle.h264_lines.specs.declared.reading.Reading.{Reading}
use Rattle.h264_lines.specs.Chosen.{after_element}

pub others-stay : (name : ElementName) (v : ℤ) (r : Reading) → (name ≡ FirstMbInSlice → ⊥) → (name ≡ MbSkipRun → ⊥) → (name ≡ MbType → ⊥) →
    after_element name v r ≡ r
unfolding after_element
others-stay FirstMbInSlice v r a b c = absurd (a refl)
others-stay MbSkipRun v r a b c = absurd (b refl)
others-stay MbType v r a b c = absurd (c refl)
others-stay name v r a b c = refl
