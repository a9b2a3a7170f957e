-- Types of counting other than 0 and 1.
use Rattle.std.proofs.Common.{◌≡◌, ◌≢◌, ℕ, zero, suc, refl}
use Rattle.h264_base.specs.Grammar.{Done}
use Rattle.h264_sps.specs.declared.count_type.CountType.TheVariants.{DecodingOrder}
use Rattle.h264_sps.specs.Counting.{of_type}

pub of_type-other : (n : ℕ) → n ≢ 0 → n ≢ 1 → of_type n ≡ Done DecodingOrder
unfolding of_type
of_type-other zero a b = absurd (a refl)
of_type-other (suc zero) a b = absurd (b refl)
of_type-other (suc (suc n)) a b = refl
