-- What is noted of an access unit that has ended.
use Rattle.std.proofs.Common.{◌≡◌, ◌++◌, Option, Some, sym, ap, ap₂, ◌∙◌}
use Rattle.h264_strict.specs.BufferUnits.{ended_bits}
use Rattle.h264_strict.specs.Strict.{bits_for, with_places}
use Rattle.h264_strict.specs.StrictRules.{broken_if, listed}
use Rattle.h264_strict.specs.declared.buffer_units.Ended.{Ended}
use Rattle.h264_strict.specs.declared.strict.Places.{Places}
use Rattle.h264_strict.specs.declared.strict_rule.StrictRule.{StrictRule}
use Rattle.h264_strict.specs.declared.strict_rule.StrictRule.TheVariants as rules
use Rattle.h264_strict.proofs.Broken.{noted-more}

-- each of its five rules was noted
pub notes-ended : (r : StrictRule) (old first second third fourth new : Option Places) (e : Ended) (ended : Option Ended) (a b c d f : Option StrictRule) →
    ended ≡ Some e →
    a ≡ broken_if e.underflow rules.BufferUnderflow → b ≡ broken_if e.initial_delay rules.InitialDelay → c ≡ broken_if e.overflow rules.BufferOverflow →
    d ≡ broken_if e.removal_rate rules.RemovalRate → f ≡ broken_if e.compression rules.MinCompression →
    first ≡ with_places old (bits_for r e.bit (listed a)) → second ≡ with_places first (bits_for r e.bit (listed b)) →
    third ≡ with_places second (bits_for r e.bit (listed c)) →
    fourth ≡ with_places third (bits_for r e.bit (listed d)) → new ≡ with_places fourth (bits_for r e.bit (listed f)) →
    new ≡ with_places old (ended_bits r ended)
notes-ended r old first second third fourth new e ended a b c d f is is-a is-b is-c is-d is-f one two three four five =
    noted-more r e.bit old first new (listed a) (listed b ++ (listed c ++ (listed d ++ listed f))) one
    (noted-more r e.bit first second new (listed b) (listed c ++ (listed d ++ listed f)) two
    (noted-more r e.bit second third new (listed c) (listed d ++ listed f) three (noted-more r e.bit third fourth new (listed d) (listed f) four five)))
    ∙ ap₂ (λ x y. with_places old (bits_for r e.bit (listed x ++ y))) is-a
    (ap₂ (λ x y. listed x ++ y) is-b (ap₂ (λ x y. listed x ++ y) is-c (ap₂ (λ x y. listed x ++ listed y) is-d is-f)))
    ∙ ap (λ o. with_places old (ended_bits r o)) (sym is)
