-- Elements that a reader of bits gives, and parts that it reads so often.
use Rattle.std.proofs.Common.{◌≡◌, ℕ, ℤ, pos, suc, ◌+◌, ◌-◌, ◌<◌, ◌≤◌, List, Option, None, Some, sym, ap, ◌∙◌, arith}
use Rattle.std.specs.Option.{option_map, option_and_then}
use Rattle.h264_base.specs.Word.{Code, Reads, value_at}
use Rattle.h264_base.proofs.Words.{reads-value}
use Rattle.h264_bits.specs.Taken.{HasNoWord}
use Rattle.h264_bits.specs.Forms.{natural}
use Rattle.h264_bits.proofs.Readings.{reads-none}
use Rattle.h264_strict.specs.SeiPart.{Part, element, times}

pub element-some : (code : Code) (bytes : List ℕ) (i v j : ℕ) → Reads code bytes i (pos v) j → Some (v, j) ≡ element code bytes i
element-some code bytes i v j r = sym (ap (λ o. option_map (λ x. (natural x.0, x.1)) o) (reads-value code bytes i (pos v) j r))

pub element-none : (code : Code) (bytes : List ℕ) (i : ℕ) → HasNoWord code bytes i → None ≡ element code bytes i
element-none code bytes i h = sym (ap (λ o. option_map (λ x. (natural x.0, x.1)) o) (reads-none code bytes i h))

-- of an element whose value may be any
abbrev pub passed : Option (ℤ × ℕ) → Option (Unit {0} × ℕ)
passed o = option_and_then (λ (x : ℕ × ℕ). Some (tt, x.1)) (option_map (λ (x : ℤ × ℕ). (natural x.0, x.1)) o)

pub passed-some : (code : Code) (bytes : List ℕ) (i : ℕ) (v : ℤ) (j : ℕ) → Reads code bytes i v j →
    ◌≡◌ {A = Option (Unit {0} × ℕ)} (Some (tt, j)) (passed (value_at code bytes i))
passed-some code bytes i v j r = sym (ap passed (reads-value code bytes i v j r))

pub passed-none : (code : Code) (bytes : List ℕ) (i : ℕ) → HasNoWord code bytes i → ◌≡◌ {A = Option (Unit {0} × ℕ)} None (passed (value_at code bytes i))
passed-none code bytes i h = sym (ap passed (reads-none code bytes i h))

-- ---- a part so often

abbrev going-on : (n : ℕ) (part : Part (Unit {0})) (bytes : List ℕ) → Option (Unit {0} × ℕ) → Option (Unit {0} × ℕ)
going-on n part bytes o = option_and_then (λ x. times n part bytes x.1) o

pub times-next : (n k : ℕ) (part : Part (Unit {0})) (bytes : List ℕ) (i j : ℕ) → k < n → Some (tt, j) ≡ part bytes i →
    times (n - k) part bytes i ≡ times (n - (k + 1)) part bytes j
unfolding times
times-next n k part bytes i j few e =
    let up : n - k ≡ suc (n - (k + 1)) = omega arith in
    ap (λ m. times m part bytes i) up ∙ ap (going-on (n - (k + 1)) part bytes) (sym e)

pub times-stop : (n k : ℕ) (part : Part (Unit {0})) (bytes : List ℕ) (i : ℕ) → k < n → None ≡ part bytes i → times (n - k) part bytes i ≡ None
unfolding times
times-stop n k part bytes i few e =
    let up : n - k ≡ suc (n - (k + 1)) = omega arith in
    ap (λ m. times m part bytes i) up ∙ ap (going-on (n - (k + 1)) part bytes) (sym e)

pub times-over : (n k : ℕ) (part : Part (Unit {0})) (bytes : List ℕ) (i : ℕ) → n ≤ k → times (n - k) part bytes i ≡ Some (tt, i)
unfolding times
times-over n k part bytes i over = let none : n - k ≡ 0 = omega arith in ap (λ m. times m part bytes i) none
