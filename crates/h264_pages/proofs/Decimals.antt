-- The decimals of a number of thousandths.
use Rattle.std.proofs.Common.{◌≡◌, ℕ, ◌-◌, ◌/◌, ◌%◌, ◌^◌, ◌<◌, ◌≤◌, ◌+◌, false, Result, Ok, Err, OnOk, [], ◌∷◌, ◌++◌, ⊎_elim, ap, ◌∙◌, arith}
use Rattle.std.specs.Result.{is_err}
use Rattle.std.specs.Fmt.{decimal, char_count, format_spec, padded_integral, styled_decimal}
use Rattle.std.proofs.lemmas.Fmt.{decimal_digit, decimal_step}
use Rattle.std.proofs.lemmas.Bool.{cases_lt}
use Rattle.h264_pages.specs.Pages.{three_digits}

-- numbers of two and of three digits
two-decimals : (n : ℕ) → 10 ≤ n → n < 100 → decimal n ≡ (48 + n / 10) ∷ (48 + n % 10) ∷ []
two-decimals n least small = decimal_step n least (omega arith) ∙ ap (λ l. l ++ (48 + n % 10) ∷ []) (decimal_digit (n / 10) (omega arith))

three-decimals : (n : ℕ) → 100 ≤ n → n < 1000 → decimal n ≡ three_digits n
three-decimals n least small =
    let first : n / 10 / 10 ≡ n / 100 = omega arith in
    decimal_step n (omega arith) (omega arith) ∙ ap (λ l. l ++ (48 + n % 10) ∷ [])
    (two-decimals (n / 10) (omega arith) (omega arith) ∙ ap (λ m. (48 + m) ∷ (48 + n / 10 % 10) ∷ []) first)

-- what `{:03}` writes of a number below 1000
pub padded_to_three : (n : ℕ) → n < 1000 → styled_decimal (format_spec 32 0 4 3 (2 ^ 64 - 1)) n ≡ three_digits n
unfolding padded_integral char_count
padded_to_three n small = ⊎_elim one (λ least. ⊎_elim (two least) three (cases_lt n 100)) (cases_lt n 10)
  where
    one : n < 10 → styled_decimal (format_spec 32 0 4 3 (2 ^ 64 - 1)) n ≡ three_digits n
    one below =
        let first : n / 100 ≡ 0 = omega arith in
        let second : n / 10 % 10 ≡ 0 = omega arith in
        let third : n % 10 ≡ n = omega arith in
        rw (decimal_digit n below, first, second, third)

    two : 10 ≤ n → n < 100 → styled_decimal (format_spec 32 0 4 3 (2 ^ 64 - 1)) n ≡ three_digits n
    two least below =
        let first : n / 100 ≡ 0 = omega arith in
        let second : n / 10 % 10 ≡ n / 10 = omega arith in
        rw (two-decimals n least below, first, second)

    three : 100 ≤ n → styled_decimal (format_spec 32 0 4 3 (2 ^ 64 - 1)) n ≡ three_digits n
    three least = rw (three-decimals n least small)

-- a value that was written
pub written : {T E P : Type 0} (r : Result T E) → is_err r ≡ false → OnOk r P → P
written (Ok x) is p = p
written (Err e) is p = absurd (cc)
