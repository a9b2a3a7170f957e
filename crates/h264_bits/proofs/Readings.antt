-- From values at a bit to words that stand there.
use Rattle.std.proofs.Common.{◌≡◌, ℕ, ◌+◌, ◌*◌, ◌<◌, ◌≤◌, ℤ, pos, true, false, not, List, length, Option, Some, None, refl, sym, ◌∙◌, subst, arith, ◌==◌}
use Rattle.std.specs.Option.{is_some}
use Rattle.h264_base.specs.Word.{Code, Unsigned, Signed, Reads, value_at, signed, no_zero_at, padding}
use Rattle.h264_base.specs.Grammar.{HasMore, IsClosed, IsPadded}
use Rattle.h264_base.proofs.Words.{value-reads, reads-value, has_more, padded-from, from-padded}
use Rattle.h264_bits.specs.Peek.{IsLastOne}
use Rattle.h264_bits.specs.Taken.{HasNoWord}
use Rattle.h264_bits.proofs.Peeks.{signed-some, signed-none}

pub none-reads : (code : Code) (bytes : List ℕ) (i : ℕ) → value_at code bytes i ≡ None → HasNoWord code bytes i
none-reads code bytes i e v j r = let f : ◌≡◌ {A = Option (ℤ × ℕ)} (Some (v, j)) None = sym (reads-value code bytes i v j r) ∙ e in cc

pub reads-none : (code : Code) (bytes : List ℕ) (i : ℕ) → HasNoWord code bytes i → value_at code bytes i ≡ None
reads-none code bytes i h = go (value_at code bytes i) refl
  where
    go : (o : Option (ℤ × ℕ)) → value_at code bytes i ≡ o → o ≡ None
    go None e = refl
    go (Some x) e = absurd (h x.0 x.1 (value-reads code bytes i x.0 x.1 e))

-- se(v) by ue(v)
pub signed-reads : (bytes : List ℕ) (i c j : ℕ) → Reads Unsigned bytes i (pos c) j → Reads Signed bytes i (signed c) j
signed-reads bytes i c j r = value-reads Signed bytes i (signed c) j (signed-some c j bytes i (reads-value Unsigned bytes i (pos c) j r))

pub signed-wordless : (bytes : List ℕ) (i : ℕ) → HasNoWord Unsigned bytes i → HasNoWord Signed bytes i
signed-wordless bytes i h = none-reads Signed bytes i (signed-none bytes i (reads-none Unsigned bytes i h))

-- more data by the last 1
pub more-before : (bytes : List ℕ) (i last : ℕ) → IsLastOne bytes last → i ≤ 8 * length bytes → HasMore bytes i (not (i == last))
unfolding IsLastOne
more-before bytes i last h inside = subst (λ b. HasMore bytes i (not b)) (h i inside) (has_more bytes i)

pub zeros-padded : (bytes : List ℕ) (i : ℕ) → is_some (no_zero_at (padding i) bytes i) ≡ false → IsPadded bytes i
zeros-padded bytes i e = padded-from (padding i) bytes i (none (no_zero_at (padding i) bytes i) e)
  where
    none : (o : Option ℕ) → is_some o ≡ false → o ≡ None
    none None e = refl
    none (Some j) e = absurd (cc)

pub set-not_padded : (bytes : List ℕ) (i : ℕ) → is_some (no_zero_at (padding i) bytes i) ≡ true → IsPadded bytes i → ⊥
set-not_padded bytes i e s = let f : is_some {T = ℕ} None ≡ true = (rw (from-padded (padding i) bytes i s) at e) in cc

-- trailing bits are the end of the data in the last byte
pub ends-closed : (bytes : List ℕ) (i : ℕ) → HasMore bytes i false → 8 * length bytes ≤ i + 8 → IsClosed bytes i
ends-closed bytes i m near = let whole = m.1.1 in (m.0, omega arith, m.1)

pub more-not_closed : (bytes : List ℕ) (i : ℕ) → HasMore bytes i true → IsClosed bytes i → ⊥
more-not_closed bytes i m c = m c.0 c.2

pub far-not_closed : (bytes : List ℕ) (i : ℕ) → i + 8 < 8 * length bytes → IsClosed bytes i → ⊥
far-not_closed bytes i far c = let few = c.1 in let whole = c.2.1 in absurd (omega arith)
