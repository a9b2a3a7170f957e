-- Syntax structures as terms, and what they mean (7.2, 7.3). To be read beside the standard.
use Rattle.std.specs.Prelude.{◌≡◌, ℕ, ◌+◌, ◌*◌, ◌/◌, Bool, true, false, IsTrue, IsFalse, List, [], ◌∷◌, length, replicate, take, drop, ℤ, Some, ◌<◌}
use Rattle.std.specs.Prelude.{◌≤◌, ◌⊎◌, Result, Ok, Err}
use Rattle.h264_base.specs.declared.element_name.ElementName.{ElementName}
use Rattle.h264_base.specs.declared.rule.Rule.{Rule}
use Rattle.h264_base.specs.declared.rule.Rule.TheVariants.{CodeWord, ResidualWord, Trailing}
use Rattle.h264_base.specs.declared.stop.Feature.{Feature}
use Rattle.h264_base.specs.declared.stop.Stop.{Stop}
use Rattle.h264_base.specs.declared.stop.Stop.TheVariants.{No, Outside}
use Rattle.h264_base.specs.Word.{Code, Reads, StandsAt, bit_of, padding}
use Rattle.h264_base.specs.Body.{Body, place}

-- an element: its first bit in the RBSP, the bit after it, and its value
pub record Element : Type 0 where
  pub name : ElementName
  pub from : ℕ
  pub to : ℕ
  pub value : ℤ

-- what a check sees of an element: the stream bit where it begins, and its value
pub record Found : Type 0 where
  pub bit : ℕ
  pub value : ℤ

abbrev pub found : Body → Element → Found
found body e = record { bit = place body e.from; value = e.value }

-- whether more data follow: the stream bit that is next, and the answer
pub record Ahead : Type 0 where
  pub bit : ℕ
  pub follows : Bool

abbrev pub ahead : Body → ℕ → Bool → Ahead
ahead body i b = record { bit = place body i; follows = b }

-- A syntax structure: what it reads, which checks stand where, and what it gives.
pub data Grammar (A : Type 0) : Type 0 where
  -- nothing more is read, and the structure gives this
  Done : A → Grammar A
  -- an element, the rule that a missing word breaks, and its code
  Read : ElementName → Rule → Code → (Found → Grammar A) → Grammar A
  -- a rule that is checked, with the stream bit that it names
  Check : Rule → ℕ → Bool → Grammar A → Grammar A
  -- a feature that is not judged where the test fails
  Support : Feature → ℕ → Bool → Grammar A → Grammar A
  -- more_rbsp_data()
  More : (Ahead → Grammar A) → Grammar A
  -- pcm_alignment_zero_bit up to the next byte
  Align : Grammar A → Grammar A
  -- this many bytes, from the first bit of a byte; the sink is not told of them
  Bytes : ℕ → (List ℕ → Grammar A) → Grammar A
  -- rbsp_trailing_bits()
  Close : Grammar A → Grammar A

infixl 10 ◌>>=◌
unfoldable pub ◌>>=◌ : {A B : Type 0} → Grammar A → (A → Grammar B) → Grammar B
(Done x) >>= f = f x
(Read name rule code k) >>= f = Read name rule code (λ e. k e >>= f)
(Check rule at holds g) >>= f = Check rule at holds (g >>= f)
(Support feature at holds g) >>= f = Support feature at holds (g >>= f)
(More k) >>= f = More (λ b. k b >>= f)
(Align g) >>= f = Align (g >>= f)
(Bytes n k) >>= f = Bytes n (λ bytes. k bytes >>= f)
(Close g) >>= f = Close (g >>= f)

-- a 1 and then 0s end the bytes at bit i
abbrev pub Ends : List ℕ → ℕ → ℕ → Type 0
Ends bytes i n = StandsAt bytes i (true ∷ replicate n false) × (i + n + 1 ≡ 8 * length bytes)

-- there is more data unless the rest is a 1 followed by 0s only
abbrev pub HasMore : List ℕ → ℕ → Bool → Type 0
HasMore bytes i true = (n : ℕ) → Ends bytes i n → ⊥
HasMore bytes i false = (n : ℕ) × Ends bytes i n

-- trailing bits stand at bit i
abbrev pub IsClosed : List ℕ → ℕ → Type 0
IsClosed bytes i = (n : ℕ) × (n < 8) × Ends bytes i n

-- zero bits lead from bit i to the next byte
abbrev pub IsPadded : List ℕ → ℕ → Type 0
IsPadded bytes i = StandsAt bytes i (replicate (padding i) false)

-- bit j is the first of the bits up to the next byte that is not a 0
abbrev pub IsUnpadded : List ℕ → ℕ → ℕ → Type 0
IsUnpadded bytes i j = (k : ℕ) × (k < padding i) × StandsAt bytes i (replicate k false) × (bit_of bytes (i + k) ≡ Some false → ⊥) × (j ≡ i + k)

-- n bytes from bit i on, the first bit of a byte
abbrev pub bytes_at : ℕ → List ℕ → ℕ → List ℕ
bytes_at n bytes i = take n (drop (i / 8) bytes)

-- From bit i the body has these elements, which adjoin, and then this answer: what the structure gives and the bit after it,
-- or the first rule that is broken, or the first feature that is not judged, with its stream bit.
abbrev pub Says : {A : Type 0} → Grammar A → Body → ℕ → List Element → Result (A × ℕ) Stop → Type 0
Says (Done x) body i es a = (es ≡ []) × (a ≡ Ok (x, i))
Says (Read name rule code k) body i [] a = (a ≡ Err (No (place body i) rule)) × ((v : ℤ) (j : ℕ) → Reads code body.bytes i v j → ⊥)
Says (Read name rule code k) body i (e ∷ es) a = (e.name ≡ name) × (e.from ≡ i) × Reads code body.bytes i e.value e.to × Says (k (found body e)) body e.to es a
Says (Check rule at holds g) body i es a = (IsTrue holds × Says g body i es a) ⊎ (IsFalse holds × (es ≡ []) × (a ≡ Err (No at rule)))
Says (Support feature at holds g) body i es a = (IsTrue holds × Says g body i es a) ⊎ (IsFalse holds × (es ≡ []) × (a ≡ Err (Outside at feature)))
Says (More k) body i es a = (b : Bool) × HasMore body.bytes i b × Says (k (ahead body i b)) body i es a
Says (Align g) body i es a = (IsPadded body.bytes i × Says g body (i + padding i) es a) ⊎ ((j : ℕ) × IsUnpadded body.bytes i j × (es ≡ [])
    × (a ≡ Err (No (place body j) CodeWord)))
Says (Bytes n k) body i es a = ((i + 8 * n ≤ 8 * length body.bytes)
    × Says (k (bytes_at n body.bytes i)) body (i + 8 * n) es a) ⊎ ((8 * length body.bytes < i + 8 * n) × (es ≡ [])
    × (a ≡ Err (No (place body (8 * length body.bytes)) CodeWord)))
Says (Close g) body i es a = (IsClosed body.bytes i × Says g body (8 * length body.bytes) es a) ⊎ ((IsClosed body.bytes i → ⊥) × (es ≡ [])
    × (a ≡ Err (No (place body i) Trailing)))

-- The elements up to bit j are a derivation of the structure, every check is met, and it gives v.
abbrev pub Derives : {A : Type 0} → Grammar A → Body → ℕ → List Element → ℕ → A → Type 0
Derives g body i es j v = Says g body i es (Ok (v, j))

-- After these elements, with every check before met, this rule is broken.
abbrev pub Breaks : {A : Type 0} → Grammar A → Body → ℕ → List Element → Rule → ℕ → Type 0
Breaks g body i es rule bit = Says g body i es (Err (No bit rule))

-- After these elements, with every check before met, this feature stands.
abbrev pub MayStop : {A : Type 0} → Grammar A → Body → ℕ → List Element → Feature → ℕ → Type 0
MayStop g body i es feature bit = Says g body i es (Err (Outside bit feature))

-- One element, and the rule that a missing word breaks; in a residual block that is another.
unfoldable pub read_word : Rule → ElementName → Code → Grammar Found
read_word rule name code = Read name rule code Done

abbrev pub element : ElementName → Code → Grammar Found
element name code = read_word CodeWord name code

abbrev pub residual_element : ElementName → Code → Grammar Found
residual_element name code = read_word ResidualWord name code

-- A rule that is checked; a feature that is not judged; whether data follow.
unfoldable pub check : Rule → ℕ → Bool → Grammar (Unit {0})
check rule at holds = Check rule at holds (Done tt)

unfoldable pub support : Feature → ℕ → Bool → Grammar (Unit {0})
support feature at holds = Support feature at holds (Done tt)

unfoldable pub more : Grammar Ahead
more = More Done

-- The bits up to the next byte; bytes; trailing bits.
unfoldable pub align : Grammar (Unit {0})
align = Align (Done tt)

unfoldable pub raw_bytes : ℕ → Grammar (List ℕ)
raw_bytes n = Bytes n Done

unfoldable pub trailing : Grammar (Unit {0})
trailing = Close (Done tt)
