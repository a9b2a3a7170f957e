-- No control character of ASCII stands in a name as a line has it.
use Rattle.std.proofs.Common.{◌≡◌, ℕ, ◌+◌, ◌/◌, ◌%◌, ◌≤◌, ◌<◌, true, false, ◌||◌, ◌&&◌, ◌==◌, nat_le, nat_lt, List, [], ◌∷◌, ◌++◌, flat_map, All, arith}
use Rattle.std.proofs.lemmas.Bool.{cond_both}
use Rattle.std.proofs.lemmas.Bool.Decides.{nat_tests}
use Rattle.std.proofs.lemmas.List.Elements.{All-nil, All-cons, All-append}
use Rattle.std.specs.Char.{digit_char, encode_utf8}
use Rattle.h264_lines.specs.Names.{IsSeen, shown_byte, shown_character}

-- `All`, in a record so that antt reads the list off a goal
record Seen (bs : List ℕ) : Type 0 where
  all : All IsSeen bs

none : Seen []
none = record { all = All-nil IsSeen }

before : {b : ℕ} {bs : List ℕ} → IsSeen b → Seen bs → Seen (b ∷ bs)
before {b} {bs} h rest = record { all = All-cons IsSeen b bs h rest.all }

and : {bs cs : List ℕ} → Seen bs → Seen cs → Seen (bs ++ cs)
and {bs} {cs} front back = record { all = All-append IsSeen bs cs front.all back.all }

-- the bytes of UTF-8 above ASCII
above : (front bits : ℕ) → 128 ≤ front → IsSeen (front + bits)
above front bits h = (omega arith, λ e. omega (arith, e))

next : (c : ℕ) → IsSeen (128 + c % 64)
next c = above 128 (c % 64) (omega arith)

encoded : (c : ℕ) → IsSeen c → Seen (encode_utf8 c)
unfolding encode_utf8
encoded c h =
    cond_both (nat_lt c 128) _ _ Seen (λ _. before h none)
    (λ _. cond_both (nat_lt c 2048) _ _ Seen (λ _. before (above 192 (c / 64) (omega arith)) (before (next c) none))
    (λ _. cond_both (nat_lt c 65536) _ _ Seen (λ _. before (above 224 (c / 4096) (omega arith)) (before (next (c / 64)) (before (next c) none)))
    (λ _. before (above 240 (c / 262144) (omega arith)) (before (next (c / 4096)) (before (next (c / 64)) (before (next c) none))))))

digit : (d : ℕ) → d < 16 → Seen (encode_utf8 (digit_char d))
digit d h = encoded _ (grind (arith, nat_tests), λ e. grind (arith, nat_tests, e))

byte : (b : ℕ) → b < 256 → Seen (shown_byte b)
byte b h =
    before {b = 92} (omega arith, λ e. omega (arith, e)) (before {b = 120} (omega arith, λ e. omega (arith, e))
    (and (digit (b / 16) (omega arith)) (digit (b % 16) (omega arith))))

-- a letter after a backslash
after : {b : ℕ} → IsSeen b → Seen (92 ∷ b ∷ [])
after h = before (omega arith, λ e. omega (arith, e)) (before h none)

-- of a control character, and of each other one
control : (c : ℕ) → (nat_lt c 32 || (c == 127)) ≡ true → c < 256
control c e = grind (arith, nat_tests)

other : (c : ℕ) → (nat_lt c 32 || (c == 127)) ≡ false → IsSeen c
other c e = (grind (arith, nat_tests), λ f. grind (arith, nat_tests, f))

control-above : (c : ℕ) → (nat_le 128 c && nat_lt c 160) ≡ true → c < 256
control-above c e = grind (arith, nat_tests)

character : (c : ℕ) → Seen (shown_character c)
character c =
    cond_both (c == 92) _ _ Seen (λ _. after (omega arith, λ e. omega (arith, e)))
    (λ _. cond_both (c == 10) _ _ Seen (λ _. after (omega arith, λ e. omega (arith, e)))
    (λ _. cond_both (c == 0) _ _ Seen (λ _. after (omega arith, λ e. omega (arith, e)))
    (λ _. cond_both (nat_lt c 32 || (c == 127)) _ _ Seen (λ e. byte c (control c e))
    (λ e. cond_both (nat_le 128 c && nat_lt c 160) _ _ Seen (λ f. and (byte 194 (omega arith)) (byte c (control-above c f))) (λ _. encoded c (other c e))))))

pub seen : (cs : List ℕ) → All IsSeen (flat_map shown_character cs)
seen [] = All-nil IsSeen
seen (c ∷ cs) = All-append IsSeen _ _ (character c).all (seen cs)
