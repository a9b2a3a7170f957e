-- Bytes FF and messages of SEI, read from the front on.
use Rattle.std.proofs.Common.{◌≡◌, ◌≢◌, ℕ, suc, ◌+◌, ◌<◌, ◌≤◌, ◌==◌, ◌||◌, List, length, get_or, drop, arith, true, false, None, Some, ap, ◌∙◌}
use Rattle.std.proofs.lemmas.Bool.{eq-eqb, ne_eqb}
use Rattle.std.proofs.lemmas.List.Sums.{prefix_len-drop_no, prefix_len-drop_yes, prefix_len-drop_all}
use Rattle.h264_strict.specs.SeiMessages.{is_trailing, ff_bytes, message_length, has_message, are_messages}

pub ff-more : (bytes : List ℕ) (i : ℕ) → i < length bytes → ff_bytes bytes ≡ i + ff_bytes (drop i bytes) → get_or bytes i 0 ≡ 255 →
    ff_bytes bytes ≡ (i + 1) + ff_bytes (drop (i + 1) bytes)
ff-more bytes i within so e =
    let step = prefix_len-drop_yes (λ b. b == 255) bytes i 0 within (eq-eqb (get_or bytes i 0) 255 e) in
    let up : i + (1 + ff_bytes (drop (i + 1) bytes)) ≡ (i + 1) + ff_bytes (drop (i + 1) bytes) = omega arith in
    so ∙ ap (λ n. i + n) step ∙ up

pub ff-stop : (bytes : List ℕ) (i : ℕ) → i < length bytes → ff_bytes bytes ≡ i + ff_bytes (drop i bytes) → get_or bytes i 0 ≢ 255 → ff_bytes bytes ≡ i
ff-stop bytes i within so other =
    let none = prefix_len-drop_no (λ b. b == 255) bytes i 0 within (ne_eqb (get_or bytes i 0) 255 other) in
    let down : i + 0 ≡ i = omega arith in
    so ∙ ap (λ n. i + n) none ∙ down

pub ff-end : (bytes : List ℕ) → ff_bytes bytes ≡ length bytes + ff_bytes (drop (length bytes) bytes) → ff_bytes bytes ≡ length bytes
ff-end bytes so =
    let within : length bytes ≤ length bytes = omega arith in
    let none = prefix_len-drop_all (λ b. b == 255) bytes (length bytes) within in
    let down : length bytes + 0 ≡ length bytes = omega arith in
    so ∙ ap (λ n. length bytes + n) none ∙ down

-- ---- messages, of which the first is not whole, the last one, or one before others

pub sei-none : (n m : ℕ) (bytes : List ℕ) → n ≡ suc m → message_length bytes ≡ None → are_messages n bytes ≡ false
unfolding are_messages
sei-none n m bytes up none =
    ap (λ k. are_messages k bytes) up ∙ ap (λ o. has_message o (λ whole. is_trailing (drop whole bytes) || are_messages m (drop whole bytes))) none

pub sei-some : (n m : ℕ) (bytes : List ℕ) (whole : ℕ) → n ≡ suc m → message_length bytes ≡ Some whole →
    are_messages n bytes ≡ (is_trailing (drop whole bytes) || are_messages m (drop whole bytes))
unfolding are_messages
sei-some n m bytes whole up some =
    ap (λ k. are_messages k bytes) up ∙ ap (λ o. has_message o (λ whole. is_trailing (drop whole bytes) || are_messages m (drop whole bytes))) some

pub sei-last : (n m : ℕ) (bytes : List ℕ) (whole : ℕ) → n ≡ suc m → message_length bytes ≡ Some whole → is_trailing (drop whole bytes) ≡ true →
    are_messages n bytes ≡ true
sei-last n m bytes whole up some last = sei-some n m bytes whole up some ∙ ap (λ t. t || are_messages m (drop whole bytes)) last

pub sei-more : (n m : ℕ) (bytes : List ℕ) (whole : ℕ) → n ≡ suc m → message_length bytes ≡ Some whole → is_trailing (drop whole bytes) ≡ false →
    are_messages n bytes ≡ are_messages m (drop whole bytes)
sei-more n m bytes whole up some more = sei-some n m bytes whole up some ∙ ap (λ t. t || are_messages m (drop whole bytes)) more

pub sei-out : (n : ℕ) (bytes : List ℕ) → n ≡ 0 → are_messages n bytes ≡ false
unfolding are_messages
sei-out n bytes none = ap (λ k. are_messages k bytes) none
