use Rattle.std.proofs.Common.{◌≡◌, ◌⊎◌, ℕ, ◌+◌, ◌*◌, ◌/◌, ◌<◌, ◌≤◌, ◌%◌, Bool, true, false, ◌&&◌, cond, nat_lt, nat_le, ℤ, pos, neg_ℤ, ◌+ℤ◌, ◌-ℤ◌, min}
use Rattle.std.proofs.Common.{arith, refl, sym, ap, ◌∙◌, ⊎_elim, inl, inr}
use Rattle.std.proofs.lemmas.Int.{ints, clamps}
use Rattle.std.proofs.lemmas.Bool.Decides.{nat_tests}
use Rattle.std.specs.Int.{abs_diff}
use Rattle.h264_plane.specs.Clip.{clip1}
use Rattle.h264_deblock.proofs.Signed.{clip1-is}
use Rattle.h264_deblock.specs.Line.{filtered, is_within_limits, is_flat, turned, number, clip3, delta, bend, reach, second, normal, by_filter, strong}
use Rattle.h264_deblock.specs.Line.{strong_side, Line, Side, Limits, Off, Normal, Strong}
use Rattle.h264_deblock.specs.Rows.{is_on, is_smooth, side_by, sign}
use Rattle.h264_deblock.specs.Inner.{SameInner}
use Rattle.h264_deblock.specs.Level.{filter_by}
use Rattle.h264_deblock.proofs.Lines.{filtered_is, filtered_not, filtered_off, within_inner}
use Rattle.h264_deblock.proofs.Beside.{same_line}

-- a limit of 0 moves nothing
no_reach : (z : ℤ) → clip3 (neg_ℤ (pos 0)) (pos 0) z ≡ pos 0
no_reach z = omega (arith, ints, clamps)

-- p1, by a limit that is 0 where it stays
abbrev pub bent_by : ℕ → Line → ℕ
bent_by t l = number (pos l.p1 +ℤ clip3 (neg_ℤ (pos t)) (pos t) (bend l))

stays : (l : Line) → bent_by 0 l ≡ l.p1
stays l = rw (no_reach (bend l)) (omega arith)

inside : (n : ℕ) → n < 256 → clip3 (pos 0) (pos 255) (pos n +ℤ pos 0) ≡ pos n
inside n p = omega (arith, ints, clamps)

unmoved : (n : ℕ) → n < 256 → clip1 (pos n +ℤ pos 0) ≡ n
unmoved n p = clip1-is (pos n +ℤ pos 0) ∙ ap number (inside n p)

second_by : (f : Bool) (k : Limits) (t : ℕ) (l : Line) → f ≡ is_flat k l → bent_by (cond f t 0) l ≡ second false k t l
unfolding second
second_by true k t l e = rw (← e) refl
second_by false k t l e = rw (← e) (stays l)

reach_by : (f g : Bool) (k : Limits) (t : ℕ) (l : Line) → f ≡ is_flat k l → g ≡ is_flat k (turned l) → t + cond f 1 0 + cond g 1 0 ≡ reach false k t l
unfolding reach
reach_by f g k t l e h = rw (← e, ← h) refl

-- the tests of a line as the samples' test and the filter's
split_on : (a b c d : Bool) → (a && b && c && d) ≡ true → ((a && b && c) ≡ true) × (d ≡ true)
split_on true true true true e = (refl, refl)
split_on true true true false e = cc
split_on true true false d e = cc
split_on true false c d e = cc
split_on false b c d e = cc

split_off : (a b c d : Bool) → (a && b && c && d) ≡ false → ((a && b && c) ≡ false) ⊎ (d ≡ false)
split_off true true true d e = inr e
split_off true true false d e = inl refl
split_off true false c d e = inl refl
split_off false b c d e = inl refl

on_last : (a b c d : Bool) → ((a && b && c) && d) ≡ (a && b && c && d)
on_last true true c d = refl
on_last true false c d = refl
on_last false b c d = refl

pub on_by : (w : Bool) (k : Limits) (l : Line) (t : ℕ) → w ≡ is_within_limits k l → (w && nat_le t 25) ≡ is_on k l t
unfolding is_within_limits
on_by w k l t e =
    ap (λ b. b && nat_le t 25) e ∙ on_last (nat_lt (abs_diff l.p0 l.q0) k.alpha) (nat_lt (abs_diff l.p1 l.p0) k.beta) (nat_lt (abs_diff l.q1 l.q0) k.beta)
    (nat_le t 25)

on_parts : (k : Limits) (l : Line) (t : ℕ) → is_on k l t ≡ true → (is_within_limits k l ≡ true) × (nat_le t 25 ≡ true)
unfolding is_within_limits
on_parts k l t e = split_on (nat_lt (abs_diff l.p0 l.q0) k.alpha) (nat_lt (abs_diff l.p1 l.p0) k.beta) (nat_lt (abs_diff l.q1 l.q0) k.beta) (nat_le t 25) e

off_parts : (k : Limits) (l : Line) (t : ℕ) → is_on k l t ≡ false → (is_within_limits k l ≡ false) ⊎ (nat_le t 25 ≡ false)
unfolding is_within_limits
off_parts k l t e = split_off (nat_lt (abs_diff l.p0 l.q0) k.alpha) (nat_lt (abs_diff l.p1 l.p0) k.beta) (nat_lt (abs_diff l.q1 l.q0) k.beta) (nat_le t 25) e

by_normal : (t : ℕ) → nat_le t 25 ≡ true → filter_by t ≡ Normal t
unfolding filter_by
by_normal t e = rw e refl

by_off : (t : ℕ) → nat_le t 25 ≡ false → filter_by t ≡ Off
unfolding filter_by
by_off t e = rw e refl

pub filtered_normal : (c : Bool) (k : Limits) (l : Line) (t : ℕ) → is_on k l t ≡ true → k.filter ≡ filter_by t → filtered c k l ≡ normal c k t l
filtered_normal c k l t e h =
    let parts = on_parts k l t e in
    filtered_is c k l parts.0 ∙ ap (λ f. by_filter f c k l) (h ∙ by_normal t parts.1)

pub filtered_stays : (c : Bool) (k : Limits) (l : Line) (t : ℕ) → is_on k l t ≡ false → k.filter ≡ filter_by t → filtered c k l ≡ l
filtered_stays c k l t e h = ⊎_elim (λ no. filtered_not c k l no) (λ off. filtered_off c k l (h ∙ by_off t off)) (off_parts k l t e)

-- the fields of a filtered line
normal_line : (k : Limits) (t : ℕ) (l : Line) (p1 p0 q0 q1 : ℕ) → p1 ≡ second false k t l → p0 ≡ clip1 (pos l.p0 +ℤ delta (reach false k t l) l) →
    q0 ≡ clip1 (pos l.q0 -ℤ delta (reach false k t l) l) → q1 ≡ second false k t (turned l) →
    (let m : Line = record { p3 = l.p3; p2 = l.p2; p1 = p1; p0 = p0; q0 = q0; q1 = q1; q2 = l.q2; q3 = l.q3 } in m) ≡ normal false k t l
unfolding normal
normal_line k t l p1 p0 q0 q1 a b c d = rw (a, b, c, d) refl

-- a choice by a test as a number
cond_sign : (b : Bool) (x y : ℕ) → cond (nat_lt 0 (sign b)) x y ≡ cond b x y
cond_sign true x y = refl
cond_sign false x y = refl

-- the samples nearest to the edge say how far these move
delta_inner : (tc : ℕ) (m l : Line) → SameInner m l → delta tc m ≡ delta tc l
unfolding delta
delta_inner tc m l e = rw (e.p1, e.p0, e.q0, e.q1) refl

-- what the lanes of samples that move, or stay, come to
pub record Moves (tc : ℕ) (m l : Line) (up down p0 q0 : ℕ) : Type 0 where
  pub value : pos up -ℤ pos down ≡ delta tc m
  pub none : tc ≡ 0 → (up ≡ 0) × (down ≡ 0)
  pub p_moved : p0 ≡ clip1 (pos l.p0 +ℤ (pos up -ℤ pos down))
  pub p_still : up ≡ 0 → down ≡ 0 → p0 ≡ l.p0
  pub q_moved : q0 ≡ clip1 (pos l.q0 +ℤ (pos down -ℤ pos up))
  pub q_still : down ≡ 0 → up ≡ 0 → q0 ≡ l.q0

turned_difference : (a b : ℕ) → pos b -ℤ pos a ≡ neg_ℤ (pos a -ℤ pos b)
turned_difference a b = omega (arith, ints)

moved_p : (tc : ℕ) (m l : Line) (up down p0 q0 : ℕ) → SameInner m l → Moves tc m l up down p0 q0 → p0 ≡ clip1 (pos l.p0 +ℤ delta tc l)
moved_p tc m l up down p0 q0 e h = h.p_moved ∙ ap (λ z. clip1 (pos l.p0 +ℤ z)) (h.value ∙ delta_inner tc m l e)

moved_q : (tc : ℕ) (m l : Line) (up down p0 q0 : ℕ) → SameInner m l → Moves tc m l up down p0 q0 → q0 ≡ clip1 (pos l.q0 -ℤ delta tc l)
moved_q tc m l up down p0 q0 e h =
    h.q_moved ∙ ap (λ z. clip1 (pos l.q0 +ℤ z)) (turned_difference up down ∙ ap neg_ℤ (h.value ∙ delta_inner tc m l e))

by_on : (o f g : Bool) (k : Limits) (l m : Line) (t s p q tp tq tc up down p1 p0 q0 q1 : ℕ) → o ≡ is_on k l t → f ≡ is_flat k l → g ≡ is_flat k (turned l) →
    k.filter ≡ filter_by t → SameInner m l → s ≡ cond o t 0 → p ≡ sign (o && f) → q ≡ sign (o && g) → tp ≡ cond (nat_lt 0 p) s 0 → tq ≡ cond (nat_lt 0 q) s 0 →
    tc ≡ s + p + q → p1 ≡ bent_by tp l → Moves tc m l up down p0 q0 → q1 ≡ bent_by tq (turned l) →
    (let n : Line = record { p3 = l.p3; p2 = l.p2; p1 = p1; p0 = p0; q0 = q0; q1 = q1; q2 = l.q2; q3 = l.q3 } in n) ≡ filtered false k l
by_on true f g k l m t s p q tp tq tc up down p1 p0 q0 q1 on ef eg h near es ep eq etp etq etc e1 moves e4 =
    let tc_is : tc ≡ reach false k t l = etc ∙ rw (es, ep, eq) refl ∙ reach_by f g k t l ef eg in
    let tp_is : tp ≡ cond f t 0 = etp ∙ ap (λ n. cond (nat_lt 0 n) s 0) ep ∙ cond_sign f s 0 ∙ ap (λ n. cond f n 0) es in
    let tq_is : tq ≡ cond g t 0 = etq ∙ ap (λ n. cond (nat_lt 0 n) s 0) eq ∙ cond_sign g s 0 ∙ ap (λ n. cond g n 0) es in
    normal_line k t l p1 p0 q0 q1
    (e1 ∙ ap (λ n. bent_by n l) tp_is ∙ second_by f k t l ef)
    (moved_p tc m l up down p0 q0 near moves ∙ ap (λ n. clip1 (pos l.p0 +ℤ delta n l)) tc_is)
    (moved_q tc m l up down p0 q0 near moves ∙ ap (λ n. clip1 (pos l.q0 -ℤ delta n l)) tc_is)
    (e4 ∙ ap (λ n. bent_by n (turned l)) tq_is ∙ second_by g k t (turned l) eg)
    ∙ sym (filtered_normal false k l t (sym on) h)
by_on false f g k l m t s p q tp tq tc up down p1 p0 q0 q1 on ef eg h near es ep eq etp etq etc e1 moves e4 =
    let tc_is : tc ≡ 0 = etc ∙ rw (es, ep, eq) refl in
    let tp_is : tp ≡ 0 = etp ∙ ap (λ n. cond (nat_lt 0 n) s 0) ep in
    let tq_is : tq ≡ 0 = etq ∙ ap (λ n. cond (nat_lt 0 n) s 0) eq in
    let none = moves.none tc_is in
    same_line l _ _ _ _ _ _ _ _ refl refl
    (e1 ∙ ap (λ n. bent_by n l) tp_is ∙ stays l)
    (moves.p_still none.0 none.1)
    (moves.q_still none.1 none.0)
    (e4 ∙ ap (λ n. bent_by n (turned l)) tq_is ∙ stays (turned l))
    refl refl
    ∙ sym (filtered_stays false k l t (sym on) h)

-- what a lane of luma computes where bS is below 4 is the line filtered
pub normal_lane : (alpha beta t : ℕ) (l m : Line) (on s p q tp tq tc up down p1 p0 q0 q1 : ℕ) →
    let k : Limits = record { alpha = alpha; beta = beta; filter = filter_by t } in let o = is_within_limits k m && nat_le t 25 in
    SameInner m l → on ≡ sign o → s ≡ cond (nat_lt 0 on) t 0 → p ≡ sign (o && is_flat k l) → q ≡ sign (o && is_flat k (turned l)) →
    tp ≡ cond (nat_lt 0 p) s 0 → tq ≡ cond (nat_lt 0 q) s 0 → tc ≡ s + p + q → p1 ≡ bent_by tp l → Moves tc m l up down p0 q0 → q1 ≡ bent_by tq (turned l) →
    (let n : Line = record { p3 = l.p3; p2 = l.p2; p1 = p1; p0 = p0; q0 = q0; q1 = q1; q2 = l.q2; q3 = l.q3 } in n) ≡ filtered false k l
normal_lane alpha beta t l m on s p q tp tq tc up down p1 p0 q0 q1 near eo es ep eq etp etq etc e1 moves e4 =
    let k : Limits = record { alpha = alpha; beta = beta; filter = filter_by t } in
    let w = is_within_limits k m in
    let o = w && nat_le t 25 in
    by_on o (is_flat k l) (is_flat k (turned l)) k l m t s p q tp tq tc up down p1 p0 q0 q1
    (on_by w k l t (within_inner k m l near)) refl refl refl near
    (es ∙ ap (λ n. cond (nat_lt 0 n) t 0) eo ∙ cond_sign o t 0) ep eq etp etq etc e1 moves e4

-- tC fits, by the numbers of its parts
parts_fit : (w : Bool) (t on s : ℕ) → on ≡ sign (w && nat_le t 25) → s ≡ cond (nat_lt 0 on) t 0 → s ≤ 25
parts_fit w t on s eo es = grind (arith, nat_tests)

one_at_most : (b : Bool) → sign b ≤ 1
one_at_most true = omega arith
one_at_most false = omega arith

pub reach_fits : (w f g : Bool) (t on s p q a tc : ℕ) → on ≡ sign (w && nat_le t 25) → s ≡ cond (nat_lt 0 on) t 0 → p ≡ sign ((w && nat_le t 25) && f) →
    q ≡ sign ((w && nat_le t 25) && g) → a ≡ (s + p) % 256 → tc ≡ (a + q) % 256 → (tc ≡ s + p + q) × (tc ≤ 27)
reach_fits w f g t on s p q a tc eo es ep eq ea ec =
    let b = parts_fit w t on s eo es in
    let one = one_at_most ((w && nat_le t 25) && f) in
    let other = one_at_most ((w && nat_le t 25) && g) in
    (omega (arith, b, one, other, ep, eq, ea, ec), omega (arith, b, one, other, ep, eq, ea, ec))

pub reach_of_chroma_fits : (w : Bool) (t on s tc : ℕ) → on ≡ sign (w && nat_le t 25) → s ≡ cond (nat_lt 0 on) t 0 → tc ≡ (s + on) % 256 → (tc ≡ s + on) ×
    (tc ≤ 27)
reach_of_chroma_fits w t on s tc eo es ec =
    let b = parts_fit w t on s eo es in
    let one = one_at_most (w && nat_le t 25) in
    (omega (arith, b, one, eo, ec), omega (arith, b, one, eo, ec))

-- ---- bS 4

record SameSide (a b : Side) : Type 0 where
  x0 : a.x0 ≡ b.x0
  x1 : a.x1 ≡ b.x1
  x2 : a.x2 ≡ b.x2

side_on : (f g : Bool) (k : Limits) (l : Line) → f ≡ is_flat k l → g ≡ nat_lt (abs_diff l.p0 l.q0) (k.alpha / 4 + 2) →
    SameSide (side_by true (f && g) l) (strong_side false k l)
unfolding side_by strong_side
side_on true true k l e h = rw (← e, ← h) (record { x0 = refl; x1 = refl; x2 = refl })
side_on true false k l e h = rw (← e, ← h) (record { x0 = refl; x1 = refl; x2 = refl })
side_on false g k l e h = rw (← e) (record { x0 = refl; x1 = refl; x2 = refl })

record IsUntouched (a : Side) (l : Line) : Type 0 where
  x0 : a.x0 ≡ l.p0
  x1 : a.x1 ≡ l.p1
  x2 : a.x2 ≡ l.p2

side_off : (l : Line) → IsUntouched (side_by false false l) l
unfolding side_by
side_off l = record { x0 = refl; x1 = refl; x2 = refl }

strong_line : (k : Limits) (l : Line) (p q : Side) → SameSide p (strong_side false k l) → SameSide q (strong_side false k (turned l)) →
    (let m : Line = record { p3 = l.p3; p2 = p.x2; p1 = p.x1; p0 = p.x0; q0 = q.x0; q1 = q.x1; q2 = q.x2; q3 = l.q3 } in m) ≡ strong false k l
unfolding strong
strong_line k l p q a b = same_line _ _ _ _ _ _ _ _ _ refl a.x2 a.x1 a.x0 b.x0 b.x1 b.x2 refl

pub strong_lane : (on f g : Bool) (k : Limits) (l : Line) (p q : Side) → on ≡ is_within_limits k l → f ≡ is_smooth k l → g ≡ is_smooth k (turned l) →
    k.filter ≡ Strong →
    p ≡ side_by on (on && f) l → q ≡ side_by on (on && g) (turned l) →
    (let m : Line = record { p3 = l.p3; p2 = p.x2; p1 = p.x1; p0 = p.x0; q0 = q.x0; q1 = q.x1; q2 = q.x2; q3 = l.q3 } in m) ≡ filtered false k l
strong_lane true f g k l p q on ef eg h ep eq =
    let a : SameSide p (strong_side false k l) = rw (ep, ef) (side_on _ _ k l refl refl) in
    let b : SameSide q (strong_side false k (turned l)) = rw (eq, eg) (side_on _ _ k (turned l) refl refl) in
    strong_line k l p q a b ∙ sym (filtered_is false k l (sym on) ∙ ap (λ f. by_filter f false k l) h)
strong_lane false f g k l p q on ef eg h ep eq =
    let a : IsUntouched p l = rw ep (side_off l) in
    let b : IsUntouched q (turned l) = rw eq (side_off (turned l)) in
    same_line l _ _ _ _ _ _ _ _ refl a.x2 a.x1 a.x0 b.x0 b.x1 b.x2 refl ∙ sym (filtered_not false k l (sym on))

-- the numbers of a side where bS is 4, by what each lane chooses
pub side_lane : (o s : Bool) (l : Line) (on smooth w n0 n1 n2 x x0 x1 x2 : ℕ) → on ≡ sign o → smooth ≡ sign s →
    w ≡ (2 * l.p1 + l.p0 + l.q1 + 2) / 4 → n0 ≡ (l.p2 + 2 * l.p1 + 2 * l.p0 + 2 * l.q0 + l.q1 + 4) / 8 → n1 ≡ (l.p2 + l.p1 + l.p0 + l.q0 + 2) / 4 →
    n2 ≡ (2 * l.p3 + 3 * l.p2 + l.p1 + l.p0 + l.q0 + 4) / 8 → x ≡ cond (nat_lt 0 on) w l.p0 → x0 ≡ cond (nat_lt 0 smooth) n0 x →
    x1 ≡ cond (nat_lt 0 smooth) n1 l.p1 → x2 ≡ cond (nat_lt 0 smooth) n2 l.p2 → (let side : Side = record { x0 = x0; x1 = x1; x2 = x2 } in side) ≡ side_by o s l
unfolding side_by
side_lane true true l on smooth w n0 n1 n2 x x0 x1 x2 eo es e1 e2 e3 e4 ex a b c = rw (a, b, c, es, e2, e3, e4) refl
side_lane true false l on smooth w n0 n1 n2 x x0 x1 x2 eo es e1 e2 e3 e4 ex a b c = rw (a, b, c, es, ex, eo, e1) refl
side_lane false true l on smooth w n0 n1 n2 x x0 x1 x2 eo es e1 e2 e3 e4 ex a b c = rw (a, b, c, es, e2, e3, e4) refl
side_lane false false l on smooth w n0 n1 n2 x x0 x1 x2 eo es e1 e2 e3 e4 ex a b c = rw (a, b, c, es, ex, eo) refl

-- a test of both, as the lesser number
pub both_lane : (w f c : Bool) (a b r : ℕ) → a ≡ sign (w && f) → b ≡ sign c → r ≡ min a b → r ≡ sign (w && (f && c))
both_lane true true true a b r ea eb er = rw (er, ea, eb) refl
both_lane true true false a b r ea eb er = rw (er, ea, eb) refl
both_lane true false true a b r ea eb er = rw (er, ea, eb) refl
both_lane true false false a b r ea eb er = rw (er, ea, eb) refl
both_lane false f true a b r ea eb er = rw (er, ea, eb) refl
both_lane false f false a b r ea eb er = rw (er, ea, eb) refl

-- ---- chroma

inner_normal : (k : Limits) (t : ℕ) (l : Line) (p0 q0 : ℕ) → p0 ≡ clip1 (pos l.p0 +ℤ delta (t + 1) l) → q0 ≡ clip1 (pos l.q0 -ℤ delta (t + 1) l) →
    (let m : Line = record { p3 = l.p3; p2 = l.p2; p1 = l.p1; p0 = p0; q0 = q0; q1 = l.q1; q2 = l.q2; q3 = l.q3 } in m) ≡ normal true k t l
unfolding normal reach second
inner_normal k t l p0 q0 a b = rw (a, b) refl

inner_strong : (k : Limits) (l : Line) (p0 q0 : ℕ) → p0 ≡ (2 * l.p1 + l.p0 + l.q1 + 2) / 4 → q0 ≡ (2 * l.q1 + l.q0 + l.p1 + 2) / 4 →
    (let m : Line = record { p3 = l.p3; p2 = l.p2; p1 = l.p1; p0 = p0; q0 = q0; q1 = l.q1; q2 = l.q2; q3 = l.q3 } in m) ≡ strong true k l
unfolding strong strong_side
inner_strong k l p0 q0 a b = rw (a, b) refl

inner_by_on : (o : Bool) (k : Limits) (l m : Line) (t s tc up down p0 q0 : ℕ) → o ≡ is_on k l t → k.filter ≡ filter_by t → SameInner m l → s ≡ cond o t 0 →
    tc ≡ s + sign o → Moves tc m l up down p0 q0 → (p0 ≡ (filtered true k l).p0) × (q0 ≡ (filtered true k l).q0)
inner_by_on true k l m t s tc up down p0 q0 on h near es etc moves =
    let tc_is : tc ≡ t + 1 = etc ∙ ap (λ n. n + 1) es in
    let same = inner_normal k t l p0 q0
    (moved_p tc m l up down p0 q0 near moves ∙ ap (λ n. clip1 (pos l.p0 +ℤ delta n l)) tc_is)
    (moved_q tc m l up down p0 q0 near moves ∙ ap (λ n. clip1 (pos l.q0 -ℤ delta n l)) tc_is)
    ∙ sym (filtered_normal true k l t (sym on) h) in
    (ap (λ n. n.p0) same, ap (λ n. n.q0) same)
inner_by_on false k l m t s tc up down p0 q0 on h near es etc moves =
    let none = moves.none (etc ∙ ap (λ n. n + 0) es) in
    let same = sym (filtered_stays true k l t (sym on) h) in
    (moves.p_still none.0 none.1 ∙ ap (λ n. n.p0) same, moves.q_still none.1 none.0 ∙ ap (λ n. n.q0) same)

-- what a lane of chroma computes where bS is below 4 is the line filtered
pub inner_normal_lane : (alpha beta t : ℕ) (l m : Line) (on s tc up down p0 q0 : ℕ) →
    let k : Limits = record { alpha = alpha; beta = beta; filter = filter_by t } in
    SameInner m l → on ≡ sign (is_within_limits k m && nat_le t 25) → s ≡ cond (nat_lt 0 on) t 0 → tc ≡ s + on → Moves tc m l up down p0 q0 →
    (p0 ≡ (filtered true k l).p0) × (q0 ≡ (filtered true k l).q0)
inner_normal_lane alpha beta t l m on s tc up down p0 q0 near eo es etc moves =
    let k : Limits = record { alpha = alpha; beta = beta; filter = filter_by t } in
    let w = is_within_limits k m in
    let o = w && nat_le t 25 in
    inner_by_on o k l m t s tc up down p0 q0 (on_by w k l t (within_inner k m l near)) refl near
    (es ∙ ap (λ n. cond (nat_lt 0 n) t 0) eo ∙ cond_sign o t 0) (etc ∙ ap (λ n. s + n) eo) moves

-- what the lanes of an edge with bS 4 choose
chosen_if : (w : Bool) (on a b x : ℕ) → on ≡ sign w → x ≡ cond (nat_lt 0 on) a b → x ≡ cond w a b
chosen_if true on a b x e h = rw e at h
chosen_if false on a b x e h = rw e at h

strong_inner : (w : Bool) (k : Limits) (l : Line) (p0 q0 : ℕ) → w ≡ is_within_limits k l → k.filter ≡ Strong →
    p0 ≡ cond w ((2 * l.p1 + l.p0 + l.q1 + 2) / 4) l.p0 → q0 ≡ cond w ((2 * l.q1 + l.q0 + l.p1 + 2) / 4) l.q0 →
    (p0 ≡ (filtered true k l).p0) × (q0 ≡ (filtered true k l).q0)
strong_inner true k l p0 q0 ew h e1 e2 =
    let same = inner_strong k l p0 q0 e1 e2 ∙ sym (filtered_is true k l (sym ew) ∙ ap (λ g. by_filter g true k l) h) in
    (ap (λ m. m.p0) same, ap (λ m. m.q0) same)
strong_inner false k l p0 q0 ew h e1 e2 =
    let same = filtered_not true k l (sym ew) in
    (e1 ∙ ap (λ m. m.p0) (sym same), e2 ∙ ap (λ m. m.q0) (sym same))

pub inner_strong_lane : (alpha beta : ℕ) (l : Line) (on a b p0 q0 : ℕ) →
    let k : Limits = record { alpha = alpha; beta = beta; filter = Strong } in
    on ≡ sign (is_within_limits k l) → a ≡ (2 * l.p1 + l.p0 + l.q1 + 2) / 4 → b ≡ (2 * l.q1 + l.q0 + l.p1 + 2) / 4 →
    p0 ≡ cond (nat_lt 0 on) a l.p0 → q0 ≡ cond (nat_lt 0 on) b l.q0 → (p0 ≡ (filtered true k l).p0) × (q0 ≡ (filtered true k l).q0)
inner_strong_lane alpha beta l on a b p0 q0 eo ea eb e1 e2 =
    let k : Limits = record { alpha = alpha; beta = beta; filter = Strong } in
    let w = is_within_limits k l in
    strong_inner w k l p0 q0 refl refl (chosen_if w on a l.p0 p0 eo e1 ∙ ap (λ z. cond w z l.p0) ea)
    (chosen_if w on b l.q0 q0 eo e2 ∙ ap (λ z. cond w z l.q0) eb)
