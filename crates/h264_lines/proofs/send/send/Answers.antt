use Rattle.std.proofs.Common.{◌≡◌, ◌==◌, true, false, ℕ, ◌+◌, ap, sym, ◌∙◌, ◌<◌, List, [], ◌∷◌, ◌++◌, take, drop, length, refl, arith}
use Rattle.std.proofs.lemmas.List.{append_assoc, append-nil, take-append-drop, length-drop}
use Rattle.std.proofs.lemmas.Bool.Decides.{nat_tests}
use Rattle.h264_lines.proofs.Known.{sends-none, sends-more, sends-is, appends-then-keeps}
use Rattle.h264_lines.proofs.send.send.Invariants.{Sent}
use Rattle.h264_lines.proofs.send.send.Goals as goal

none-left : (xs : List ℕ) → length xs ≡ 0 → xs ≡ []
none-left [] e = refl
none-left (x ∷ xs) e = absurd (omega (arith, e))

is-none : (n : ℕ) → (n == 0) ≡ true → n ≡ 0
is-none n t = grind (arith, nat_tests)

is-some : (n : ℕ) → (n == 0) ≡ false → 0 < n
is-some n t = grind (arith, nat_tests)

pub loop-init : goal.loop-init
loop-init g c = (record { first = []; whole = refl; sends = sends-none (g.W.Device.contents c.args.out.now); left = omega arith }, refl)

pub loop-preserved : goal.loop-preserved
loop-preserved g c =
    let i = c.loop.invariant.0 in
    let n = c.in-Ok.n in
    let d = length-drop n c.loop.rest.now in
    let some = c.in-Ok.ensures.some in
    let left = i.left in
    let sent : Sent (g.W.Device.contents c.args.out.now) (g.W.Device.contents c.send_some.new.self) c.args.bytes.now (drop n c.loop.rest.now)
    (c.loop.counter + 1) = record {
      first = i.first ++ take n c.loop.rest.now;
      whole = i.whole ∙ ap (λ l. i.first ++ l) (sym (take-append-drop n c.loop.rest.now)) ∙
          sym (append_assoc i.first (take n c.loop.rest.now) (drop n c.loop.rest.now));
      sends = sends-more i.sends (record { appends = c.in-Ok.ensures.ok });
      left = omega (arith, d, some.0, some.1, left);
    } in
    rw c.bytes_after-rest.ensures (sent, c.in-Ok.ensures.quiet ∙ c.loop.invariant.1)

pub returns-then-is_empty-clause-ok : goal.returns-then-is_empty-clause-ok
returns-then-is_empty-clause-ok g c =
    let i = c.loop.invariant.0 in
    let none : c.loop.rest.now ≡ [] = none-left c.loop.rest.now (is-none (length c.loop.rest.now) (sym c.is_empty.ensures ∙ c.if-is_empty.true)) in
    sends-is (sym (append-nil i.first) ∙ ap (λ l. i.first ++ l) (sym none) ∙ sym i.whole) i.sends

pub returns-in-Err-clause-front : goal.returns-in-Err-clause-front
returns-in-Err-clause-front g c =
    let i = c.loop.invariant.0 in
    record {
      part = i.first;
      proper = record { rest = c.loop.rest.now; whole = i.whole; more = is-some (length c.loop.rest.now) (sym c.is_empty.ensures ∙ c.if-is_empty.false) };
      appends = appends-then-keeps _ _ _ _ i.sends.appends c.in-Err.ensures.kept;
    }

pub returns-clause-ok : goal.returns-clause-ok
returns-clause-ok g c =
    let i = c.loop.invariant.0 in
    let left = i.left in
    let none : c.loop.rest.now ≡ [] = none-left c.loop.rest.now (let t = c.loop-test.false in omega (arith, left, t)) in
    sends-is (sym (append-nil i.first) ∙ ap (λ l. i.first ++ l) (sym none) ∙ sym i.whole) i.sends

pub returns-then-is_empty-clause-quiet : goal.returns-then-is_empty-clause-quiet
returns-then-is_empty-clause-quiet g c = c.loop.invariant.1

pub returns-clause-quiet : goal.returns-clause-quiet
returns-clause-quiet g c = c.loop.invariant.1
