use Rattle.std.proofs.Common.{arith, ℕ, ◌≡◌, ◌+◌, ◌∙◌, ◌<◌, [], take, ap, sym, subst, Ok, refl}
use Rattle.std.proofs.lemmas.Result.{err_from_is_err_and}
use Rattle.h264_base.specs.Call.{span}
use Rattle.h264_base.specs.Meets.{Meets}
use Rattle.h264_base.proofs.Steps.{kept}
use Rattle.h264_bits.specs.Forms.{repeated}
use Rattle.h264_bits.proofs.Peeks.{peek-below}
use Rattle.h264_bits.proofs.Held.{stopped-at}
use Rattle.h264_bits.proofs.Repeated.{repeated-next, repeated-stop, repeated-over}
use Rattle.h264_cavlc.specs.Token.{one_of, trailing_one}
use Rattle.h264_cavlc.proofs.Ones.{sign-reads, take-one}
use Rattle.h264_cavlc.proofs.token.read_trailing_ones.Goals as goal

pub put_ones-requires : goal.put_ones-requires
put_ones-requires g c = rw c.in-Some.ensures.value (peek-below 3 c.args.bits.now.body.bytes c.args.bits.now.at)

pub sign_of-requires-clause-few : goal.sign_of-requires-clause-few
sign_of-requires-clause-few g c = rw c.in-Some.ensures.value (peek-below 3 c.args.bits.now.body.bytes c.args.bits.now.at)

pub returns-in_err-tell_one : goal.returns-in_err-tell_one
returns-in_err-tell_one g c =
    let p = err_from_is_err_and c.from_residual-in_err-tell_one.result c.from_residual-in_err-tell_one.ensures.1 in
    let r = c.args.bits.now in
    let t = c.loop-k-test.true in
    let few = c.requires.few in
    let below : c.loop-k.k < 3 = omega arith in
    let read = sign-reads r.body.bytes r.at c.in-Some.signs c.loop-k.k c.sign_of.result c.in-Some.ensures.value below c.sign_of.ensures
    c.in-Some.ensures.together.inside in
    let m = rw c.in-Some.ensures.kept at c.in_err-tell_one.ensures.meets in
    rw (p.1, p.2, c.in-Some.ensures.kept) (stopped-at r refl
    (repeated-stop trailing_one c.args.ones c.loop-k.k (take c.loop-k.k c.put_ones.new.levels) t c.loop-k.invariant.rest (m read)))

pub loop-k-preserved : goal.loop-k-preserved
loop-k-preserved g c =
    let r = c.args.bits.now in
    let t = c.loop-k-test.true in
    let few = c.requires.few in
    let below : c.loop-k.k < 3 = omega arith in
    let read = sign-reads r.body.bytes r.at c.in-Some.signs c.loop-k.k c.sign_of.result c.in-Some.ensures.value below c.sign_of.ensures
    c.in-Some.ensures.together.inside in
    let m = rw c.in-Some.ensures.kept at c.in_ok-tell_one.ensures.meets in
    let long = c.put_ones.array_long in
    let one = c.put_ones.ensures c.loop-k.k below ∙ ap one_of (sym c.sign_of.ensures) in
    record {
      rest = repeated-next trailing_one c.args.ones c.loop-k.k (take c.loop-k.k c.put_ones.new.levels) _ t
          (take-one c.put_ones.new.levels c.loop-k.k _ (omega arith) one) c.loop-k.invariant.rest (m read);
      room = let k = kept (m read) in let q = c.loop-k.invariant.room in rw k q;
    }

pub returns : goal.returns
returns g c =
    let r = c.args.bits.now in
    let at : c.loop-k.k ≡ c.args.ones = (let t = c.loop-k-test.false in let i = c.loop-k.auto in omega arith) in
    let P : ℕ → Type 0 = λ n. Meets {X = Unit {0}} (span g.S.Elements.took g.S.Elements.failures c.args.sink.now c.loop-k.sink)
    (λ x l. l ≡ take c.args.ones c.put_ones.new.levels) (repeated trailing_one [] c.args.ones) r (record { body = r.body; at = r.at + n }) (Ok tt) in
    rw (c.pass_by.ensures, c.in-Some.ensures.kept)
    (subst P at (repeated-over trailing_one c.args.ones c.loop-k.k (take c.loop-k.k c.put_ones.new.levels) tt c.loop-k-test.false
    (ap (λ n. take n c.put_ones.new.levels) at) c.loop-k.invariant.rest))
