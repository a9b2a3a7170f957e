use Rattle.std.proofs.Common.{◌≡◌, ℕ, ◌-◌, List, length, refl, ap, arith}
use Rattle.h264_bits.proofs.Stretches.{place-after, place-later, between, in-byte, ends-of}
use Rattle.h264_bits.proofs.stretch.stretch_from.Goals as goal

pub overflow_sub-shift : goal.overflow_sub-shift
overflow_sub-shift c = let b = place-after c.args.rbsp.now c.args.i in let e = c.stream_bit.ensures in omega arith

pub overflow_sub-stream_bit : goal.overflow_sub-stream_bit
overflow_sub-stream_bit c = let b = place-after c.args.rbsp.now c.min-far.result in let e = c.stream_bit-2.ensures in omega arith

pub returns-then-stream_bit-far-clause-stands : goal.returns-then-stream_bit-far-clause-stands
returns-then-stream_bit-far-clause-stands c =
    let l = ap (λ (b : List ℕ). length b) c.bytes.ensures.bytes in
    let m = c.min-far.ensures in
    let a = place-after c.args.rbsp.now c.args.i in
    let b = place-after c.args.rbsp.now c.min-far.result in
    let d = c.stream_bit.ensures in
    let e = c.stream_bit-2.ensures in
    let same = c.if-stream_bit-far.true in
    let fits = c.stream_bit-2.type_inv in
    between c.args.rbsp.now c.args.i c.min-far.result (c.stream_bit.result - c.args.i) (omega arith) (omega arith) (omega arith) (omega arith) (omega arith)

pub returns-then-stream_bit-far-clause-found : goal.returns-then-stream_bit-far-clause-found
returns-then-stream_bit-far-clause-found c s stands most =
    let l = ap (λ (b : List ℕ). length b) c.bytes.ensures.bytes in
    let m = c.min-far.ensures in
    let d = c.stream_bit.ensures in
    let p = (ends-of c.args.rbsp.now c.args.i s stands).0 in
    let shift : c.stream_bit.result - c.args.i ≡ s.shift = omega arith in
    let last : c.min-far.result ≡ s.last = omega arith in
    rw (shift, last) refl

pub overflow_sub-stream_bit-2 : goal.overflow_sub-stream_bit-2
overflow_sub-stream_bit-2 c = let b = place-after c.args.rbsp.now c.min-near.result in let e = c.stream_bit-3.ensures in omega arith

pub returns-then-stream_bit-near-clause-stands : goal.returns-then-stream_bit-near-clause-stands
returns-then-stream_bit-near-clause-stands c =
    let l = ap (λ (b : List ℕ). length b) c.bytes.ensures.bytes in
    let m = c.min-near.ensures in
    let a = place-after c.args.rbsp.now c.args.i in
    let b = place-after c.args.rbsp.now c.min-near.result in
    let d = c.stream_bit.ensures in
    let e = c.stream_bit-3.ensures in
    let same = c.if-stream_bit-near.true in
    let fits = c.stream_bit-3.type_inv in
    between c.args.rbsp.now c.args.i c.min-near.result (c.stream_bit.result - c.args.i) (omega arith) (omega arith) (omega arith) (omega arith) (omega arith)

pub returns-then-stream_bit-near-clause-found : goal.returns-then-stream_bit-near-clause-found
returns-then-stream_bit-near-clause-found c s stands most =
    let l = ap (λ (b : List ℕ). length b) c.bytes.ensures.bytes in
    let m = c.min-far.ensures in
    let d = c.stream_bit.ensures in
    let e = c.stream_bit-2.ensures in
    let ends = ends-of c.args.rbsp.now c.args.i s stands in
    let p = ends.0 in
    let last : c.min-far.result ≡ s.last = omega arith in
    let q = rw (← last) at ends.1 in
    let other = c.if-stream_bit-far.false in
    absurd (omega arith)

pub returns-clause-found : goal.returns-clause-found
returns-clause-found c s stands most =
    let l = ap (λ (b : List ℕ). length b) c.bytes.ensures.bytes in
    let m = c.min-far.ensures in
    let d = c.stream_bit.ensures in
    let e = c.stream_bit-2.ensures in
    let ends = ends-of c.args.rbsp.now c.args.i s stands in
    let p = ends.0 in
    let last : c.min-far.result ≡ s.last = omega arith in
    let q = rw (← last) at ends.1 in
    let other = c.if-stream_bit-far.false in
    absurd (omega arith)

pub returns-clause-stands : goal.returns-clause-stands
returns-clause-stands c =
    let l = ap (λ (b : List ℕ). length b) c.bytes.ensures.bytes in
    let m = c.min-far.ensures in
    let k = c.min.ensures in
    let a = place-after c.args.rbsp.now c.args.i in
    let d = c.stream_bit.ensures in
    let e = c.stream_bit-2.ensures in
    let fits = c.stream_bit-2.type_inv in
    let p = place-later c.args.rbsp.now c.args.i c.min-far.result (omega arith) in
    let q = c.requires in
    in-byte c.args.rbsp.now c.args.i c.min.result (c.stream_bit.result - c.args.i) (omega arith) (omega arith) (omega arith) (omega arith) (omega arith)
