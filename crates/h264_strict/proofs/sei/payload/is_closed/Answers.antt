use Rattle.std.proofs.Common.{◌≡◌, ◌≢◌, ◌-◌, ap, ap₂, ◌∙◌, sym, arith}
use Rattle.h264_base.specs.Body.{Body, place}
use Rattle.h264_strict.proofs.SeiClosing.{closed-here, left-is, outside-before, outside-after, open-before, open-after, closed-none, closed-some}
use Rattle.h264_strict.proofs.sei.payload.is_closed.Goals.{then-bit-last_byte-via-then-bit-last_byte}
use Rattle.h264_strict.proofs.sei.payload.is_closed.Goals.{then-bit-last_byte-via-else-bit-last_byte+then-bit-last_byte-ge8}
use Rattle.h264_strict.proofs.sei.payload.is_closed.Goals as goal

pub returns-then-bit-stream_bit : goal.returns-then-bit-stream_bit
returns-then-bit-stream_bit c =
    closed-here c.args.rbsp.now c.args.bits.now.body.bytes c.args.bits.now.at c.args.end
    (ap (λ (b : Body). place b c.args.bits.now.at) (sym c.requires.same) ∙ sym c.stream_bit-bit.ensures ∙ c.if-bit-stream_bit.true ∙ c.stream_bit.ensures)

pub returns-then-bit-last_byte : goal.returns-then-bit-last_byte
returns-then-bit-last_byte c =
    let body = c.args.rbsp.now in
    let at = c.args.bits.now.at in
    let end = c.args.end in
    let bytes = c.args.bits.now.body.bytes in
    let bit : c.stream_bit-bit.result ≡ place body at = c.stream_bit-bit.ensures ∙ ap (λ (b : Body). place b at) c.requires.same in
    let last = c.stream_bit-last_byte.ensures in
    let other : at ≢ end = λ e. c.if-bit-stream_bit.false (bit ∙ ap (place body) e ∙ sym c.stream_bit.ensures) in
    elim c.then-bit-last_byte.branch [
      | then-bit-last_byte-via-then-bit-last_byte w ↦
          (let h = w.if-bit-last_byte.true in open-before bytes at end other (outside-before body at end (omega arith)))
      | then-bit-last_byte-via-else-bit-last_byte+then-bit-last_byte-ge8 w ↦
          (let h = w.if-bit-last_byte.false in let k = w.if-bit-last_byte-ge8.true in
          open-after bytes at end other (outside-after body at end c.requires.byte c.requires.after (omega arith) (omega arith)))
    ]

pub returns-in-Some : goal.returns-in-Some
returns-in-Some c =
    let body = c.args.rbsp.now in
    let at = c.args.bits.now.at in
    let end = c.args.end in
    let bit : c.stream_bit-bit.result ≡ place body at = c.stream_bit-bit.ensures ∙ ap (λ (b : Body). place b at) c.requires.same in
    let last = c.stream_bit-last_byte.ensures in
    let other : at ≢ end = λ e. c.if-bit-stream_bit.false (bit ∙ ap (place body) e ∙ sym c.stream_bit.ensures) in
    let here = left-is body at end c.requires.byte c.requires.after (omega arith) (omega arith) in
    let left : 8 - (c.stream_bit-bit.result - c.stream_bit-last_byte.result) ≡ end - at = ap₂ (λ m n. 8 - (m - n)) bit last ∙ here.2 in
    closed-some c.args.bits.now.body.bytes at end other _ c.in-Some.value _ (here.0, here.1, left) c.in-Some.ensures.read

pub returns-in-None : goal.returns-in-None
returns-in-None c =
    let body = c.args.rbsp.now in
    let at = c.args.bits.now.at in
    let end = c.args.end in
    let bit : c.stream_bit-bit.result ≡ place body at = c.stream_bit-bit.ensures ∙ ap (λ (b : Body). place b at) c.requires.same in
    let last = c.stream_bit-last_byte.ensures in
    let other : at ≢ end = λ e. c.if-bit-stream_bit.false (bit ∙ ap (place body) e ∙ sym c.stream_bit.ensures) in
    let here = left-is body at end c.requires.byte c.requires.after (omega arith) (omega arith) in
    let left : 8 - (c.stream_bit-bit.result - c.stream_bit-last_byte.result) ≡ end - at = ap₂ (λ m n. 8 - (m - n)) bit last ∙ here.2 in
    closed-none c.args.bits.now.body.bytes at end other _ (here.0, here.1, left) c.in-None.ensures.read
