use Rattle.std.proofs.Common.{◌≡◌, ◌+◌, ◌*◌, ℕ, Bool, Option, Some, ap, ◌∙◌, arith}
use Rattle.h264_base.specs.Body.{Body}
use Rattle.h264_base.specs.Meets.{Reader}
use Rattle.h264_strict.specs.SeiPayload.{is_closed, content_by, fills_up}
use Rattle.h264_strict.specs.declared.sei.timing.KnownSet.{KnownSet}
use Rattle.h264_strict.proofs.sei.payload.fills_up.Goals as goal

-- a reader that stood at the payload's first bit has read the content
filled : (known : KnownSet) (kind : ℕ) (rbsp : Body) (from to : ℕ) (start after : Reader) (u : Unit {0}) (r : Bool) → start ≡
    record { body = rbsp; at = 8 * from } →
    ◌≡◌ {A = Option (Unit {0} × ℕ)} (Some (u, after.at)) (content_by known kind start.body.bytes start.at) → after.body ≡ start.body →
    r ≡ is_closed after.body.bytes after.at to →
    r ≡ fills_up rbsp.bytes to (content_by known kind rbsp.bytes (8 * from))
filled known kind rbsp from to start after u r there read same closed =
    closed
    ∙ ap (λ (b : Body). is_closed b.bytes after.at to) (same ∙ ap (λ (s : Reader). s.body) there)
    ∙ ap (fills_up rbsp.bytes to) (read ∙ ap (λ (s : Reader). content_by known kind s.body.bytes s.at) there)

pub returns-in-Some : goal.returns-in-Some
returns-in-Some c =
    let rbsp = c.args.rbsp.now in
    let from = c.args.from in
    let sum : 0 + 8 * from ≡ 8 * from = omega arith in
    let there : c.bytes.new.self ≡ record { body = rbsp; at = 8 * from } =
    c.in-Ok.ensures.end
    ∙ ap (λ (s : Reader). (let t : Reader = record { body = s.body; at = s.at + 8 * from } in t)) c.new-bits.ensures
    ∙ ap (λ n. (let t : Reader = record { body = rbsp; at = n } in t)) sum in
    filled c.args.known.now c.args.payload_type rbsp from (8 * c.args.to) c.bytes.new.self c.content_by.new.bits c.in-Some.field-0 c.is_closed.result there
    c.in-Some.ensures.read c.in-Some.ensures.body c.is_closed.ensures
