use Rattle.std.proofs.Common.{◌≡◌, ◌+◌, refl, arith}
use Rattle.std.proofs.lemmas.Result.{err_from_is_err_and}
use Rattle.h264_base.specs.Word.{Words}
use Rattle.h264_tables.specs.Table.{code_table}
use Rattle.h264_bits.proofs.Tables.{entry-short}
use Rattle.h264_bits.proofs.Held.{fewer, held-word, stopped-at}
use Rattle.h264_bits.proofs.element.read_held_entry.Goals as goal

pub tell_ahead-requires-clause-together : goal.tell_ahead-requires-clause-together
tell_ahead-requires-clause-together g c =
    let few = entry-short c.args.table _ c.args.entry c.requires.word in
    fewer _ _ 16 (0 + c.args.entry.length) (omega arith) c.requires.together

pub returns-in_err-found-clause-meets : goal.returns-in_err-found-clause-meets
returns-in_err-found-clause-meets g c rule =
    let r = c.args.bits.now in
    let p = err_from_is_err_and c.from_residual.result c.from_residual.ensures.1 in
    let few = entry-short c.args.table _ c.args.entry c.requires.word in
    let inside = c.requires.together.inside in
    let none : r.at + 0 ≡ r.at = omega arith in
    let m = rw none at c.in_err-found.ensures.meets rule (Words (code_table c.args.table)) in
    rw (p.1, p.2) (stopped-at r refl (m (held-word c.args.table r.body.bytes r.at c.args.entry c.requires.word (omega arith))))

pub pass_by-requires-clause-few : goal.pass_by-requires-clause-few
pass_by-requires-clause-few g c = let few = entry-short c.args.table _ c.args.entry c.requires.word in omega arith

pub pass_by-requires-clause-inside : goal.pass_by-requires-clause-inside
pass_by-requires-clause-inside g c =
    let few = entry-short c.args.table _ c.args.entry c.requires.word in
    let inside = c.requires.together.inside in
    omega arith

pub returns-clause-meets : goal.returns-clause-meets
returns-clause-meets g c rule =
    let r = c.args.bits.now in
    let few = entry-short c.args.table _ c.args.entry c.requires.word in
    let inside = c.requires.together.inside in
    let none : r.at + 0 ≡ r.at = omega arith in
    let m = rw none at c.in_ok-found.ensures.meets rule (Words (code_table c.args.table)) in
    rw c.pass_by.ensures (m (held-word c.args.table r.body.bytes r.at c.args.entry c.requires.word (omega arith)))
