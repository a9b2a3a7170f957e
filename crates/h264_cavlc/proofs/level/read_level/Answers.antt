use Rattle.std.proofs.Common.{rules, ◌≡◌, ◌+◌, arith, refl}
use Rattle.std.proofs.lemmas.Result.{err_from_is_err_and}
use Rattle.std.proofs.lemmas.Int.{to_z-of_z}
use Rattle.std.specs.Int.{w16}
use mir.Val.{SFits}
use Rattle.h264_base.specs.declared.rule.Rule.TheVariants.{ResidualWord}
use Rattle.h264_base.specs.Word.{Words}
use Rattle.h264_base.proofs.Steps.{stop}
use Rattle.h264_bits.proofs.Peeks.{peek-below}
use Rattle.h264_bits.proofs.Held.{stopped-at}
use Rattle.h264_tables.specs.declared.table.Table.TheVariants.{LevelPrefix}
use Rattle.h264_tables.specs.Table.{code_table}
use Rattle.h264_cavlc.specs.Level.{level}
use Rattle.h264_cavlc.proofs.ShortLevels.{short-stop, short-read}
use Rattle.h264_cavlc.proofs.level.read_level.Goals as goal

pub short_level-requires-clause-few : goal.short_level-requires-clause-few
short_level-requires-clause-few g c = rw c.in-Some.ensures.value (peek-below 20 c.args.bits.now.body.bytes c.args.bits.now.at)

pub returns-in_err-tell_ahead : goal.returns-in_err-tell_ahead
unfolding level
returns-in_err-tell_ahead g c =
    let r = c.args.bits.now in
    let p = err_from_is_err_and c.from_residual.result c.from_residual.ensures.1 in
    let read = c.in-Some-short_level.ensures.prefix r.body.bytes r.at c.in-Some.ensures.value c.in-Some.ensures.together.inside in
    let none : r.at + 0 ≡ r.at = omega arith in
    let m = rw (c.in-Some.ensures.kept, none) at c.in_err-tell_ahead.ensures.meets ResidualWord (Words (code_table LevelPrefix)) in
    rw (p.1, p.2, c.in-Some.ensures.kept) (stop _ (stopped-at r refl (m read)))

pub returns-in_err-tell_level_suffix : goal.returns-in_err-tell_level_suffix
returns-in_err-tell_level_suffix g c =
    let r = c.args.bits.now in
    let p = err_from_is_err_and c.from_residual-in_err-tell_level_suffix.result c.from_residual-in_err-tell_level_suffix.ensures.1 in
    let e = c.in-Some-short_level.ensures in
    let inside = c.in-Some.ensures.together.inside in
    let none : r.at + 0 ≡ r.at = omega arith in
    let prefix = rw (c.in-Some.ensures.kept, none) at c.in_ok-tell_ahead.ensures.meets ResidualWord (Words (code_table LevelPrefix)) in
    let suffix = rw c.in-Some.ensures.kept at c.in_err-tell_level_suffix.ensures in
    let value = c.in_ok-tell_ahead.ensures.value in
    let few = e.short in
    rw (p.1, p.2, c.in-Some.ensures.kept) (stopped-at r refl
    (short-stop c.args.suffix_length c.args.never_one c.in-Some-short_level.parts.suffix _ (omega arith)
    (prefix (e.prefix r.body.bytes r.at c.in-Some.ensures.value inside)) (suffix (e.suffix r.body.bytes r.at c.in-Some.ensures.value inside))))

pub returns-in-Some-short_level : goal.returns-in-Some-short_level
returns-in-Some-short_level g c =
    let r = c.args.bits.now in
    let e = c.in-Some-short_level.ensures in
    let parts = c.in-Some-short_level.parts in
    let inside = c.in-Some.ensures.together.inside in
    let none : r.at + 0 ≡ r.at = omega arith in
    let prefix = rw (c.in-Some.ensures.kept, none) at c.in_ok-tell_ahead.ensures.meets ResidualWord (Words (code_table LevelPrefix)) in
    let suffix = rw c.in-Some.ensures.kept at c.in_ok-tell_level_suffix.ensures in
    let value = c.in_ok-tell_ahead.ensures.value in
    let few = e.short in
    let end : r.at + (parts.length + c.args.suffix_length) ≡ r.at + parts.length + c.args.suffix_length = omega arith in
    let fits : SFits w16 c.level_value.result = search rules in
    rw (c.pass_by.ensures, c.in-Some.ensures.kept, end, to_z-of_z w16 c.level_value.result fits)
    (short-read c.args.suffix_length c.args.never_one parts.suffix (omega arith) (rw (c.level_value.ensures, c.level_code-code.ensures.code, value) refl)
    (prefix (e.prefix r.body.bytes r.at c.in-Some.ensures.value inside)) (suffix (e.suffix r.body.bytes r.at c.in-Some.ensures.value inside)))
