use Rattle.std.proofs.Common.{Option, None, length, refl}
use Rattle.h264_header.specs.declared.header.Modification.{Modification}
use Rattle.std.proofs.lemmas.Result.{err_from_is_err_and}
use Rattle.h264_base.proofs.Steps.{bind, stop, done, checked}
use Rattle.h264_header.specs.RefList.{modification, command, is_command_allowed}
use Rattle.h264_header.proofs.Entries.{command-room, command-known}
use Rattle.h264_header.proofs.ref_list.read_modification.Goals as goal

pub returns-in_err-idc-clause-meets : goal.returns-in_err-idc-clause-meets
unfolding modification
returns-in_err-idc-clause-meets g c = let p = err_from_is_err_and c.from_residual.result c.from_residual.ensures.1 in
    rw (p.1, p.2) (stop _ c.in_err-idc.ensures.meets)

pub returns-in_err-check-clause-meets : goal.returns-in_err-check-clause-meets
unfolding modification
returns-in_err-check-clause-meets g c = let p = err_from_is_err_and c.from_residual-in_err-check.result c.from_residual-in_err-check.ensures.1 in
    let allowed = rw (c.is_command_allowed.ensures, c.len.ensures.value) at c.in_err-check.ensures in
    rw (p.1, p.2) (bind _ c.in_ok-idc.ensures.meets
    (stop _ (checked _ _ {holds = is_command_allowed c.args.active (length c.args.before.now.items) c.in_ok-idc.idc.value} _ _ allowed)))

pub returns-then-idc-eq-END-clause-meets : goal.returns-then-idc-eq-END-clause-meets
unfolding modification command
returns-then-idc-eq-END-clause-meets g c = let allowed = rw (c.is_command_allowed.ensures, c.len.ensures.value) at c.in_ok-check.ensures in
    bind _ c.in_ok-idc.ensures.meets (bind _
    (checked _ _ {holds = is_command_allowed c.args.active (length c.args.before.now.items) c.in_ok-idc.idc.value} _ _ allowed)
    (rw c.if-idc-eq-END.true (bind {view = λ (o : Option Modification). o} _ (done _ _ _ None _ _ None refl) (done _ _ _ _ _ _ _ refl))))

pub returns-in_err-modification-clause-meets : goal.returns-in_err-modification-clause-meets
unfolding modification
returns-in_err-modification-clause-meets g c = let p =
    err_from_is_err_and c.from_residual-in_err-modification.result c.from_residual-in_err-modification.ensures.1 in
    let allowed = rw (c.is_command_allowed.ensures, c.len.ensures.value) at c.in_ok-check.ensures in
    rw (p.1, p.2) (bind _ c.in_ok-idc.ensures.meets
    (bind _ (checked _ _ {holds = is_command_allowed c.args.active (length c.args.before.now.items) c.in_ok-idc.idc.value} _ _ allowed)
    (stop _ c.in_err-modification.ensures)))

pub returns-clause-meets : goal.returns-clause-meets
unfolding modification
returns-clause-meets g c = let allowed = rw (c.is_command_allowed.ensures, c.len.ensures.value) at c.in_ok-check.ensures in
    bind _ c.in_ok-idc.ensures.meets (bind _
    (checked _ _ {holds = is_command_allowed c.args.active (length c.args.before.now.items) c.in_ok-idc.idc.value} _ _ allowed)
    (bind _ c.in_ok-modification.ensures (done _ _ _ _ _ _ _ refl)))

pub read_command-requires-clause-known : goal.read_command-requires-clause-known
read_command-requires-clause-known g c = let allowed = rw (c.is_command_allowed.ensures, c.len.ensures.value) at c.in_ok-check.ensures in
    command-known c.args.active _ c.in_ok-idc.idc.value c.if-idc-eq-END.false allowed.checks

pub returns-clause-room : goal.returns-clause-room
returns-clause-room g c = let allowed = rw (c.is_command_allowed.ensures, c.len.ensures.value) at c.in_ok-check.ensures in
    command-room c.args.active _ c.in_ok-idc.idc.value c.if-idc-eq-END.false allowed.checks
