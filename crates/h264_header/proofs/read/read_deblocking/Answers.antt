use Rattle.std.proofs.Common.{rules, refl}
use Rattle.std.proofs.lemmas.Result.{err_from_is_err_and}
use Rattle.std.proofs.lemmas.Int.{to_z-of_z}
use Rattle.std.specs.Int.{w32}
use mir.Val.{SFits}
use Rattle.h264_base.proofs.Steps.{bind, stop, done}
use Rattle.h264_header.specs.declared.header.FilterOffsets.{FilterOffsets}
use Rattle.h264_header.specs.Header.{deblocking, deblocking_of, filter_offsets}
use Rattle.h264_header.proofs.Entries.{deblocking-other, offsets-stop}
use Rattle.h264_header.proofs.read.read_deblocking.Goals as goal

pub returns-then-not-present : goal.returns-then-not-present
unfolding deblocking
returns-then-not-present g c = rw c.if-not-present.true (done _ _ _ _ _ _ _ refl)

pub returns-in_err-idc : goal.returns-in_err-idc
unfolding deblocking
returns-in_err-idc g c = let p = err_from_is_err_and c.from_residual.result c.from_residual.ensures.1 in
    rw (p.1, p.2, c.if-not-present.false) (stop _ c.in_err-idc.ensures.meets)

pub returns-then-idc-eq1 : goal.returns-then-idc-eq1
unfolding deblocking deblocking_of
returns-then-idc-eq1 g c = rw c.if-not-present.false (bind _ c.in_ok-idc.ensures.meets (rw c.if-idc-eq1.true (done _ _ _ _ _ _ _ refl)))

pub returns-in_err-alpha : goal.returns-in_err-alpha
unfolding deblocking filter_offsets
returns-in_err-alpha g c = let p = err_from_is_err_and c.from_residual-in_err-alpha.result c.from_residual-in_err-alpha.ensures.1 in
    rw (p.1, p.2, c.if-not-present.false) (bind _ c.in_ok-idc.ensures.meets
    (offsets-stop c.in_ok-idc.idc c.if-idc-eq1.false (stop _ c.in_err-alpha.ensures.meets)))

pub returns-in_err-beta : goal.returns-in_err-beta
unfolding deblocking filter_offsets
returns-in_err-beta g c = let p = err_from_is_err_and c.from_residual-in_err-beta.result c.from_residual-in_err-beta.ensures.1 in
    rw (p.1, p.2, c.if-not-present.false) (bind _ c.in_ok-idc.ensures.meets
    (offsets-stop c.in_ok-idc.idc c.if-idc-eq1.false (bind _ c.in_ok-alpha.ensures.meets (stop _ c.in_err-beta.ensures.meets))))

pub returns-then-idc-eq0 : goal.returns-then-idc-eq0
unfolding deblocking deblocking_of filter_offsets
returns-then-idc-eq0 g c = let fits0 : SFits w32 c.in_ok-alpha.alpha = search rules in let fits1 : SFits w32 c.in_ok-beta.beta = search rules in
    let offsets : FilterOffsets = record { slice_alpha_c0_offset_div2 = c.in_ok-alpha.alpha; slice_beta_offset_div2 = c.in_ok-beta.beta } in
    rw c.if-not-present.false (bind _ c.in_ok-idc.ensures.meets
    (rw c.if-idc-eq0.true (bind {view = λ (x : FilterOffsets). x} _
    (bind _ c.in_ok-alpha.ensures.meets (bind _ c.in_ok-beta.ensures.meets (done _ _ _ _ _ _ offsets refl))) (done _ _ _ _ _ _ _ (simp to_z-of_z refl)))))

pub returns-else-idc-eq0 : goal.returns-else-idc-eq0
unfolding deblocking deblocking_of filter_offsets
returns-else-idc-eq0 g c = let fits0 : SFits w32 c.in_ok-alpha.alpha = search rules in let fits1 : SFits w32 c.in_ok-beta.beta = search rules in
    let offsets : FilterOffsets = record { slice_alpha_c0_offset_div2 = c.in_ok-alpha.alpha; slice_beta_offset_div2 = c.in_ok-beta.beta } in
    rw c.if-not-present.false (bind _ c.in_ok-idc.ensures.meets
    (rw (deblocking-other c.in_ok-idc.idc c.if-idc-eq0.false c.if-idc-eq1.false)
    (bind {view = λ (x : FilterOffsets). x} _ (bind _ c.in_ok-alpha.ensures.meets (bind _ c.in_ok-beta.ensures.meets (done _ _ _ _ _ _ offsets refl)))
    (done _ _ _ _ _ _ _ (simp to_z-of_z refl)))))
