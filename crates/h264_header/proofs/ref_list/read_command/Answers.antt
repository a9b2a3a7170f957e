use Rattle.std.proofs.Common.{◌≡◌, refl, arith}
use Rattle.std.proofs.lemmas.Result.{err_from_is_err_and}
use Rattle.h264_base.proofs.Steps.{bind, stop, done}
use Rattle.h264_header.specs.RefList.{command}
use Rattle.h264_header.proofs.Entries.{difference-stops}
use Rattle.h264_header.proofs.ref_list.read_command.Goals as goal

pub returns-in_err-long_term_pic_num : goal.returns-in_err-long_term_pic_num
unfolding command
returns-in_err-long_term_pic_num g c = let p = err_from_is_err_and c.from_residual.result c.from_residual.ensures.1 in
    rw (p.1, p.2, c.if-idc-eq2.true) (stop _ c.in_err-long_term_pic_num.ensures)

pub returns-then-idc-eq2 : goal.returns-then-idc-eq2
unfolding command
returns-then-idc-eq2 g c = rw c.if-idc-eq2.true (bind _ c.in_ok-long_term_pic_num.ensures (done _ _ _ _ _ _ _ refl))

pub returns-in_err-abs_diff_pic_num_minus1 : goal.returns-in_err-abs_diff_pic_num_minus1
returns-in_err-abs_diff_pic_num_minus1 g c = let p =
    err_from_is_err_and c.from_residual-in_err-abs_diff_pic_num_minus1.result c.from_residual-in_err-abs_diff_pic_num_minus1.ensures.1 in
    rw (p.1, p.2) (difference-stops c.args.greatest c.args.idc c.requires.known c.if-idc-eq2.false c.in_err-abs_diff_pic_num_minus1.ensures.meets)

pub returns-then-idc-eq0 : goal.returns-then-idc-eq0
unfolding command
returns-then-idc-eq0 g c = rw c.if-idc-eq0.true (bind _ c.in_ok-abs_diff_pic_num_minus1.ensures.meets (done _ _ _ _ _ _ _ refl))

pub returns-else-idc-eq0 : goal.returns-else-idc-eq0
unfolding command
returns-else-idc-eq0 g c = let one : c.args.idc ≡ 1 = omega arith in rw one (bind _ c.in_ok-abs_diff_pic_num_minus1.ensures.meets (done _ _ _ _ _ _ _ refl))
