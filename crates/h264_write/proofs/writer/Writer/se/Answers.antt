use Rattle.std.proofs.Common.{rules}
use Rattle.std.proofs.lemmas.Int.{to_z-of_z}
use Rattle.std.specs.Int.{w32}
use mir.Val.{SFits}
use Rattle.h264_write.proofs.Stands.{written-signed}
use Rattle.h264_write.proofs.writer.Writer.se.Goals as goal

pub returns : goal.returns
returns c =
    let fits : SFits w32 c.args.value = search rules in
    let same = to_z-of_z w32 c.args.value fits in
    written-signed c.code_num.result c.args.value _ _ (rw same at c.code_num.ensures.code) c.in_ok-ue.ensures
