use Rattle.h264_base.proofs.OneAnswer.{answers}
use Rattle.h264_header.specs.Layout.{sets_of}
use Rattle.h264_header.proofs.Entries.{where-ok}
use Rattle.h264_header.proofs.Ids.{IsNamed, header-named}
use Rattle.h264_header.proofs.read.read_header.Goals as goal

pub returns : goal.returns
returns g c =
    let named = header-named (sets_of c.args.sets.now) c.args.unit c.header_steps.result c.header_steps.ensures in
    record {
      answers = answers c.header_steps.ensures;
      meets = c.header_steps.ensures;
      id = where-ok _ (λ (n : IsNamed (sets_of c.args.sets.now) _). n.small) named;
      named = where-ok _ (λ (n : IsNamed (sets_of c.args.sets.now) _). n.there) named;
    }
