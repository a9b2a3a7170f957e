use Rattle.std.proofs.Common.{◌≡◌, ◌∷◌, ◌++◌, [], ◌∙◌, ap, ◌+◌, subst, arith}
use Rattle.std.proofs.lemmas.List.{flat_map_more, length_push}
use Rattle.h264_pages.specs.Pages.{Adds}
use Rattle.h264_pages.proofs.Growing.{adds-both}
use Rattle.h264_command.specs.FurtherTold.{broken_text}
use Rattle.h264_command.proofs.StrictTold.{one-told, all-told, as-many-told}
use Rattle.h264_command.proofs.strictly.put_each_broken.Goals as goal

pub loop-preserved : goal.loop-preserved
loop-preserved c =
    let told = c.loop.invariant in
    let b = c.in-Some.broken in
    let text = broken_text c.args.form in (
      told.0 ++ b ∷ [],
      length_push told.0 b ∙ ap (λ n. n + 1) told.1,
      one-told c.args.further.now c.loop.last told.0 b told.2 c.in-Some.ensures.next,
      subst (Adds c.args.page.now c.put_broken.new.page) (flat_map_more text [] told.0 b)
          (adds-both c.args.page.now c.loop.page c.put_broken.new.page _ _ told.3 c.put_broken.ensures),
    )
