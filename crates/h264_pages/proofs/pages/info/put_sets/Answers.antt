use Rattle.h264_pages.specs.Info.{set_lines}
use Rattle.h264_pages.proofs.Growing.{each-added}
use Rattle.h264_pages.proofs.pages.info.put_sets.Goals as goal

pub loop-set-preserved : goal.loop-set-preserved
loop-set-preserved c = each-added set_lines c.args.page.now c.loop-set.page c.put_set.new.page c.args.sets.now c.loop-set.set-index _ c.loop-set-test.true
    c.loop-set.invariant c.put_set.ensures
