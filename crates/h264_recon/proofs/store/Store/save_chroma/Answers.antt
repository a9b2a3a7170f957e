use Rattle.std.proofs.Common.{arith, refl}
use Rattle.std.proofs.lemmas.List.{get_or_read}
use Rattle.h264_recon.proofs.Runs.{saved_is}
use Rattle.h264_recon.proofs.store.Store.save_chroma.Goals as goal

pub returns : goal.returns
returns c =
    let a = c.args in
    let above = a.self.now.above in
    saved_is 8 a.column a.self.now above c.as_mut_slice.result.now c.put_run.new.out a.self.now.left a.own.now c.index.result.now 56 _ refl
    c.as_mut_slice.ensures.value refl refl
    (omega (arith, c.told-own)) c.requires.columns c.put_run.ensures (get_or_read above.items _ _ (omega (arith, above.ok.0)) c.index.ensures 0)
