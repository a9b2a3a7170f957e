use Rattle.std.proofs.Common.{◌≢◌, ◌+◌, ◌*◌, ◌-◌, ◌<◌, ◌≤◌, ⊎_elim, length, slice_index, get_or, arith, refl, sym, ◌∙◌}
use Rattle.std.proofs.lemmas.Bool.{cases_lt}
use Rattle.std.proofs.lemmas.List.{length-set, get_or-set_other}
use Rattle.h264_recon.proofs.Tables.{grown, table-same, zeros-at}
use Rattle.h264_recon.proofs.Runs.{beyond}
use Rattle.h264_recon.proofs.store.right_column.Goals as goal

pub loop-k-init : goal.loop-k-init
loop-k-init g c = record { size = refl; here = λ m i. absurd (omega arith); rest = λ m i. zeros-at 16 m }

pub loop-k-preserved : goal.loop-k-preserved
loop-k-preserved g c =
    let n = g.row.N in
    let l = c.loop-k in
    let own = c.args.own.now in
    let sample = get_or own (n * l.k + (n - 1)) 0 in
    let inside : l.k < length l.column = let s = l.invariant.size in omega arith in
    record {
      size = length-set l.column l.k sample ∙ l.invariant.size;
      here = grown l.column l.k sample 0 (λ k. slice_index own (n * k + (n - 1))) inside l.invariant.here refl;
      rest = λ m i. let differs : m ≢ l.k = λ e. absurd (omega arith) in get_or-set_other l.column l.k m sample 0 differs ∙ l.invariant.rest m (omega arith);
    }

pub returns : goal.returns
returns g c =
    let n = g.row.N in
    let l = c.loop-k in
    table-same l.column 16 (λ k. slice_index c.args.own.now (n * k + (n - 1))) 0 l.invariant.size
    (λ k i. ⊎_elim
    (λ (q : k < n). l.invariant.here k (omega arith))
    (λ (q : n ≤ k). l.invariant.rest k (omega arith) ∙ sym (beyond n k c.args.own.now c.requires.whole q))
    (cases_lt k n))
