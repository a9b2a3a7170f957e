use Rattle.std.proofs.Common.{◌≡◌, ◌∙◌, ap, sym, None, false, rules}
use Rattle.std.specs.Option.{option_map}
use Rattle.h264_recon.specs.Weights.{all_limited, limited_at}
use Rattle.h264_recon.proofs.Tables.{table-ext, table-replicate}
use Rattle.h264_picture.specs.Weights.{weights_at, slice_weights}
use Rattle.h264_picture.proofs.samples.weights_in.Goals as goal

pub returns-then-not-has_weights : goal.returns-then-not-has_weights
unfolding slice_weights
returns-then-not-has_weights c =
    let no : c.has_weights.result ≡ false = search rules in
    let h = c.args.header.now in
    table-replicate 16 None ∙ table-ext 16 (λ k. None) (weights_at h) (λ k i. sym (ap (option_map all_limited) (c.has_weights.ensures no k)))

pub returns : goal.returns
unfolding slice_weights
returns c =
    let h = c.args.header.now in
    rw c.new.ensures (table-ext 16 (limited_at c.weights_by_index.result) (weights_at h) (λ k i. ap (option_map all_limited) (c.weights_by_index.ensures k i)))
