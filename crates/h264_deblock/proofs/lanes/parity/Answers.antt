use Rattle.std.proofs.Common.{◌≡◌, ◌+◌, ◌%◌, ap, sym, ◌∙◌, arith, refl, replicate}
use Rattle.std.specs.Bool.{⊤}
use Rattle.std.proofs.lemmas.Simd.{length-zip2, Each2-of, Each1-all, Each1-replicate}
use Rattle.h264_plane.proofs.Lanes.{with_splat, each}
use Rattle.h264_deblock.proofs.lanes.parity.Goals as goal

pub nonzero_rem-result : goal.nonzero_rem-result
nonzero_rem-result c = Each2-of (λ a. ⊤) (λ b. b ≡ 2) _ (λ a b u e. (rw e (omega arith))) _ (replicate 16 2) (Each1-all (λ a. ⊤) (λ a. tt) _)
    (Each1-replicate (λ b. b ≡ 2) 16 2 refl)

pub returns : goal.returns
returns c n p =
    let sum = length-zip2 (λ x y. (x + y) % 256) c.args.a c.args.b (c.fits-a.0 ∙ sym c.fits-b.0) ∙ c.fits-a.0 in
    with_splat 16 _ _ 2 n sum p ∙ ap (λ z. z % 2) (each 16 (λ x y. (x + y) % 256) c.args.a c.args.b n c.fits-a.0 c.fits-b.0 p)
