use Rattle.std.proofs.Common.{◌≡◌, ℕ, ◌+◌, ◌*◌, ◌/◌, ◌%◌, ◌<◌, slice_index, arith, ap, ◌∙◌}
use Rattle.h264_deblock.proofs.columns.line_by_line.Goals as goal

pub returns : goal.returns
returns c n i =
    let xs = c.put_sixteen-8.new.samples in
    let back : (k : ℕ) → k < 8 → slice_index c.turned.result (8 * n + k) ≡ slice_index xs (16 * k + n) =
    λ k b.
    let place : (8 * n + k) % 8 * 16 + (8 * n + k) / 8 ≡ 16 * k + n = omega arith in
    c.turned.ensures (8 * n + k) (omega arith) ∙ ap (slice_index xs) place in
    record {
      p3 = back 0 (omega arith)
          ∙ c.put_sixteen-8.ensures.kept (0 + n) (omega arith)
          ∙ c.put_sixteen-7.ensures.kept (0 + n) (omega arith)
          ∙ c.put_sixteen-6.ensures.kept (0 + n) (omega arith)
          ∙ c.put_sixteen-5.ensures.kept (0 + n) (omega arith)
          ∙ c.put_sixteen-4.ensures.kept (0 + n) (omega arith)
          ∙ c.put_sixteen-3.ensures.kept (0 + n) (omega arith)
          ∙ c.put_sixteen-2.ensures.kept (0 + n) (omega arith)
          ∙ c.put_sixteen.ensures.put n i;
      p2 = back 1 (omega arith)
          ∙ c.put_sixteen-8.ensures.kept (16 + n) (omega arith)
          ∙ c.put_sixteen-7.ensures.kept (16 + n) (omega arith)
          ∙ c.put_sixteen-6.ensures.kept (16 + n) (omega arith)
          ∙ c.put_sixteen-5.ensures.kept (16 + n) (omega arith)
          ∙ c.put_sixteen-4.ensures.kept (16 + n) (omega arith)
          ∙ c.put_sixteen-3.ensures.kept (16 + n) (omega arith)
          ∙ c.put_sixteen-2.ensures.put n i;
      p1 = back 2 (omega arith)
          ∙ c.put_sixteen-8.ensures.kept (32 + n) (omega arith)
          ∙ c.put_sixteen-7.ensures.kept (32 + n) (omega arith)
          ∙ c.put_sixteen-6.ensures.kept (32 + n) (omega arith)
          ∙ c.put_sixteen-5.ensures.kept (32 + n) (omega arith)
          ∙ c.put_sixteen-4.ensures.kept (32 + n) (omega arith)
          ∙ c.put_sixteen-3.ensures.put n i;
      p0 = back 3 (omega arith)
          ∙ c.put_sixteen-8.ensures.kept (48 + n) (omega arith)
          ∙ c.put_sixteen-7.ensures.kept (48 + n) (omega arith)
          ∙ c.put_sixteen-6.ensures.kept (48 + n) (omega arith)
          ∙ c.put_sixteen-5.ensures.kept (48 + n) (omega arith)
          ∙ c.put_sixteen-4.ensures.put n i;
      q0 = back 4 (omega arith)
          ∙ c.put_sixteen-8.ensures.kept (64 + n) (omega arith)
          ∙ c.put_sixteen-7.ensures.kept (64 + n) (omega arith)
          ∙ c.put_sixteen-6.ensures.kept (64 + n) (omega arith)
          ∙ c.put_sixteen-5.ensures.put n i;
      q1 = back 5 (omega arith)
          ∙ c.put_sixteen-8.ensures.kept (80 + n) (omega arith)
          ∙ c.put_sixteen-7.ensures.kept (80 + n) (omega arith)
          ∙ c.put_sixteen-6.ensures.put n i;
      q2 = back 6 (omega arith)
          ∙ c.put_sixteen-8.ensures.kept (96 + n) (omega arith)
          ∙ c.put_sixteen-7.ensures.put n i;
      q3 = back 7 (omega arith)
          ∙ c.put_sixteen-8.ensures.put n i;
    }
