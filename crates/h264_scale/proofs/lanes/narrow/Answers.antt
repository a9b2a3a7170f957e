use Rattle.std.proofs.Common.{◌≡◌, ◌<◌, ℕ, length, rules, get_or, pos, arith}
use Rattle.h264_scale.proofs.Vectors.{listed_as, listed_same, narrow_fits, narrow_kept}
use Rattle.h264_scale.proofs.lanes.narrow.Goals as goal

pub overflow_cast-result : goal.overflow_cast-result
overflow_cast-result c =
    let long : length c.args.d ≡ 16 = search rules in
    let at = λ (k : ℕ) (p : k < 16). narrow_fits (get_or c.args.d k (pos 0)) (c.requires k p) in
    rw (listed_as 16 _ long) (
      at 0 (omega arith),
      (
        at 1 (omega arith),
        (
          at 2 (omega arith),
          (
            at 3 (omega arith),
            (
              at 4 (omega arith),
              (
                at 5 (omega arith),
                (
                  at 6 (omega arith),
                  (
                    at 7 (omega arith),
                    (
                      at 8 (omega arith),
                      (
                        at 9 (omega arith),
                        (
                          at 10 (omega arith),
                          (at 11 (omega arith), (at 12 (omega arith), (at 13 (omega arith), (at 14 (omega arith), (at 15 (omega arith), tt))))),
                        ),
                      ),
                    ),
                  ),
                ),
              ),
            ),
          ),
        ),
      ),
    )

pub returns : goal.returns
returns c =
    let long : length c.args.d ≡ 16 = search rules in
    rw (listed_as 16 _ long) (listed_same 16 _ (λ k. get_or c.args.d k (pos 0)) (λ k p. narrow_kept (get_or c.args.d k (pos 0)) (c.requires k p)))
