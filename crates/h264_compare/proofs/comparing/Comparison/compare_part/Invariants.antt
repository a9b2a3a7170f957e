use Rattle.std.specs.Prelude.{◌≡◌, ℕ, ◌+◌, ◌≤◌, ◌++◌, List, length, None, Bool}
use Rattle.h264_compare.specs.Given.{Compares, Standing}
use Rattle.h264_compare.specs.Stands.{stands}
use Rattle.h264_compare.specs.declared.shown.ShownFrame.{ShownFrame}
use Rattle.h264_compare.proofs.comparing.Comparison.compare_part.Given as goal

-- the samples that were compared, and the rest of them
pub record Begun (f : ShownFrame) (byte : ℕ) (old new : Standing) (samples rest : List ℕ) (differs : Bool) : Type 0 where
  pub first : List ℕ
  pub whole : samples ≡ first ++ rest
  pub compares : Compares f byte old new first differs None

abbrev pub invariant-loop : goal.invariant-loop
invariant-loop g l = Begun l.frame l.byte (stands g.R.Read.remaining l.fn.self) (stands g.R.Read.remaining l.self) l.samples l.rest l.differs
    × (l.at + length l.rest ≡ l.byte + length l.samples) × (length l.rest + l.counter ≤ length l.samples)
