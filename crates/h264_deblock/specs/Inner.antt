-- The lines of an edge of chroma: the filter reads two samples on each side of it and changes one (8.7.2). A working form.
use Rattle.std.specs.Prelude.{◌≡◌, ℕ, ◌+◌, ◌<◌, Bool, true, List, get_or, slice_index}
use Rattle.h264_plane.specs.Samples.{Samples, look}
use Rattle.h264_deblock.specs.Line.{filtered, Line, Limits}
use Rattle.h264_deblock.specs.Edge.{taps, lines_after, HasSamplesBy, edge_at}
use Rattle.h264_deblock.specs.Level.{any_filter}
use Rattle.h264_deblock.specs.declared.inner.Inner.{Inner}
use Rattle.h264_deblock.specs.declared.inner.Nearest.{Nearest}
use Rattle.h264_deblock.specs.declared.inner.Pairs.{Pairs}
use Rattle.h264_deblock.specs.declared.limits.LineLimits.{LineLimits}

-- line n, with no samples beyond
abbrev pub inner_of : Inner → ℕ → Line
inner_of r n = record {
  p3 = 0;
  p2 = 0;
  p1 = slice_index r.p1 n;
  p0 = slice_index r.p0 n;
  q0 = slice_index r.q0 n;
  q1 = slice_index r.q1 n;
  q2 = 0;
  q3 = 0;
}

-- a line has these lanes of samples p1 to q1
pub record AreInner (a b c d : List ℕ) (n : ℕ) (l : Line) : Type 0 where
  pub p1 : l.p1 ≡ get_or a n 0
  pub p0 : l.p0 ≡ get_or b n 0
  pub q0 : l.q0 ≡ get_or c n 0
  pub q1 : l.q1 ≡ get_or d n 0

-- two lines have the same samples p1 to q1
pub record SameInner (l m : Line) : Type 0 where
  pub p1 : l.p1 ≡ m.p1
  pub p0 : l.p0 ≡ m.p0
  pub q0 : l.q0 ≡ m.q0
  pub q1 : l.q1 ≡ m.q1

-- the lines are those of the plane
abbrev pub HasInner : Bool → Samples → ℕ → ℕ → Inner → Type 0
HasInner vertical p along across r = (n : ℕ) → n < 8 → SameInner (inner_of r n) (taps (look vertical p (along + n)) across)

-- what the filter of line n depends on
abbrev pub limits_at : LineLimits → ℕ → Limits
limits_at k n = record { alpha = k.alpha; beta = k.beta; filter = any_filter (slice_index k.numbers n) }

-- the samples p0 and q0 are those of the filtered lines
pub record AreNearest (r : Nearest) (f : ℕ → Line) : Type 0 where
  pub p0 : (n : ℕ) → n < 8 → slice_index r.p0 n ≡ (f n).p0
  pub q0 : (n : ℕ) → n < 8 → slice_index r.q0 n ≡ (f n).q0

-- so are those of 16 lines
pub record AreBeside (r : Pairs) (f : ℕ → Line) : Type 0 where
  pub p0 : (n : ℕ) → n < 16 → slice_index r.p0 n ≡ (f n).p0
  pub q0 : (n : ℕ) → n < 16 → slice_index r.q0 n ≡ (f n).q0

-- the samples are written: where they are those of filtered lines, so are the plane's
pub record AreNearestWritten (vertical : Bool) (old new : Samples) (along across : ℕ) (r : Nearest) : Type 0 where
  pub lines : (k : ℕ → Limits) → AreNearest r (λ n. filtered true (k n) (taps (look vertical old (along + n)) across)) →
      HasSamplesBy vertical old new (lines_after true k 8 (edge_at along across) (look vertical old))
