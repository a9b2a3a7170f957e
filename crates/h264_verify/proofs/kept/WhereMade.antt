-- What is true of a decoder where frames are made.
use Rattle.std.proofs.Common.{◌≡◌, ℕ, ◌≤◌, Bool, true, false, List, Option, Some, None, Ok, refl, sym, ◌∙◌, arith, subst, if◌then◌else◌}
use Rattle.std.specs.Prelude.{IfSome}
use Rattle.h264_verify.specs.declared.state.Depth.{Depth}
use Rattle.h264_verify.specs.declared.state.Depth.TheVariants as depths
use Rattle.h264_header.specs.declared.header.Header.{Header}
use Rattle.h264_dpb.specs.declared.entry.Entry.{Entry}
use Rattle.h264_dpb.specs.Turns.{Shown}
use Rattle.h264_verify.specs.Buffering.{told_frames, frames_written}
use Rattle.h264_verify.specs.Demands.{judged}
use Rattle.h264_verify.specs.History.{History}
use Rattle.h264_verify.specs.Order.{whole_steps}
use Rattle.h264_verify.specs.Outcome.{answers}
use Rattle.h264_verify.specs.Pictures.{CodedPicture}
use Rattle.h264_verify.specs.Slices.{first_mb_demands}
use Rattle.h264_verify.specs.Course.{nothing}
use Rattle.h264_verify.specs.CourseOutcome.{outcome_of}
use Rattle.h264_verify.specs.declared.decoder.Decoder.{Decoder}
use Rattle.h264_verify.specs.declared.decoder.Format.{Format}
use Rattle.h264_verify.specs.Keeping.{WhereMade, HasPlaces, IsMadeAs, format_in}

-- in this mode no frames are made
abbrev pub MakesNone : Depth → Type 0
MakesNone depths.Units = Unit {0}
MakesNone depths.Headers = Unit {0}
MakesNone depths.Full = ⊥

module _ (P : Decoder → Type 0) where
  -- what follows from it is true there too
  pub made-then : (Q : Decoder → Type 0) (depth : Depth) (o : Option Decoder) → ((d : Decoder) → P d → Q d) → WhereMade depth P o → WhereMade depth Q o
  unfolding WhereMade
  made-then Q depths.Units None f h = tt
  made-then Q depths.Units (Some d) f h = absurd h
  made-then Q depths.Headers None f h = tt
  made-then Q depths.Headers (Some d) f h = absurd h
  made-then Q depths.Full None f h = absurd h
  made-then Q depths.Full (Some d) f h = f d h

  -- with what is true wherever there is a decoder
  pub made-with : (Q R : Decoder → Type 0) (depth : Depth) (o : Option Decoder) → ((d : Decoder) → P d → Q d → R d) → WhereMade depth P o → IfSome o Q →
      WhereMade depth R o
  unfolding WhereMade
  made-with Q R depths.Units None f h q = tt
  made-with Q R depths.Units (Some d) f h q = absurd h
  made-with Q R depths.Headers None f h q = tt
  made-with Q R depths.Headers (Some d) f h q = absurd h
  made-with Q R depths.Full None f h q = absurd h
  made-with Q R depths.Full (Some d) f h q = f d h q

  pub made-some : (depth : Depth) (o : Option Decoder) → WhereMade depth P o → IfSome o P
  unfolding WhereMade
  made-some depth None h = tt
  made-some depths.Units (Some d) h = absurd h
  made-some depths.Headers (Some d) h = absurd h
  made-some depths.Full (Some d) h = h

  -- there is a decoder: frames are made
  pub some-made : (depth : Depth) (o : Option Decoder) (d : Decoder) → o ≡ Some d → WhereMade depth P o → (depth ≡ depths.Full) × P d
  unfolding WhereMade
  some-made depths.Units o d e h = absurd (subst (WhereMade depths.Units P) e h)
  some-made depths.Headers o d e h = absurd (subst (WhereMade depths.Headers P) e h)
  some-made depths.Full o d e h = (refl, subst (WhereMade depths.Full P) e h)

  -- there is none: no frames are made
  pub none-made : (depth : Depth) (o : Option Decoder) → o ≡ None → WhereMade depth P o → MakesNone depth
  unfolding WhereMade
  none-made depths.Units o e h = tt
  none-made depths.Headers o e h = tt
  none-made depths.Full o e h = absurd (subst (WhereMade depths.Full P) e h)

  pub quiet-made : (depth : Depth) (o : Option Decoder) → o ≡ None → MakesNone depth → WhereMade depth P o
  unfolding WhereMade
  quiet-made depths.Units o e q = subst (WhereMade depths.Units P) (sym e) tt
  quiet-made depths.Headers o e q = subst (WhereMade depths.Headers P) (sym e) tt
  quiet-made depths.Full o e q = absurd q

  pub full-made : (depth : Depth) (d : Decoder) → depth ≡ depths.Full → P d → WhereMade depth P (Some d)
  unfolding WhereMade
  full-made depths.Units d e h = cc
  full-made depths.Headers d e h = cc
  full-made depths.Full d e h = h

-- no decoder is in the other modes
pub header-decoder : (P Q : Decoder → Type 0) (d : Option Decoder) → WhereMade depths.Headers P d → WhereMade depths.Headers Q d
unfolding WhereMade
header-decoder P Q None h = tt
header-decoder P Q (Some d) h = absurd h

pub unit-made : (P Q : Decoder → Type 0) (d : Option Decoder) → WhereMade depths.Units P d → WhereMade depths.Units Q d
unfolding WhereMade
unit-made P Q None h = tt
unit-made P Q (Some d) h = absurd h

-- ---- places and format

pub places-down : (n k : ℕ) (o : Option Decoder) → k ≤ n → HasPlaces n o → HasPlaces k o
places-down n k None l h = tt
places-down n k (Some d) l h = omega (arith, l, h)

pub made-same : (P Q : Decoder → Type 0) (depth : Depth) (f : Format) (old new : Option Decoder) → WhereMade depth P old → WhereMade depth Q new →
    format_in new ≡ format_in old → IsMadeAs f old → IsMadeAs f new
unfolding WhereMade
made-same P Q depth f old None p q e h = tt
made-same P Q depths.Units f old (Some d) p q e h = absurd q
made-same P Q depths.Headers f old (Some d) p q e h = absurd q
made-same P Q depths.Full f None (Some d) p q e h = absurd p
made-same P Q depths.Full f (Some x) (Some d) p q e h = e ∙ h

-- ---- where no frames are made, nothing is told of them

pub quiet-told : (depth : Depth) (written : List (Entry Shown)) → MakesNone depth → told_frames depth written ≡ nothing
quiet-told depths.Units written q = refl
quiet-told depths.Headers written q = refl
quiet-told depths.Full written q = absurd q

pub quiet-written : (depth : Depth) (pictures : List CodedPicture) → MakesNone depth → 0 ≡ frames_written depth pictures
quiet-written depths.Units pictures q = refl
quiet-written depths.Headers pictures q = refl
quiet-written depths.Full pictures q = absurd q

pub quiet-whole : (depth : Depth) (ends : Bool) (before : History) → MakesNone depth →
    answers {A = Unit {0}} (Ok tt) ≡ outcome_of (if ends then whole_steps depth before else nothing)
quiet-whole depths.Units true before q = refl
quiet-whole depths.Units false before q = refl
quiet-whole depths.Headers true before q = refl
quiet-whole depths.Headers false before q = refl
quiet-whole depths.Full ends before q = absurd q

pub quiet-first : (depth : Depth) (coded : ℕ) (h : Header) → MakesNone depth → Ok tt ≡ judged (first_mb_demands depth coded h)
quiet-first depths.Units coded h q = refl
quiet-first depths.Headers coded h q = refl
quiet-first depths.Full coded h q = absurd q
