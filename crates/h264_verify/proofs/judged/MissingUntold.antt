-- Missing numbers that change nothing but the numbers of frames.
use Rattle.std.proofs.Common.{◌≡◌, ℕ, zero, suc, ◌+◌, ◌%◌, List, ◌++◌, Option, refl, ap, sym, ◌∙◌, subst, append-nil}
use Rattle.h264_verify.specs.declared.state.Depth.{Depth}
use Rattle.h264_verify.specs.declared.state.Depth.TheVariants as depths
use Rattle.h264_base.specs.Call.{Call}
use Rattle.h264_marking.specs.declared.frame.Numbering.{Numbering}
use Rattle.h264_marking.specs.Frames.{References}
use Rattle.h264_marking.specs.Gaps.{numbers_from}
use Rattle.h264_marking.specs.Steady.{IsSteady}
use Rattle.h264_marking.proofs.Moving.{steady-next}
use Rattle.h264_dpb.specs.Bumping.{is_held, missing_in}
use Rattle.h264_dpb.specs.Buffered.{Buffered, missing_step}
use Rattle.h264_dpb.specs.Turns.{Shown, Turn, turn_then, turn_of, stays, names, missing_turn}
use Rattle.h264_verify.specs.declared.decoder.Decoder.{Decoder}
use Rattle.h264_verify.specs.Outcome.{gives}
use Rattle.h264_verify.specs.Course.{Steps, nothing, ◌>>=◌, ◌>>◌}
use Rattle.h264_verify.specs.Buffering.{told_frames, gaps_turn, gap_on, missing_steps}
use Rattle.h264_verify.specs.CourseOutcome.{outcome_of}
use Rattle.h264_verify.specs.Keeping.{WhereMade, FillsFrames, BufferStays}
use Rattle.h264_verify.proofs.kept.WhereMade.{MakesNone, made-then, header-decoder, unit-made}
use Rattle.h264_verify.proofs.judged.MissingNumbers.{Fills, steps-some}
use Rattle.h264_verify.proofs.language.Played.{left-as}
use Rattle.h264_verify.specs.Telling.{Family}

-- the buffer sees the pictures alone
missing-named : (refs held : References) (b : Buffered Shown) → names held ≡ names refs → missing_turn held b ≡ missing_turn refs b
unfolding missing_turn
missing-named refs held b e = ap (λ (held : List (Option ℕ)). turn_of (missing_step (λ (n : Shown). is_held held n.picture) (missing_in held) b)
    (missing_in held) b.size) e

stays-named : (depth : Depth) (refs held : References) (b : Buffered Shown) → names held ≡ names refs → BufferStays depth refs b → BufferStays depth held b
unfolding BufferStays
stays-named depths.Units refs held b e s = tt
stays-named depths.Headers refs held b e s = tt
stays-named depths.Full refs held b e s = missing-named refs held b e ∙ s

none-told : (depth : Depth) (held : References) (b : Buffered Shown) → BufferStays depth held b → told_frames depth (missing_turn held b).written ≡ nothing
unfolding BufferStays
none-told depths.Units held b s = refl
none-told depths.Headers held b s = refl
none-told depths.Full held b s = ap (λ (t : Turn). told_frames depths.Full t.written) s

stays-on : (depth : Depth) (held : References) (b : Buffered Shown) → BufferStays depth held b → BufferStays depth held (missing_turn held b).buffer
unfolding BufferStays
stays-on depths.Units held b s = tt
stays-on depths.Headers held b s = tt
stays-on depths.Full held b s = subst (λ (t : Turn). missing_turn held t.buffer ≡ stays t.buffer) (sym s) s

pub full-stays : (held : References) (b : Buffered Shown) (m : Depth) → m ≡ depths.Full → missing_turn held b ≡ stays b → BufferStays m held b
unfolding BufferStays
full-stays held b depths.Units e s = tt
full-stays held b depths.Headers e s = tt
full-stays held b depths.Full e s = s

pub quiet-stays : (held : References) (b : Buffered Shown) (m : Depth) → MakesNone m → BufferStays m held b
unfolding BufferStays
quiet-stays held b depths.Units q = tt
quiet-stays held b depths.Headers q = tt
quiet-stays held b depths.Full q = absurd q

module _ (n : Numbering) where
  -- each is met, and nothing is told
  skipped-steps : (depth : Depth) (bit count last : ℕ) (refs : References) (b : Buffered Shown) → IsSteady n last refs.frames → BufferStays depth refs b →
      outcome_of (missing_steps depth bit n (numbers_from count ((last + 1) % n.max_frame_num) n.max_frame_num) refs b) ≡ gives tt
  unfolding ◌>>=◌
  skipped-steps depth bit zero last refs b s still = refl
  skipped-steps depth bit (suc count) last refs b s still =
      let number = (last + 1) % n.max_frame_num in
      let numbers = numbers_from count ((number + 1) % n.max_frame_num) n.max_frame_num in
      let next = steady-next n last refs s in
      let more = stays-named depth refs next.held b next.pictures still in
      let rest = missing_steps depth bit n numbers next.held (missing_turn next.held b).buffer in
      steps-some depth bit n number numbers refs next.held b next.fits
      ∙ ap (λ (steps : Steps). outcome_of (steps >> rest)) (none-told depth next.held b more)
      ∙ skipped-steps depth bit count number next.held (missing_turn next.held b).buffer next.steady (stays-on depth next.held b more)

  -- the buffer stays as it is
  skipped-turn : (count last : ℕ) (refs : References) (b : Buffered Shown) → IsSteady n last refs.frames → missing_turn refs b ≡ stays b →
      gaps_turn n (numbers_from count ((last + 1) % n.max_frame_num) n.max_frame_num) refs b ≡ stays b
  skipped-turn zero last refs b s still = refl
  skipped-turn (suc count) last refs b s still =
      let number = (last + 1) % n.max_frame_num in
      let numbers = numbers_from count ((number + 1) % n.max_frame_num) n.max_frame_num in
      let next = steady-next n last refs s in
      let more = missing-named refs next.held b next.pictures ∙ still in
      ap (λ (o : Option References). gap_on o (λ held. turn_then (missing_turn held b) (gaps_turn n numbers held)) b) next.fits
      ∙ ap (λ (t : Turn). turn_then t (gaps_turn n numbers next.held)) more
      ∙ skipped-turn count number next.held b next.steady more

  skipped-full : (frames : Family) (t : Turn) (next : ℕ) (count last : ℕ) (refs : References) → IsSteady n last refs.frames →
      missing_turn refs t.buffer ≡ stays t.buffer → (d : Decoder) → FillsFrames frames t next d →
      FillsFrames frames (turn_then t (gaps_turn n (numbers_from count ((last + 1) % n.max_frame_num) n.max_frame_num) refs)) next d
  skipped-full frames t next count last refs s still d k =
      let same = skipped-turn count last refs t.buffer s still in
      subst (λ (u : Turn). FillsFrames frames u next d)
      (sym (ap (λ (u : Turn). let v : Turn = record { written = t.written ++ u.written; buffer = u.buffer } in v) same ∙
      ap (λ (l : List _). let v : Turn = record { written = l; buffer = t.buffer } in v) (append-nil t.written)))
      k

  skipped-kept : (depth : Depth) (frames : Family) (t : Turn) (next : ℕ) (d : Option Decoder) (count last : ℕ) (refs : References) →
      IsSteady n last refs.frames → BufferStays depth refs t.buffer → WhereMade depth (FillsFrames frames t next) d →
      WhereMade depth (FillsFrames frames (turn_then t (gaps_turn n (numbers_from count ((last + 1) % n.max_frame_num) n.max_frame_num) refs)) next) d
  unfolding BufferStays
  skipped-kept depths.Units frames t next d count last refs s still k = unit-made _ _ d k
  skipped-kept depths.Headers frames t next d count last refs s still k = header-decoder _ _ d k
  skipped-kept depths.Full frames t next d count last refs s still k = made-then _ _ depths.Full d (skipped-full frames t next count last refs s still) k

-- the rest of the missing numbers is skipped
pub fills-skipped : {S : Type 0} (depth : Depth) (bit : ℕ) (n : Numbering) (count prev : ℕ) (held : References) (took : S → List Call → Type 0)
    (failures : S → ℕ) (frames : Family) (t : Turn) (next : ℕ) (old : S) (left last then_last : ℕ) (now then_held : References) (new : S)
    (d : Option Decoder) →
    IsSteady n last now.frames → (f : Fills depth bit n count prev held took failures frames t next old left last now new d) →
    BufferStays depth now f.turn.buffer → Fills depth bit n count prev held took failures frames t next old 0 then_last then_held new d
fills-skipped depth bit n count prev held took failures frames t next old left last then_last now then_held new d s f still =
    let all = turn_then f.turn (gaps_turn n (numbers_from left ((last + 1) % n.max_frame_num) n.max_frame_num) now) in
    record {
      turn = all;
      comes = left-as _ _ f.comes (skipped-steps n depth bit left last now f.turn.buffer s still);
      turns = f.turns ∙ ap (λ (l : List _). record { written = l; buffer = all.buffer }) (sym (append-nil all.written));
      keeps = skipped-kept n depth frames f.turn next d left last now s still f.keeps;
    }
