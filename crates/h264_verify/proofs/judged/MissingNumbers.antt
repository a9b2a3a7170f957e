-- Missing numbers, one after another: what is told, and what is kept.
use Rattle.std.proofs.Common.{◌≡◌, ℕ, suc, ◌+◌, ◌-◌, ◌%◌, ◌<◌, Bool, true, false, cond, not, ◌||◌, List, [], ◌∷◌, ◌++◌, map, Option, Some, None, unwrap_or}
use Rattle.std.proofs.Common.{Result, Ok, Err, ap, sym, ◌∙◌, subst, arith, append_assoc, if◌then◌else◌}
use Rattle.std.proofs.lemmas.List.{append-nil}
use Rattle.std.proofs.lemmas.List.Sums.{sum_by-cons}
use Rattle.std.specs.Option.{is_some, is_none, option_map, option_and_then}
use Rattle.std.specs.List.{list_any}
use Rattle.h264_verify.specs.declared.state.Depth.{Depth}
use Rattle.h264_base.specs.declared.rule.Rule.TheVariants.{FrameNum}
use Rattle.h264_base.specs.declared.stop.Stop.{Stop}
use Rattle.h264_base.specs.declared.stop.Stop.TheVariants.{No}
use Rattle.h264_base.specs.Call.{Call, span}
use Rattle.h264_marking.specs.declared.frame.ReferenceFrame.{ReferenceFrame}
use Rattle.h264_marking.specs.declared.frame.Numbering.{Numbering}
use Rattle.h264_marking.specs.Frames.{References, has_frame_num}
use Rattle.h264_marking.specs.Window.{filled, slide, with_missing, missing_frame}
use Rattle.h264_marking.specs.Gaps.{numbers_from, all_filled, unused_short_term_frame_nums, is_new_num}
use Rattle.h264_dpb.specs.Bumping.{missing_in}
use Rattle.h264_dpb.specs.Buffered.{Buffered}
use Rattle.h264_dpb.specs.Turns.{Shown, Turn, turn_then, names, missing_turn}
use Rattle.h264_verify.specs.declared.decoder.Decoder.{Decoder}
use Rattle.h264_verify.specs.Telling.{took_with, Family}
use Rattle.h264_verify.specs.Outcome.{answers, gives, Plays}
use Rattle.h264_verify.specs.Course.{Steps, Needs, ◌>>◌}
use Rattle.h264_verify.specs.Buffering.{told_frames, gaps_turn, gap_on, missing_steps, missing_on}
use Rattle.h264_verify.specs.CourseOutcome.{outcome_of}
use Rattle.h264_verify.specs.Demands.{judged}
use Rattle.h264_verify.specs.Slices.{new_num_demand}
use Rattle.h264_verify.specs.Keeping.{WhereMade, FillsFrames, KeepsSomeGap}
use Rattle.h264_verify.proofs.language.OutcomesPlayed.{gives-plays}
use Rattle.h264_verify.proofs.language.Played.{ComesTo, begins, left-as, stopped, stops, played, ended}
use Rattle.h264_marking.proofs.Filling.{left-is, none-left}

-- ---- one number

-- a missing frame is held once it is filled
last-missing : (number : ℕ) (frames : List ReferenceFrame) → 0 < missing_in (map (λ f. f.picture) (frames ++ missing_frame number ∷ []))
last-missing number [] =
    let none : Option ℕ = None in
    let one : missing_in (none ∷ []) ≡ 1 + missing_in [] = sum_by-cons (λ x. cond (is_none x) 1 0) none [] in
    omega (arith, one)
last-missing number (f ∷ frames) =
    let rest : List (Option ℕ) = map (λ f. f.picture) (frames ++ missing_frame number ∷ []) in
    let one : missing_in (f.picture ∷ rest) ≡ cond (is_none f.picture) 1 0 + missing_in rest = sum_by-cons (λ x. cond (is_none x) 1 0) f.picture rest in
    let some = last-missing number frames in
    omega (arith, one, some)

abbrev joined : References → List ReferenceFrame → References
joined refs frames = record refs { frames = frames }

missing-joined : (refs new : References) (number : ℕ) (frames : List ReferenceFrame) (held : Bool) →
    option_map (joined refs) (if held then None else Some (frames ++ missing_frame number ∷ [])) ≡ Some new → 0 < missing_in (names new)
missing-joined refs new number frames true e = cc
missing-joined refs new number frames false e =
    let same : record refs { frames = frames ++ missing_frame number ∷ [] } ≡ new = cc in
    subst (λ (r : References). 0 < missing_in (names r)) same (last-missing number frames)

missing-slid : (refs new : References) (number : ℕ) (slid : Option (List ReferenceFrame)) →
    option_map (joined refs) (option_and_then (with_missing number) slid) ≡ Some new → 0 < missing_in (names new)
missing-slid refs new number None e = cc
missing-slid refs new number (Some frames) e = missing-joined refs new number frames (list_any (has_frame_num number) frames) e

pub some-missing : (n : Numbering) (refs new : References) → filled n refs ≡ Some new → 0 < missing_in (names new)
unfolding filled
some-missing n refs new e = missing-slid refs new n.frame_num (slide n refs.frames) e

-- ---- the steps

-- so many numbers after this one
abbrev following : Numbering → ℕ → ℕ → List ℕ
following n count number = numbers_from count ((number + 1) % n.max_frame_num) n.max_frame_num

-- the rest, by what the first number gives
abbrev first_filled : Depth → ℕ → Numbering → List ℕ → Buffered Shown → Option References → Steps
first_filled depth bit n numbers b o = Needs (record { rule = FrameNum; bit = bit; met = is_some o }) (missing_on o
    (λ held. told_frames depth (missing_turn held b).written >> missing_steps depth bit n numbers held (missing_turn held b).buffer))

pub steps-some : (depth : Depth) (bit : ℕ) (n : Numbering) (number : ℕ) (numbers : List ℕ) (refs held : References) (b : Buffered Shown) →
    filled (record n { frame_num = number }) refs ≡ Some held →
    outcome_of (missing_steps depth bit n (number ∷ numbers) refs b) ≡
    outcome_of (told_frames depth (missing_turn held b).written >> missing_steps depth bit n numbers held (missing_turn held b).buffer)
steps-some depth bit n number numbers refs held b e = ap (λ (o : Option References). outcome_of (first_filled depth bit n numbers b o)) e

steps-none : (depth : Depth) (bit : ℕ) (n : Numbering) (number : ℕ) (numbers : List ℕ) (refs : References) (b : Buffered Shown) →
    filled (record n { frame_num = number }) refs ≡ None →
    outcome_of (missing_steps depth bit n (number ∷ numbers) refs b) ≡ answers (Err (No bit FrameNum))
steps-none depth bit n number numbers refs b e = ap (λ (o : Option References). outcome_of (first_filled depth bit n numbers b o)) e

turn-some : (n : Numbering) (number : ℕ) (numbers : List ℕ) (refs held : References) (t : Turn) → filled (record n { frame_num = number }) refs ≡ Some held →
    turn_then t (gaps_turn n (number ∷ numbers) refs) ≡ turn_then (turn_then t (missing_turn held)) (gaps_turn n numbers held)
turn-some n number numbers refs held t e =
    ap (λ (o : Option References). turn_then t (gap_on o (λ held. turn_then (missing_turn held t.buffer) (gaps_turn n numbers held)))) e
    ∙ ap (λ (l : List _). record { written = l; buffer = (gaps_turn n numbers held (missing_turn held t.buffer).buffer).buffer })
    (sym (append_assoc t.written (missing_turn held t.buffer).written (gaps_turn n numbers held (missing_turn held t.buffer).buffer).written))

-- ---- all of them

module _ {S : Type 0} (depth : Depth) (bit : ℕ) (n : Numbering) (count prev : ℕ) (held : References) (took : S → List Call → Type 0) (failures : S → ℕ)
    (frames : Family) (t : Turn) (next : ℕ) (old : S) where
  abbrev pub all_steps : Steps
  all_steps = missing_steps depth bit n (following n count prev) held t.buffer

  -- it was judged up to these steps
  abbrev FilledTo : S → Steps → Type 0
  FilledTo new rest = ComesTo (took_with frames took) failures gives (outcome_of all_steps) rest old new

  -- so many numbers after the last one are left, and this is kept
  pub record Fills (left last : ℕ) (now : References) (new : S) (d : Option Decoder) : Type 0 where
    pub turn : Turn
    pub comes : FilledTo new (missing_steps depth bit n (following n left last) now turn.buffer)
    pub turns : turn_then t (gaps_turn n (following n count prev) held) ≡ turn_then turn (gaps_turn n (following n left last) now)
    pub keeps : WhereMade depth (FillsFrames frames turn next) d

  first : (left : ℕ) (d : Option Decoder) → left ≡ count → WhereMade depth (FillsFrames frames t next) d → Fills left prev held old d
  first left d e k = record {
    turn = t;
    comes = subst (λ (c : ℕ). FilledTo old (missing_steps depth bit n (following n c prev) held t.buffer)) (sym e)
        (begins (took_with frames took) failures all_steps old);
    turns = ap (λ (c : ℕ). turn_then t (gaps_turn n (following n c prev) held)) (sym e);
    keeps = k;
  }

  pub fills-first : (d : Option Decoder) → WhereMade depth (FillsFrames frames t next) d → Fills (count - 0) prev held old d
  fills-first d k = let e : count - 0 ≡ count = omega arith in first (count - 0) d e k

  pub fills-more : (turn last : ℕ) (now : References) (new : S) (d : Option Decoder) → turn < count → Fills (count - turn) last now new d →
      Fills (suc (count - (turn + 1))) last now new d
  fills-more turn last now new d h f = subst (λ (l : ℕ). Fills l last now new d) (left-is count turn h) f

  pub fills-whole : (turn last : ℕ) (now : References) (new : S) (d : Option Decoder) → turn ≡ count → Fills (count - turn) last now new d →
      Fills 0 last now new d
  fills-whole turn last now new d e f = subst (λ (l : ℕ). Fills l last now new d) (ap (λ (t : ℕ). count - t) e ∙ none-left count) f

  module _ (k last : ℕ) (now : References) (new : S) (d : Option Decoder) (f : Fills (suc k) last now new d) where
    abbrev number : ℕ
    number = (last + 1) % n.max_frame_num

    -- it cannot be filled
    pub fills-refused : {X : Type 0} (view : X → Unit {0}) (e : Stop) → filled (record n { frame_num = number }) now ≡ None → e ≡ No bit FrameNum →
        Plays {X = X} (span (took_with frames took) failures old new) view (outcome_of all_steps) (Err e)
    fills-refused {X} view e none is =
        subst (λ (x : Stop). Plays {X = X} (span (took_with frames took) failures old new) view (outcome_of all_steps) (Err x)) (sym is)
        (stopped _ _ f.comes (steps-none depth bit n number (following n k number) now f.turn.buffer none) tt)

    module _ (then_held : References) (fits : filled (record n { frame_num = number }) now ≡ Some then_held) where
      abbrev frame_steps : Steps
      frame_steps = told_frames depth (missing_turn then_held f.turn.buffer).written

      abbrev rest : Steps
      rest = missing_steps depth bit n (following n k number) then_held (missing_turn then_held f.turn.buffer).buffer

      filled-to : FilledTo new (frame_steps >> rest)
      filled-to = left-as _ _ f.comes (steps-some depth bit n number (following n k number) now then_held f.turn.buffer fits)

      -- its frame is not told
      pub fills-stopped : {X : Type 0} (view : X → Unit {0}) (s : S) (e : Stop) →
          Plays {X = Unit {0}} (span (took_with frames took) failures new s) (λ (x : Unit {0}). x) (outcome_of frame_steps) (Err e) →
          Plays {X = X} (span (took_with frames took) failures old s) view (outcome_of all_steps) (Err e)
      fills-stopped view s e p = stops _ _ frame_steps _ filled-to p

      -- one more is filled
      pub fills-next : (s : S) (d' : Option Decoder) (x : Unit {0}) →
          Plays {X = Unit {0}} (span (took_with frames took) failures new s) (λ (x : Unit {0}). x) (outcome_of frame_steps) (Ok x) →
          WhereMade depth (FillsFrames frames (turn_then f.turn (missing_turn then_held)) next) d' → Fills k number then_held s d'
      fills-next s d' x p kept = record {
        turn = turn_then f.turn (missing_turn then_held);
        comes = played _ _ frame_steps _ filled-to p;
        turns = f.turns ∙ turn-some n number (following n k number) now then_held f.turn fits;
        keeps = kept;
      }

  -- none is left
  pub fills-last : (last : ℕ) (now : References) (new : S) (d : Option Decoder) → Fills 0 last now new d →
      Plays (span (took_with frames took) failures old new) (λ (x : ℕ). tt) (outcome_of all_steps) (Ok last)
  fills-last last now new d f = ended _ _ f.comes (gives-plays (took_with frames took) failures (λ (x : ℕ). tt) last new)

  pub fills-kept : (last : ℕ) (now : References) (new : S) (d : Option Decoder) → Fills 0 last now new d →
      WhereMade depth (FillsFrames frames (turn_then t (gaps_turn n (following n count prev) held)) next) d
  fills-kept last now new d f = subst (λ (u : Turn). WhereMade depth (FillsFrames frames u next) d)
      (sym (f.turns ∙ ap (λ (l : List _). record { written = l; buffer = f.turn.buffer }) (append-nil f.turn.written))) f.keeps

-- there are frames of which this is kept still
pub some-gap : {S : Type 0} (bit : ℕ) (n : Numbering) (count prev : ℕ) (held : References) (took : S → List Call → Type 0) (failures : S → ℕ) (old : S)
    (left last : ℕ) (now : References) (new : S) (before d : Option Decoder) (k : KeepsSomeGap before) →
    ((depth : Depth) (frames : Family) (t : Turn) (next : ℕ) → WhereMade depth (FillsFrames frames t next) before →
    Fills depth bit n count prev held took failures frames t next old left last now new d) → KeepsSomeGap d
some-gap bit n count prev held took failures old left last now new before d k fills =
    let f = fills k.depth k.frames k.turn k.next k.keeps in
    record { depth = k.depth; frames = k.frames; turn = f.turn; next = k.next; few = k.few; keeps = f.keeps }

-- the rule on a picture's number, by what is held once the gap is filled
pub new-filled : (idr reference : Bool) (bit prev : ℕ) (n : Numbering) (refs held : References) →
    all_filled n (unused_short_term_frame_nums idr prev n) refs ≡ Some held →
    (let r : Result (Unit {0}) Stop = if idr || not reference || is_new_num prev n.frame_num held then Ok tt else Err (No bit FrameNum) in
    r ≡ judged (new_num_demand idr reference bit prev n refs ∷ []))
new-filled idr reference bit prev n refs held e =
    ap (λ (o : Option References). if idr || not reference || is_new_num prev n.frame_num (unwrap_or o refs) then Ok tt else Err (No bit FrameNum)) (sym e)
