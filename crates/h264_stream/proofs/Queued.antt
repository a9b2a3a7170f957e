-- Frames that wait, from one call to the next.
use Rattle.std.proofs.Common.{◌≡◌, ℕ, ◌+◌, List, [], ◌∷◌, ◌++◌, length-append, refl, sym, ap, ap₂, ◌∙◌, subst, arith}
use Rattle.std.proofs.lemmas.List.{append_assoc, append-nil}
use Rattle.h264_base.specs.Call.{Call}
use Rattle.h264_stream.specs.Queue.{frames_in, frames_of, told_of_frame, told_of_frames, Waits, IsFilled}
use Rattle.h264_stream.specs.declared.queue.ShownFrame.{ShownFrame}

pub frames-append : (calls others : List Call) → frames_of (calls ++ others) ≡ frames_of calls ++ frames_of others
unfolding frames_of
frames-append [] others = refl
frames-append (c ∷ calls) others = ap (λ l. frames_in c ++ l) (frames-append calls others) ∙
    sym (append_assoc (frames_in c) (frames_of calls) (frames_of others))

pub frames-one : (call : Call) → frames_of (call ∷ []) ≡ frames_in call
unfolding frames_of
frames-one call = append-nil (frames_in call)

pub frames-none : frames_of [] ≡ []
unfolding frames_of
frames-none = refl

pub frames-more : (calls : List Call) (call : Call) → frames_of (calls ++ call ∷ []) ≡ frames_of calls ++ frames_in call
frames-more calls call = frames-append calls (call ∷ []) ∙ ap (λ l. frames_of calls ++ l) (frames-one call)

pub told-more : (frames : List ShownFrame) (frame : ShownFrame) → told_of_frames (frames ++ frame ∷ []) ≡ told_of_frames frames ++ told_of_frame frame ∷ []
unfolding told_of_frames
told-more [] frame = refl
told-more (f ∷ frames) frame = ap (λ l. told_of_frame f ∷ l) (told-more frames frame)

pub told-first : (frames : List ShownFrame) (frame : ShownFrame) → told_of_frames (frame ∷ frames) ≡ told_of_frame frame ∷ told_of_frames frames
unfolding told_of_frames
told-first frames frame = refl

pub told-none : told_of_frames [] ≡ []
unfolding told_of_frames
told-none = refl

-- ---- what waits of all calls

-- before the first call
pub waits-begun : {n : ℕ} {waiting : List ShownFrame} → n ≡ 0 → waiting ≡ [] → Waits n waiting []
waits-begun {n} {waiting} none empty = record { out = []; counted = sym none; whole = frames-none ∙ sym (ap told_of_frames empty ∙ told-none) }

-- a frame is handed out
pub waits-taken : {n m : ℕ} {waiting later : List ShownFrame} (calls : List Call) (frame : ShownFrame) → waiting ≡ frame ∷ later → m ≡ n + 1 →
    Waits n waiting calls → Waits m later calls
waits-taken {n} {m} {waiting} {later} calls frame first count h = record {
  out = h.out ++ told_of_frame frame ∷ [];
  counted = let a = length-append h.out (told_of_frame frame ∷ []) in let b = h.counted in omega (arith, a, b, count);
  whole =
      h.whole ∙ ap (λ l. h.out ++ l) (ap told_of_frames first ∙ told-first later frame)
      ∙ sym (append_assoc h.out (told_of_frame frame ∷ []) (told_of_frames later));
}

-- frames more wait
pub waits-filled : {n m : ℕ} {waiting later : List ShownFrame} (calls others : List Call) → Waits n waiting calls →
    IsFilled n (told_of_frames waiting) m later others → Waits m later (calls ++ others)
waits-filled {n} {m} {waiting} {later} calls others h f = record {
  out = h.out;
  counted = h.counted ∙ sym f.none_out;
  whole =
      frames-append calls others ∙ ap (λ l. l ++ frames_of others) h.whole
      ∙ append_assoc h.out (told_of_frames waiting) (frames_of others)
      ∙ ap (λ l. h.out ++ l) (sym f.added);
}

-- ---- what came since

module _ {out : ℕ} {before : List Call} {n : ℕ} {waiting : List ShownFrame} where
  -- nothing was told
  pub filled-begun : n ≡ out → told_of_frames waiting ≡ before → IsFilled out before n waiting []
  filled-begun same waited = record { none_out = same; added = waited ∙ sym (append-nil before) ∙ ap (λ l. before ++ l) (sym frames-none) }

  -- nothing more was told
  pub filled-still : (calls : List Call) → IsFilled out before n waiting calls → IsFilled out before n waiting (calls ++ [])
  filled-still calls h = subst (IsFilled out before n waiting) (sym (append-nil calls)) h

  -- a call that is no frame
  pub filled-passed : (calls : List Call) (call : Call) → frames_in call ≡ [] → IsFilled out before n waiting calls →
      IsFilled out before n waiting (calls ++ call ∷ [])
  filled-passed calls call none h = record {
    none_out = h.none_out;
    added = h.added ∙ ap (λ l. before ++ l) (sym (append-nil (frames_of calls)) ∙ ap (λ l. frames_of calls ++ l) (sym none) ∙ sym (frames-more calls call));
  }

  -- a frame more
  pub filled-more : {m : ℕ} {later : List ShownFrame} (calls : List Call) (call : Call) (frame : ShownFrame) → frames_in call ≡ call ∷ [] →
      told_of_frame frame ≡ call → later ≡ waiting ++ frame ∷ [] → m ≡ n → IsFilled out before n waiting calls →
      IsFilled out before m later (calls ++ call ∷ [])
  filled-more {m} {later} calls call frame one is more same h = record {
    none_out = same ∙ h.none_out;
    added =
        ap told_of_frames more ∙ told-more waiting frame
        ∙ ap₂ (λ l x. l ++ x ∷ []) h.added is
        ∙ append_assoc before (frames_of calls) (call ∷ [])
        ∙ ap (λ l. before ++ (frames_of calls ++ l)) (sym one) ∙ ap (λ l. before ++ l) (sym (frames-more calls call));
  }

  -- a frame for which there was no memory
  pub filled-failed : {m : ℕ} {later : List ShownFrame} (calls : List Call) → later ≡ waiting → m ≡ n → IsFilled out before n waiting calls →
      IsFilled out before m later (calls ++ [])
  filled-failed {m} {later} calls kept same h =
      record { none_out = same ∙ h.none_out; added = ap told_of_frames kept ∙ h.added ∙ ap (λ l. before ++ frames_of l) (sym (append-nil calls)) }
