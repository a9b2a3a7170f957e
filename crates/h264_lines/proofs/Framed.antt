-- The frames of YUV4MPEG2, from one call to the next.
use Rattle.std.proofs.Common.{◌≡◌, Bool, false, ℕ, ◌<◌, List, [], ◌∷◌, ◌++◌, length, Option, None, Some, refl, sym, ap, ◌∙◌, subst, arith}
use Rattle.std.proofs.lemmas.List.{append_assoc, append-nil, length-append}
use Rattle.std.proofs.lemmas.List.Elements.{All-nil, All-cons, All-push}
use Rattle.std.specs.List.{All}
use Rattle.h264_base.specs.Call.{Call, OfUnit, OfSlice, OfElement, OfFrame}
use Rattle.h264_lines.specs.Sent.{SendsOrBreaksOff, IsBlamed, LentWriter, lent}
use Rattle.h264_lines.specs.Told.{ended}
use Rattle.h264_lines.specs.Y4m.{head_text, framed_in, framed_of, headed, y4m_of, HasSize, SuitsHead, TookY4m}
use Rattle.h264_lines.specs.declared.head.Head.{Head}
use Rattle.h264_lines.proofs.Known.{sends-is}
use Rattle.h264_lines.proofs.Sinks.{calls-more, calls-pass, blamed-more}

pub framed-more : (calls : List Call) (call : Call) → framed_of (calls ++ call ∷ []) ≡ framed_of calls ++ framed_in call
unfolding framed_of
framed-more [] call = append-nil (framed_in call)
framed-more (c ∷ calls) call = ap (λ l. framed_in c ++ l) (framed-more calls call) ∙ sym (append_assoc (framed_in c) (framed_of calls) (framed_in call))

-- a call that is no frame makes nothing
framed-pass : (calls : List Call) (call : Call) → framed_in call ≡ [] → framed_of (calls ++ call ∷ []) ≡ framed_of calls
framed-pass calls call none = framed-more calls call ∙ ap (λ x. framed_of calls ++ x) none ∙ append-nil (framed_of calls)

-- ---- the header

-- it stands before all frames
headed-more : (head : Option Head) (bytes more : List ℕ) → 0 < length bytes → headed head (bytes ++ more) ≡ headed head bytes ++ more
headed-more None bytes more some = refl
headed-more (Some head) [] more some = absurd (omega (arith, some))
headed-more (Some head) (b ∷ bytes) more some = sym (append_assoc (ended (head_text head)) (b ∷ bytes) more)

-- and comes with the first of them
headed-first : (head : Head) (more : List ℕ) → 0 < length more → headed (Some head) more ≡ ended (head_text head) ++ more
headed-first head [] some = absurd (omega (arith, some))
headed-first head (b ∷ more) some = refl

-- ---- the sizes

-- a call that makes nothing is no frame
no-frame : (head : Head) (call : Call) (rest : List ℕ) → framed_in call ++ rest ≡ [] → HasSize head call
no-frame head (OfUnit byte kind reference length) rest e = tt
no-frame head (OfSlice byte mb kind frame_num count) rest e = tt
no-frame head (OfElement name bit value) rest e = tt
no-frame head (OfFrame count width height bytes) rest e = absurd (let n = ap length e in omega (arith, n))

none-after : (a b : List ℕ) → a ++ b ≡ [] → b ≡ []
none-after [] b e = e
none-after (x ∷ a) b e = absurd (let n = ap length e in omega (arith, n))

-- calls without a frame have any size
none-sized : (head : Head) (calls : List Call) → framed_of calls ≡ [] → All (HasSize head) calls
unfolding framed_of
none-sized head [] e = All-nil (HasSize head)
none-sized head (c ∷ calls) e = All-cons (HasSize head) c calls (no-frame head c (framed_of calls) e)
    (none-sized head calls (none-after (framed_in c) (framed_of calls) e))

same-size : (first head : Head) (call : Call) → Some first ≡ Some head → HasSize head call → HasSize first call
same-size first head call e sized = let d : head ≡ first = cc in subst (λ (x : Head). HasSize x call) d sized

suits-pass : (head : Option Head) (calls : List Call) (call : Call) → framed_in call ≡ [] → ((h : Head) → HasSize h call) → SuitsHead head calls →
    SuitsHead head (calls ++ call ∷ [])
suits-pass None calls call none sized s = framed-pass calls call none ∙ s
suits-pass (Some head) calls call none sized s =
    (subst (λ l. 0 < length l) (sym (framed-pass calls call none)) s.0, All-push (HasSize head) calls call s.1 (sized head))

longer : (a b : List ℕ) → 0 < length a → 0 < length (a ++ b)
longer a b some = let e = length-append a b in omega (arith, some, e)

-- ---- a sink's calls

-- a call that is no frame
pub passed-y4m : {start w : LentWriter} {head : Option Head} (broke : Bool) (before : List Call) (call : Call) → broke ≡ false → framed_in call ≡ [] →
    ((h : Head) → HasSize h call) → TookY4m start head broke w before → TookY4m start head broke w (before ++ call ∷ [])
passed-y4m {start} {w} {head} broke before call whole none sized h = record {
  same_reference = h.same_reference;
  suits = suits-pass head before call none sized h.suits;
  holds = calls-pass (y4m_of head) start.bytes broke w.bytes before call whole (ap (headed head) (framed-pass before call none)) h.holds;
  blamed = h.blamed;
}

-- nothing more was told
pub y4m-none : {start w : LentWriter} {head : Option Head} {broke : Bool} {before : List Call} → TookY4m start head broke w before →
    TookY4m start head broke w (before ++ [])
y4m-none {start} {w} {head} {broke} {before} h = subst (TookY4m start head broke w) (sym (append-nil before)) h

-- a call that failed, at which nothing was written
pub unsent-y4m : {start : LentWriter} {head head' : Option Head} {r r' : ℕ} {broke broke' failed failed' : Bool} {k k' : Option (List ℕ)}
    {before : List Call} → r' ≡ r → head' ≡ head → broke' ≡ broke → failed' ≡ failed → k' ≡ k → TookY4m start head broke (lent r k failed) before →
    TookY4m start head' broke' (lent r' k' failed') (before ++ [])
unsent-y4m {before = before} refers heads breaks fails holds h = rw (refers, heads, breaks, fails, holds) (y4m-none h)

-- a later frame, which was written or broke off
pub later-frame : {start w w' : LentWriter} (old : Option Head) (head : Head) (broke broke' : Bool) (before : List Call) (call : Call) → w'.reference ≡
    w.reference → old ≡ Some head → broke ≡ false → HasSize head call → SendsOrBreaksOff broke' w.bytes w'.bytes (framed_in call) →
    IsBlamed broke' w.has_failed w'.has_failed → TookY4m start old broke w before → TookY4m start old broke' w' (before ++ call ∷ [])
later-frame None head broke broke' before call refers some whole sized s b h = absurd (let d : None ≡ Some head = some in cc)
later-frame {start} {w} {w'} (Some first) head broke broke' before call refers some whole sized s b h = record {
  same_reference = refers ∙ h.same_reference;
  suits = (
    subst (λ l. 0 < length l) (sym (framed-more before call)) (longer (framed_of before) (framed_in call) h.suits.0),
    All-push (HasSize first) before call h.suits.1 (same-size first head call some sized),
  );
  holds = calls-more (y4m_of (Some first)) start.bytes broke broke' w.bytes w'.bytes before (framed_in call) call whole
      (ap (headed (Some first)) (framed-more before call) ∙ headed-more (Some first) (framed_of before) (framed_in call) h.suits.0) h.holds s;
  blamed = blamed-more broke broke' start.has_failed w.has_failed w'.has_failed whole h.blamed b;
}

first-here : {start w w' : LentWriter} (head : Head) (broke' : Bool) (before : List Call) (call : Call) → w'.reference ≡ w.reference →
    0 < length (framed_in call) → HasSize head call → SendsOrBreaksOff broke' w.bytes w'.bytes (ended (head_text head) ++ framed_in call) →
    IsBlamed broke' w.has_failed w'.has_failed → TookY4m start None false w before → TookY4m start (Some head) broke' w' (before ++ call ∷ [])
first-here {start} {w} {w'} head broke' before call refers more sized s b h =
    let none = h.suits in
    let text = ended (head_text head) ++ framed_in call in
    let headless : headed (Some head) (framed_of before) ≡ [] = ap (headed (Some head)) none in
    let first : framed_of (before ++ call ∷ []) ≡ framed_in call = framed-more before call ∙ ap (λ l. l ++ framed_in call) none in
    let whole : headed (Some head) (framed_of (before ++ call ∷ [])) ≡ headed (Some head) (framed_of before) ++ text = ap (headed (Some head)) first ∙
    headed-first head (framed_in call) more ∙ ap (λ l. l ++ text) (sym headless) in
    record {
      same_reference = refers ∙ h.same_reference;
      suits = (subst (λ l. 0 < length l) (sym first) more, All-push (HasSize head) before call (none-sized head before none) sized);
      holds = calls-more (y4m_of (Some head)) start.bytes false broke' w.bytes w'.bytes before text call refl whole (sends-is (none ∙ sym headless) h.holds) s;
      blamed = blamed-more false broke' start.has_failed w.has_failed w'.has_failed refl h.blamed b;
    }

-- the first frame with its header, which was written or broke off
pub first-frame : {start w w' : LentWriter} (old new : Option Head) (head : Head) (broke broke' : Bool) (before : List Call) (call : Call) → w'.reference ≡
    w.reference → old ≡ None → new ≡ Some head → broke ≡ false → 0 < length (framed_in call) → HasSize head call →
    SendsOrBreaksOff broke' w.bytes w'.bytes (ended (head_text head) ++ framed_in call) → IsBlamed broke' w.has_failed w'.has_failed →
    TookY4m start old broke w before → TookY4m start new broke' w' (before ++ call ∷ [])
first-frame old new head broke broke' before call refers none some whole more sized s b h =
    rw some (first-here head broke' before call refers more sized s b (rw (none, whole) at h))
