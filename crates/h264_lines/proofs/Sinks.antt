-- What a sink's writer holds, from one call to the next.
use Rattle.std.proofs.Common.{Bool, true, false, ◌≡◌, Result, Ok, Err, OnOk, OnErr, ℕ, ◌+◌, List, [], ◌∷◌, ◌++◌, Option, refl, sym, ap, ◌∙◌, subst, arith}
use Rattle.std.proofs.lemmas.Bool.{true≢false}
use Rattle.std.proofs.lemmas.List.{append-nil, append_assoc}
use Rattle.h264_base.specs.Call.{Call, Tells}
use Rattle.h264_lines.specs.Objects.{Opening}
use Rattle.h264_lines.specs.Sent.{SendsOrBreaksOff, IsBlamed, LentWriter, lent}
use Rattle.h264_lines.specs.Told.{line_of, lines_of, counted, counted_of, bytes_in, bytes_of, HoldsCalls, LineSinkState, HoldsLines, TookLines, TookFrames}
use Rattle.h264_lines.specs.declared.listing.Listing.{Listing}
use Rattle.h264_lines.proofs.Known.{sends-is, sends-more}
use Rattle.h264_lines.proofs.Calls.{bytes-more, lines-more, counted-more}

-- ---- what the calls made that a writer took

module _ (make : List Call → List ℕ) (start : Option (List ℕ)) where
  -- with one call more, which may break off
  pub calls-more : (broke broke' : Bool) (k k' : Option (List ℕ)) (before : List Call) (text : List ℕ) (call : Call) → broke ≡ false →
      make (before ++ call ∷ []) ≡ make before ++ text → HoldsCalls broke make start k before → SendsOrBreaksOff broke' k k' text →
      HoldsCalls broke' make start k' (before ++ call ∷ [])
  calls-more true broke' k k' before text call whole more h s = absurd (true≢false whole)
  calls-more false false k k' before text call whole more h s = sends-is (sym more) (sends-more h s)
  calls-more false true k k' before text call whole more h s = record {
    bytes = make before ++ s.part;
    breaks_off = record {
      before = before;
      last = call;
      calls_are = refl;
      part = s.part;
      bytes_are = refl;
      less = record {
        rest = s.proper.rest;
        whole = more ∙ ap (λ l. make before ++ l) s.proper.whole ∙ sym (append_assoc (make before) s.part s.proper.rest);
        more = s.proper.more;
      };
    };
    sends = sends-more h (record { appends = s.appends });
  }

  -- and with one that makes nothing
  pub calls-pass : (broke : Bool) (k : Option (List ℕ)) (before : List Call) (call : Call) → broke ≡ false → make (before ++ call ∷ []) ≡ make before →
      HoldsCalls broke make start k before → HoldsCalls broke make start k (before ++ call ∷ [])
  calls-pass true k before call whole same h = absurd (true≢false whole)
  calls-pass false k before call whole same h = sends-is (sym same) h

-- a device is blamed for a call more
pub blamed-more : (broke broke' was failed failed' : Bool) → broke ≡ false → IsBlamed broke was failed → IsBlamed broke' failed failed' →
    IsBlamed broke' was failed'
blamed-more true broke' was failed failed' whole b c = absurd (true≢false whole)
blamed-more false true was failed failed' whole b c = c
blamed-more false false was failed failed' whole b c = c ∙ b

-- a call without a line
pub skip-line : {start : LentWriter} {s : LineSinkState} {before : List Call} (call : Call) → ((m : ℕ) → line_of s.opening s.listing m call ≡ []) →
    counted s.listing call ≡ 0 → s.broke_off ≡ false → HoldsLines start s before → HoldsLines start s (before ++ call ∷ [])
skip-line {start} {s} {before} call none zero whole h = record {
  counts = let c = h.counts in let d = counted-more s.listing before call in omega (arith, c, d, zero);
  holds = calls-pass (lines_of s.opening s.listing 0) start.bytes s.broke_off s.writer.bytes before call whole
      (lines-more s.opening s.listing 0 (counted_of s.listing before) before call (omega arith) ∙
      ap (λ x. lines_of s.opening s.listing 0 before ++ x) (none (counted_of s.listing before)) ∙ append-nil (lines_of s.opening s.listing 0 before)) h.holds;
  blamed = h.blamed;
}

-- the same of a sink
pub skipped : {start : LentWriter} {head : Opening} {listing : Listing} {s : LineSinkState} {before : List Call} (call : Call) →
    ((m : ℕ) → line_of s.opening s.listing m call ≡ []) → counted s.listing call ≡ 0 → s.broke_off ≡ false → TookLines start head listing s before →
    TookLines start head listing s (before ++ call ∷ [])
skipped {start} {head} {listing} {s} call none zero whole h =
    record { same_reference = h.same_reference; same_opening = h.same_opening; same_listing = h.same_listing; lines = skip-line call none zero whole h.lines }

-- a sink of lines, of this form and for this listing
abbrev pub lined : Opening → Listing → LentWriter → (frames : ℕ) → (broke_off : Bool) → LineSinkState
lined hd l writer frames broke = record { writer = writer; opening = hd; listing = l; frames = frames; broke_off = broke }

-- a call whose line was written, or broke off
pub take-line : {hd : Opening} {l : Listing} {start w w' : LentWriter} {f f' : ℕ} {broke broke' : Bool} {before : List Call} {text : List ℕ} (call : Call) →
    line_of hd l f call ≡ text → broke ≡ false → f' ≡ f + counted l call → HoldsLines start (lined hd l w f broke) before →
    SendsOrBreaksOff broke' w.bytes w'.bytes text → IsBlamed broke' w.has_failed w'.has_failed →
    HoldsLines start (lined hd l w' f' broke') (before ++ call ∷ [])
take-line {hd} {l} {start} {w} {w'} {f} {f'} {broke} {broke'} {before} {text} call line whole e h s b = record {
  counts = let c = h.counts in let d = counted-more l before call in omega (arith, c, d, e);
  holds = calls-more (lines_of hd l 0) start.bytes broke broke' w.bytes w'.bytes before text call whole
      (lines-more hd l 0 f before call (let c = h.counts in omega (arith, c)) ∙ ap (λ x. lines_of hd l 0 before ++ x) line) h.holds s;
  blamed = blamed-more broke broke' start.has_failed w.has_failed w'.has_failed whole h.blamed b;
}

-- a call that failed, at which nothing was written
pub unsent-line : {hd hd' : Opening} {l l' : Listing} {start : LentWriter} {r r' f f' : ℕ} {broke broke' failed failed' : Bool} {k k' : Option (List ℕ)}
    {before : List Call} → hd' ≡ hd → l' ≡ l → f' ≡ f → broke' ≡ broke → failed' ≡ failed → k' ≡ k →
    HoldsLines start (lined hd l (lent r k failed) f broke) before → HoldsLines start (lined hd' l' (lent r' k' failed') f' broke') before
unsent-line begins lists frames breaks fails holds h =
    rw (begins, lists, frames, breaks, fails, holds) (record { counts = h.counts; holds = h.holds; blamed = h.blamed })

pub on-ok : {X E : Type 0} {A B C : Type 0} (r : Result X E) → (A → B → C) → OnOk r A → OnOk r B → OnOk r C
on-ok (Ok x) f a b = f a b
on-ok (Err e) f a b = tt

pub on-ok-three : {X E : Type 0} {A B C D : Type 0} (r : Result X E) → (A → B → C → D) → OnOk r A → OnOk r B → OnOk r C → OnOk r D
on-ok-three (Ok x) f a b c = f a b c
on-ok-three (Err e) f a b c = tt

pub on-err : {X E : Type 0} {A B C : Type 0} (r : Result X E) → (A → B → C) → OnErr r A → OnErr r B → OnErr r C
on-err (Ok x) f a b = tt
on-err (Err e) f a b = f a b

pub ok-map : {X E : Type 0} {A B : Type 0} (r : Result X E) → (A → B) → OnOk r A → OnOk r B
ok-map (Ok x) f a = f a
ok-map (Err e) f a = tt

pub err-map : {X E : Type 0} {A B : Type 0} (r : Result X E) → (A → B) → OnErr r A → OnErr r B
err-map (Ok x) f a = tt
err-map (Err e) f a = f a

pub on-err-all : {X E : Type 0} {A : Type 0} (r : Result X E) → A → OnErr r A
on-err-all (Ok x) a = tt
on-err-all (Err e) a = a

-- nothing more was told
pub lines-none : {start : LentWriter} {head : Opening} {listing : Listing} {s : LineSinkState} {before : List Call} → TookLines start head listing s before →
    TookLines start head listing s (before ++ [])
lines-none {start} {head} {listing} {s} {before} h = subst (TookLines start head listing s) (sym (append-nil before)) h

pub frames-none : {start w : LentWriter} {broke : Bool} {before : List Call} → TookFrames start broke w before → TookFrames start broke w (before ++ [])
frames-none {start} {w} {broke} {before} h = subst (TookFrames start broke w) (sym (append-nil before)) h

-- a call without bytes
pub passed : {start w : LentWriter} (broke : Bool) (before : List Call) (call : Call) → broke ≡ false → bytes_in call ≡ [] → TookFrames start broke w before →
    TookFrames start broke w (before ++ call ∷ [])
passed {start} {w} broke before call whole none h = record {
  same_reference = h.same_reference;
  holds = calls-pass bytes_of start.bytes broke w.bytes before call whole
      (bytes-more before call ∙ ap (λ x. bytes_of before ++ x) none ∙ append-nil (bytes_of before)) h.holds;
  blamed = h.blamed;
}

-- a frame that was written, or broke off
pub take-frame : {start w w' : LentWriter} (broke broke' : Bool) (before : List Call) (call : Call) → w'.reference ≡ w.reference → broke ≡ false →
    SendsOrBreaksOff broke' w.bytes w'.bytes (bytes_in call) → IsBlamed broke' w.has_failed w'.has_failed → TookFrames start broke w before →
    TookFrames start broke' w' (before ++ call ∷ [])
take-frame {start} {w} {w'} broke broke' before call refers whole s b h =
    record {
      same_reference = refers ∙ h.same_reference;
      holds = calls-more bytes_of start.bytes broke broke' w.bytes w'.bytes before (bytes_in call) call whole (bytes-more before call) h.holds s;
      blamed = blamed-more broke broke' start.has_failed w.has_failed w'.has_failed whole h.blamed b;
    }

-- a sink is told what its state shows of each account before
pub ok-tells : {X E : Type 0} (r : Result X E) {S : Type 0} (took : S → List Call → Type 0) (old new : S) (calls : List Call) →
    ((before : List Call) → took old before → OnOk r (took new (before ++ calls))) → OnOk r (Tells took old new calls)
ok-tells (Ok x) took old new calls f = record { told = f }
ok-tells (Err e) took old new calls f = tt

pub err-tells : {X E : Type 0} (r : Result X E) {S : Type 0} (took : S → List Call → Type 0) (old new : S) (calls : List Call) →
    ((before : List Call) → took old before → OnErr r (took new (before ++ calls))) → OnErr r (Tells took old new calls)
err-tells (Ok x) took old new calls f = tt
err-tells (Err e) took old new calls f = record { told = f }
