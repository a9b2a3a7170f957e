-- A survey goes on.
use Rattle.std.proofs.Common.{◌≡◌, cond, List, [], ◌∷◌, ◌++◌, sym, subst, ◌∙◌, arith}
use Rattle.std.specs.List.{count_by}
use Rattle.std.proofs.lemmas.List.{append-nil}
use Rattle.std.proofs.lemmas.List.Sums.{fold-append, sum_by-append}
use Rattle.h264_base.specs.Call.{Call, OfUnit, OfSlice, OfElement, OfFrame, Tells}
use Rattle.h264_bits.specs.Counts.{grown}
use Rattle.h264_pages.specs.Surveyed.{StreamTold, IsTold, HasSurveyed, nothing_told, and_call, told_by, is_frame, is_unit}
use Rattle.h264_pages.specs.declared.survey.notes.Survey.{Survey}
use Rattle.h264_pages.specs.declared.survey.surveyed.Surveyed.{Surveyed}

-- a survey of nothing
pub none-surveyed : {survey : Survey} → IsTold survey nothing_told → HasSurveyed survey []
none-surveyed fresh = record { told = fresh; units = fresh.units; frames = fresh.frames }

units-more : (t : StreamTold) (calls : List Call) (call : Call) → t.units ≡ grown 0 (count_by is_unit calls) →
    (and_call t call).units ≡ grown 0 (count_by is_unit (calls ++ call ∷ []))
units-more t calls (OfUnit byte kind reference length) is =
    let all = sum_by-append (λ c. cond (is_unit c) 1 0) calls (OfUnit byte kind reference length ∷ []) in omega (arith, is, all)
units-more t calls (OfSlice byte mb kind frame_num count) is =
    let all = sum_by-append (λ c. cond (is_unit c) 1 0) calls (OfSlice byte mb kind frame_num count ∷ []) in omega (arith, is, all)
units-more t calls (OfElement name bit v) is =
    let all = sum_by-append (λ c. cond (is_unit c) 1 0) calls (OfElement name bit v ∷ []) in omega (arith, is, all)
units-more t calls (OfFrame count width height bytes) is =
    let all = sum_by-append (λ c. cond (is_unit c) 1 0) calls (OfFrame count width height bytes ∷ []) in omega (arith, is, all)

frames-more : (t : StreamTold) (calls : List Call) (call : Call) → t.frames ≡ grown 0 (count_by is_frame calls) →
    (and_call t call).frames ≡ grown 0 (count_by is_frame (calls ++ call ∷ []))
frames-more t calls (OfUnit byte kind reference length) is =
    let all = sum_by-append (λ c. cond (is_frame c) 1 0) calls (OfUnit byte kind reference length ∷ []) in omega (arith, is, all)
frames-more t calls (OfSlice byte mb kind frame_num count) is =
    let all = sum_by-append (λ c. cond (is_frame c) 1 0) calls (OfSlice byte mb kind frame_num count ∷ []) in omega (arith, is, all)
frames-more t calls (OfElement name bit v) is =
    let all = sum_by-append (λ c. cond (is_frame c) 1 0) calls (OfElement name bit v ∷ []) in omega (arith, is, all)
frames-more t calls (OfFrame count width height bytes) is =
    let all = sum_by-append (λ c. cond (is_frame c) 1 0) calls (OfFrame count width height bytes ∷ []) in omega (arith, is, all)

-- a call more
pub surveyed-more : {old new : Survey} (call : Call) → ((t : StreamTold) → IsTold old t → IsTold new (and_call t call)) → (before : List Call) →
    HasSurveyed old before → HasSurveyed new (before ++ call ∷ [])
surveyed-more {old} {new} call follows before h =
    let told = follows (told_by before) h.told in
    record {
      told = subst (IsTold new) (sym (fold-append and_call nothing_told before (call ∷ []))) told;
      units = told.units ∙ units-more (told_by before) before call (sym h.told.units ∙ h.units);
      frames = told.frames ∙ frames-more (told_by before) before call (sym h.told.frames ∙ h.frames);
    }

-- no call more
pub surveyed-still : {old new : Survey} → ((t : StreamTold) → IsTold old t → IsTold new t) → (before : List Call) → HasSurveyed old before →
    HasSurveyed new (before ++ [])
surveyed-still {old} {new} same before h =
    let told = same (told_by before) h.told in
    subst (HasSurveyed new) (sym (append-nil before)) (record {
      told = told;
      units = told.units ∙ sym h.told.units ∙ h.units;
      frames = told.frames ∙ sym h.told.frames ∙ h.frames;
    })

-- what a sink inside was told, and what was surveyed of it
pub surveyed-tells : {S M : Type 0} {took : S → List Call → Type 0} {old new : Surveyed S M} (call : Call) →
    ((t : StreamTold) → IsTold old.survey t → IsTold new.survey (and_call t call)) → Tells took old.sink new.sink (call ∷ []) →
    Tells (λ (s : Surveyed S M) cs. took s.sink cs × HasSurveyed s.survey cs) old new (call ∷ [])
surveyed-tells call follows tells = record { told = λ before h. (tells.told before h.0, surveyed-more call follows before h.1) }

pub surveyed-tells-none : {S M : Type 0} {took : S → List Call → Type 0} {old new : Surveyed S M} →
    ((t : StreamTold) → IsTold old.survey t → IsTold new.survey t) → Tells took old.sink new.sink [] →
    Tells (λ (s : Surveyed S M) cs. took s.sink cs × HasSurveyed s.survey cs) old new []
surveyed-tells-none same tells = record { told = λ before h. (tells.told before h.0, surveyed-still same before h.1) }
