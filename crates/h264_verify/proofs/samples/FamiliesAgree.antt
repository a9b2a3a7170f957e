-- Two families with the same first frames tell the same of the first pictures.
use Rattle.std.proofs.Common.{◌≡◌, ℕ, ◌<◌, ◌≤◌, List, [], ◌∷◌, ◌++◌, map, length, Some, None, Result, Ok, Err, refl, ap, sym, ◌∙◌, subst, arith, append_assoc}
use Rattle.h264_base.specs.declared.stop.Stop.{Stop}
use Rattle.h264_base.specs.declared.stop.Stop.TheVariants.{No, Outside, Memory, Read, Write}
use Rattle.h264_base.specs.Call.{Call, span}
use Rattle.h264_plane.specs.declared.frame.Frame.{Frame}
use Rattle.h264_dpb.specs.Shown.{frame_call}
use Rattle.h264_dpb.specs.declared.entry.Entry.{Entry}
use Rattle.h264_dpb.specs.Turns.{Shown}
use Rattle.h264_verify.specs.Pictures.{CodedPicture}
use Rattle.h264_verify.specs.Decoding.{slices_of, IsDecoded}
use Rattle.h264_verify.specs.Telling.{Told, Said, Decodes, Shows, calls_to_show, calls_of, HasFrame}
use Rattle.h264_verify.specs.Telling.{AreDecoded, took_with, Tells, TellsFront, Agree, AreOf, Family}
use Rattle.h264_verify.specs.Outcome.{Outcome, Plays, PlaysBy}
use Rattle.h264_verify.proofs.language.ToldAsIs.{tells-said}
use Rattle.h264_verify.proofs.samples.FamiliesInSlice.{each-slice, refers-agree}

-- ---- families

pub agree-none : (n : ℕ) (f : Family) → Agree n f f
agree-none n None = tt
agree-none n (Some f) = λ k h. refl

pub agree-less : (m n : ℕ) (frames others : Family) → m ≤ n → Agree n frames others → Agree m frames others
agree-less m n None None h a = tt
agree-less m n None (Some others) h a = absurd a
agree-less m n (Some frames) None h a = absurd a
agree-less m n (Some frames) (Some others) h a = λ k l. a k (omega (arith, h, l))

pub agree-then : (n : ℕ) (frames others more : Family) → Agree n frames others → Agree n others more → Agree n frames more
agree-then n None None None a b = tt
agree-then n None None (Some more) a b = absurd b
agree-then n None (Some others) more a b = absurd a
agree-then n (Some frames) None more a b = absurd a
agree-then n (Some frames) (Some others) None a b = absurd b
agree-then n (Some frames) (Some others) (Some more) a b = λ k l. a k l ∙ b k l

-- ---- what is of the first pictures

pub of-both : (n : ℕ) (xs ys : List Told) → AreOf n xs → AreOf n ys → AreOf n (xs ++ ys)
of-both n [] ys h k = k
of-both n (x ∷ xs) ys h k = (h.0, of-both n xs ys h.1 k)

pub of-front : (n : ℕ) (xs ys : List Told) → AreOf n (xs ++ ys) → AreOf n xs
of-front n [] ys h = tt
of-front n (x ∷ xs) ys h = (h.0, of-front n xs ys h.1)

pub of-last : (n : ℕ) (xs ys : List Told) → AreOf n (xs ++ ys) → AreOf n ys
of-last n [] ys h = h
of-last n (x ∷ xs) ys h = of-last n xs ys h.1

pub of-more : (m n : ℕ) (told : List Told) → m ≤ n → AreOf m told → AreOf n told
of-more m n [] l h = tt
of-more m n (Said call ∷ told) l h = (tt, of-more m n told l h.1)
of-more m n (Decodes ps ∷ told) l h = (omega (arith, l, h.0), of-more m n told l h.1)
of-more m n (Shows e ∷ told) l h = (omega (arith, l, h.0), of-more m n told l h.1)

-- ---- decoded pictures

pub decoded-agree : (n : ℕ) (frames others : Family) (p : CodedPicture) (ps : List CodedPicture) → length (p ∷ ps) ≤ n → Agree n frames others →
    HasFrame frames (p ∷ ps) → HasFrame others (p ∷ ps)
decoded-agree n None None p ps l a h = tt
decoded-agree n None (Some others) p ps l a h = absurd a
decoded-agree n (Some frames) None p ps l a h = absurd a
decoded-agree n (Some frames) (Some others) p ps l a h =
    let a' : Agree (length ps) (Some frames) (Some others) = λ k m. a k (omega (arith, l, m)) in
    let d : IsDecoded others p ps (frames (length ps)) = record {
      size = h.size;
      place = h.place;
      reference = h.reference;
      refers = each-slice (refers-agree frames others p ps h.place h.reference a') (slices_of p) h.refers;
      slices = h.slices;
      parameters = h.parameters;
      samples = h.samples;
    } in
    subst (λ (f : Frame). IsDecoded others p ps f) (a (length ps) (omega (arith, l))) d

-- ---- what is told

show-agree : (n : ℕ) (frames others : Family) (e : Entry Shown) → Agree n frames others → e.of.picture < n →
    calls_to_show frames (e ∷ []) ≡ calls_to_show others (e ∷ [])
show-agree n None None e a h = refl
show-agree n None (Some others) e a h = absurd a
show-agree n (Some frames) None e a h = absurd a
show-agree n (Some frames) (Some others) e a h = ap (λ (f : Frame). frame_call e.count f e.of.rectangle ∷ []) (a e.of.picture h)

pub calls-agree : (n : ℕ) (frames others : Family) (told : List Told) → Agree n frames others → AreOf n told → calls_of frames told ≡ calls_of others told
calls-agree n frames others [] a h = refl
calls-agree n frames others (Said call ∷ told) a h = ap (λ (l : List Call). call ∷ l) (calls-agree n frames others told a h.1)
calls-agree n frames others (Decodes ps ∷ told) a h = calls-agree n frames others told a h.1
calls-agree n frames others (Shows e ∷ told) a h =
    ap (λ (l : List Call). l ++ calls_of frames told) (show-agree n frames others e a h.0)
    ∙ ap (λ (l : List Call). calls_to_show others (e ∷ []) ++ l) (calls-agree n frames others told a h.1)

pub decoded-told-agree : (n : ℕ) (frames others : Family) (told : List Told) → Agree n frames others → AreOf n told → AreDecoded frames told →
    AreDecoded others told
decoded-told-agree n frames others [] a h d = tt
decoded-told-agree n frames others (Said call ∷ told) a h d = decoded-told-agree n frames others told a h.1 d
decoded-told-agree n frames others (Decodes [] ∷ told) a h d = (tt, decoded-told-agree n frames others told a h.1 d.1)
decoded-told-agree n frames others (Decodes (p ∷ ps) ∷ told) a h d =
    (decoded-agree n frames others p ps h.0 a d.0, decoded-told-agree n frames others told a h.1 d.1)
decoded-told-agree n frames others (Shows e ∷ told) a h d = decoded-told-agree n frames others told a h.1 d

pub calls-both : (frames : Family) (xs ys : List Told) → calls_of frames (xs ++ ys) ≡ calls_of frames xs ++ calls_of frames ys
calls-both frames [] ys = refl
calls-both frames (Said call ∷ xs) ys = ap (λ (l : List Call). call ∷ l) (calls-both frames xs ys)
calls-both frames (Decodes ps ∷ xs) ys = calls-both frames xs ys
calls-both frames (Shows e ∷ xs) ys = ap (λ (l : List Call). calls_to_show frames (e ∷ []) ++ l) (calls-both frames xs ys)
    ∙ sym (append_assoc (calls_to_show frames (e ∷ [])) (calls_of frames xs) (calls_of frames ys))

pub decoded-both : (frames : Family) (xs ys : List Told) → AreDecoded frames xs → AreDecoded frames ys → AreDecoded frames (xs ++ ys)
decoded-both frames [] ys h k = k
decoded-both frames (Said call ∷ xs) ys h k = decoded-both frames xs ys h k
decoded-both frames (Decodes ps ∷ xs) ys h k = (h.0, decoded-both frames xs ys h.1 k)
decoded-both frames (Shows e ∷ xs) ys h k = decoded-both frames xs ys h k

pub decoded-first : (frames : Family) (xs ys : List Told) → AreDecoded frames (xs ++ ys) → AreDecoded frames xs
decoded-first frames [] ys h = tt
decoded-first frames (Said call ∷ xs) ys h = decoded-first frames xs ys h
decoded-first frames (Decodes pictures ∷ xs) ys h = (h.0, decoded-first frames xs ys h.1)
decoded-first frames (Shows e ∷ xs) ys h = decoded-first frames xs ys h

pub decoded-last : (frames : Family) (xs ys : List Told) → AreDecoded frames (xs ++ ys) → AreDecoded frames ys
decoded-last frames [] ys h = h
decoded-last frames (Said call ∷ xs) ys h = decoded-last frames xs ys h
decoded-last frames (Decodes ps ∷ xs) ys h = decoded-last frames xs ys h.1
decoded-last frames (Shows e ∷ xs) ys h = decoded-last frames xs ys h

-- ---- what a sink was told

none-said : (frames : Family) → took_with frames (λ (l k : List Call). k ≡ l) [] []
unfolding took_with
none-said frames = (tt, refl)

-- calls, as they are
as-said : (frames : Family) (calls : List Call) → took_with frames (λ (l k : List Call). k ≡ l) calls (map Said calls)
as-said frames calls = (tells-said frames (λ (l k : List Call). k ≡ l) [] calls calls
    (record { told = λ before e. ap (λ (l : List Call). l ++ calls) e })).told [] (none-said frames)

module _ {S : Type 0} (took : S → List Call → Type 0) (n : ℕ) (frames others : Family) where
  -- Before it, the calls may have been made as they are, with no frames.
  pub tells-agree : (s s' : S) (more : List Told) → Agree n frames others → AreOf n more → Tells (took_with frames took) s s' more →
      Tells (took_with others took) s s' more
  unfolding took_with
  tells-agree s s' more agree of t = record {
    told = λ before h.
        let calls = calls_of others before in
        let said = as-said frames calls in
        let k = t.told (map Said calls) (said.0, subst (took s) (sym said.1) h.1) in
        let same : calls_of frames (map Said calls ++ more) ≡ calls_of others (before ++ more) =
        calls-both frames (map Said calls) more ∙ ap (λ (l : List Call). l ++ calls_of frames more) said.1 ∙
        ap (λ (l : List Call). calls ++ l) (calls-agree n frames others more agree of) ∙ sym (calls-both others before more) in (
          decoded-both others before more h.0 (decoded-told-agree n frames others more agree of (decoded-last frames (map Said calls) more k.0)),
          subst (took s') same k.1,
        );
  }

  pub front-agree : (s s' : S) (more : List Told) → Agree n frames others → AreOf n more → TellsFront (took_with frames took) s s' more →
      TellsFront (took_with others took) s s' more
  front-agree s s' more agree of t = record {
    front = t.front;
    rest = t.rest;
    whole = t.whole;
    tells = tells-agree s s' t.front agree (of-front n t.front t.rest (subst (AreOf n) t.whole of)) t.tells;
  }

  pub plays-agree : {X A : Type 0} (failures : S → ℕ) (view : X → A) (o : Outcome A) (s s' : S) (r : Result X Stop) → Agree n frames others →
      AreOf n o.calls → Plays (span (took_with frames took) failures s s') view o r → Plays (span (took_with others took) failures s s') view o r
  plays-agree {X} {A} failures view o s s' r agree of p = record { plays = by r p.plays }
    where
      by : (r : Result X Stop) → PlaysBy (span (took_with frames took) failures s s') view o r → PlaysBy (span (took_with others took) failures s s') view o r
      by (Ok x) p = (p.0, tells-agree s s' o.calls agree of p.1, p.2)
      by (Err (No bit rule)) p = (p.0, tells-agree s s' o.calls agree of p.1, p.2)
      by (Err (Outside bit feature)) p = (p.0, tells-agree s s' o.calls agree of p.1, p.2)
      by (Err Memory) p = (front-agree s s' o.calls agree of p.0, p.1)
      by (Err Read) p = absurd p
      by (Err Write) p = (front-agree s s' o.calls agree of p.0, p.1)
