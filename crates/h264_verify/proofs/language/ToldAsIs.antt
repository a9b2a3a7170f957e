-- What a sink is told as it is, as a part of what comes to pass.
use Rattle.std.proofs.Common.{◌≡◌, List, [], ◌∷◌, ◌++◌, map, refl, ap, sym, ◌∙◌, subst, append_assoc}
use Rattle.h264_base.specs.Call.{Call, Tells as CallsTell, TellsFront as CallsFront}
use Rattle.h264_base.specs.Body.{Body}
use Rattle.h264_base.specs.Grammar.{Element}
use Rattle.h264_base.specs.Run.{call_of}
use Rattle.h264_verify.specs.Telling.{Told, Said, Decodes, Shows, said_of, calls_of, calls_to_show, AreDecoded, took_with, Tells, TellsFront, Family}

saids-call : (frames : Family) (calls : List Call) → calls_of frames (map Said calls) ≡ calls
saids-call frames [] = refl
saids-call frames (c ∷ calls) = ap (λ (l : List Call). c ∷ l) (saids-call frames calls)

calls-said : (frames : Family) (told : List Told) (calls : List Call) → calls_of frames (told ++ map Said calls) ≡ calls_of frames told ++ calls
calls-said frames [] calls = saids-call frames calls
calls-said frames (Said c ∷ told) calls = ap (λ (l : List Call). c ∷ l) (calls-said frames told calls)
calls-said frames (Decodes ps ∷ told) calls = calls-said frames told calls
calls-said frames (Shows e ∷ told) calls = ap (λ (l : List Call). calls_to_show frames (e ∷ []) ++ l) (calls-said frames told calls)
    ∙ sym (append_assoc (calls_to_show frames (e ∷ [])) (calls_of frames told) calls)

saids-decoded : (frames : Family) (calls : List Call) → AreDecoded frames (map Said calls)
saids-decoded frames [] = tt
saids-decoded frames (c ∷ calls) = saids-decoded frames calls

decoded-said : (frames : Family) (told : List Told) (calls : List Call) → AreDecoded frames told → AreDecoded frames (told ++ map Said calls)
decoded-said frames [] calls h = saids-decoded frames calls
decoded-said frames (Said c ∷ told) calls h = decoded-said frames told calls h
decoded-said frames (Decodes ps ∷ told) calls h = (h.0, decoded-said frames told calls h.1)
decoded-said frames (Shows e ∷ told) calls h = decoded-said frames told calls h

-- a sink was told so
pub tells-said : {S : Type 0} (frames : Family) (took : S → List Call → Type 0) (s s' : S) (calls : List Call) → CallsTell took s s' calls →
    Tells (took_with frames took) s s' (map Said calls)
unfolding took_with
tells-said frames took s s' calls t = record {
  told =
      λ before h. (decoded-said frames before calls h.0, subst (took s') (sym (calls-said frames before calls)) (t.told (calls_of frames before) h.1));
}

saids-both : (xs ys : List Call) → map Said (xs ++ ys) ≡ map Said xs ++ map Said ys
saids-both [] ys = refl
saids-both (x ∷ xs) ys = ap (λ (l : List Told). Said x ∷ l) (saids-both xs ys)

-- or only the first of it
pub front-said : {S : Type 0} (frames : Family) (took : S → List Call → Type 0) (s s' : S) (calls : List Call) → CallsFront took s s' calls →
    TellsFront (took_with frames took) s s' (map Said calls)
front-said frames took s s' calls k = record {
  front = map Said k.front;
  rest = map Said k.rest;
  whole = ap (λ (l : List Call). map Said l) k.whole ∙
      saids-both k.front k.rest;
  tells = tells-said frames took s s' k.front k.tells;
}

-- ---- elements

said-elements : (body : Body) (es : List Element) → map Said (map (call_of body) es) ≡ map (said_of body) es
said-elements body [] = refl
said-elements body (e ∷ es) = ap (λ (l : List Told). said_of body e ∷ l) (said-elements body es)

pub elements-tell : {S : Type 0} (frames : Family) (took : S → List Call → Type 0) (s s' : S) (body : Body) (es : List Element) →
    CallsTell took s s' (map (call_of body) es) → Tells (took_with frames took) s s' (map (said_of body) es)
elements-tell frames took s s' body es t =
    subst (Tells (took_with frames took) s s') (said-elements body es) (tells-said frames took s s' (map (call_of body) es) t)

pub elements-front : {S : Type 0} (frames : Family) (took : S → List Call → Type 0) (s s' : S) (body : Body) (es : List Element) →
    CallsFront took s s' (map (call_of body) es) → TellsFront (took_with frames took) s s' (map (said_of body) es)
elements-front frames took s s' body es t =
    subst (TellsFront (took_with frames took) s s') (said-elements body es) (front-said frames took s s' (map (call_of body) es) t)
