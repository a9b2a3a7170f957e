-- What comes of a frame more, and of calls.
use Rattle.std.proofs.Common.{◌≡◌, ℕ, zero, suc, ◌+◌, List, [], ◌∷◌, ◌++◌, length, Bool, Option, None, Some, if◌then◌else◌, refl, sym, ap, ap₂, ◌∙◌}
use Rattle.std.proofs.Common.{subst, arith, append-nil}
use Rattle.std.specs.List.{All, sum_by, flat_map, range_with_len}
use Rattle.std.specs.Io.KnownBytes.{Consumes}
use Rattle.std.proofs.KnownBytes.{Consumes-trans}
use Rattle.std.proofs.lemmas.Grind.{flat_map-append}
use Rattle.std.proofs.lemmas.List.{length-append, map-append}
use Rattle.std.proofs.lemmas.List.Elements.{All-append, All-cons, All-nil}
use Rattle.std.proofs.lemmas.List.Sums.{sum_by-append}
use Rattle.h264_base.specs.Call.{Call}
use Rattle.h264_compare.specs.declared.given.Lack.{Lack}
use Rattle.h264_compare.specs.declared.given.Layout.{Layout}
use Rattle.h264_compare.specs.declared.numbers.Numbers.{Numbers}
use Rattle.h264_compare.specs.Places.{luma}
use Rattle.h264_compare.specs.Differences.{differ, differences, first_of, squares}
use Rattle.h264_compare.specs.Given.{Standing, EndsWith}
use Rattle.h264_compare.specs.Numbers.{Compared, AreNoted, AreNumbersOf, capped, earlier, differences_of}
use Rattle.h264_compare.specs.Compared.{AddsFrame, ComparesFrame, HasCompared, AreGiven, IsWhole, Picture, Suits, compared_as, picture_in}
use Rattle.h264_compare.specs.Compared.{pictures_of, read_for}
use Rattle.h264_compare.proofs.Noting.{capped-twice, first_of-append}

-- a frame that was begun, noted and ended
pub added : (f : Compared) (old mid new : Numbers) (differs : Bool) → f.shown.number ≡ old.frames →
    AreNoted f.shown 0 (record old { frames = old.frames + 1; luma = capped (old.luma + luma f.shown) }) mid f.made f.given → differs ≡ differ f.made f.given →
    new ≡ record mid { differing = capped (mid.differing + (if differs then 1 else 0)) } → AddsFrame old new f
added f old mid new differs number noted d ended = rw ended (record {
  number = number;
  frames = noted.frames;
  differing = ap₂ (λ n b. capped (n + (if b then 1 else 0))) noted.differing d;
  first = noted.first;
  luma_are = noted.luma;
  squares_are = noted.squares;
})

-- ---- one frame more

range-more : (a n b : ℕ) → a + n ≡ b → range_with_len a (suc n) ≡ range_with_len a n ++ b ∷ []
range-more a zero b e = let f : a ≡ b = omega (arith, e) in ap (λ k. k ∷ []) f
range-more a (suc n) b e = ap (λ l. a ∷ l) (range-more (a + 1) n b (omega (arith, e)))

-- a sum that stops
summed : (g : Compared → ℕ) (fs : List Compared) (f : Compared) (old new : ℕ) → old ≡ capped (sum_by g fs) → new ≡ capped (old + g f) →
    new ≡ capped (sum_by g (fs ++ f ∷ []))
summed g fs f old new o n =
    n ∙ ap (λ k. capped (k + g f)) o ∙ capped-twice (sum_by g fs) (g f)
    ∙ ap capped (let e = sum_by-append g fs (f ∷ []) in let k : sum_by g fs + g f ≡ sum_by g (fs ++ f ∷ []) = omega (arith, e) in k)

numbers-more : (old new : Numbers) (fs : List Compared) (f : Compared) → AreNumbersOf old fs → AddsFrame old new f → AreNumbersOf new (fs ++ f ∷ [])
numbers-more old new fs f n a = record {
  frames = let e = length-append fs (f ∷ []) in let o = n.frames in let m = a.frames in omega (arith, e, o, m);
  differing = summed (λ f. if differ f.made f.given then 1 else 0) fs f _ _ n.differing a.differing;
  first = a.first ∙ ap (λ o. earlier o (first_of (differences f.shown 0 f.made f.given))) n.first ∙ sym (first_of-append _ _)
      ∙ ap first_of (ap (λ l. differences_of fs ++ l) (sym (append-nil (differences f.shown 0 f.made f.given)))
      ∙ sym (flat_map-append (λ f. differences f.shown 0 f.made f.given) fs (f ∷ [])));
  luma = summed (λ f. luma f.shown) fs f _ _ n.luma a.luma_are;
  squares = λ c. summed (λ f. squares c f.shown 0 f.made f.given) fs f _ _ (n.squares c) (a.squares_are c);
}

given-more : (lack : Option Lack) (left : Option (List ℕ)) (fs : List Compared) (f : Compared) → All IsWhole fs → EndsWith lack left f.made f.given →
    AreGiven lack left (fs ++ f ∷ [])
given-more None left fs f whole e = All-append IsWhole fs (f ∷ []) whole (All-cons IsWhole f [] e (All-nil IsWhole))
given-more (Some lack) left fs f whole e = record { before = fs; last = f; all = refl; whole = whole; ends = e }

-- ---- calls

module _ (start : Option (List ℕ)) (layout : Layout) where
  -- a frame that was compared
  pub compared-more : {old new : Standing} {lack lack' : Option Lack} {picture : Picture} {before : List Call} {layout' : Layout} (call : Call) →
      picture_in call ≡ picture ∷ [] → lack ≡ None → layout' ≡ layout → ComparesFrame layout' old new picture lack' → HasCompared start layout old lack before →
      HasCompared start layout new lack' (before ++ call ∷ [])
  compared-more {old} {new} {lack} {lack'} {picture} {before} {layout'} call is whole same c h =
      let f = c.frame in
      let fs = h.frames in
      record {
        frames = fs ++ f ∷ [];
        told = map-append compared_as fs (f ∷ []) ∙ ap₂ (λ a p. a ++ p ∷ []) h.told c.compared
            ∙ ap (λ l. pictures_of before ++ l) (sym is ∙ sym (append-nil (picture_in call))) ∙ sym (flat_map-append picture_in before (call ∷ []));
        numbered = map-append (λ f. f.shown.number) fs (f ∷ []) ∙ ap₂ (λ a n. a ++ n ∷ []) h.numbered (c.adds.number ∙ h.numbers.frames)
            ∙ sym (range-more 0 (length fs) (length fs) (omega arith)) ∙ ap (range_with_len 0)
            (let e = length-append fs (f ∷ []) in let k : suc (length fs) ≡ length (fs ++ f ∷ []) = omega (arith, e) in k);
        read = subst (Consumes start new.left) (ap (λ l. flat_map read_for fs ++ l) (sym (append-nil (read_for f))) ∙
            sym (flat_map-append read_for fs (f ∷ [])))
            (Consumes-trans start old.left new.left (flat_map read_for fs) (read_for f) h.read c.read);
        suit = All-append (Suits layout) fs (f ∷ []) h.suit (All-cons (Suits layout) f [] (subst (λ l. Suits l f) same c.suits_it) (All-nil (Suits layout)));
        given = given-more lack' new.left fs f (subst (λ l. AreGiven l old.left fs) whole h.given) c.ends;
        numbers = numbers-more old.numbers new.numbers fs f h.numbers c.adds;
      }

  -- a call that has no frame
  pub compared-pass : {now : Standing} {lack : Option Lack} {before : List Call} (call : Call) → picture_in call ≡ [] →
      HasCompared start layout now lack before → HasCompared start layout now lack (before ++ call ∷ [])
  compared-pass {now} {lack} {before} call none h = record {
    frames = h.frames;
    told = h.told ∙ sym (append-nil (pictures_of before)) ∙ ap (λ l. pictures_of before ++ l) (sym none ∙ sym (append-nil (picture_in call)))
        ∙ sym (flat_map-append picture_in before (call ∷ []));
    numbered = h.numbered;
    read = h.read;
    suit = h.suit;
    given = h.given;
    numbers = h.numbers;
  }

  -- no call more
  pub compared-none : {now : Standing} {lack : Option Lack} {before : List Call} → HasCompared start layout now lack before →
      HasCompared start layout now lack (before ++ [])
  compared-none {now} {lack} {before} h = subst (HasCompared start layout now lack) (sym (append-nil before)) h
