-- Slice data have at least one macroblock (7.3.4).
use Rattle.std.proofs.Common.{◌≡◌, ℕ, zero, suc, ◌+◌, ◌<◌, ◌≤◌, Bool, true, false, List, Some, None, Result, Ok, sym, ◌∙◌, subst, arith, inl, inr, length}
use Rattle.std.proofs.Common.{length-append, if◌then◌else◌}
use Rattle.h264_base.specs.declared.mode.SliceType.{SliceType}
use Rattle.h264_base.specs.declared.mode.SliceType.TheVariants as slice_type
use Rattle.h264_base.specs.declared.stop.Stop.{Stop}
use Rattle.h264_base.specs.Body.{Body}
use Rattle.h264_base.specs.Grammar.{Grammar, Element, Done, HasMore, Says, ◌>>=◌, check, more}
use Rattle.h264_base.specs.Run.{run}
use Rattle.h264_base.proofs.OneAnswer.{run-says}
use Rattle.h264_base.proofs.Words.{more-one}
use Rattle.h264_base.proofs.Gives.{Gives, gives-following, gives-bind, gives-weaker, gives-derived}
use Rattle.h264_near.specs.Coded.{CodedMacroblock}
use Rattle.h264_vectors.specs.declared.slice.SliceContext.{SliceContext}
use Rattle.h264_mbsyntax.specs.declared.slice.Standing.{Standing}
use Rattle.h264_mbsyntax.specs.declared.slice.Standing.TheVariants.{Next, Skipping}
use Rattle.h264_mbsyntax.specs.Slice.{Step, skip, unskipped, after_run, run_of_skips, by_slice_type, next, go_on, macroblocks, slice_data}

-- one macroblock joins these
abbrev AddsOne : List CodedMacroblock → Step → Type 0
AddsOne picture None = ⊥
AddsOne picture (Some x) = length x.1 ≡ length picture + 1

-- one does, or none
abbrev AddsAtMost : List CodedMacroblock → Step → Type 0
AddsAtMost picture None = Unit {0}
AddsAtMost picture (Some x) = length x.1 ≡ length picture + 1

at-most : (picture : List CodedMacroblock) (x : Step) → AddsOne picture x → AddsAtMost picture x
at-most picture None h = tt
at-most picture (Some x) h = h

abbrev IsWithin : List CodedMacroblock → List CodedMacroblock → Type 0
IsWithin picture ms = length picture ≤ length ms

abbrev IsShorter : List CodedMacroblock → List CodedMacroblock → Type 0
IsShorter picture ms = length picture < length ms

within-all : (picture : List CodedMacroblock) → IsWithin picture picture
within-all picture = omega arith

-- what follows a step
grow-on : (picture : List CodedMacroblock) (rest : Standing → List CodedMacroblock → Grammar (List CodedMacroblock)) →
    ((s : Standing) (p : List CodedMacroblock) → Gives (rest s p) (IsWithin p)) → (x : Step) → AddsAtMost picture x →
    Gives (go_on picture rest x) (IsWithin picture)
unfolding Gives
grow-on picture rest g None h = within-all picture
grow-on picture rest g (Some x) h = gives-weaker (rest x.0 x.1) (IsWithin x.1) (IsWithin picture) (g x.0 x.1) (λ ms k. omega (arith, h, k))

grow-one : (picture : List CodedMacroblock) (rest : Standing → List CodedMacroblock → Grammar (List CodedMacroblock)) →
    ((s : Standing) (p : List CodedMacroblock) → Gives (rest s p) (IsWithin p)) → (x : Step) → AddsOne picture x →
    Gives (go_on picture rest x) (IsShorter picture)
unfolding Gives
grow-one picture rest g None h = absurd h
grow-one picture rest g (Some x) h = gives-weaker (rest x.0 x.1) (IsWithin x.1) (IsShorter picture) (g x.0 x.1) (λ ms k. omega (arith, h, k))

module _ (fits : CodedMacroblock → Bool) (width : ℕ) (slice : SliceContext) where
  skip-adds : (picture : List CodedMacroblock) (bit more_skips : ℕ) → Gives (skip width slice picture bit more_skips) (AddsOne picture)
  unfolding skip Gives
  skip-adds picture bit k = gives-following _ _ (AddsOne picture) (λ u. length-append picture _)

  unskipped-adds : (left : ℕ) (picture : List CodedMacroblock) → Gives (unskipped fits width slice left picture) (AddsOne picture)
  unfolding unskipped Gives
  unskipped-adds left picture = gives-following _ _ (AddsOne picture)
      (λ a. gives-following _ _ (AddsOne picture)
      (λ u. gives-following _ _ (AddsOne picture) (λ m. gives-following _ _ (AddsOne picture) (λ v. length-append picture _))))

  after-adds : (left : ℕ) (picture : List CodedMacroblock) (bit n : ℕ) → Gives (after_run fits width slice left picture (Skipping bit n)) (AddsOne picture)
  unfolding after_run
  after-adds left picture bit zero = unskipped-adds left picture
  after-adds left picture bit (suc k) = skip-adds picture bit k

  run-adds : (left : ℕ) (picture : List CodedMacroblock) → Gives (run_of_skips fits width slice left picture) (AddsOne picture)
  unfolding run_of_skips
  run-adds left picture = gives-following _ _ (AddsOne picture)
      (λ r. gives-following _ _ (AddsOne picture) (λ u. gives-following _ _ (AddsOne picture) (λ v. after-adds left picture r.bit _)))

  type-adds : (type : SliceType) (left : ℕ) (picture : List CodedMacroblock) → Gives (by_slice_type type fits width slice left picture) (AddsOne picture)
  unfolding by_slice_type
  type-adds slice_type.I left picture = unskipped-adds left picture
  type-adds slice_type.P left picture = run-adds left picture

  if-adds : (b : Bool) (g : Grammar Step) (picture : List CodedMacroblock) → Gives g (AddsOne picture) → Gives (if b then g else Done None) (AddsAtMost picture)
  unfolding Gives
  if-adds true g picture h = gives-weaker g (AddsOne picture) (AddsAtMost picture) h (at-most picture)
  if-adds false g picture h = tt

  next-adds : (left : ℕ) (picture : List CodedMacroblock) (standing : Standing) → Gives (next fits width slice left picture standing) (AddsAtMost picture)
  unfolding next
  next-adds left picture Next = gives-following _ _ (AddsAtMost picture) (λ a. if-adds a.follows _ picture (type-adds slice.slice_type left picture))
  next-adds left picture (Skipping bit (suc k)) =
      gives-weaker (skip width slice picture bit k) (AddsOne picture) (AddsAtMost picture) (skip-adds picture bit k) (at-most picture)
  next-adds left picture (Skipping bit zero) = gives-following _ _ (AddsAtMost picture) (λ a. if-adds a.follows _ picture (unskipped-adds left picture))

  -- no macroblock goes
  grow : (n : ℕ) (standing : Standing) (picture : List CodedMacroblock) → Gives (macroblocks fits width slice n standing picture) (IsWithin picture)
  unfolding macroblocks Gives
  grow zero standing picture = gives-bind (AddsAtMost picture) (IsWithin picture) _ _ (next-adds 0 picture standing)
      (grow-on picture (λ s p. Done p) (λ s p. within-all p))
  grow (suc n) standing picture = gives-bind (AddsAtMost picture) (IsWithin picture) _ _ (next-adds (suc n) picture standing)
      (grow-on picture (λ s p. macroblocks fits width slice n s p) (grow n))

  module _ (body : Body) (i j : ℕ) (es : List Element) (ms : List CodedMacroblock) where
    -- where more data follow, the first step adds one
    adds-first : (b : Bool) (left : ℕ) (picture : List CodedMacroblock) (rest : Standing → List CodedMacroblock → Grammar (List CodedMacroblock)) → b ≡ true →
        ((s : Standing) (p : List CodedMacroblock) → Gives (rest s p) (IsWithin p)) →
        Says ((if b then by_slice_type slice.slice_type fits width slice left picture else Done None) >>= go_on picture rest) body i es (Ok (ms, j)) →
        length picture < length ms
    adds-first true left picture rest e g d =
        gives-derived _ (IsShorter picture) body i es j ms
        (gives-bind (AddsOne picture) (IsShorter picture) _ _ (type-adds slice.slice_type left picture) (grow-one picture rest g)) d
    adds-first false left picture rest e g d = cc

    follows : (b c : Bool) → HasMore body.bytes i b → HasMore body.bytes i c → c ≡ true → b ≡ true
    follows b c h k e = more-one body.bytes i b h ∙ sym (more-one body.bytes i c k) ∙ e

    first-adds : (n : ℕ) (picture : List CodedMacroblock) (c : Bool) → HasMore body.bytes i c → c ≡ true →
        Says (macroblocks fits width slice n Next picture) body i es (Ok (ms, j)) → length picture < length ms
    unfolding macroblocks next more ◌>>=◌ Gives
    first-adds zero picture c h e d = adds-first d.0 0 picture (λ s p. Done p) (follows d.0 c d.1 h e) (λ s p. within-all p) d.2
    first-adds (suc n) picture c h e d = adds-first d.0 (suc n) picture (λ s p. macroblocks fits width slice n s p) (follows d.0 c d.1 h e) (grow n) d.2

    says-adds : (size : ℕ) (picture : List CodedMacroblock) → Says (slice_data fits width size slice picture) body i es (Ok (ms, j)) →
        length picture < length ms
    unfolding slice_data more check ◌>>=◌
    says-adds size picture (c, h, inl d) = first-adds _ picture c h d.0 d.1
    says-adds size picture (c, h, inr d) = let e = d.2 in absurd cc

-- there are more macroblocks than before
pub slice-adds : (fits : CodedMacroblock → Bool) (width size : ℕ) (slice : SliceContext) (picture ms : List CodedMacroblock) (body : Body) (i j : ℕ) →
    (run (slice_data fits width size slice picture) body i).answer ≡ Ok (ms, j) → length picture < length ms
slice-adds fits width size slice picture ms body i j e =
    let r = run (slice_data fits width size slice picture) body i in
    says-adds fits width slice body i j r.elements ms size picture
    (subst (λ (a : Result (List CodedMacroblock × ℕ) Stop). Says (slice_data fits width size slice picture) body i r.elements a) e
    (run-says (slice_data fits width size slice picture) body i))
