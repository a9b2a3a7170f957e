-- What the filter of an edge's lines depends on, by what it has in common with other edges, and its strengths as numbers.
use Rattle.std.proofs.Common.{◌≡◌, ◌≢◌, ℕ, zero, suc, ◌<◌, Bool, true, false, List, [], ◌∷◌, get_or, slice_index, arith, refl, sym, ap, ◌∙◌, inl, inr}
use Rattle.std.specs.Prelude.{replicate}
use Rattle.std.proofs.lemmas.Simd.{get_or-replicate}
use Rattle.h264_deblock.specs.Edge.{index_of, filter_of, limits}
use Rattle.h264_deblock.specs.Level.{any_filter, names, fours, IsLevel, AreBelow}
use Rattle.h264_deblock.specs.Limits.{quarter, IsIdle}
use Rattle.h264_deblock.specs.CodedEdges.{named}
use Rattle.h264_deblock.specs.Line.{Limits}
use Rattle.h264_deblock.specs.declared.limits.Level.{Level}
use Rattle.h264_deblock.specs.declared.edge_parameters.BoundaryStrength.{BoundaryStrength}
use Rattle.h264_deblock.specs.declared.edge_parameters.BoundaryStrength.TheVariants.{Zero, Four}
use Rattle.h264_deblock.specs.declared.edge_parameters.EdgeParameters.{EdgeParameters}
use Rattle.h264_deblock.proofs.Groups.{limits_is, is_four, number_below}

pub quarter-small : (chroma : Bool) (n : ℕ) → n < 16 → quarter chroma n < 4
quarter-small true n i = omega arith
quarter-small false n i = omega arith

names-at : (word : List ℕ) (q : ℕ) → q < 4 → get_or (names word) q Zero ≡ named (get_or word q 0)
names-at word zero h = refl
names-at word (suc zero) h = refl
names-at word (suc (suc zero)) h = refl
names-at word (suc (suc (suc zero))) h = refl
names-at word (suc (suc (suc (suc q)))) h = absurd (omega arith)

-- by the number of a line's filter
at-level : (l : Level) (e : EdgeParameters) (word : List ℕ) (t q : ℕ) → IsLevel l e → names word ≡ e.strengths → q < 4 →
    any_filter t ≡ filter_of (index_of e.qp_p e.qp_q e.filter_offset_a) (named (get_or word q 0)) →
    (let k : Limits = record { alpha = l.alpha; beta = l.beta; filter = any_filter t } in k) ≡ limits e q
at-level l e word t q is named-by h f =
    limits_is e q (index_of e.qp_p e.qp_q e.filter_offset_a) (index_of e.qp_p e.qp_q e.filter_offset_b) l.alpha l.beta (any_filter t) refl refl is.alpha is.beta
    (f ∙ ap (filter_of (index_of e.qp_p e.qp_q e.filter_offset_a)) (sym (names-at word q h) ∙ ap (λ (s : List BoundaryStrength). get_or s q Zero) named-by))

pub below-level : (l : Level) (e : EdgeParameters) (word : List ℕ) (t : ℕ) (chroma : Bool) (n : ℕ) → n < 16 → IsLevel l e → names word ≡ e.strengths →
    get_or word (quarter chroma n) 0 < 4 →
    t ≡ slice_index l.numbers (get_or word (quarter chroma n) 0) →
    (let k : Limits = record { alpha = l.alpha; beta = l.beta; filter = any_filter t } in k) ≡ limits e (quarter chroma n)
below-level l e word t chroma n i is named-by b same =
    at-level l e word t (quarter chroma n) is named-by (quarter-small chroma n i) (ap any_filter same ∙ is.numbers (get_or word (quarter chroma n) 0) b)

fours-at : (q : ℕ) → q < 4 → get_or fours q 0 ≡ 4
fours-at zero h = refl
fours-at (suc zero) h = refl
fours-at (suc (suc zero)) h = refl
fours-at (suc (suc (suc zero))) h = refl
fours-at (suc (suc (suc (suc q)))) h = absurd (omega arith)

pub four-level : (l : Level) (e : EdgeParameters) (word : List ℕ) (t : ℕ) (chroma : Bool) (n : ℕ) → n < 16 → IsLevel l e → names word ≡ e.strengths →
    word ≡ fours →
    t ≡ 254 → (let k : Limits = record { alpha = l.alpha; beta = l.beta; filter = any_filter t } in k) ≡ limits e (quarter chroma n)
four-level l e word t chroma n i is named-by f same =
    let q = quarter-small chroma n i in
    at-level l e word t (quarter chroma n) is named-by q
    (is_four t same ∙ ap (λ z. filter_of (index_of e.qp_p e.qp_q e.filter_offset_a) (named z))
    (sym (ap (λ (w : List ℕ). get_or w (quarter chroma n) 0) f ∙ fours-at (quarter chroma n) q)))

-- alpha or beta is 0
pub idle-alpha : (l : Level) (e : EdgeParameters) → IsLevel l e → l.alpha ≡ 0 → IsIdle e
unfolding limits
idle-alpha l e is z n = inl (sym is.alpha ∙ z)

pub idle-beta : (l : Level) (e : EdgeParameters) → IsLevel l e → l.beta ≡ 0 → IsIdle e
unfolding limits
idle-beta l e is z n = inr (sym is.beta ∙ z)

-- four numbers by cases
pub four-numbers : (i a b c d : ℕ) → any_filter a ≡ filter_of i (named 0) → any_filter b ≡ filter_of i (named 1) → any_filter c ≡ filter_of i (named 2) →
    any_filter d ≡ filter_of i (named 3) →
    (s : ℕ) → s < 4 → any_filter (slice_index (a ∷ b ∷ c ∷ d ∷ []) s) ≡ filter_of i (named s)
four-numbers i a b c d e f g h zero k = e
four-numbers i a b c d e f g h (suc zero) k = f
four-numbers i a b c d e f g h (suc (suc zero)) k = g
four-numbers i a b c d e f g h (suc (suc (suc zero))) k = h
four-numbers i a b c d e f g h (suc (suc (suc (suc s)))) k = absurd (omega arith)

pub numbers-below : (i : ℕ) (numbers : List ℕ) → ((s : ℕ) → s < 4 → any_filter (slice_index numbers s) ≡ filter_of i (named s)) → AreBelow numbers
numbers-below i numbers e s h = number_below i (slice_index numbers s) (named s) (e s h) (not-four s h)
  where
    not-four : (s : ℕ) → s < 4 → named s ≢ Four
    not-four zero h e = cc
    not-four (suc zero) h e = cc
    not-four (suc (suc zero)) h e = cc
    not-four (suc (suc (suc zero))) h e = cc
    not-four (suc (suc (suc (suc s)))) h e = absurd (omega arith)

pub strong-at : (n : ℕ) → n < 16 → slice_index (replicate 16 254) n ≡ 254
strong-at n i = get_or-replicate 16 n 254 0 i
