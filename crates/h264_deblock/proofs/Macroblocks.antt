-- The filter of a macroblock depends on what lies before the next one, and changes nothing beyond.
use Rattle.std.proofs.Common.{◌≡◌, inl, inr, ⊎_elim, ℕ, zero, suc, ◌+◌, ◌-◌, ◌*◌, ◌/◌, ◌<◌, ◌≤◌, Bool, true, false, IsTrue, List, get_or, Option, Some, None}
use Rattle.std.proofs.Common.{is_some, arith, refl, sym, ap, ◌∙◌}
use Rattle.std.proofs.lemmas.Nat.{mul-le, mod-mul-add, div-mul-add}
use Rattle.h264_deblock.specs.Edge.{edge_after, lines_of, reads, writes, IsBeside, edge_at}
use Rattle.h264_deblock.specs.declared.edge_parameters.EdgeParameters.{EdgeParameters}
use Rattle.h264_deblock.proofs.Local.{edge_near, edge_far, holds_more}
use Rattle.h264_plane.specs.Samples.{Samples, at, size_along, size_across, ShowsSamples}
use Rattle.h264_plane.specs.Frames.{is_chroma}
use Rattle.h264_plane.specs.declared.frame.Component.{Component}
use Rattle.h264_plane.specs.declared.frame.Component.TheVariants.{Y, Cb, Cr}
use Rattle.h264_plane.specs.Places.{side, Before, After, Agree, with_own}
use Rattle.h264_plane.proofs.Own.{moved, own_in, own_out}
use Rattle.h264_plane.proofs.Raster.{raster, or_in, wrap_before}
use Rattle.h264_deblock.specs.Filtering.{PlaneEdges, edge_or, edges_after, edges_done, IsInside, AreInside, Fits}
use Rattle.h264_deblock.specs.Filtering.{filtered_by, IsReached, unfiltered}

-- where the edges of a direction begin, along them and across them
abbrev pub along_of : Bool → ℕ → ℕ → ℕ → ℕ
along_of true n c r = n * r
along_of false n c r = n * c

abbrev pub across_of : Bool → ℕ → ℕ → ℕ → ℕ
across_of true n c r = n * c
across_of false n c r = n * r

reads_most : (chroma : Bool) → reads chroma ≤ 4
reads_most true = omega arith
reads_most false = omega arith

writes_most : (chroma : Bool) → writes chroma ≤ 4
writes_most true = omega arith
writes_most false = omega arith

-- ---- an edge

beside_before : (v chroma : Bool) (n w c r k d : ℕ) → n ≡ lines_of chroma → d ≤ 4 → 4 * k + 4 ≤ n → c < w → (x y : ℕ) →
    IsBeside d v chroma (edge_at (along_of v n c r) (across_of v n c r + 4 * k)) x y → (x < n * w) × Before n (c + 1) r x y
beside_before true chroma n w c r k d e f g h x y b =
    let inside = mul-le n (c + 1) n w (omega arith) (omega arith) in
    (omega (arith, b.3), inr (omega (arith, b.1), omega (arith, b.3)))
beside_before false chroma n w c r k d e f g h x y b =
    let inside = mul-le n (c + 1) n w (omega arith) (omega arith) in
    (omega (arith, b.1), inr (omega (arith, b.3), omega (arith, b.1)))

beside_after : (v chroma : Bool) (n c r k d : ℕ) → n ≡ lines_of chroma → d ≤ 4 → 4 * k + 4 ≤ n → (x y : ℕ) → After n (c + 1) r x y →
    IsBeside d v chroma (edge_at (along_of v n c r) (across_of v n c r + 4 * k)) x y → ⊥
beside_after true chroma n c r k d e f g x y a b =
    ⊎_elim (λ (h : n * r + n ≤ y). absurd (omega (arith, b.1))) (λ (h : n * (c + 1) ≤ x). absurd (omega (arith, b.3))) a.1
beside_after false chroma n c r k d e f g x y a b =
    ⊎_elim (λ (h : n * r + n ≤ y). absurd (omega (arith, b.3))) (λ (h : n * (c + 1) ≤ x). absurd (omega (arith, b.1))) a.1

-- an edge that is filtered has four samples before it
pub has_before : (v : Bool) (n c r k : ℕ) (es : List (Option EdgeParameters)) → 4 ≤ n → IsInside v c r es → IsTrue (is_some (get_or es k None)) →
    4 ≤ across_of v n c r + 4 * k
has_before true n c r zero es f inside t = let more = mul-le n 1 n c (omega arith) (inside t) in omega (arith, more)
has_before true n c r (suc k) es f inside t = omega arith
has_before false n c r zero es f inside t = let more = mul-le n 1 n r (omega arith) (inside t) in omega (arith, more)
has_before false n c r (suc k) es f inside t = omega arith

or_local : (o : Option EdgeParameters) (v chroma : Bool) (n w c r k : ℕ) (s t : ℕ → ℕ → ℕ) → n ≡ lines_of chroma → 4 * k + 4 ≤ n → c < w →
    (IsTrue (is_some o) → 4 ≤ across_of v n c r + 4 * k) →
    Agree n w (c + 1) r s t → (x y : ℕ) → x < n * w → Before n (c + 1) r x y →
    edge_or o v chroma (edge_at (along_of v n c r) (across_of v n c r + 4 * k)) s x y ≡
    edge_or o v chroma (edge_at (along_of v n c r) (across_of v n c r + 4 * k)) t x y
unfolding edge_or
or_local None v chroma n w c r k s t e g h before agree x y i b = agree.each x y i b
or_local (Some p) v chroma n w c r k s t e g h before agree x y i b =
    edge_near v chroma p (along_of v n c r) (across_of v n c r + 4 * k) s t (before refl)
    (λ x' y' near. let there = beside_before v chroma n w c r k (reads chroma) e (reads_most chroma) g h x' y' near in agree.each x' y' there.0 there.1)
    x y (agree.each x y i b)

or_kept : (o : Option EdgeParameters) (v chroma : Bool) (n c r k : ℕ) (s : ℕ → ℕ → ℕ) → n ≡ lines_of chroma → 4 * k + 4 ≤ n →
    (IsTrue (is_some o) → 4 ≤ across_of v n c r + 4 * k) →
    (x y : ℕ) → After n (c + 1) r x y → edge_or o v chroma (edge_at (along_of v n c r) (across_of v n c r + 4 * k)) s x y ≡ s x y
unfolding edge_or
or_kept None v chroma n c r k s e g before x y a = refl
or_kept (Some p) v chroma n c r k s e g before x y a =
    edge_far v chroma p (along_of v n c r) (across_of v n c r + 4 * k) s (before refl) x y
    (beside_after v chroma n c r k (writes chroma) e (writes_most chroma) g x y a)

-- ---- the edges of a direction

direction_local : (k : ℕ) (v chroma : Bool) (n w c r : ℕ) (es : List (Option EdgeParameters)) (s t : ℕ → ℕ → ℕ) → n ≡ lines_of chroma → 4 ≤ n → 4 * k ≤ n →
    c < w → IsInside v c r es →
    Agree n w (c + 1) r s t → Agree n w (c + 1) r (edges_after k v chroma es (edge_at (along_of v n c r) (across_of v n c r)) s)
    (edges_after k v chroma es (edge_at (along_of v n c r) (across_of v n c r)) t)
unfolding edges_after
direction_local zero v chroma n w c r es s t e f g h inside agree = agree
direction_local (suc k) v chroma n w c r es s t e f g h inside agree =
    let before = direction_local k v chroma n w c r es s t e f (omega arith) h inside agree in
    record { each = λ x y i b. or_local (get_or es k None) v chroma n w c r k _ _ e (omega arith) h (has_before v n c r k es f inside) before x y i b }

direction_kept : (k : ℕ) (v chroma : Bool) (n c r : ℕ) (es : List (Option EdgeParameters)) (s : ℕ → ℕ → ℕ) → n ≡ lines_of chroma → 4 ≤ n → 4 * k ≤ n →
    IsInside v c r es →
    (x y : ℕ) → After n (c + 1) r x y → edges_after k v chroma es (edge_at (along_of v n c r) (across_of v n c r)) s x y ≡ s x y
unfolding edges_after
direction_kept zero v chroma n c r es s e f g inside x y a = refl
direction_kept (suc k) v chroma n c r es s e f g inside x y a =
    or_kept (get_or es k None) v chroma n c r k (edges_after k v chroma es (edge_at (along_of v n c r) (across_of v n c r)) s) e (omega arith)
    (has_before v n c r k es f inside) x y a
    ∙ direction_kept k v chroma n c r es s e f (omega arith) inside x y a

-- ---- the edges of a macroblock

pub edges_local : (chroma : Bool) (n w c r : ℕ) (es : PlaneEdges) (s t : ℕ → ℕ → ℕ) → n ≡ lines_of chroma → 4 ≤ n → c < w → AreInside c r es →
    Agree n w (c + 1) r s t → Agree n w (c + 1) r (edges_done n chroma es c r s) (edges_done n chroma es c r t)
unfolding edges_done
edges_local chroma n w c r es s t e f h inside agree =
    direction_local (n / 4) false chroma n w c r es.horizontal _ _ e f (omega arith) h inside.horizontal
    (direction_local (n / 4) true chroma n w c r es.vertical s t e f (omega arith) h inside.vertical agree)

pub edges_kept : (chroma : Bool) (n c r : ℕ) (es : PlaneEdges) (s : ℕ → ℕ → ℕ) → n ≡ lines_of chroma → 4 ≤ n → AreInside c r es →
    (x y : ℕ) → After n (c + 1) r x y → edges_done n chroma es c r s x y ≡ s x y
unfolding edges_done
edges_kept chroma n c r es s e f inside x y a =
    direction_kept (n / 4) false chroma n c r es.horizontal _ e f (omega arith) inside.horizontal x y a
    ∙ direction_kept (n / 4) true chroma n c r es.vertical s e f (omega arith) inside.vertical x y a

-- ---- a picture

pub next_macroblock : (w n : ℕ) (chroma : Bool) (edges : ℕ → PlaneEdges) (s : ℕ → ℕ → ℕ) (c r : ℕ) → c < w → (x y : ℕ) →
    filtered_by (r * w + (c + 1)) (unfiltered w n chroma edges s) x y ≡
    edges_done n chroma (edges (r * w + c)) c r (filtered_by (r * w + c) (unfiltered w n chroma edges s)) x y
unfolding filtered_by
next_macroblock w n chroma edges s c r k x y =
    let next : r * w + (c + 1) ≡ suc (r * w + c) = omega arith in
    let column = mod-mul-add r w c k in
    let row = div-mul-add r w c k in
    rw (next, column, row) refl

pub next_row : (w n : ℕ) (chroma : Bool) (edges : ℕ → PlaneEdges) (s : ℕ → ℕ → ℕ) (r : ℕ) (x y : ℕ) →
    filtered_by ((r + 1) * w + 0) (unfiltered w n chroma edges s) x y ≡ filtered_by (r * w + w) (unfiltered w n chroma edges s) x y
next_row w n chroma edges s r x y = let e : (r + 1) * w + 0 ≡ r * w + w = omega arith in rw e refl

pub first_macroblock : (w n : ℕ) (chroma : Bool) (edges : ℕ → PlaneEdges) (s : ℕ → ℕ → ℕ) (x y : ℕ) →
    filtered_by (0 * w + 0) (unfiltered w n chroma edges s) x y ≡ s x y
unfolding filtered_by
first_macroblock w n chroma edges s x y = let e : 0 * w + 0 ≡ 0 = omega arith in rw e refl

-- a macroblock that is not yet filtered is as constructed
pub record Fresh (w n : ℕ) (chroma : Bool) (edges : ℕ → PlaneEdges) (s : ℕ → ℕ → ℕ) (c r : ℕ) : Type 0 where
  pub each : (x y : ℕ) → After n c r x y → filtered_by (r * w + c) (unfiltered w n chroma edges s) x y ≡ s x y

pub fresh : (w h n : ℕ) (chroma : Bool) (edges : ℕ → PlaneEdges) (s : ℕ → ℕ → ℕ) → n ≡ lines_of chroma → 4 ≤ n → Fits w h edges → (c r : ℕ) → c ≤ w → r < h →
    Fresh w n chroma edges s c r
fresh w h n chroma edges s e f fits c r i j =
    raster (Fresh w n chroma edges s) w h
    (record { each = λ x y a. first_macroblock w n chroma edges s x y })
    (λ c r k m before. record {
      each = λ x y a.
          next_macroblock w n chroma edges s c r k x y ∙ edges_kept chroma n c r (edges (r * w + c)) _ e f (fits.each c r k m) x y a
          ∙ before.each x y (a.0, ⊎_elim (λ (q : n * r + n ≤ y). inl q) (λ (q : n * (c + 1) ≤ x). inr (omega arith)) a.1);
    })
    (λ r k before. record { each = λ x y a. next_row w n chroma edges s r x y ∙ before.each x y (omega (arith, a.0), inl (omega (arith, a.0))) })
    c r i j

-- S(m) at the places of the first m macroblocks depends on the samples there alone
pub record Depends (w n : ℕ) (chroma : Bool) (edges : ℕ → PlaneEdges) (s t : ℕ → ℕ → ℕ) (c r : ℕ) : Type 0 where
  pub each : Agree n w c r s t → Agree n w c r (filtered_by (r * w + c) (unfiltered w n chroma edges s))
      (filtered_by (r * w + c) (unfiltered w n chroma edges t))

pub local_step : (w n : ℕ) (chroma : Bool) (es : PlaneEdges) (s t s' t' : ℕ → ℕ → ℕ) (c r : ℕ) → n ≡ lines_of chroma → 4 ≤ n → c < w → AreInside c r es →
    Agree n w (c + 1) r s t →
    ((x y : ℕ) → s' x y ≡ edges_done n chroma es c r s x y) → ((x y : ℕ) → t' x y ≡ edges_done n chroma es c r t x y) → Agree n w (c + 1) r s' t'
local_step w n chroma es s t s' t' c r e f k inside agree es' et = record {
  each = λ x y i b. es' x y ∙ (edges_local chroma n w c r es s t e f k inside agree).each x y i b ∙ sym (et x y);
}

pub local : (w h n : ℕ) (chroma : Bool) (edges : ℕ → PlaneEdges) (s t : ℕ → ℕ → ℕ) → n ≡ lines_of chroma → 4 ≤ n → Fits w h edges → (c r : ℕ) → c ≤ w →
    r < h → Depends w n chroma edges s t c r
local w h n chroma edges s t e f fits c r i j =
    raster (Depends w n chroma edges s t) w h
    (record {
      each = λ agree. record {
        each = λ x y k b. first_macroblock w n chroma edges s x y ∙ agree.each x y k b ∙
            sym (first_macroblock w n chroma edges t x y);
      };
    })
    (λ c r k m d. record {
      each = λ agree.
          let before : Agree n w c r s t = record { each = λ x y i b. agree.each x y i (⊎_elim (λ q. inl q) (λ q. inr (q.0, omega (arith, q.1))) b) } in
          let joined : Agree n w (c + 1) r (filtered_by (r * w + c) (unfiltered w n chroma edges s)) (filtered_by (r * w + c) (unfiltered w n chroma edges t)) =
          record {
            each = λ x y i b. ⊎_elim
                (λ q. (d.each before).each x y i q)
                (λ (a, (a', (b', b''))). (fresh w h n chroma edges s e f fits c r (omega arith) m).each x y (b', inr a) ∙ agree.each x y i b ∙
                sym ((fresh w h n chroma edges t e f fits c r (omega arith) m).each x y (b', inr a)))
                (or_in n c r x y b);
          } in
          local_step w n chroma (edges (r * w + c)) _ _ _ _ c r e f k (fits.each c r k m) joined (λ x y. next_macroblock w n chroma edges s c r k x y)
          (λ x y. next_macroblock w n chroma edges t c r k x y);
    })
    (λ r k d. record {
      each = λ agree.
          let before : Agree n w w r s t = record {
            each =
                λ x y i b. agree.each x y i (inl (⊎_elim (λ (q : y < n * r). omega arith) (λ q. omega (arith, q.0)) b));
          } in
          record {
            each = λ x y i b. next_row w n chroma edges s r x y ∙ (d.each before).each x y i (wrap_before n w r x y i b) ∙
                sym (next_row w n chroma edges t r x y);
          };
    })
    c r i j

lines_least : (chroma : Bool) → 4 ≤ lines_of chroma
lines_least true = omega arith
lines_least false = omega arith

pub filter_local : (w h n : ℕ) (chroma : Bool) (edges : ℕ → PlaneEdges) (s t : ℕ → ℕ → ℕ) → n ≡ lines_of chroma → Fits w h edges → (c r : ℕ) → c ≤ w → r < h →
    Agree n w c r s t →
    Agree n w c r (filtered_by (r * w + c) (unfiltered w n chroma edges s)) (filtered_by (r * w + c) (unfiltered w n chroma edges t))
filter_local w h n chroma edges s t e fits c r i j agree = let least = lines_least chroma in
    (local w h n chroma edges s t e (omega arith) fits c r i j).each agree

pub filter_fresh : (w h n : ℕ) (chroma : Bool) (edges : ℕ → PlaneEdges) (s : ℕ → ℕ → ℕ) → n ≡ lines_of chroma → Fits w h edges → (c r : ℕ) → c ≤ w → r < h →
    (x y : ℕ) → After n c r x y →
    filtered_by (r * w + c) (unfiltered w n chroma edges s) x y ≡ s x y
filter_fresh w h n chroma edges s e fits c r i j = let least = lines_least chroma in (fresh w h n chroma edges s e (omega arith) fits c r i j).each

-- of a whole picture
pub filter_whole : (w h n : ℕ) (chroma : Bool) (edges : ℕ → PlaneEdges) (s t : ℕ → ℕ → ℕ) → n ≡ lines_of chroma → Fits w h edges →
    ((x y : ℕ) → x < n * w → y < n * h → s x y ≡ t x y) →
    (x y : ℕ) → x < n * w → y < n * h → filtered_by (h * w) (unfiltered w n chroma edges s) x y ≡ filtered_by (h * w) (unfiltered w n chroma edges t) x y
filter_whole w zero n chroma edges s t e fits same x y i j = absurd (omega arith)
filter_whole w (suc r) n chroma edges s t e fits same x y i j =
    let last : suc r * w ≡ r * w + w = omega arith in
    let tall : n * r + n ≡ n * suc r = omega arith in
    rw last ((filter_local w (suc r) n chroma edges s t e fits w r (omega arith) (omega arith)
    (record { each = λ a b k before. same a b k (⊎_elim (λ (q : b < n * r). omega arith) (λ q. omega (arith, q.0)) before) })).each x y i
    (inr (omega arith, i)))

-- ---- in a plane, edge by edge

pub after_none : (v chroma : Bool) (es : List (Option EdgeParameters)) (a b : ℕ) (p q : Samples) (s : ℕ → ℕ → ℕ) → ShowsSamples p q s →
    ShowsSamples p q (edges_after 0 v chroma es (edge_at a b) s)
unfolding edges_after
after_none v chroma es a b p q s held = held

pub holds_self : (p : Samples) → ShowsSamples p p (at p)
holds_self p = record { width = refl; height = refl; samples = λ x y i j. refl }

step_none : (k : ℕ) (v chroma : Bool) (es : List (Option EdgeParameters)) (a b : ℕ) (s : ℕ → ℕ → ℕ) → get_or es k None ≡ None → (x y : ℕ) →
    edges_after (suc k) v chroma es (edge_at a b) s x y ≡ edges_after k v chroma es (edge_at a b) s x y
unfolding edges_after edge_or
step_none k v chroma es a b s e x y = ap (λ o. edge_or o v chroma (edge_at a (b + 4 * k)) (edges_after k v chroma es (edge_at a b) s) x y) e

step_some : (k : ℕ) (v chroma : Bool) (es : List (Option EdgeParameters)) (a b : ℕ) (s : ℕ → ℕ → ℕ) (p : EdgeParameters) → get_or es k None ≡ Some p →
    (x y : ℕ) →
    edges_after (suc k) v chroma es (edge_at a b) s x y ≡ edge_after v chroma p (edge_at a (b + 4 * k)) (edges_after k v chroma es (edge_at a b) s) x y
unfolding edges_after edge_or
step_some k v chroma es a b s p e x y = ap (λ o. edge_or o v chroma (edge_at a (b + 4 * k)) (edges_after k v chroma es (edge_at a b) s) x y) e

pub after_skip : (k : ℕ) (v chroma : Bool) (es : List (Option EdgeParameters)) (a b : ℕ) (p q : Samples) (s : ℕ → ℕ → ℕ) → get_or es k None ≡ None →
    ShowsSamples p q (edges_after k v chroma es (edge_at a b) s) → ShowsSamples p q (edges_after (k + 1) v chroma es (edge_at a b) s)
after_skip k v chroma es a b p q s e held =
    let next : k + 1 ≡ suc k = omega arith in
    record {
      width = held.width;
      height = held.height;
      samples = λ x y i j. held.samples x y i j ∙ sym (step_none k v chroma es a b s e x y) ∙
          ap (λ z. edges_after z v chroma es (edge_at a b) s x y) (sym next);
    }

pub after_more : (k : ℕ) (v chroma : Bool) (es : List (Option EdgeParameters)) (a b : ℕ) (p q t : Samples) (s : ℕ → ℕ → ℕ) (e : EdgeParameters) →
    get_or es k None ≡ Some e →
    a + lines_of chroma ≤ size_along v p → 4 ≤ b + 4 * k → b + 4 * k + 4 ≤ size_across v p →
    ShowsSamples p q (edges_after k v chroma es (edge_at a b) s) → ShowsSamples q t (edge_after v chroma e (edge_at a (b + 4 * k)) (at q)) →
    ShowsSamples p t (edges_after (k + 1) v chroma es (edge_at a b) s)
after_more k v chroma es a b p q t s e is i j d held edge =
    let next : k + 1 ≡ suc k = omega arith in
    let more = holds_more v chroma p q t (edges_after k v chroma es (edge_at a b) s) e a (b + 4 * k) i j d held edge in
    record {
      width = more.width;
      height = more.height;
      samples = λ x y i j. more.samples x y i j ∙ sym (step_some k v chroma es a b s e is x y) ∙
          ap (λ z. edges_after z v chroma es (edge_at a b) s x y) (sym next);
    }

-- an edge that may be filtered, alone and after others
pub or_none : (v chroma : Bool) (a b : ℕ) (p : Samples) → ShowsSamples p p (edge_or None v chroma (edge_at a b) (at p))
unfolding edge_or
or_none v chroma a b p = holds_self p

pub or_some : (e : EdgeParameters) (v chroma : Bool) (a b : ℕ) (p q : Samples) → ShowsSamples p q (edge_after v chroma e (edge_at a b) (at p)) →
    ShowsSamples p q (edge_or (Some e) v chroma (edge_at a b) (at p))
unfolding edge_or
or_some e v chroma a b p q held = held

or_held : (o : Option EdgeParameters) (v chroma : Bool) (a b : ℕ) (p q t : Samples) (s : ℕ → ℕ → ℕ) →
    a + lines_of chroma ≤ size_along v p → (IsTrue (is_some o) → 4 ≤ b) → b + 4 ≤ size_across v p →
    ShowsSamples p q s → ShowsSamples q t (edge_or o v chroma (edge_at a b) (at q)) → ShowsSamples p t (edge_or o v chroma (edge_at a b) s)
unfolding edge_or
or_held None v chroma a b p q t s i j d held edge = record {
  width = edge.width ∙ held.width;
  height = edge.height ∙ held.height;
  samples = λ x y k l. edge.samples x y (omega (arith, held.width)) (omega (arith, held.height)) ∙ held.samples x y k l;
}
or_held (Some e) v chroma a b p q t s i j d held edge = holds_more v chroma p q t s e a b i (j refl) d held edge

pub after_or : (k : ℕ) (v chroma : Bool) (es : List (Option EdgeParameters)) (a b place : ℕ) (o : Option EdgeParameters) (p q t : Samples) (s : ℕ → ℕ → ℕ) →
    place ≡ b + 4 * k → o ≡ get_or es k None → a + lines_of chroma ≤ size_along v p → (IsTrue (is_some o) → 4 ≤ place) → place + 4 ≤ size_across v p →
    ShowsSamples p q (edges_after k v chroma es (edge_at a b) s) → ShowsSamples q t (edge_or o v chroma (edge_at a place) (at q)) →
    ShowsSamples p t (edges_after (suc k) v chroma es (edge_at a b) s)
unfolding edges_after
after_or k v chroma es a b place o p q t s here same i j d held edge =
    rw (here, same) at (or_held o v chroma a place p q t (edges_after k v chroma es (edge_at a b) s) i j d held edge)

-- an edge that is filtered has four samples before it
pub before_edge : (b k : ℕ) (es : List (Option EdgeParameters)) (e : EdgeParameters) → (IsTrue (is_some (get_or es 0 None)) → 4 ≤ b) →
    get_or es k None ≡ Some e → 4 ≤ b + 4 * k
before_edge b zero es e first is = let more = first (ap is_some is) in omega (arith, more)
before_edge b (suc k) es e first is = omega arith

-- both directions of a macroblock
pub edges_all : (n : ℕ) (chroma : Bool) (e : PlaneEdges) (c r : ℕ) (p q : Samples) →
    ShowsSamples p q (edges_after (n / 4) false chroma e.horizontal (edge_at (n * c) (n * r))
    (edges_after (n / 4) true chroma e.vertical (edge_at (n * r) (n * c)) (at p))) → ShowsSamples p q (edges_done n chroma e c r (at p))
unfolding edges_done
edges_all n chroma e c r p q held = held

-- the four edges of a macroblock of chroma, one after another
pub four_edges : (e : PlaneEdges) (c r : ℕ) (p q1 q2 q3 q4 : Samples) (o0 o1 o2 o3 : Option EdgeParameters) → 8 * c + 8 ≤ p.width → 8 * r + 8 ≤ p.height →
    AreInside c r e →
    o0 ≡ get_or e.vertical 0 None → o1 ≡ get_or e.vertical 1 None → o2 ≡ get_or e.horizontal 0 None → o3 ≡ get_or e.horizontal 1 None →
    ShowsSamples p q1 (edge_or o0 true true (edge_at (8 * r) (8 * c)) (at p)) →
    ShowsSamples q1 q2 (edge_or o1 true true (edge_at (8 * r) (8 * c + 4)) (at q1)) →
    ShowsSamples q2 q3 (edge_or o2 false true (edge_at (8 * c) (8 * r)) (at q2)) →
    ShowsSamples q3 q4 (edge_or o3 false true (edge_at (8 * c) (8 * r + 4)) (at q3)) → ShowsSamples p q4 (edges_done 8 true e c r (at p))
four_edges e c r p q1 q2 q3 q4 o0 o1 o2 o3 wide tall inside e0 e1 e2 e3 h0 h1 h2 h3 =
    let left : IsTrue (is_some o0) → 4 ≤ 8 * c = λ h. let i = inside.vertical (rw e0 at h) in omega (arith, i) in
    let top : IsTrue (is_some o2) → 4 ≤ 8 * r = λ h. let i = inside.horizontal (rw e2 at h) in omega (arith, i) in
    let s = edges_after 2 true true e.vertical (edge_at (8 * r) (8 * c)) (at p) in
    let v0 = after_or 0 true true e.vertical (8 * r) (8 * c) (8 * c) o0 p p q1 (at p) (omega arith) e0 tall left (omega arith)
    (after_none true true e.vertical (8 * r) (8 * c) p p (at p) (holds_self p)) h0 in
    let v1 = after_or 1 true true e.vertical (8 * r) (8 * c) (8 * c + 4) o1 p q1 q2 (at p) refl e1 tall (λ h. omega arith) (omega arith) v0 h1 in
    let h = after_or 0 false true e.horizontal (8 * c) (8 * r) (8 * r) o2 p q2 q3 s (omega arith) e2 wide top (omega arith)
    (after_none false true e.horizontal (8 * c) (8 * r) p q2 s v1) h2 in
    edges_all 8 true e c r p q4 (after_or 1 false true e.horizontal (8 * c) (8 * r) (8 * r + 4) o3 p q3 q4 s refl e3 wide (λ h. omega arith) (omega arith) h h3)

-- the eight edges of a macroblock of luma
pub eight_edges : (e : PlaneEdges) (c r : ℕ) (p q1 q2 q3 q4 q5 q6 q7 q8 : Samples) (o0 o1 o2 o3 o4 o5 o6 o7 : Option EdgeParameters) → 16 * c + 16 ≤ p.width →
    16 * r + 16 ≤ p.height → AreInside c r e →
    o0 ≡ get_or e.vertical 0 None → o1 ≡ get_or e.vertical 1 None → o2 ≡ get_or e.vertical 2 None → o3 ≡ get_or e.vertical 3 None →
    o4 ≡ get_or e.horizontal 0 None → o5 ≡ get_or e.horizontal 1 None → o6 ≡ get_or e.horizontal 2 None → o7 ≡ get_or e.horizontal 3 None →
    ShowsSamples p q1 (edge_or o0 true false (edge_at (16 * r) (16 * c)) (at p)) →
    ShowsSamples q1 q2 (edge_or o1 true false (edge_at (16 * r) (16 * c + 4)) (at q1)) →
    ShowsSamples q2 q3 (edge_or o2 true false (edge_at (16 * r) (16 * c + 8)) (at q2)) →
    ShowsSamples q3 q4 (edge_or o3 true false (edge_at (16 * r) (16 * c + 12)) (at q3)) →
    ShowsSamples q4 q5 (edge_or o4 false false (edge_at (16 * c) (16 * r)) (at q4)) →
    ShowsSamples q5 q6 (edge_or o5 false false (edge_at (16 * c) (16 * r + 4)) (at q5)) →
    ShowsSamples q6 q7 (edge_or o6 false false (edge_at (16 * c) (16 * r + 8)) (at q6)) →
    ShowsSamples q7 q8 (edge_or o7 false false (edge_at (16 * c) (16 * r + 12)) (at q7)) → ShowsSamples p q8 (edges_done 16 false e c r (at p))
eight_edges e c r p q1 q2 q3 q4 q5 q6 q7 q8 o0 o1 o2 o3 o4 o5 o6 o7 wide tall inside e0 e1 e2 e3 e4 e5 e6 e7 h0 h1 h2 h3 h4 h5 h6 h7 =
    let left : IsTrue (is_some o0) → 4 ≤ 16 * c = λ h. let i = inside.vertical (rw e0 at h) in omega (arith, i) in
    let top : IsTrue (is_some o4) → 4 ≤ 16 * r = λ h. let i = inside.horizontal (rw e4 at h) in omega (arith, i) in
    let s = edges_after 4 true false e.vertical (edge_at (16 * r) (16 * c)) (at p) in
    let v0 = after_or 0 true false e.vertical (16 * r) (16 * c) (16 * c) o0 p p q1 (at p) (omega arith) e0 tall left (omega arith)
    (after_none true false e.vertical (16 * r) (16 * c) p p (at p) (holds_self p)) h0 in
    let v1 = after_or 1 true false e.vertical (16 * r) (16 * c) (16 * c + 4) o1 p q1 q2 (at p) refl e1 tall (λ h. omega arith) (omega arith) v0 h1 in
    let v2 = after_or 2 true false e.vertical (16 * r) (16 * c) (16 * c + 8) o2 p q2 q3 (at p) refl e2 tall (λ h. omega arith) (omega arith) v1 h2 in
    let v3 = after_or 3 true false e.vertical (16 * r) (16 * c) (16 * c + 12) o3 p q3 q4 (at p) refl e3 tall (λ h. omega arith) (omega arith) v2 h3 in
    let z0 = after_or 0 false false e.horizontal (16 * c) (16 * r) (16 * r) o4 p q4 q5 s (omega arith) e4 wide top (omega arith)
    (after_none false false e.horizontal (16 * c) (16 * r) p q4 s v3) h4 in
    let z1 = after_or 1 false false e.horizontal (16 * c) (16 * r) (16 * r + 4) o5 p q5 q6 s refl e5 wide (λ h. omega arith) (omega arith) z0 h5 in
    let z2 = after_or 2 false false e.horizontal (16 * c) (16 * r) (16 * r + 8) o6 p q6 q7 s refl e6 wide (λ h. omega arith) (omega arith) z1 h6 in
    edges_all 16 false e c r p q8 (after_or 3 false false e.horizontal (16 * c) (16 * r) (16 * r + 12) o7 p q7 q8 s refl e7 wide (λ h. omega arith)
    (omega arith) z2 h7)

-- ---- one macroblock further

pub reached_more : (w h n : ℕ) (chroma : Bool) (edges : ℕ → PlaneEdges) (u : ℕ → ℕ → ℕ) (c r : ℕ) (old put new : Samples) → n ≡ lines_of chroma → 4 ≤ n →
    Fits w h edges → c < w → r < h →
    old.width ≡ n * w → old.height ≡ n * h → IsReached (unfiltered w n chroma edges u) c r old →
    ShowsSamples old put (with_own n c r u (at old)) → ShowsSamples put new (edges_done n chroma (edges (r * w + c)) c r (at put)) →
    IsReached (unfiltered w n chroma edges u) (c + 1) r new
reached_more w h n chroma edges u c r old put new e f fits k m ew eh done is_put is_filtered =
    let tall = mul-le n (r + 1) n h (omega arith) (omega arith) in
    let wide = mul-le n (c + 1) n w (omega arith) (omega arith) in
    let placed : Agree n w (c + 1) r (at put) (filtered_by (r * w + c) (unfiltered w n chroma edges u)) = record {
      each = λ x y i b. ⊎_elim
          (λ (q : Before n c r x y).
          is_put.samples x y (omega arith) (⊎_elim (λ (z : y < n * r). omega arith) (λ z. omega (arith, z.0)) q)
          ∙ own_out n c r u (at old) x y q ∙ done.each x y i q)
          (λ (a, (a', (b', b''))).
          let column : n * c + (x - n * c) ≡ x = omega arith in
          let row : n * r + (y - n * r) ≡ y = omega arith in
          is_put.samples x y (omega arith) (omega arith)
          ∙ moved (with_own n c r u (at old)) x y _ _ (sym column) (sym row)
          ∙ own_in n c r u (at old) (x - n * c) (y - n * r) (omega arith) (omega arith)
          ∙ moved u _ _ x y column row
          ∙ sym ((fresh w h n chroma edges u e f fits c r (omega arith) m).each x y (b', inr a)))
          (or_in n c r x y b);
    } in
    let further = local_step w n chroma (edges (r * w + c)) (at put) (filtered_by (r * w + c) (unfiltered w n chroma edges u))
    (edges_done n chroma (edges (r * w + c)) c r (at put)) (filtered_by (r * w + (c + 1)) (unfiltered w n chroma edges u))
    c r e f k (fits.each c r k m) placed (λ x y. refl) (λ x y. next_macroblock w n chroma edges u c r k x y) in
    record {
      each = λ x y i b.
          is_filtered.samples x y (omega (arith, is_put.width))
          (⊎_elim (λ (z : y < n * r). omega (arith, is_put.height)) (λ z. omega (arith, is_put.height, z.0)) b)
          ∙ further.each x y i b;
    }

pub reached_wrap : (w n : ℕ) (chroma : Bool) (edges : ℕ → PlaneEdges) (u : ℕ → ℕ → ℕ) (r : ℕ) (p : Samples) →
    IsReached (unfiltered w n chroma edges u) w r p → IsReached (unfiltered w n chroma edges u) 0 (r + 1) p
reached_wrap w n chroma edges u r p done = record {
  each = λ x y i b. done.each x y i (wrap_before n w r x y i b) ∙ sym (next_row w n chroma edges u r x y);
}

-- ---- three planes

pub side_lines : (p : Component) → side p ≡ lines_of (is_chroma p)
side_lines Y = refl
side_lines Cb = refl
side_lines Cr = refl

pub planes : (P : Component → Type 0) → P Y → P Cb → P Cr → (p : Component) → P p
planes P y cb cr Y = y
planes P y cb cr Cb = cb
planes P y cb cr Cr = cr
