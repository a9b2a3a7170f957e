-- Turns of the loops over modes and over blocks, and how blocks lie in their arrays.
use Rattle.std.proofs.Common.{◌≡◌, ◌≢◌, ℕ, zero, suc, ◌+◌, ◌-◌, ◌<◌, ◌≤◌, Bool, true, false, List, [], ◌∷◌, ◌++◌, length, take, replicate, get_or, slice_set}
use Rattle.std.proofs.Common.{ℤ, pos, Some, Result, Ok, Err, refl, ap, sym, ◌∙◌, subst, arith, inl, inr, ◌⊎◌, length-append}
use Rattle.std.proofs.Common.{get_or-set_other, get_or-set_same}
use Rattle.std.specs.List.{slice_get}
use Rattle.std.proofs.lemmas.List.{take_more_set, map-append}
use Rattle.h264_base.specs.declared.stop.Stop.{Stop}
use Rattle.h264_base.specs.declared.stop.Stop.TheVariants.{No, Outside, Memory, Read, Write}
use Rattle.h264_base.specs.Call.{Call, span}
use Rattle.h264_base.specs.Grammar.{Grammar}
use Rattle.h264_base.specs.Meets.{Reader, Meets, Is}
use Rattle.h264_base.proofs.Steps.{Leads, leads-on, stop, done, finish}
use Rattle.h264_cavlc.specs.Block.{Block, residual_block}
use Rattle.h264_intra.specs.declared.luma4.Intra4x4PredMode.{Intra4x4PredMode}
use Rattle.h264_intra.specs.declared.sides.Sides.{Sides}
use Rattle.h264_near.specs.Coded.{CodedMacroblock}
use Rattle.h264_near.specs.Intra.{predicted_mode, block_samples, luma_nc, chroma_nc}
use Rattle.h264_near.proofs.Places.{front, seam}
use Rattle.h264_mbsyntax.specs.Intra.{block_mode, block_modes}
use Rattle.h264_mbsyntax.specs.Residual.{block_if, is_coded, blocks_by, luma_block, chroma_block, no_block, totals_of, levels_of}
use Rattle.h264_mbsyntax.specs.Stored.{Stored, shown, IsBlank}

module _ {S : Type 0} {took : S → List Call → Type 0} {failures : S → ℕ} where
  -- one more mode
  pub modes-next : {g : Grammar (List Intra4x4PredMode)} {old now mid : Reader} {s s' s'' : S} {x : Intra4x4PredMode} (width : ℕ)
      (picture : List CodedMacroblock) (slice : ℕ) (constrained : Bool) (b : ℕ) (predicted : Intra4x4PredMode) (samples : Sides)
      (modes later : List Intra4x4PredMode) → b < 16 → predicted ≡ predicted_mode width picture slice constrained modes →
      samples ≡ block_samples width picture slice constrained modes → later ≡ modes ++ x ∷ [] →
      Leads took failures g (block_modes width picture slice constrained (16 - b) modes) old now s s' →
      Meets (span took failures s' s'') (Is (λ (t : Intra4x4PredMode). t)) (block_mode predicted samples) now mid (Ok x) →
      Leads took failures g (block_modes width picture slice constrained (16 - (b + 1)) later) old mid s s''
  unfolding block_modes
  modes-next {g} {old} {now} {mid} {s} {s'} {s''} {x} width picture slice constrained b predicted samples modes later h p q e l m =
      let n : 16 - b ≡ suc (16 - (b + 1)) = omega arith in
      let P : ℕ → Type 0 = λ k. Leads took failures g (block_modes width picture slice constrained k modes) old now s s' in
      let M : Intra4x4PredMode → Type 0 = λ p. Meets (span took failures s' s'') (Is (λ (t : Intra4x4PredMode). t)) (block_mode p samples) now mid (Ok x) in
      let N : Sides → Type 0 = λ q. Meets (span took failures s' s'') (Is (λ (t : Intra4x4PredMode). t))
      (block_mode (predicted_mode width picture slice constrained modes) q) now mid (Ok x) in
      rw e (leads-on (λ t. block_modes width picture slice constrained (16 - (b + 1)) (modes ++ t ∷ [])) (subst P n l) (subst N q (subst M p m)))

  pub modes-stop : {X : Type 0} {R : X → List Intra4x4PredMode → Type 0} {g : Grammar (List Intra4x4PredMode)} {old now mid : Reader} {s s' s'' : S}
      {e : Stop} (width : ℕ) (picture : List CodedMacroblock) (slice : ℕ) (constrained : Bool) (b : ℕ) (predicted : Intra4x4PredMode) (samples : Sides)
      (modes : List Intra4x4PredMode) → b < 16 → predicted ≡ predicted_mode width picture slice constrained modes →
      samples ≡ block_samples width picture slice constrained modes →
      Leads took failures g (block_modes width picture slice constrained (16 - b) modes) old now s s' →
      Meets {X = Intra4x4PredMode} (span took failures s' s'') (Is (λ (t : Intra4x4PredMode). t)) (block_mode predicted samples) now mid (Err e) →
      Meets (span took failures s s'') R g old mid (Err e)
  unfolding block_modes
  modes-stop {R = R} {g} {old} {now} {mid} {s} {s'} {s''} {e} width picture slice constrained b predicted samples modes h p q l m =
      let n : 16 - b ≡ suc (16 - (b + 1)) = omega arith in
      let P : ℕ → Type 0 = λ k. Leads took failures g (block_modes width picture slice constrained k modes) old now s s' in
      let M : Intra4x4PredMode → Type 0 = λ p. Meets {X = Intra4x4PredMode} (span took failures s' s'') (Is (λ (t : Intra4x4PredMode). t))
      (block_mode p samples) now mid (Err e) in
      let N : Sides → Type 0 = λ q. Meets {X = Intra4x4PredMode} (span took failures s' s'') (Is (λ (t : Intra4x4PredMode). t))
      (block_mode (predicted_mode width picture slice constrained modes) q) now mid (Err e) in
      finish (subst P n l) (stop (λ t. block_modes width picture slice constrained (16 - (b + 1)) (modes ++ t ∷ [])) (subst N q (subst M p m)))

  pub modes-over : {g : Grammar (List Intra4x4PredMode)} {old now : Reader} {s s' : S} (width : ℕ) (picture : List CodedMacroblock) (slice : ℕ)
      (constrained : Bool) (b : ℕ) (modes all : List Intra4x4PredMode) → 16 ≤ b → modes ≡ all →
      Leads took failures g (block_modes width picture slice constrained (16 - b) modes) old now s s' →
      Meets (span took failures s s') (Is (λ (t : List Intra4x4PredMode). t)) g old now (Ok all)
  unfolding block_modes
  modes-over {g} {old} {now} {s} {s'} width picture slice constrained b modes all h e l =
      let n : 16 - b ≡ 0 = omega arith in
      let P : ℕ → Type 0 = λ k. Leads took failures g (block_modes width picture slice constrained k modes) old now s s' in
      finish (subst P n l) (done took failures (Is (λ t. t)) modes now s' all e)

  -- after an Err nothing is said of where the reader is
  pub stay : {X A : Type 0} {R : X → A → Type 0} {g : Grammar A} {old new : Reader} {s s' : S} (e : Stop) →
      Meets {X = X} (span took failures s s') R g old new (Err e) → Meets {X = X} (span took failures s s') R g old old (Err e)
  stay (No bit rule) m = record { meets = m.meets; same = refl }
  stay (Outside bit feature) m = record { meets = m.meets; same = refl }
  stay Memory m = record { meets = m.meets; same = refl }
  stay Read m = record { meets = m.meets; same = refl }
  stay Write m = record { meets = m.meets; same = refl }

  -- one more block
  pub blocks-next : {X : Type 0} {view : X → Block} {g : Grammar (List Block)} {old now mid : Reader} {s s' s'' : S} {x : X}
      (part : List Block → Grammar Block) (n b : ℕ) (blocks : List Block) → b < n → Leads took failures g (blocks_by part (n - b) blocks) old now s s' →
      Meets (span took failures s' s'') (Is view) (part blocks) now mid (Ok x) →
      Leads took failures g (blocks_by part (n - (b + 1)) (blocks ++ view x ∷ [])) old mid s s''
  unfolding blocks_by
  blocks-next {g = g} {old} {now} {mid} {s} {s'} part n b blocks h l m =
      let e : n - b ≡ suc (n - (b + 1)) = omega arith in
      let P : ℕ → Type 0 = λ k. Leads took failures g (blocks_by part k blocks) old now s s' in
      leads-on (λ t. blocks_by part (n - (b + 1)) (blocks ++ t ∷ [])) (subst P e l) m

  pub blocks-stop : {X Y : Type 0} {view : X → Block} {R : Y → List Block → Type 0} {g : Grammar (List Block)} {old now mid : Reader} {s s' s'' : S}
      {e : Stop} (part : List Block → Grammar Block) (n b : ℕ) (blocks : List Block) → b < n →
      Leads took failures g (blocks_by part (n - b) blocks) old now s s' → Meets {X = X} (span took failures s' s'') (Is view) (part blocks) now mid (Err e) →
      Meets {X = Y} (span took failures s s'') R g old old (Err e)
  unfolding blocks_by
  blocks-stop {R = R} {g} {old} {now} {mid} {s} {s'} {e = why} part n b blocks h l m =
      let e : n - b ≡ suc (n - (b + 1)) = omega arith in
      let P : ℕ → Type 0 = λ k. Leads took failures g (blocks_by part k blocks) old now s s' in
      stay why (finish (subst P e l) (stop (λ t. blocks_by part (n - (b + 1)) (blocks ++ t ∷ [])) m))

  pub blocks-over : {Y : Type 0} {R : Y → List Block → Type 0} {g : Grammar (List Block)} {old now : Reader} {s s' : S} (part : List Block → Grammar Block)
      (n b : ℕ) (blocks : List Block) (y : Y) → n ≤ b → R y blocks → Leads took failures g (blocks_by part (n - b) blocks) old now s s' →
      Meets (span took failures s s') R g old now (Ok y)
  unfolding blocks_by
  blocks-over {R = R} {g} {old} {now} {s} {s'} part n b blocks y h r l =
      let e : n - b ≡ 0 = omega arith in
      let P : ℕ → Type 0 = λ k. Leads took failures g (blocks_by part k blocks) old now s s' in
      finish (subst P e l) (done took failures R blocks now s' y r)

  -- the block that was read is the one after those before
  pub luma-met : {X : Type 0} {view : X → Block} {now mid : Reader} {s s' : S} {r : Result X Stop} (width : ℕ) (picture : List CodedMacroblock)
      (slice size pattern b nc : ℕ) (coded : Bool) (totals : List ℕ) (blocks : List Block) → length blocks ≡ b → totals_of blocks ≡ totals →
      coded ≡ is_coded pattern b → nc ≡ luma_nc width picture slice totals → Meets (span took failures s s') (Is view) (block_if coded size nc) now mid r →
      Meets (span took failures s s') (Is view) (luma_block width picture slice size pattern blocks) now mid r
  unfolding luma_block
  luma-met width picture slice size pattern b nc coded totals blocks n t p q m = rw (n, t, sym p, sym q) m

  pub coded-met : {X : Type 0} {view : X → Block} {now mid : Reader} {s s' : S} {r : Result X Stop} (coded : Bool) (size nc : ℕ) → coded ≡ true →
      Meets (span took failures s s') (Is view) (residual_block size nc) now mid r →
      Meets (span took failures s s') (Is view) (block_if coded size nc) now mid r
  unfolding block_if
  coded-met coded size nc e m = rw e m

  pub uncoded-met : {now : Reader} {s : S} (coded : Bool) (size nc : ℕ) → coded ≡ false →
      Meets {X = Unit {0}} (span took failures s s) (Is (λ x. no_block size)) (block_if coded size nc) now now (Ok tt)
  unfolding block_if
  uncoded-met {now} {s} coded size nc e = rw e (done took failures (Is (λ x. no_block size)) (no_block size) now s tt refl)

  pub chroma-met : {X : Type 0} {view : X → Block} {now mid : Reader} {s s' : S} {r : Result X Stop} (width : ℕ) (picture : List CodedMacroblock)
      (slice nc : ℕ) (totals : List ℕ) (blocks : List Block) → totals_of blocks ≡ totals → nc ≡ chroma_nc width picture slice totals →
      Meets (span took failures s s') (Is view) (block_if true 15 nc) now mid r →
      Meets (span took failures s s') (Is view) (chroma_block width picture slice blocks) now mid r
  unfolding chroma_block
  chroma-met width picture slice nc totals blocks t q m = rw (t, sym q) m

pub whole : {A : Type 0} (xs : List A) (n : ℕ) → length xs ≤ n → take n xs ≡ xs
whole [] zero h = refl
whole [] (suc n) h = refl
whole (x ∷ xs) zero h = absurd (omega arith)
whole (x ∷ xs) (suc n) h = ap (λ l. x ∷ l) (whole xs n (omega arith))

-- no block is there yet
pub stored-none : (size : ℕ) (totals : List ℕ) (levels : List (List ℤ)) → Stored size 0 totals levels []
stored-none size totals levels = record { count = refl; counted = refl; each = λ k h. absurd (omega arith) }

-- a block that stands in its place
pub shown-of : (size total : ℕ) (by_place : List ℤ) → IsBlank size by_place total → by_place ≡ shown size total by_place
shown-of size zero by_place z = z refl
shown-of size (suc t) by_place z = refl

-- one more block, where its place shows it and the other places stay
stored-more : (size b : ℕ) (totals : List ℕ) (levels after : List (List ℤ)) (blocks : List Block) (v : Block) → b < length totals →
    ((k : ℕ) → k ≢ b → get_or after k (replicate size (pos 0)) ≡ get_or levels k (replicate size (pos 0))) →
    v.by_place ≡ shown size v.total (get_or after b (replicate size (pos 0))) → Stored size b totals levels blocks →
    Stored size (b + 1) (slice_set totals b v.total) after (blocks ++ v ∷ [])
stored-more size b totals levels after blocks v ht others own s = record {
  count = length-append blocks (v ∷ []) ∙ ap (λ n. n + 1) s.count;
  counted = map-append (λ (x : Block). x.total) blocks (v ∷ []) ∙ ap (λ t. t ++ v.total ∷ []) s.counted ∙ sym (take_more_set totals b v.total ht);
  each = λ k h. go k h (apart k b h);
}
  where
    apart : (k b : ℕ) → k < b + 1 → (k < b) ⊎ (k ≡ b)
    apart k b h = grind arith

    lengths : length (levels_of blocks) ≡ b
    lengths = map-length blocks ∙ s.count
      where
        map-length : (xs : List Block) → length (levels_of xs) ≡ length xs
        map-length [] = refl
        map-length (x ∷ xs) = ap suc (map-length xs)

    go : (k : ℕ) → k < b + 1 → (k < b) ⊎ (k ≡ b) →
        slice_get (levels_of (blocks ++ v ∷ [])) k ≡ Some (shown size (get_or (slice_set totals b v.total) k 0) (get_or after k (replicate size (pos 0))))
    go k h (inl l) =
        let differs : k ≢ b = λ e. absurd (omega arith) in
        rw (map-append (λ (x : Block). x.by_place) blocks (v ∷ []), get_or-set_other totals b k v.total 0 differs, others k differs)
        (front (levels_of blocks) (v.by_place ∷ []) k (let n = lengths in omega arith) ∙ s.each k l)
    go k h (inr e) =
        rw (e, map-append (λ (x : Block). x.by_place) blocks (v ∷ []), get_or-set_same totals b v.total 0 ht)
        (seam (levels_of blocks) v.by_place [] b (sym lengths) ∙ ap Some own)

-- one more block, whose levels are written into its place
pub stored-next : (size b total : ℕ) (totals : List ℕ) (levels : List (List ℤ)) (by_place : List ℤ) (blocks : List Block) → b < length totals →
    b < length levels → IsBlank size by_place total → Stored size b totals levels blocks →
    Stored size (b + 1) (slice_set totals b total) (slice_set levels b by_place) (blocks ++ record { by_place = by_place; total = total } ∷ [])
stored-next size b total totals levels by_place blocks ht hl z s =
    stored-more size b totals levels (slice_set levels b by_place) blocks (record { by_place = by_place; total = total }) ht
    (λ k differs. get_or-set_other levels b k by_place _ differs)
    (shown-of size total by_place z ∙ ap (shown size total) (sym (get_or-set_same levels b by_place _ hl))) s

-- one more block that is not coded: nothing is written
pub stored-skip : (size b : ℕ) (totals : List ℕ) (levels : List (List ℤ)) (blocks : List Block) → b < length totals → Stored size b totals levels blocks →
    Stored size (b + 1) (slice_set totals b 0) levels (blocks ++ no_block size ∷ [])
unfolding no_block
stored-skip size b totals levels blocks ht s = stored-more size b totals levels levels blocks (no_block size) ht (λ k differs. refl) refl s

-- no block is coded
pub stored-blank : (size n : ℕ) (totals : List ℕ) (levels : List (List ℤ)) → totals ≡ replicate n 0 → Stored size n totals levels (replicate n (no_block size))
unfolding no_block
stored-blank size n totals levels e = record {
  count = tally n;
  counted = zeros n ∙ sym (ap (take n) e ∙ taken n);
  each = λ k h. one n k h ∙
      ap Some (rw e (shown-none n k h));
}
  where
    tally : (n : ℕ) → length (replicate n (no_block size)) ≡ n
    tally zero = refl
    tally (suc n) = ap suc (tally n)

    zeros : (n : ℕ) → totals_of (replicate n (no_block size)) ≡ replicate n 0
    zeros zero = refl
    zeros (suc n) = ap (λ l. 0 ∷ l) (zeros n)

    taken : (n : ℕ) → take {A = ℕ} n (replicate n 0) ≡ replicate n 0
    taken zero = refl
    taken (suc n) = ap (λ l. 0 ∷ l) (taken n)

    one : (n k : ℕ) → k < n → slice_get (levels_of (replicate n (no_block size))) k ≡ Some (replicate size (pos 0))
    one zero k h = absurd (omega arith)
    one (suc n) zero h = refl
    one (suc n) (suc k) h = one n k (omega arith)

    none_at : (n k : ℕ) → ◌≡◌ {A = ℕ} (get_or (replicate n 0) k 0) 0
    none_at zero k = refl
    none_at (suc n) zero = refl
    none_at (suc n) (suc k) = none_at n k

    shown-none : (n k : ℕ) → k < n → replicate size (pos 0) ≡ shown size (get_or (replicate n 0) k 0) (get_or levels k (replicate size (pos 0)))
    shown-none n k h = rw (none_at n k) refl
