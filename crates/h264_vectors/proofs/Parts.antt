-- References and vectors of the blocks of a macroblock, part by part.
use Rattle.std.proofs.Common.{◌≡◌, ◌≢◌, ◌==◌, ℕ, zero, suc, Bool, true, false, List, [], ◌∷◌, ◌++◌, map, replicate, get_or, ℤ, Option, Some, None, Result, Ok}
use Rattle.std.proofs.Common.{Err, refl, ap, sym, ◌∙◌, if◌then◌else◌}
use Rattle.std.specs.Option.{is_some}
use Rattle.std.specs.List.{range_with_len}
use Rattle.std.proofs.Math.ListN as math
use Rattle.h264_base.specs.declared.stop.Stop.{Stop}
use Rattle.h264_base.specs.Call.{Call, span}
use Rattle.h264_base.specs.Grammar.{Grammar, Done, ◌>>=◌}
use Rattle.h264_base.specs.Meets.{Reader, Meets}
use Rattle.h264_base.proofs.Steps.{bind_as, stop, done}
use Rattle.h264_near.specs.declared.motion.Motion.{Motion}
use Rattle.h264_near.specs.declared.motion.Vector.{Vector}
use Rattle.h264_plane.specs.Blocks.{column_of, row_of}
use Rattle.h264_near.specs.Coded.{CodedMacroblock}
use Rattle.h264_vectors.specs.Vectors.{predicted_vector}
use Rattle.h264_vectors.specs.declared.part.Part.{Part}
use Rattle.h264_vectors.specs.declared.slice.SliceContext.{SliceContext}
use Rattle.h264_vectors.specs.Derived.{Derived, is_inside, in_part, with_part, motion_of, vector_fits, moved, with_vector, derive, sub_parts_of, none_yet}
use Rattle.h264_vectors.specs.Agrees.{Agrees, IsWhole, places_with, places_after, if_fits}

picked : (b : Bool) (m : Motion) (old : Option Motion) (was : Bool) → is_some old ≡ was → is_some (if b then Some m else old) ≡ (if b then true else was)
picked true m old was e = refl
picked false m old was e = e

pub places-with : (motions : List (Option Motion)) (p : Part) (m : Motion) → map is_some (with_part motions p m) ≡ places_with (map is_some motions) p
unfolding with_part places_with
places-with motions p m = go (range_with_len 0 16)
  where
    go : (ns : List ℕ) → map is_some (map (λ n. in_part p n m (get_or motions n None)) ns) ≡
        map (λ n. if is_inside p n then true else get_or (map is_some motions) n false) ns
    go [] = refl
    go (n ∷ ns) = rw (picked (is_inside p n) m (get_or motions n None) _ (sym (math.get_or-map is_some motions n None)), go ns) refl

pub none-of : {A : Type 0} (b : Bool) (v : A) → None ≡ if_fits b v → b ≡ false
none-of true v e = absurd (cc)
none-of false v e = refl

pub some-of : {A : Type 0} (b : Bool) (v w : A) → Some w ≡ if_fits b v → (b ≡ true) × (w ≡ v)
some-of true v w e = (refl, cc)
some-of false v w e = absurd (cc)

-- the last of the parts with one index gives what they all give
pub last : {X A S : Type 0} {took : S → List Call → Type 0} {failures : S → ℕ} {R : X → A → Type 0} {g : Grammar A} {old new : Reader} {s s' : S}
    (r : Result X Stop) → Meets (span took failures s s') R g old new r → Meets (span took failures s s') R (g >>= (λ v. Done v)) old new r
last (Ok x) m = bind_as _ m (λ v e. done _ _ _ _ _ _ _ e)
last (Err e) m = stop _ m

-- once a vector has left its range
pub derive-off : (width : ℕ) (slice : SliceContext) (picture : List CodedMacroblock) (blocks : List (Option Motion)) (places : List Bool) (d : Derived)
    (p : Part) (i : ℕ) (across down : ℤ) → Agrees false blocks places d →
    Agrees false blocks (places_with places p) (derive width slice picture d (record { place = p; ref_idx = i }) (record { across = across; down = down }))
unfolding derive with_vector
derive-off width slice picture blocks places d p i across down a = record {
  fits = rw (sym a.fits) refl;
  same = λ e. absurd (cc);
  derived = places-with d.motions p _ ∙ ap (λ s. places_with s p) a.derived;
}

pub derive-out : (width : ℕ) (slice : SliceContext) (picture : List CodedMacroblock) (blocks : List (Option Motion)) (places : List Bool) (d : Derived)
    (p : Part) (i : ℕ) (across down : ℤ) (predicted : Vector) → Agrees true blocks places d →
    predicted ≡ predicted_vector width picture slice.number blocks p i → vector_fits slice.vector_limit (moved predicted across down) ≡ false →
    Agrees false blocks (places_with places p) (derive width slice picture d (record { place = p; ref_idx = i }) (record { across = across; down = down }))
unfolding derive with_vector
derive-out width slice picture blocks places d p i across down predicted a e o =
    let q : predicted ≡ predicted_vector width picture slice.number d.motions p i = rw (a.same refl) at e in
    record {
      fits = rw (sym a.fits, sym q, o) refl;
      same = λ e. absurd (cc);
      derived = places-with d.motions p _ ∙ ap (λ s. places_with s p) a.derived;
    }

pub derive-in : (width : ℕ) (slice : SliceContext) (picture : List CodedMacroblock) (blocks next : List (Option Motion)) (places : List Bool) (d : Derived)
    (p : Part) (i : ℕ) (across down : ℤ) (predicted v : Vector) → Agrees true blocks places d →
    predicted ≡ predicted_vector width picture slice.number blocks p i → vector_fits slice.vector_limit (moved predicted across down) ≡ true →
    v ≡ moved predicted across down → next ≡ with_part blocks p (motion_of slice i v) →
    Agrees true next (places_with places p) (derive width slice picture d (record { place = p; ref_idx = i }) (record { across = across; down = down }))
unfolding derive with_vector
derive-in width slice picture blocks next places d p i across down predicted v a e o f n =
    let q : predicted ≡ predicted_vector width picture slice.number d.motions p i = rw (a.same refl) at e in
    record {
      fits = rw (sym a.fits, sym q, o) refl;
      same = λ t. rw (sym q, sym f, sym (a.same refl)) n;
      derived = places-with d.motions p _ ∙ ap (λ s. places_with s p) a.derived;
    }

-- all parts of an 8x8 block are derived, whatever its type
pub quarter0 : (t : ℕ) → places_after (replicate 16 false) (sub_parts_of 0 0 t) ≡ replicate 4 true ++ replicate 12 false
unfolding places_with column_of row_of
quarter0 zero = refl
quarter0 (suc zero) = refl
quarter0 (suc (suc zero)) = refl
quarter0 (suc (suc (suc t))) = refl

pub quarter1 : (t : ℕ) → places_after (replicate 4 true ++ replicate 12 false) (sub_parts_of 2 0 t) ≡ replicate 8 true ++ replicate 8 false
unfolding places_with column_of row_of
quarter1 zero = refl
quarter1 (suc zero) = refl
quarter1 (suc (suc zero)) = refl
quarter1 (suc (suc (suc t))) = refl

pub quarter2 : (t : ℕ) → places_after (replicate 8 true ++ replicate 8 false) (sub_parts_of 0 2 t) ≡ replicate 12 true ++ replicate 4 false
unfolding places_with column_of row_of
quarter2 zero = refl
quarter2 (suc zero) = refl
quarter2 (suc (suc zero)) = refl
quarter2 (suc (suc (suc t))) = refl

pub quarter3 : (t : ℕ) → places_after (replicate 12 true ++ replicate 4 false) (sub_parts_of 2 2 t) ≡ replicate 16 true
unfolding places_with column_of row_of
quarter3 zero = refl
quarter3 (suc zero) = refl
quarter3 (suc (suc zero)) = refl
quarter3 (suc (suc (suc t))) = refl

pub four-parts : (x y t : ℕ) → t ≢ 0 → t ≢ 1 → t ≢ 2 → sub_parts_of x y t ≡ sub_parts_of x y 3
four-parts x y zero a b c = absurd (a refl)
four-parts x y (suc zero) a b c = absurd (b refl)
four-parts x y (suc (suc zero)) a b c = absurd (c refl)
four-parts x y (suc (suc (suc t))) a b c = refl

pub starts : (blocks : List (Option Motion)) → blocks ≡ replicate 16 None → Agrees true blocks (replicate 16 false) none_yet
starts blocks e = record { fits = refl; same = λ t. e; derived = refl }

-- ---- one part for the whole macroblock

pub filled-whole : (motions : List (Option Motion)) (p : Part) (m : Motion) → IsWhole p → with_part motions p m ≡ replicate 16 (Some m)
unfolding with_part column_of row_of
filled-whole motions p m w = rw (w.0, w.1, w.2, w.3) refl
