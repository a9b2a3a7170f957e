-- Bin strings of a tree.
use Rattle.std.proofs.Common.{◌≡◌, Bool, List, [], ◌∷◌, ◌++◌, Option, Some, None, refl, sym, ◌∙◌}
use Rattle.h264_cabac.specs.Bins.{Bins, Value, NoValue, Regular, Bypass, Terminate, Spells, Takes, DecoderState, Step, regular_step, bypass_step}
use Rattle.h264_cabac.specs.Bins.{terminate_step, decoded}
use Rattle.std.specs.Option.{option_and_then}
use Rattle.std.proofs.lemmas.Option.{some_pair_parts}

pub one-value : {A : Type 0} (tree : Bins A) (bins more : List Bool) (v w : A) → Spells tree bins v → Spells tree (bins ++ more) w → (v ≡ w) × (more ≡ [])
one-value (Value x) [] more v w s t = (s.1 ∙ sym t.1, t.0)
one-value (Value x) (b ∷ bins) more v w s t = absurd (let e = s.0 in cc)
one-value NoValue bins more v w s t = absurd s
one-value (Regular index k) [] more v w s t = absurd s
one-value (Regular index k) (b ∷ bins) more v w s t = one-value (k b) bins more v w s t
one-value (Bypass k) [] more v w s t = absurd s
one-value (Bypass k) (b ∷ bins) more v w s t = one-value (k b) bins more v w s t
one-value (Terminate k) [] more v w s t = absurd s
one-value (Terminate k) (b ∷ bins) more v w s t = one-value (k b) bins more v w s t

-- the bins of a tree whose first bin is this step's
abbrev First : {A : Type 0} → (Bool → Bins A) → Option Step → DecoderState → A → Type 0
First k o e v = (b : Bool) × (s : DecoderState) × (o ≡ Some (record { bin = b; decoder = s })) × (bins : List Bool) × Spells (k b) bins v × Takes (k b) s bins e

first : {A : Type 0} (k : Bool → Bins A) (o : Option Step) (e : DecoderState) (v : A) →
    ((b : Bool) (s : DecoderState) → decoded (k b) s ≡ Some (v, e) → (bins : List Bool) × Spells (k b) bins v × Takes (k b) s bins e) →
    option_and_then (λ s. decoded (k s.bin) s.decoder) o ≡ Some (v, e) → First k o e v
first k None e v f is = absurd (cc)
first k (Some s) e v f is = let r = f s.bin s.decoder is in (s.bin, s.decoder, refl, r.0, r.1, r.2)

pub bins-of : {A : Type 0} (tree : Bins A) (d e : DecoderState) (v : A) → decoded tree d ≡ Some (v, e) →
    (bins : List Bool) × Spells tree bins v × Takes tree d bins e
bins-of (Value x) d e v is = (let p = some_pair_parts x v d e is in ([], (refl, sym p.0), (refl, sym p.1)))
bins-of NoValue d e v is = absurd (cc)
bins-of (Regular index k) d e v is =
    let r = first k (regular_step index d) e v (λ b s. bins-of (k b) s e v) is in (r.0 ∷ r.3, r.4, (r.1, r.2, r.5))
bins-of (Bypass k) d e v is =
    let r = first k (bypass_step d) e v (λ b s. bins-of (k b) s e v) is in (r.0 ∷ r.3, r.4, (r.1, r.2, r.5))
bins-of (Terminate k) d e v is =
    let r = first k (terminate_step d) e v (λ b s. bins-of (k b) s e v) is in (r.0 ∷ r.3, r.4, (r.1, r.2, r.5))
