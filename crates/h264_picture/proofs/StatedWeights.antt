-- The weights of a header that some unit gives pass the clamps of the definitions unchanged.
use Rattle.std.proofs.Common.{◌≡◌, ℕ, zero, suc, ◌≤◌, Bool, true, false, List, [], ◌∷◌, ◌++◌, Option, Some, None, ℤ, pos, negsuc, min, refl, ap, arith}
use Rattle.std.specs.Prelude.{int_le, slice_get}
use Rattle.std.specs.Option.{option_map, option_and_then}
use Rattle.std.specs.List.{AllByRecursion}
use Rattle.std.proofs.lemmas.Bool.{leb-true}
use Rattle.h264_base.specs.declared.element_name.ElementName.{ElementName}
use Rattle.h264_base.specs.declared.mode.SliceType.{SliceType}
use Rattle.h264_base.specs.declared.mode.SliceType.TheVariants as slice_type
use Rattle.h264_base.specs.declared.weight.Weight.{Weight}
use Rattle.h264_base.specs.declared.weight.Weights.{Weights}
use Rattle.h264_base.specs.Body.{Body}
use Rattle.h264_base.specs.Grammar.{Grammar, Element, Derives, ◌>>=◌, read_word, check}
use Rattle.h264_base.proofs.Gives.{Gives, gives-following, gives-bind, gives-derived}
use Rattle.h264_bits.specs.Forms.{signed_within, repeated, optional}
use Rattle.h264_bits.proofs.Given.{gives-to}
use Rattle.h264_sps.specs.declared.sps.Sps.{Sps}
use Rattle.h264_pps.specs.declared.Pps.{Pps}
use Rattle.h264_header.specs.declared.header.Header.{Header}
use Rattle.h264_header.specs.declared.header.IndexWeights.{IndexWeights}
use Rattle.h264_header.specs.declared.header.PredWeightTable.{PredWeightTable}
use Rattle.h264_header.specs.declared.header.RefPicList0.{RefPicList0}
use Rattle.h264_header.specs.declared.header.SliceKind.{SliceKind}
use Rattle.h264_header.specs.declared.header.SliceUnit.{SliceUnit}
use Rattle.h264_header.specs.Header.{header}
use Rattle.h264_header.specs.PredWeightTable.{stated_weight, inferred_weight, luma_weight, with_chroma, index_weights, pred_weight_table}
use Rattle.h264_header.specs.RefList.{ref_pic_list0, slice_kind}
use Rattle.h264_header.specs.Weights.{table_of, weights_of}
use Rattle.h264_recon.specs.Weights.{limited_weight, limited_offset, limited, all_limited}
use Rattle.h264_picture.specs.Weights.{weights_at}

abbrev IsStated : Weight → Type 0
IsStated w = limited w ≡ w

stated : (denom : ℕ) (z o : ℤ) → denom ≤ 7 → limited_weight z ≡ z → limited_offset o ≡ o →
    IsStated (record { log2_weight_denom = denom; weight = z; offset = o })
stated denom z o small a b = let d : min denom 7 ≡ denom = omega arith in rw (d, a, b) refl

within : (z : ℤ) → int_le (negsuc 127) z ≡ true → int_le z (pos 127) ≡ true → (limited_weight z ≡ z) × (limited_offset z ≡ z)
within (pos n) low high = let most : n ≤ 127 = leb-true n 127 high in (ap pos (omega arith), ap pos (omega arith))
within (negsuc n) low high = let most : n ≤ 127 = leb-true n 127 low in (ap negsuc (omega arith), ap negsuc (omega arith))

weight-gives : (a b : ElementName) (denom : ℕ) → denom ≤ 7 → Gives (stated_weight a b denom) IsStated
unfolding Gives stated_weight signed_within read_word check ◌>>=◌
weight-gives a b denom small = λ e low high f low' high'.
    stated denom e.value f.value small (within e.value low high).0 (within f.value low' high').1

inferred : (denom : ℕ) → denom ≤ 7 → IsStated (inferred_weight denom)
inferred zero h = refl
inferred (suc zero) h = refl
inferred (suc (suc zero)) h = refl
inferred (suc (suc (suc zero))) h = refl
inferred (suc (suc (suc (suc zero)))) h = refl
inferred (suc (suc (suc (suc (suc zero))))) h = refl
inferred (suc (suc (suc (suc (suc (suc zero)))))) h = refl
inferred (suc (suc (suc (suc (suc (suc (suc zero))))))) h = refl
inferred (suc (suc (suc (suc (suc (suc (suc (suc n)))))))) h = absurd (omega arith)

luma-gives : (denom : ℕ) (given : Bool) → denom ≤ 7 → Gives (luma_weight denom given) IsStated
unfolding Gives luma_weight
luma-gives denom false small = inferred denom small
luma-gives denom true small = weight-gives _ _ denom small

abbrev AreStated : IndexWeights → Type 0
AreStated e = all_limited e.weights ≡ e.weights

chroma-gives : (luma : Weight) (denom : ℕ) (given : Bool) → denom ≤ 7 → IsStated luma → Gives (with_chroma luma denom given) AreStated
unfolding Gives with_chroma
chroma-gives luma denom false small l = rw (l, inferred denom small) refl
chroma-gives luma denom true small l = gives-bind IsStated AreStated _ _ (weight-gives _ _ denom small)
    (λ cb p. gives-bind IsStated AreStated _ _ (weight-gives _ _ denom small) (λ cr q. rw (l, p, q) refl))

index-gives : (luma chroma : ℕ) → luma ≤ 7 → chroma ≤ 7 → Gives (index_weights luma chroma) AreStated
unfolding index_weights
index-gives luma chroma a b = gives-following _ _ AreStated (λ x. gives-bind IsStated AreStated _ _ (luma-gives luma x a)
    (λ w h. gives-following _ _ AreStated (λ y. chroma-gives w chroma y b h)))

pushed : (es : List IndexWeights) (e : IndexWeights) → AllByRecursion AreStated es → AreStated e → AllByRecursion AreStated (es ++ e ∷ [])
pushed [] e a h = (h, tt)
pushed (x ∷ es) e a h = (a.0, pushed es e a.1 h)

entries-give : (part : Grammar IndexWeights) (n : ℕ) (before : List IndexWeights) → Gives part AreStated → AllByRecursion AreStated before →
    Gives (repeated part before n) (AllByRecursion AreStated)
unfolding Gives repeated
entries-give part zero before g a = a
entries-give part (suc n) before g a = gives-bind AreStated (AllByRecursion AreStated) part _ g
    (λ e h. entries-give part n (before ++ e ∷ []) g (pushed before e a h))

abbrev IsTable : Option PredWeightTable → Type 0
IsTable None = Unit {0}
IsTable (Some t) = AllByRecursion AreStated t.entries.items

table-gives : (active : ℕ) → Gives (pred_weight_table active) (λ t. IsTable (Some t))
unfolding Gives pred_weight_table
table-gives active = gives-to _ _ _ _ (λ luma a. gives-to _ _ _ _ (λ chroma b.
    gives-bind (AllByRecursion AreStated) _ _ _ (entries-give (index_weights luma chroma) active [] (index-gives luma chroma a b) tt) (λ entries h. h)))

table-or-none : (there : Bool) (active : ℕ) → Gives (optional there (pred_weight_table active)) IsTable
unfolding Gives optional
table-or-none false active = tt
table-or-none true active = gives-bind (λ t. IsTable (Some t)) IsTable _ _ (table-gives active) (λ t h. h)

kind-gives : (layout : _) (type : SliceType) → Gives (slice_kind layout type) (λ k. IsTable (table_of k))
unfolding Gives slice_kind ref_pic_list0
kind-gives layout slice_type.I = tt
kind-gives layout slice_type.P = gives-bind (λ (l : RefPicList0). IsTable l.pred_weight_table) _ (ref_pic_list0 layout) _
    (gives-following _ _ _ (λ minus1. gives-following _ _ _ (λ modified. gives-following _ _ _
    (λ commands. gives-bind IsTable _ _ _ (table-or-none layout.has_weights _) (λ t h. h))))) (λ l h. h)

header-gives : (sets : ℕ → Option (Pps × Sps)) (unit : SliceUnit) → Gives (header sets unit) (λ h. IsTable (table_of h.kind.value))
unfolding Gives header
header-gives sets unit = gives-following _ _ _
    (λ first. gives-following _ _ _ (λ type. gives-following _ _ _ (λ named. gives-following _ _ _ (λ num. gives-following _ _ _
    (λ idr. gives-following _ _ _ (λ order. gives-bind (λ k. IsTable (table_of k)) _ (slice_kind named.layout type.slice_type) _ (kind-gives _ _) (λ kind h.
    gives-following _ _ _ (λ marking. gives-following _ _ _ (λ qp. gives-following _ _ _ (λ filter. h))))))))))

at-index : (es : List IndexWeights) (k : ℕ) → AllByRecursion AreStated es →
    option_map all_limited (option_map (λ (e : IndexWeights). e.weights) (slice_get es k)) ≡ option_map (λ (e : IndexWeights). e.weights) (slice_get es k)
at-index [] k a = refl
at-index (e ∷ es) zero a = ap (λ w. Some w) a.0
at-index (e ∷ es) (suc k) a = at-index es k a.1

in-table : (o : Option PredWeightTable) (k : ℕ) → IsTable o →
    option_map all_limited (option_and_then (λ (t : PredWeightTable). option_map (λ (e : IndexWeights). e.weights) (slice_get t.entries.items k)) o)
    ≡ option_and_then (λ (t : PredWeightTable). option_map (λ (e : IndexWeights). e.weights) (slice_get t.entries.items k)) o
in-table None k h = refl
in-table (Some t) k h = at-index t.entries.items k h

pub weights-stated : (sets : ℕ → Option (Pps × Sps)) (unit : SliceUnit) (body : Body) (i j : ℕ) (es : List Element) (h : Header) (k : ℕ) →
    Derives (header sets unit) body i es j h → weights_at h k ≡ weights_of h k
weights-stated sets unit body i j es h k d =
    in-table (table_of h.kind.value) k (gives-derived (header sets unit) (λ h. IsTable (table_of h.kind.value)) body i es j h (header-gives sets unit) d)
