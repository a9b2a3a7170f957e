-- What was read is what the macroblock holds.
use Rattle.std.proofs.Common.{◌≡◌, ℕ, ◌-◌, ◌<◌, ◌≤◌, Bool, true, false, IsTrue, nat_le, nat_lt, List, map, length, replicate, get_or, Option, Some, None}
use Rattle.std.proofs.Common.{Result, Ok, Err, refl, ap, sym, ◌∙◌, arith}
use Rattle.std.proofs.lemmas.Bool.Decides.{nat_tests}
use Rattle.std.proofs.lemmas.List.{get_or-replicate}
use Rattle.std.proofs.lemmas.Option.{slice_get-get_or}
use Rattle.h264_cavlc.specs.Block.{Block}
use Rattle.h264_near.specs.declared.motion.Motion.{Motion}
use Rattle.h264_intra.specs.declared.luma4.Intra4x4PredMode.{Intra4x4PredMode}
use Rattle.h264_intra.specs.declared.luma4.Intra4x4PredMode.TheVariants.{Dc, Vertical}
use Rattle.h264_intra.specs.declared.luma16.Intra16x16PredMode.{Intra16x16PredMode}
use Rattle.h264_intra.specs.declared.chroma.IntraChromaPredMode.{IntraChromaPredMode}
use Rattle.h264_near.specs.Coded.{CodedMacroblock, Intra4x4, Intra16x16, Inter}
use Rattle.h264_mbsyntax.specs.declared.macroblock.Kind.TheVariants as kind
use Rattle.h264_mbsyntax.specs.declared.macroblock.Macroblock.{Macroblock}
use Rattle.h264_mbsyntax.specs.Residual.{Coefficients, coefficients, no_block}
use Rattle.h264_mbsyntax.specs.Stored.{StoredCoefficients, StoredCoefficients16}
use Rattle.h264_mbsyntax.specs.Holds.{HoldsMacroblock}
use Rattle.h264_base.specs.declared.mode.SliceType.{SliceType}
use Rattle.h264_base.specs.declared.mode.SliceType.TheVariants as slice_type
use Rattle.h264_base.specs.declared.stop.Stop.{Stop}
use Rattle.h264_base.specs.Call.{Call, span}
use Rattle.h264_base.specs.declared.rule.Rule.{Rule}
use Rattle.h264_base.specs.declared.rule.Rule.TheVariants.{Range}
use Rattle.h264_base.specs.declared.element_name.ElementName.TheVariants.{CodedBlockPattern}
use Rattle.h264_base.specs.Word.{Words}
use Rattle.h264_base.specs.Grammar.{Grammar, Done, ◌>>=◌, check, element, read_word}
use Rattle.h264_bits.specs.Forms.{natural}
use Rattle.h264_tables.specs.declared.table.Table.{Table}
use Rattle.h264_tables.specs.Table.{code_table}
use Rattle.h264_mbsyntax.specs.Coded.{patterned}
use Rattle.h264_base.specs.Meets.{Reader, Meets, Checks}
use Rattle.h264_base.proofs.Steps.{bind, stop, done, checked}
use Rattle.h264_vectors.specs.declared.slice.SliceContext.{SliceContext}
use Rattle.h264_mbsyntax.specs.Macroblock.{coded, pcm_of, by_type, inter}
use Rattle.h264_mbsyntax.proofs.Loops.{whole}
use Rattle.std.specs.Option.{is_some, option_map}
use Rattle.std.proofs.Math.ListN as math
use Rattle.h264_vectors.specs.Derived.{Derived}
use Rattle.h264_vectors.specs.Agrees.{Agrees}
use Rattle.h264_near.specs.declared.partition.Partition.{Partition}
use Rattle.h264_near.specs.Partition.{MovesByPartition}

-- a check that is made last, and what is known where it holds
pub ending-check : {B S : Type 0} {took : S → List Call → Type 0} {failures : S → ℕ} {R : Unit {0} → B → Type 0} {rule : Rule} {bit : ℕ} {holds : Bool}
    {old : Reader} {s : S} (v : B) (r : Result (Unit {0}) Stop) → Checks rule bit holds r → (IsTrue holds → R tt v) →
    Meets (span took failures s s) R (check rule bit holds >>= (λ x. Done v)) old old r
ending-check v (Ok x) c k = bind _ (checked _ _ _ _ c) (done _ _ _ _ _ _ _ (k c.checks))
ending-check v (Err e) c k = stop _ (checked _ _ _ _ c)

-- coded_block_pattern and what follows it
pub with-pattern : {X B S : Type 0} {took : S → List Call → Type 0} {failures : S → ℕ} {R : X → B → Type 0} {old new : Reader} {s s' : S} {r : Result X Stop}
    (table : Table) (width : ℕ) (picture : List CodedMacroblock) (slice qp : ℕ) (f : Coefficients → Grammar B) →
    Meets (span took failures s s') R (patterned table width picture slice qp >>= f) old new r →
    Meets (span took failures s s') R (element CodedBlockPattern (Words (code_table table)) >>=
    (λ e. coefficients width picture slice qp (natural e.value) >>= f)) old new r
unfolding patterned ◌>>=◌ read_word
with-pattern table width picture slice qp f m = m

-- an intra macroblock has no references
pub no-motion : (motions : List (Option Motion)) (n : ℕ) → motions ≡ replicate 16 None → n < 16 →
    ◌≡◌ {A = Option (Option Motion)} (Some None) (Some (get_or motions n None))
no-motion motions n e h = rw e (ap Some (sym (get_or-replicate 16 n None None h)))

pub holds-intra4x4 : (mb : Macroblock) (slice : ℕ) (chroma : IntraChromaPredMode) (modes : List Intra4x4PredMode) (c : Coefficients) → mb.kind ≡
    kind.Intra4x4 → mb.contexts.modes ≡ modes → mb.chroma_mode ≡ chroma → mb.contexts.slice ≡ slice → mb.contexts.intra ≡ true → mb.contexts.qp ≡ mb.qp →
    mb.contexts.motions ≡ replicate 16 None → mb.residual.luma_dc_total ≡ 0 → length mb.contexts.totals ≡ 16 → length mb.contexts.chroma_totals ≡ 8 →
    length modes ≡ 16 → StoredCoefficients mb c → HoldsMacroblock mb (coded slice (Intra4x4 modes chroma) c)
unfolding coded no_block
holds-intra4x4 mb slice chroma modes c ek em ec es ei eq ev ed nt nc nm s = record {
  contexts = record {
    slice = sym es;
    intra = sym ei;
    qp = s.qp ∙ sym eq;
    totals = s.luma.counted ∙ whole mb.contexts.totals 16 (omega arith);
    chroma_totals = s.chroma.ac.counted ∙ whole mb.contexts.chroma_totals 8 (omega arith);
    modes = λ n h. rw em (slice_get-get_or modes n Vertical (omega arith));
    motions = λ n h. no-motion mb.contexts.motions n ev h;
  };
  qp = s.qp;
  prediction = rw (ek, em, ec) refl;
  luma = rw ek (record { each = s.luma.each }, ap (λ (b : Block). b.by_place) s.luma_dc ∙ rw ed refl);
  chroma = rw ek (record { each = s.chroma.dc.each }, record { each = s.chroma.ac.each });
}

pub holds-intra16x16 : (mb : Macroblock) (slice : ℕ) (chroma : IntraChromaPredMode) (mode : Intra16x16PredMode) (c : Coefficients) → mb.kind ≡
    kind.Intra16x16 mode → mb.contexts.modes ≡ replicate 16 Dc → mb.chroma_mode ≡ chroma → mb.contexts.slice ≡ slice → mb.contexts.intra ≡ true →
    mb.contexts.qp ≡ mb.qp → mb.contexts.motions ≡ replicate 16 None → length mb.contexts.totals ≡ 16 → length mb.contexts.chroma_totals ≡ 8 →
    StoredCoefficients16 mb c → HoldsMacroblock mb (coded slice (Intra16x16 mode chroma) c)
unfolding coded
holds-intra16x16 mb slice chroma mode c ek em ec es ei eq ev nt nc s = record {
  contexts = record {
    slice = sym es;
    intra = sym ei;
    qp = s.qp ∙ sym eq;
    totals = s.luma.counted ∙ whole mb.contexts.totals 16 (omega arith);
    chroma_totals = s.chroma.ac.counted ∙ whole mb.contexts.chroma_totals 8 (omega arith);
    modes = λ n h. rw em (ap Some (sym (get_or-replicate 16 n Dc Vertical h)));
    motions = λ n h. no-motion mb.contexts.motions n ev h;
  };
  qp = s.qp;
  prediction = rw (ek, ec) refl;
  luma = rw ek (record { each = s.luma.each }, s.luma_dc);
  chroma = rw ek (record { each = s.chroma.dc.each }, record { each = s.chroma.ac.each });
}

pub holds-pcm : (mb : Macroblock) (slice : ℕ) (samples : List ℕ) → mb.kind ≡ kind.Pcm → mb.pcm ≡ samples → mb.contexts.slice ≡ slice →
    mb.contexts.intra ≡ true → mb.contexts.qp ≡ 0 → mb.contexts.totals ≡ replicate 16 16 → mb.contexts.chroma_totals ≡ replicate 8 16 →
    mb.contexts.modes ≡ replicate 16 Dc → mb.contexts.motions ≡ replicate 16 None → HoldsMacroblock mb (pcm_of slice mb.qp samples)
unfolding pcm_of
holds-pcm mb slice samples ek ep es ei eq et ec em ev = record {
  contexts = record {
    slice = sym es;
    intra = sym ei;
    qp = sym eq;
    totals = sym et;
    chroma_totals = sym ec;
    modes = λ n h. rw em (ap Some (sym (get_or-replicate 16 n Dc Vertical h)));
    motions = λ n h. no-motion mb.contexts.motions n ev h;
  };
  qp = refl;
  prediction = rw (ek, ep) refl;
  luma = rw ek tt;
  chroma = rw ek tt;
}

-- a macroblock by the type of its slice
pub typed : {X S : Type 0} {took : S → List Call → Type 0} {failures : S → ℕ} {R : X → CodedMacroblock → Type 0} {old new : Reader} {s s' : S}
    {r : Result X Stop} (t want : SliceType) (width : ℕ) (slice : SliceContext) (picture : List CodedMacroblock) (bit kind : ℕ) → t ≡ want →
    Meets (span took failures s s') R (by_type want width slice picture bit kind) old new r →
    Meets (span took failures s s') R (by_type t width slice picture bit kind) old new r
typed t want width slice picture bit kind e m = rw e m

-- an inter macroblock of a P slice, whose mb_type is in range
pub of-inter : {X S : Type 0} {took : S → List Call → Type 0} {failures : S → ℕ} {R : X → CodedMacroblock → Type 0} {old new : Reader} {s s' : S}
    {r : Result X Stop} (width : ℕ) (slice : SliceContext) (picture : List CodedMacroblock) (bit kind : ℕ) → kind < 5 →
    Meets (span took failures s s') R (inter width slice picture bit kind) old new r →
    Meets (span took failures s s') R (by_type slice_type.P width slice picture bit kind) old new r
unfolding by_type
of-inter {took = took} {failures} {old = old} {s = s} width slice picture bit kind h m =
    let e : nat_le kind 30 ≡ true = grind (arith, nat_tests) in
    let i : nat_lt kind 5 ≡ true = grind (arith, nat_tests) in
    bind _ (checked took failures {rule = Range} {bit = bit} {holds = nat_le kind 30} old s {r = Ok tt} (record { checks = e })) (rw i m)

-- an intra macroblock of a P slice: its mb_type is in range as that of an I slice is
pub of-intra : {X S : Type 0} {took : S → List Call → Type 0} {failures : S → ℕ} {R : X → CodedMacroblock → Type 0} {old new : Reader} {s s' : S}
    {r : Result X Stop} (width : ℕ) (slice : SliceContext) (picture : List CodedMacroblock) (bit kind : ℕ) → 5 ≤ kind →
    Meets (span took failures s s') R (by_type slice_type.I width slice picture bit (kind - 5)) old new r →
    Meets (span took failures s s') R (by_type slice_type.P width slice picture bit kind) old new r
unfolding by_type
of-intra width slice picture bit kind h m =
    let i : nat_lt kind 5 ≡ false = grind (arith, nat_tests) in
    let e : nat_le kind 30 ≡ nat_le (kind - 5) 25 = grind (arith, nat_tests) in
    rw (i, e) m

some-at : (m : Option Motion) → is_some m ≡ true → option_map (λ x. Some x) m ≡ Some m
some-at None e = absurd (cc)
some-at (Some x) e = refl

-- every block of an inter macroblock has its reference and vector
pub all-derived : (motions : List (Option Motion)) (n : ℕ) → map is_some motions ≡ replicate 16 true → n < 16 →
    option_map (λ x. Some x) (get_or motions n None) ≡ Some (get_or motions n None)
all-derived motions n e h = some-at (get_or motions n None)
    (sym (math.get_or-map is_some motions n None) ∙ (ap (λ l. get_or l n false) e ∙ get_or-replicate 16 n true false h))

pub holds-inter : (mb : Macroblock) (slice : ℕ) (d : Derived) (within : Bool) (partition : Partition) (c : Coefficients) → mb.kind ≡ kind.Inter partition →
    MovesByPartition partition mb.contexts.motions → Agrees within mb.contexts.motions (replicate 16 true) d → within ≡ true →
    mb.contexts.modes ≡ replicate 16 Dc → mb.contexts.slice ≡ slice → mb.contexts.intra ≡ false → mb.contexts.qp ≡ mb.qp → mb.residual.luma_dc_total ≡ 0 →
    length mb.contexts.totals ≡ 16 → length mb.contexts.chroma_totals ≡ 8 → StoredCoefficients mb c → HoldsMacroblock mb (coded slice (Inter d.motions) c)
unfolding coded no_block
holds-inter mb slice d within partition c ek parted a w em es ei eq ed nt nc s = record {
  contexts = record {
    slice = sym es;
    intra = sym ei;
    qp = s.qp ∙ sym eq;
    totals = s.luma.counted ∙ whole mb.contexts.totals 16 (omega arith);
    chroma_totals = s.chroma.ac.counted ∙ whole mb.contexts.chroma_totals 8 (omega arith);
    modes = λ n h. rw em (ap Some (sym (get_or-replicate 16 n Dc Vertical h)));
    motions = λ n h. rw (a.same w) (all-derived d.motions n a.derived h);
  };
  qp = s.qp;
  prediction = rw ek (ap Inter (sym (a.same w)), parted);
  luma = rw ek (record { each = s.luma.each }, ap (λ (b : Block). b.by_place) s.luma_dc ∙ rw ed refl);
  chroma = rw ek (record { each = s.chroma.dc.each }, record { each = s.chroma.ac.each });
}
