-- What a scan has found, some bytes further.
use Rattle.std.proofs.Common.{◌≡◌, ◌≢◌, ℕ, zero, suc, ◌+◌, ◌-◌, ◌<◌, ◌≤◌, nat_eq, List, [], ◌∷◌, ◌++◌, length, replicate, take, drop, get_or, refl, ap, sym}
use Rattle.std.proofs.Common.{◌∙◌, subst, arith, append_assoc}
use Rattle.std.proofs.lemmas.List.{append-nil, take_more, take-take, drop-take, take-append-drop, replicate_more}
use Rattle.h264_units.specs.declared.scan.Phase.TheVariants.{Inside, Waiting}
use Rattle.h264_units.specs.Stream.{EndsUnit, IsInner}
use Rattle.h264_units.specs.Scanned.{third, gained, Scans}
use Rattle.h264_units.proofs.Streams.{inner-more}

-- two parts between which no unit ends
pub inner-append : (a b : List ℕ) → IsInner a → IsInner b → IsInner (a ++ b)
inner-append [] b p q = q
inner-append (x ∷ a) b p q = (inner-more x a b p.0, inner-append a b p.1 q)

pub take-both : (i n : ℕ) (l : List ℕ) → take (i + n) l ≡ take i l ++ take n (drop i l)
take-both i n l =
    sym (take-append-drop i (take (i + n) l))
    ∙ ap (λ t. t ++ drop i (take (i + n) l)) (take-take i (i + n) l (omega arith))
    ∙ ap (λ t. take i l ++ t) (drop-take i n l)

above-one : (a b c : ℕ) → 1 < c → IsInner (a ∷ b ∷ c ∷ [])
above-one a b c high =
    (λ p. let e : c < 2 = p.2 in omega arith, (λ p. let e : c ≡ 0 = p.1 in omega arith, (λ p. let e : c ≡ 0 = p in omega arith, tt)))

-- three more bytes, the last of which ends no unit
pub inner-three : (l : List ℕ) (n : ℕ) → IsInner (take n l) → n + 2 < length l → 1 < get_or l (n + 2) 0 → IsInner (take (n + 3) l)
inner-three l zero p more high = by l more high
  where
    by : (l : List ℕ) → 2 < length l → 1 < get_or l 2 0 → IsInner (take 3 l)
    by [] m h = absurd (omega (arith, m))
    by (a ∷ []) m h = absurd (omega (arith, m))
    by (a ∷ b ∷ []) m h = absurd (omega (arith, m))
    by (a ∷ b ∷ c ∷ l) m h = above-one a b c h
inner-three [] (suc n) p more high = absurd (omega (arith, more))
inner-three (x ∷ l) (suc n) p more high =
    let e : suc (n + 3) ≡ suc n + 3 = omega arith in
    let inside : (EndsUnit (x ∷ take n l) → ⊥) × IsInner (take n l) = p in
    let first : EndsUnit (x ∷ take (n + 3) l) →
    ⊥ = subst (λ t. EndsUnit (x ∷ t) → ⊥) (sym (take-both n 3 l)) (inner-more x (take n l) (take 3 (drop n l)) inside.0) in
    let place : suc (n + 2) ≡ suc n + 2 = omega arith in
    let above : 1 < get_or l (n + 2) 0 = subst (λ k. 1 < get_or (x ∷ l) k 0) (sym place) high in
    subst (λ m. IsInner (take m (x ∷ l))) e (first, inner-three l n inside.1 (omega arith) above)

-- zeros that were held back, and a byte that makes them the unit's
pub inner-zeros : (zeros byte : ℕ) → zeros < 3 → byte ≢ 0 → (byte < 2 → zeros ≢ 2) → IsInner (replicate zeros 0 ++ byte ∷ [])
inner-zeros zero byte p q r = (q, tt)
inner-zeros (suc zero) byte p q r = (λ h. q h.1, (q, tt))
inner-zeros (suc (suc zero)) byte p q r = (λ h. r h.2 refl, (λ h. q h.1, (q, tt)))
inner-zeros (suc (suc (suc n))) byte p q r = absurd (omega arith)

pub gained-some : (held : ℕ) (piece : List ℕ) (n : ℕ) → 0 < n → gained held piece n ≡ replicate held 0 ++ take n piece
gained-some held piece zero h = absurd (omega arith)
gained-some held piece (suc n) h = refl

third-byte : (byte : ℕ) → byte < 2 → third (nat_eq byte 1) ≡ byte
third-byte zero h = refl
third-byte (suc zero) h = refl
third-byte (suc (suc n)) h = absurd (omega arith)

module _ (held : ℕ) (piece : List ℕ) (i : ℕ) (byte : ℕ) (more : i < length piece) (here : get_or piece i 0 ≡ byte) where
  -- the bytes with one more
  one-more : replicate held 0 ++ take (i + 1) piece ≡ (replicate held 0 ++ take i piece) ++ byte ∷ []
  one-more = ap (λ t. replicate held 0 ++ t) (take_more piece i 0 more ∙ ap (λ b. take i piece ++ b ∷ []) here) ∙
      sym (append_assoc (replicate held 0) (take i piece) (byte ∷ []))

  pub scans-end : Scans held piece i (Inside 2) → byte < 2 → Scans held piece (i + 1) (Waiting (nat_eq byte 1))
  scans-end s low =
      let k : i + 1 - 3 ≡ i - 2 = omega arith in
      record {
        within = omega arith;
        in_unit = tt;
        whole = ap (λ n. gained held piece n ++ 0 ∷ 0 ∷ third (nat_eq byte 1) ∷ []) k
            ∙ ap (λ b. gained held piece (i - 2) ++ 0 ∷ 0 ∷ b ∷ []) (third-byte byte low)
            ∙ sym (append_assoc (gained held piece (i - 2)) (0 ∷ 0 ∷ []) (byte ∷ []))
            ∙ ap (λ l. l ++ byte ∷ []) s.whole ∙ sym one-more;
        inner = subst (λ n. IsInner (gained held piece n)) (sym k) s.inner;
      }

  pub scans-zero : (zeros : ℕ) → Scans held piece i (Inside zeros) → byte ≡ 0 → zeros < 2 → Scans held piece (i + 1) (Inside (zeros + 1))
  scans-zero zeros s z few =
      let k : i + 1 - (zeros + 1) ≡ i - zeros = omega arith in
      record {
        within = omega arith;
        in_unit = omega arith;
        whole = ap (λ n. gained held piece n ++ replicate (zeros + 1) 0) k
            ∙ ap (λ l. gained held piece (i - zeros) ++ l) (sym (replicate_more zeros 0))
            ∙ sym (append_assoc (gained held piece (i - zeros)) (replicate zeros 0) (0 ∷ []))
            ∙ ap (λ l. l ++ 0 ∷ []) s.whole ∙ ap (λ b. (replicate held 0 ++ take i piece) ++ b ∷ []) (sym z) ∙ sym one-more;
        inner = subst (λ n. IsInner (gained held piece n)) (sym k) s.inner;
      }

  pub scans-others : (zeros run : ℕ) → Scans held piece i (Inside zeros) → byte ≢ 0 → (byte < 2 → zeros ≢ 2) → i + 1 + run ≤ length piece →
      IsInner (take run (drop (i + 1) piece)) → Scans held piece (i + 1 + run) (Inside 0)
  scans-others zeros run s other code within inner =
      let some = gained-some held piece (i + 1 + run) (omega arith) in
      let k : i + 1 + run - 0 ≡ i + 1 + run = omega arith in
      record {
        within = within;
        in_unit = omega arith;
        whole = append-nil (gained held piece (i + 1 + run - 0)) ∙ ap (gained held piece) k ∙ some;
        inner = subst IsInner (sym (ap (gained held piece) k ∙ some ∙ parts))
            (inner-append (gained held piece (i - zeros)) (replicate zeros 0 ++ byte ∷ tail) s.inner
            (subst IsInner (append_assoc (replicate zeros 0) (byte ∷ []) tail)
            (inner-append (replicate zeros 0 ++ byte ∷ []) tail (inner-zeros zeros byte s.in_unit other code) inner)));
      }
    where
      tail : List ℕ
      tail = take run (drop (i + 1) piece)

      parts : replicate held 0 ++ take (i + 1 + run) piece ≡ gained held piece (i - zeros) ++ (replicate zeros 0 ++ byte ∷ tail)
      parts =
          ap (λ l. replicate held 0 ++ l) (take-both (i + 1) run piece)
          ∙ sym (append_assoc (replicate held 0) (take (i + 1) piece) tail)
          ∙ ap (λ l. l ++ tail) (one-more ∙ ap (λ l. l ++ byte ∷ []) (sym s.whole))
          ∙ append_assoc (gained held piece (i - zeros) ++ replicate zeros 0) (byte ∷ []) tail
          ∙ append_assoc (gained held piece (i - zeros)) (replicate zeros 0) (byte ∷ tail)
