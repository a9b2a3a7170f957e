-- Turns of the loop over the macroblocks of a slice, for anything that the code keeps of them.
use Rattle.std.proofs.Common.{◌≡◌, ℕ, suc, ◌+◌, ◌-◌, ◌<◌, ◌≤◌, Bool, List, Ok, sym, subst, arith, Option, Some, None, Err}
use Rattle.h264_base.specs.declared.stop.Stop.{Stop}
use Rattle.h264_base.specs.Call.{Call, span}
use Rattle.h264_base.specs.Grammar.{Grammar, Done}
use Rattle.h264_base.specs.Meets.{Reader, Meets}
use Rattle.h264_base.proofs.Steps.{Leads, leads-starts, leads-then, reads, stop, done, finish}
use Rattle.h264_near.specs.Coded.{CodedMacroblock}
use Rattle.h264_vectors.specs.declared.slice.SliceContext.{SliceContext}
use Rattle.h264_mbsyntax.specs.declared.slice.Standing.{Standing}
use Rattle.h264_mbsyntax.specs.Slice.{Step, next, go_on, macroblocks, Goes}

module _ {S : Type 0} {took : S → List Call → Type 0} {failures : S → ℕ} where
  went : {g : Grammar (List CodedMacroblock)} {old mid : Reader} {s s'' : S} (width : ℕ) (now : List CodedMacroblock) (K : List CodedMacroblock → Type 0)
      (rest : Standing → List CodedMacroblock → Grammar (List CodedMacroblock)) (standing : Standing) (v : Step) → Goes K now (Some standing) v →
      Leads took failures g (go_on now rest v) old mid s s'' → (now' : List CodedMacroblock) × K now' ×
      Leads took failures g (rest standing now') old mid s s''
  went width now K rest standing None r l = absurd r
  went {g} {old} {mid} {s} {s''} width now K rest standing (Some x) r l = (x.1, r.1, subst (λ t. Leads took failures g (rest t x.1) old mid s s'') (sym r.0) l)

  -- one macroblock more
  pub turn-next : {g : Grammar (List CodedMacroblock)} {old bits mid : Reader} {s s' s'' : S} {nxt : Standing} (fits : CodedMacroblock → Bool) (width : ℕ)
      (slice : SliceContext) (left turn : ℕ) (now : List CodedMacroblock) (K : List CodedMacroblock → Type 0) (standing : Standing) → turn < left →
      Leads took failures g (macroblocks fits width slice (left - turn) standing now) old bits s s' →
      Meets (span took failures s' s'') (Goes K now) (next fits width slice (left - turn) now standing) bits mid (Ok (Some nxt)) →
      (now' : List CodedMacroblock) × K now' × Leads took failures g (macroblocks fits width slice (left - (turn + 1)) nxt now') old mid s s''
  unfolding macroblocks
  turn-next {g} {old} {bits} {mid} {s} {s'} {s''} {nxt} fits width slice left turn now K standing h l m =
      let n : left - turn ≡ suc (left - (turn + 1)) = omega arith in
      let P : ℕ → Type 0 = λ k. Leads took failures g (macroblocks fits width slice k standing now) old bits s s' in
      let M : ℕ → Type 0 = λ k. Meets (span took failures s' s'') (Goes K now) (next fits width slice k now standing) bits mid (Ok (Some nxt)) in
      let m' : M (suc (left - (turn + 1))) = subst M n m in
      went width now K (λ s p. macroblocks fits width slice (left - (turn + 1)) s p) nxt m'.meets.0 m'.meets.1 (leads-then (subst P n l) (reads _ m'))

  -- the slice data have ended
  ended : {R : Unit {0} → List CodedMacroblock → Type 0} {g : Grammar (List CodedMacroblock)} {old mid : Reader} {s s'' : S} (width : ℕ)
      (now : List CodedMacroblock) (K : List CodedMacroblock → Type 0) (rest : Standing → List CodedMacroblock → Grammar (List CodedMacroblock)) (v : Step) →
      ((p : List CodedMacroblock) → K p → R tt p) → Goes K now None v → Leads took failures g (go_on now rest v) old mid s s'' →
      Meets (span took failures s s'') R g old mid (Ok tt)
  ended {R = R} {mid = mid} {s'' = s''} width now K rest None k r l = finish l (done took failures R now mid s'' tt (k now r))
  ended width now K rest (Some x) k r l = absurd r

  pub turn-end : {R : Unit {0} → List CodedMacroblock → Type 0} {g : Grammar (List CodedMacroblock)} {old bits mid : Reader} {s s' s'' : S}
      (fits : CodedMacroblock → Bool) (width : ℕ) (slice : SliceContext) (left turn : ℕ) (now : List CodedMacroblock) (K : List CodedMacroblock → Type 0)
      (standing : Standing) → turn < left → ((p : List CodedMacroblock) → K p → R tt p) →
      Leads took failures g (macroblocks fits width slice (left - turn) standing now) old bits s s' →
      Meets (span took failures s' s'') (Goes K now) (next fits width slice (left - turn) now standing) bits mid (Ok None) →
      Meets (span took failures s s'') R g old mid (Ok tt)
  unfolding macroblocks
  turn-end {g = g} {old = old} {bits = bits} {mid = mid} {s = s} {s' = s'} {s'' = s''} fits width slice left turn now K standing h k l m =
      let n : left - turn ≡ suc (left - (turn + 1)) = omega arith in
      let P : ℕ → Type 0 = λ k. Leads took failures g (macroblocks fits width slice k standing now) old bits s s' in
      let M : ℕ → Type 0 = λ k. Meets {X = Option Standing} (span took failures s' s'') (Goes K now) (next fits width slice k now standing) bits mid
      (Ok None) in
      let m' : M (suc (left - (turn + 1))) = subst M n m in
      ended width now K (λ s p. macroblocks fits width slice (left - (turn + 1)) s p) m'.meets.0 k m'.meets.1 (leads-then (subst P n l) (reads _ m'))

  pub turn-stop : {R : Unit {0} → List CodedMacroblock → Type 0} {g : Grammar (List CodedMacroblock)} {old bits mid : Reader} {s s' s'' : S} {e : Stop}
      (fits : CodedMacroblock → Bool) (width : ℕ) (slice : SliceContext) (left turn : ℕ) (now : List CodedMacroblock) (K : List CodedMacroblock → Type 0)
      (standing : Standing) → turn < left → Leads took failures g (macroblocks fits width slice (left - turn) standing now) old bits s s' →
      Meets {X = Option Standing} (span took failures s' s'') (Goes K now) (next fits width slice (left - turn) now standing) bits mid (Err e) →
      Meets (span took failures s s'') R g old mid (Err e)
  unfolding macroblocks
  turn-stop {g = g} {old = old} {bits = bits} {mid = mid} {s = s} {s' = s'} {s'' = s''} {e = e} fits width slice left turn now K standing h l m =
      let n : left - turn ≡ suc (left - (turn + 1)) = omega arith in
      let P : ℕ → Type 0 = λ k. Leads took failures g (macroblocks fits width slice k standing now) old bits s s' in
      let M : ℕ → Type 0 = λ k. Meets {X = Option Standing} (span took failures s' s'') (Goes K now) (next fits width slice k now standing) bits mid (Err e) in
      finish (subst P n l) (stop _ (subst M n m))

  -- the picture has no more macroblocks
  over : {R : Unit {0} → List CodedMacroblock → Type 0} {g : Grammar (List CodedMacroblock)} {old mid : Reader} {s s'' : S} (width : ℕ)
      (now : List CodedMacroblock) (K : List CodedMacroblock → Type 0) (x : Option Standing) (v : Step) → ((p : List CodedMacroblock) → K p → R tt p) →
      Goes K now x v → Leads took failures g (go_on now (λ s p. Done p) v) old mid s s'' → Meets (span took failures s s'') R g old mid (Ok tt)
  over {R = R} {mid = mid} {s'' = s''} width now K None None k r l = finish l (done took failures R now mid s'' tt (k now r))
  over width now K None (Some y) k r l = absurd r
  over width now K (Some x) None k r l = absurd r
  over {R = R} {mid = mid} {s'' = s''} width now K (Some x) (Some y) k r l = finish l (done took failures R y.1 mid s'' tt (k y.1 r.1))

  pub turns-over : {R : Unit {0} → List CodedMacroblock → Type 0} {g : Grammar (List CodedMacroblock)} {old bits mid : Reader} {s s' s'' : S}
      {x : Option Standing} (fits : CodedMacroblock → Bool) (width : ℕ) (slice : SliceContext) (left turn : ℕ) (now : List CodedMacroblock)
      (K : List CodedMacroblock → Type 0) (standing : Standing) → left ≤ turn → ((p : List CodedMacroblock) → K p → R tt p) →
      Leads took failures g (macroblocks fits width slice (left - turn) standing now) old bits s s' →
      Meets (span took failures s' s'') (Goes K now) (next fits width slice 0 now standing) bits mid (Ok x) →
      Meets (span took failures s s'') R g old mid (Ok tt)
  unfolding macroblocks
  turns-over {g = g} {old = old} {bits = bits} {s = s} {s' = s'} {x = x} fits width slice left turn now K standing h k l m =
      let n : left - turn ≡ 0 = omega arith in
      let P : ℕ → Type 0 = λ k. Leads took failures g (macroblocks fits width slice k standing now) old bits s s' in
      over width now K x m.meets.0 k m.meets.1 (leads-then (subst P n l) (reads _ m))

  pub over-stop : {R : Unit {0} → List CodedMacroblock → Type 0} {g : Grammar (List CodedMacroblock)} {old bits mid : Reader} {s s' s'' : S} {e : Stop}
      (fits : CodedMacroblock → Bool) (width : ℕ) (slice : SliceContext) (left turn : ℕ) (now : List CodedMacroblock) (K : List CodedMacroblock → Type 0)
      (standing : Standing) → left ≤ turn → Leads took failures g (macroblocks fits width slice (left - turn) standing now) old bits s s' →
      Meets {X = Option Standing} (span took failures s' s'') (Goes K now) (next fits width slice 0 now standing) bits mid (Err e) →
      Meets (span took failures s s'') R g old mid (Err e)
  unfolding macroblocks
  over-stop {g = g} {old = old} {bits = bits} {s = s} {s' = s'} fits width slice left turn now K standing h l m =
      let n : left - turn ≡ 0 = omega arith in
      let P : ℕ → Type 0 = λ k. Leads took failures g (macroblocks fits width slice k standing now) old bits s s' in
      finish (subst P n l) (stop _ m)

  pub turns-start : (fits : CodedMacroblock → Bool) (width : ℕ) (slice : SliceContext) (left : ℕ) (standing : Standing) (picture : List CodedMacroblock)
      (old : Reader) (s : S) → Leads took failures (macroblocks fits width slice left standing picture)
      (macroblocks fits width slice (left - 0) standing picture) old old s s
  turns-start fits width slice left standing picture old s =
      let n : left ≡ left - 0 = omega arith in
      let P : ℕ → Type 0 = λ k. Leads took failures (macroblocks fits width slice left standing picture) (macroblocks fits width slice k standing picture) old
      old s s in
      subst P n (leads-starts took failures _ old s)
