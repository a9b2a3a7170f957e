-- `into_box` makes the box again.
use Rattle.std.proofs.Common.{◌≡◌, List, [], ◌∷◌, ◌++◌, refl, sym, ap, subst}
use base.Fraction.{full_share}
use mir.Syntax.{dnil, tcons, tnil, impl, Dict}
use mir.Raw.{raw as bare}
use mir.Val.{Val, has_ty, WT, vptr, vstruct, vcons, vnil, of_list}
use base.Logic.{SProp, ent, emp, never, id⊢, fst∗}
use base.Fml.{ftrue, flft}
use prog.Wp.{WpFn}
use types.Logic.{sem}
use types.Kit.{‵, raw, ◌⊛◌, some, later, at_ret, ◌$◌, ◌∵◌, !, qed, done, move, drop, split, split3, join, fsplit, fjoin, fpick, pick, suffices, use0, use1}
use types.Kit.{await, rewrite, feq_i, feq_l}
use types.Run.{stop, fld, of_opd, no_more, and_then, first, blocks, exec, returns, enter}
use types.ByLocal.{alloc_all, pass_all, free_all, look_at, get, get_in, sets, lands_last, env}
use types.Part.{sub, whole}
use types.Tokens.{lft_new}
use contract.Monad.{fact, fact_i}
use contract.Lifetimes.{Lfts}
use contract.BorrowLft.{◌⊑◌, ⊑_static}
use contract.Running.{tables}
use denote.Exit.{yes, no}
use denote.RattleType.{RattleType, owns}
use denote.Signature.{types_at, plain}
use denote.Memory.{lone}
use denote.RawPtr.{Ptr, block_ptr, null_ptr, ptr_val, in_a_block}
use denote.Steps.{nothing, only}
use denote.Param.{layout, arg}
use denote.Param.Laws.{Laws, arg_laws}
use denote.Param.NoDrop.{glues}
use denote.Triple.Clauses.{Lasts, lasts}
use denote.Triple.Spec.{triple_of}
use denote.Triple.Call.{calls_at_last}
use denote.Triple.Walked.{Stays, stay_dropped, Goes-dropped, walk_of, ends_at}
use Rattle.std.proofs.alloc.Calls.{handle_tells}
use Rattle.std.proofs.alloc.Shapes.{after}
use denote.Triple.Table.{framed}
use lib.Dec.{T as Holds}
use Rattle.std.specs.Box.Ownership.{box_owns}
use Rattle.std.proofs.BoxSteps.Form as box
use Rattle.std.proofs.BoxSteps.Form.{box_typed}
use Rattle.std.proofs.BoxSteps.Steps.{box_out, box_in}
use Rattle.std.proofs.raw_atomic.Walks.{proved_at}
use Rattle.std.specs.contracts.alloc.Global as global
use Rattle.std.proofs.alloc.Global.TheLaws as global-laws
use Rattle.std.specs.contracts.impls.GlobalAllocator.TheImpl as heap
use Rattle.std.proofs.impls.GlobalAllocator.TheImpl.Met as heap-met
use Rattle.std.specs.contracts.boxed.Box.from_raw as callee
use Rattle.std.proofs.boxed.Box.from_raw.Met.{met}
use Rattle.h264_c.specs.contracts.stream.Stream as stream
use Rattle.h264_c.proofs.stream.Stream.TheLaws as stream-laws
use Rattle.h264_c.specs.contracts.stream.Handle as handle
use Rattle.h264_c.specs.contracts.stream.Handle.into_box as f
use Rattle.h264_c.proofs.stream.Handle.into_box.Statement.{statement}
use Rattle.h264_c.proofs.stream.Handle.into_box.Code as code

abbrev T : RattleType
T = arg (bare (layout stream.the_row)) no stream.the_row

abbrev A : RattleType
A = arg (bare (layout global.the_row)) no global.the_row

abbrev LT : Laws T
LT = arg_laws (bare (layout stream.the_row)) no stream.the_row stream-laws.the_row_laws refl

abbrev LA : Laws A
LA = arg_laws (bare (layout global.the_row)) no global.the_row global-laws.the_row_laws refl

abbrev dd : Dict
dd = impl ("h264_c::Destruct++none::drop" ∷ []) (tcons (layout A) tnil) dnil

abbrev E : box.Bx
E = record { row = T; laws = LT; al = record { row = A; laws = LA; g = heap.ghosts; d = heap.dict; drops = dd } }

abbrev stayed : Stays f.ended.signature.params f.ended.kept
stayed = (stay_dropped _ yes, (stay_dropped _ yes, tt))

pub into_box_spec : {M : Type 1} → statement M
unfolding Rattle.h264_c.proofs.Destruct++none.drop.Code.code
into_box_spec {M} 𝓤 𝓛 𝓜 𝓡 wired =
    let H = 𝓛.H in let 𝓣 = tables 𝓤 H 𝓜 𝓡 𝓡.env in let c = f.clauses 𝓛 𝓜.mem 𝓡.returns in let fn = code.function in
    proved_at 𝓛 f.ended stayed c 𝓜 𝓡 (
      Goes-dropped 𝓛 0 (plain (λ _. handle.the_row)) yes (λ κs x w. refl),
      (Goes-dropped 𝓛 0 (plain (λ _. global.the_row)) yes (λ κs x w. refl), tt),
    )
    f.Key.name fn (code.unfolded 𝓤 H 𝓜 𝓡 wired) (λ z are.
    let v = z.0.3.0 in let a = z.0.3.1.0 in let Post : Val → SProp 𝓤 = (walk_of 𝓛 f.ended stayed c).post z in
    let Run : List Val → SProp 𝓤 = λ ws. WpFn 𝓤 H 𝓣.C 𝓣.Λ fn ws Post in
    qed 𝓛 ((‵ ftrue ⊛ ‵ (owns (types_at f.ended.signature.params tt) z.0.3 z.0.4)) ∷ raw ((c tt z.0.3).requires z.1) ∷ []) ∵
    split ! $ drop ! $ fsplit ! $
    -- the handle
    fsplit ! $ fpick ! (λ vss. fsplit ! $ feq_l ! (λ ev. fsplit ! $ feq_l ! (λ ep. drop ! $
    in_a_block ! v.at (λ p. box_owns (heap.ghosts.dealloc_token a) T p v.value)
    (fst∗ 𝓤 (never 𝓤) (sem 𝓛 (heap.ghosts.dealloc_token a (bare (lone T.mir)) null_ptr))) (λ b o e.
    let w : Val = vstruct (vcons (vptr b o) vnil) in
    let at_w : z.0.4.0 ≡ w ∷ [] = subst (λ (p : Ptr). z.0.4.0 ≡ vstruct (of_list (ptr_val p ∷ [])) ∷ []) e
    (subst (λ (ps : List Val). z.0.4.0 ≡ vstruct (of_list (ps ++ [])) ∷ []) ep ev) in
    -- [the box's memory; what the other parameters own; nothing asked]
    move ! (1 ∷ []) $ fsplit ! $ handle_tells E.al ! a z.0.4.1.0 (λ h eh fits.
    -- [the allocator; no more; the memory; nothing asked]
    move ! (1 ∷ []) $ drop ! $ move ! (2 ∷ []) $ drop ! $
    suffices ! (Run (w ∷ h ∷ [])) (subst (λ (us : List Val). ent 𝓤 (Run (w ∷ h ∷ [])) (Run us)) (sym (λ i. at_w i ++ (eh i ++ [])))
    (id⊢ 𝓤 (Run (w ∷ h ∷ [])))) $
    enter ! 𝓣.C 𝓣.Λ fn (w ∷ h ∷ []) Post $ alloc_all ! (λ l. pass_all ! refl ((tt, (tt, tt)), (fits, tt)) $ let Ev = env fn.locals l in
    sets ! (of_opd ! (get_in ! (fld ! refl (stop !)) (sub ! 0 refl (whole !)))) refl (tt, tt) $
    first ! $ blocks ! $ sets ! (of_opd ! (get ! refl)) refl (tt, tt) $
    lft_new ! tt (λ α. lft_new ! tt (λ β.
    -- [β; α; the allocator; the memory]
    let k = triple_of 𝓛 (callee.signature T A heap.ghosts heap.dict dd) (callee.spec T A heap.ghosts heap.dict dd 𝓛 𝓜.mem 𝓡.returns) in
    let κs : Lfts 2 = (α ∷ [], (β ∷ [], tt)) in
    let y : k.Ghost = ((κs, (full_share, (full_share, tt)), tt, (a, (block_ptr b o, tt)), (h ∷ [], (vptr b o ∷ [], tt))), v.value) in
    nothing ! $ move ! (1 ∷ 0 ∷ []) $ join ! $ move ! (1 ∷ 0 ∷ []) $ join ! $
    -- [the tokens; the allocator; the memory]
    move ! (2 ∷ []) $ use0 𝓛 (raw (fact 𝓤 (κs.1.0 ⊑ A.lives))) (fact_i 𝓤 (κs.1.0 ⊑ A.lives) (emp 𝓤) (⊑_static κs.1.0)) $ join ! $
    use0 𝓛 (raw (fact 𝓤 (κs.0 ⊑ T.lives))) (fact_i 𝓤 (κs.0 ⊑ T.lives) (emp 𝓤) (⊑_static κs.0)) $ join ! $
    -- [what is asked; the tokens; the allocator]
    nothing ! $ feq_i ! (List Val) (vptr b o ∷ []) (vptr b o ∷ []) refl $ fjoin ! $ move ! (3 ∷ 0 ∷ []) $ fjoin ! $ move ! (2 ∷ 0 ∷ []) $ join ! $ join ! $
    use1 𝓛 (raw (k.pre y)) (id⊢ 𝓤 _) $
    calls_at_last ! (framed 𝓤 H 𝓜 𝓣) k (met 𝓤 𝓛 𝓜 𝓡 (code.calls-std_alloc::boxed::Box::from_raw 𝓡.env wired) T A LT LA heap.ghosts heap.dict dd
    (heap-met.passed 𝓡.env (code.calls-std_heap::GlobalAllocator::allocate 𝓡.env wired) (code.calls-std_heap::GlobalAllocator::deallocate 𝓡.env wired)
    (code.calls-std_heap::GlobalAllocator::grow 𝓡.env wired) (code.calls-std_heap::GlobalAllocator::shrink 𝓡.env wired) M 𝓤 𝓛 𝓜 𝓡)
    (glues "h264_c::Destruct++none::drop" 𝓡.env (code.calls-h264_c::Destruct++none::drop 𝓡.env wired) A LA M 𝓤 𝓛 𝓜 𝓡)) y
    (and_then ! (get ! refl) (and_then ! (get ! refl) (no_more !))) (λ u.
    let B : RattleType = box.B E in
    use1 𝓛 (later (some (λ (r : B.Denot). ((‵ (flft κs.0 full_share) ⊛ ‵ (flft κs.1.0 full_share) ⊛ ‵ ftrue) ⊛ ‵ (B.own_val r (u ∷ []))) ⊛ some
    (λ (ls : Lasts (callee.ended T A heap.ghosts heap.dict dd) κs y.0.3). ‵ (lasts (callee.ended T A heap.ghosts heap.dict dd) κs y.0.3 ls) ⊛
    (raw (fact 𝓤 (r.value ≡ v.value)) ⊛ raw (fact 𝓤 (r.alloc ≡ a))))))) (id⊢ 𝓤 (k.post y u)) $
    await ! tt $ pick ! (λ r. split ! $ split ! $ drop ! $ move ! (1 ∷ []) $ pick ! (λ _. split3 ! $ drop ! $ move ! (2 ∷ []) $
    box_out E ! r (u ∷ []) (λ b' o' h' e' us fits'. box_in E ! r b' o' r.value e' refl $ rewrite ! 0 (λ (xs : List Val). ‵ (B.own_val r xs)) (sym us) refl $
    let Fits : Val → Type 0 = λ x. Holds (has_ty (layout B) x) × WT x in let good : Fits u = subst Fits (sym (ap only us)) (box_typed E h' b' o' fits') in
    lands_last ! refl good $ exec ! 𝓣.C 𝓣.Λ Ev (after 2 fn.body) (at_ret Ev Post) $ sets ! (of_opd ! (get ! refl)) refl good $
    -- [the box; what is said of it]
    returns ! (look_at ! 0 refl) $ free_all ! refl $
    suffices ! _ (ends_at 𝓛 f.ended stayed c z u r (tt, (tt, tt)) (tt, (tt, tt))) $
    nothing ! $ nothing ! $ fjoin ! $ nothing ! $ fjoin ! $ join ! $ nothing ! $ join ! $ move ! (2 ∷ []) $ drop ! $ done !)))))))))))))
