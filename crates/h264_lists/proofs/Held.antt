-- A list has frames of those that are held.
use Rattle.std.proofs.Common.{◌≡◌, ℕ, zero, suc, ◌+◌, Bool, true, false, List, [], ◌∷◌, ◌++◌, map, take, drop, replicate, Option, Some, None, Result, ℤ, pos}
use Rattle.std.proofs.Common.{IfOk, subst, if◌then◌else◌}
use Rattle.std.specs.List.{find, AllByRecursion}
use Rattle.h264_header.specs.declared.header.PicNumModification.{PicNumModification}
use Rattle.h264_header.specs.declared.header.RefPicList0.{RefPicList0}
use Rattle.h264_marking.specs.declared.frame.ReferenceFrame.{ReferenceFrame}
use Rattle.h264_marking.specs.declared.frame.Numbering.{Numbering}
use Rattle.h264_lists.specs.declared.slot.RefSlot.{RefSlot}
use Rattle.h264_lists.specs.declared.slot.RefSlot.TheVariants.{NoPicture, Held}
use Rattle.h264_lists.specs.Initial.{comes_before, put_in_order, in_order, list_places, initial}
use Rattle.h264_lists.specs.Modified.{pred_after, is_named, is_in, without_first, put_at, go_on, modified, source}
use Rattle.h264_lists.specs.Built.{AreOf, built}

module _ (P : ReferenceFrame → Type 0) where
  -- ---- the initial list

  put-by : (f g : ReferenceFrame) (gs rest : List ReferenceFrame) (b : Bool) → P f → P g → AllByRecursion P gs → AllByRecursion P rest →
      AllByRecursion P (if b then f ∷ g ∷ gs else g ∷ rest)
  put-by f g gs rest true p q h k = (p, (q, h))
  put-by f g gs rest false p q h k = (q, k)

  all-put : (c : Numbering) (f : ReferenceFrame) (gs : List ReferenceFrame) → P f → AllByRecursion P gs → AllByRecursion P (put_in_order c f gs)
  all-put c f [] p h = (p, tt)
  all-put c f (g ∷ gs) p h = put-by f g gs (put_in_order c f gs) (comes_before c f g) p h.0 h.1 (all-put c f gs p h.1)

  all-ordered : (c : Numbering) (fs : List ReferenceFrame) → AllByRecursion P fs → AllByRecursion P (in_order c fs)
  all-ordered c [] h = tt
  all-ordered c (f ∷ fs) h = all-put c f (in_order c fs) h.0 (all-ordered c fs h.1)

  of-held : (fs : List ReferenceFrame) → AllByRecursion P fs → AreOf P (map Held fs)
  of-held [] h = tt
  of-held (f ∷ fs) h = (h.0, of-held fs h.1)

  of-none : (n : ℕ) → AreOf P (replicate n NoPicture)
  of-none zero = tt
  of-none (suc n) = of-none n

  of-both : (xs ys : List RefSlot) → AreOf P xs → AreOf P ys → AreOf P (xs ++ ys)
  of-both [] ys h k = k
  of-both (NoPicture ∷ xs) ys h k = of-both xs ys h k
  of-both (Held f ∷ xs) ys h k = (h.0, of-both xs ys h.1 k)

  of-take : (n : ℕ) (xs : List RefSlot) → AreOf P xs → AreOf P (take n xs)
  of-take zero xs h = tt
  of-take (suc n) [] h = tt
  of-take (suc n) (NoPicture ∷ xs) h = of-take n xs h
  of-take (suc n) (Held f ∷ xs) h = (h.0, of-take n xs h.1)

  of-drop : (n : ℕ) (xs : List RefSlot) → AreOf P xs → AreOf P (drop n xs)
  of-drop zero xs h = h
  of-drop (suc n) [] h = tt
  of-drop (suc n) (NoPicture ∷ xs) h = of-drop n xs h
  of-drop (suc n) (Held f ∷ xs) h = of-drop n xs h.1

  of-initial : (c : Numbering) (places : ℕ) (fs : List ReferenceFrame) → AllByRecursion P fs → AreOf P (initial c places fs)
  unfolding initial
  of-initial c places fs h = of-take places (map Held (in_order c fs) ++ replicate places NoPicture)
      (of-both (map Held (in_order c fs)) (replicate places NoPicture) (of-held (in_order c fs) (all-ordered c fs h)) (of-none places))

  -- ---- modifications

  of-rest : (slot : RefSlot) (slots : List RefSlot) → AreOf P (slot ∷ slots) → AreOf P slots
  of-rest NoPicture slots h = h
  of-rest (Held f) slots h = h.1

  of-next : (slot : RefSlot) (slots rest : List RefSlot) → AreOf P (slot ∷ slots) → AreOf P rest → AreOf P (slot ∷ rest)
  of-next NoPicture slots rest h k = k
  of-next (Held f) slots rest h k = (h.0, k)

  without-by : (slot : RefSlot) (slots rest : List RefSlot) (b : Bool) → AreOf P (slot ∷ slots) → AreOf P rest → AreOf P (if b then slots else slot ∷ rest)
  without-by slot slots rest true h k = of-rest slot slots h
  without-by slot slots rest false h k = of-next slot slots rest h k

  of-without : (is : RefSlot → Bool) (xs : List RefSlot) → AreOf P xs → AreOf P (without_first is xs)
  of-without is [] h = tt
  of-without is (x ∷ xs) h = without-by x xs (without_first is xs) (is x) h (of-without is xs (of-rest x xs h))

  of-put : (places k : ℕ) (named : ReferenceFrame → Bool) (f : ReferenceFrame) (slots : List RefSlot) → P f → AreOf P slots →
      AreOf P (put_at places k named f slots)
  of-put places k named f slots p h = of-take places (take k slots ++ Held f ∷ without_first (is_in named) (drop k slots))
      (of-both (take k slots) (Held f ∷ without_first (is_in named) (drop k slots)) (of-take k slots h)
      (p, of-without (is_in named) (drop k slots) (of-drop k slots h)))

  found-by : (g f : ReferenceFrame) (b : Bool) (o : Option ReferenceFrame) → P g → (o ≡ Some f → P f) → (if b then Some g else o) ≡ Some f → P f
  found-by g f true o p k e = let same : g ≡ f = cc in subst P same p
  found-by g f false o p k e = k e

  found : (test : ReferenceFrame → Bool) (fs : List ReferenceFrame) (f : ReferenceFrame) → AllByRecursion P fs → find test fs ≡ Some f → P f
  found test [] f h e = cc
  found test (g ∷ gs) f h e = found-by g f (test g) (find test gs) h.0 (found test gs f h.1) e

  went-on : (o : Option ReferenceFrame) (bit : ℕ) (rest : ReferenceFrame → Result (List RefSlot) ℕ) →
      ((f : ReferenceFrame) → o ≡ Some f → IfOk (rest f) (AreOf P)) → IfOk (go_on o bit rest) (AreOf P)
  went-on None bit rest h = tt
  went-on (Some f) bit rest h = h f (λ i. Some f)

  of-modified : (c : Numbering) (places : ℕ) (fs : List ReferenceFrame) (k : ℕ) (pred : ℤ) (ms : List PicNumModification) (slots : List RefSlot) →
      AllByRecursion P fs → AreOf P slots → IfOk (modified (source c places fs) k pred ms slots) (AreOf P)
  unfolding modified
  of-modified c places fs k pred [] slots h s = s
  of-modified c places fs k pred (m ∷ ms) slots h s =
      went-on _ m.bit _ (λ f e. of-modified c places fs (k + 1) (pred_after c pred m.modification) ms _ h
      (of-put places k (is_named c (pred_after c pred m.modification) m.modification) f slots
      (found (is_named c (pred_after c pred m.modification) m.modification) fs f h e) s))

pub built-held : (c : Numbering) (list : RefPicList0) (fs : List ReferenceFrame) (P : ReferenceFrame → Type 0) → AllByRecursion P fs →
    IfOk (built c list fs) (AreOf P)
unfolding built
built-held c list fs P h = of-modified P c (list_places list.num_ref_idx_l0_active) fs 0 (pos c.frame_num) list.modifications.items _ h
    (of-initial P c (list_places list.num_ref_idx_l0_active) fs h)
