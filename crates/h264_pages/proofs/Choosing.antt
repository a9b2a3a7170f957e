-- What the sink inside took, from one call to the next.
use Rattle.std.proofs.Common.{◌≡◌, true, false, ℕ, ℤ, List, [], ◌∷◌, ◌++◌, Option, None, Some, is_some, refl, sym, ap, ◌∙◌, subst}
use Rattle.std.proofs.lemmas.List.{append-nil, append_assoc}
use Rattle.h264_base.specs.Call.{Call, OfSlice, OfElement}
use Rattle.h264_base.specs.declared.element_name.ElementName.{ElementName}
use Rattle.h264_base.specs.declared.mode.SliceType.{SliceType}
use Rattle.h264_lines.specs.declared.reading.Reading.{Reading}
use Rattle.h264_lines.specs.declared.choice.Choice.{Choice}
use Rattle.h264_lines.specs.declared.lines.UnitCall.{UnitCall}
use Rattle.h264_lines.specs.Chosen.{after_element, is_chosen, Choosing, at_first, next, held, pending_call, left_by, choosing_after, left_in, HoldsLeft}
use Rattle.h264_lines.specs.Chosen.{HoldsFront}

module _ (choice : Choice) where
  pub after-more : (s : Choosing) (calls : List Call) (call : Call) → choosing_after choice s (calls ++ call ∷ []) ≡
      next choice (choosing_after choice s calls) call
  unfolding choosing_after
  after-more s [] call = refl
  after-more s (c ∷ calls) call = after-more (next choice s c) calls call

  pub left-more : (s : Choosing) (calls : List Call) (call : Call) → left_in choice s (calls ++ call ∷ []) ≡ left_in choice s calls ++
      left_by choice (choosing_after choice s calls) call
  unfolding choosing_after left_in
  left-more s [] call = append-nil (left_by choice s call)
  left-more s (c ∷ calls) call = ap (λ l. left_by choice s c ++ l) (left-more (next choice s c) calls call) ∙
      sym (append_assoc (left_by choice s c) (left_in choice (next choice s c) calls) (left_by choice (choosing_after choice (next choice s c) calls) call))

module _ {S : Type 0} (took : S → List Call → Type 0) (choice : Choice) where
  -- one call more, of which the sink took what is left
  pub took-more : (r r' : Reading) (p p' : Option Call) (s s' : S) (before more : List Call) (call : Call) →
      next choice (record { reading = r; pending = p }) call ≡ record { reading = r'; pending = p' } →
      left_by choice (record { reading = r; pending = p }) call ≡ more → ((b : List Call) → took s b → took s' (b ++ more)) →
      HoldsLeft took choice (record { reading = r; pending = p }) s before →
      HoldsLeft took choice (record { reading = r'; pending = p' }) s' (before ++ call ∷ [])
  took-more r r' p p' s s' before more call goes left told h = record {
    stands = after-more choice at_first before call ∙ ap (λ x. next choice x call) h.stands ∙ goes;
    tells = subst (took s') (sym (left-more choice at_first before call ∙ ap (λ x. left_in choice at_first before ++ left_by choice x call) h.stands ∙
        ap (λ l. left_in choice at_first before ++ l) left)) (told (left_in choice at_first before) h.tells);
  }

  -- one call more, of which nothing is left
  pub took-none : (r r' : Reading) (p p' : Option Call) (s : S) (before : List Call) (call : Call) → next choice (record { reading = r; pending = p }) call ≡
      record { reading = r'; pending = p' } → left_by choice (record { reading = r; pending = p }) call ≡ [] →
      HoldsLeft took choice (record { reading = r; pending = p }) s before →
      HoldsLeft took choice (record { reading = r'; pending = p' }) s (before ++ call ∷ [])
  took-none r r' p p' s before call goes left h = took-more r r' p p' s s before [] call goes left (λ b t. subst (took s) (sym (append-nil b)) t) h

  -- a call that was refused, of which the sink took the first of what is left
  pub took-front : (r : Reading) (p : Option Call) (s s' : S) (before front rest : List Call) (call : Call) →
      left_by choice (record { reading = r; pending = p }) call ≡ front ++ rest → ((b : List Call) → took s b → took s' (b ++ front)) →
      HoldsLeft took choice (record { reading = r; pending = p }) s before → HoldsFront took choice s' (before ++ [])
  took-front r p s s' before front rest call left told h = rw (append-nil before) (record {
    refused = call;
    front = front;
    rest = rest;
    whole = ap (λ x. left_by choice x call) h.stands ∙ left;
    tells = told (left_in choice at_first before) h.tells;
  })

  -- a sink that was told nothing
  pub took-first : (r : Reading) (s : S) → r ≡ at_first.reading → took s [] → HoldsLeft took choice (record { reading = r; pending = None }) s []
  unfolding choosing_after left_in
  took-first r s is h = record { stands = ap (λ x. record { reading = x; pending = None }) (sym is); tells = h }

  -- ---- an element

  pub element-passed : (r : Reading) (p : Option Call) (s : S) (before : List Call) (name : ElementName) (bit : ℕ) (v : ℤ) →
      is_chosen choice (after_element name v r) ≡ false → HoldsLeft took choice (record { reading = r; pending = p }) s before →
      HoldsLeft took choice (record { reading = after_element name v r; pending = p }) s (before ++ OfElement name bit v ∷ [])
  element-passed r p s before name bit v un h = took-none r (after_element name v r) p p s before (OfElement name bit v) (rw un refl) (rw un refl) h

  pub element-taken : (r : Reading) (p : Option Call) (s s' : S) (before : List Call) (name : ElementName) (bit : ℕ) (v : ℤ) →
      is_chosen choice (after_element name v r) ≡ true → ((b : List Call) → took s b → took s' (b ++ (held p ++ OfElement name bit v ∷ []))) →
      HoldsLeft took choice (record { reading = r; pending = p }) s before →
      HoldsLeft took choice (record { reading = after_element name v r; pending = None }) s' (before ++ OfElement name bit v ∷ [])
  element-taken r p s s' before name bit v is told h =
      took-more r (after_element name v r) p None s s' before (held p ++ OfElement name bit v ∷ []) (OfElement name bit v) (rw is refl) (rw is refl) told h

  pub element-refused : (r : Reading) (p : Option Call) (s s' : S) (before front rest : List Call) (name : ElementName) (bit : ℕ) (v : ℤ) →
      is_chosen choice (after_element name v r) ≡ true → held p ++ (OfElement name bit v ∷ []) ≡ front ++ rest →
      ((b : List Call) → took s b → took s' (b ++ front)) → HoldsLeft took choice (record { reading = r; pending = p }) s before →
      HoldsFront took choice s' (before ++ [])
  element-refused r p s s' before front rest name bit v is whole told h =
      took-front r p s s' before front rest (OfElement name bit v) ((rw is refl) ∙ whole) told h

  -- ---- a slice

  pub slice-pending : (r : Reading) (u : Call) (s : S) (before : List Call) (byte mb : ℕ) (kind : SliceType) (frame_num : ℕ) (count : ℤ) →
      HoldsLeft took choice (record { reading = r; pending = Some u }) s before →
      HoldsLeft took choice (record { reading = r; pending = Some u }) s (before ++ OfSlice byte mb kind frame_num count ∷ [])
  slice-pending r u s before byte mb kind frame_num count h = took-none r r (Some u) (Some u) s before (OfSlice byte mb kind frame_num count) refl refl h

  pub slice-held : (r : Reading) (p : Option UnitCall) (s : S) (before : List Call) (byte mb : ℕ) (kind : SliceType) (frame_num : ℕ) (count : ℤ) → is_some p ≡
      true → HoldsLeft took choice (record { reading = r; pending = pending_call p }) s before →
      HoldsLeft took choice (record { reading = r; pending = pending_call p }) s (before ++ OfSlice byte mb kind frame_num count ∷ [])
  slice-held r (Some u) s before byte mb kind frame_num count is h = slice-pending r _ s before byte mb kind frame_num count h
  slice-held r None s before byte mb kind frame_num count is h = absurd (cc)

  pub slice-passed : (r : Reading) (p : Option UnitCall) (s : S) (before : List Call) (byte mb : ℕ) (kind : SliceType) (frame_num : ℕ) (count : ℤ) →
      is_chosen choice r ≡ false → HoldsLeft took choice (record { reading = r; pending = pending_call p }) s before →
      HoldsLeft took choice (record { reading = r; pending = pending_call p }) s (before ++ OfSlice byte mb kind frame_num count ∷ [])
  slice-passed r None s before byte mb kind frame_num count un h = took-none r r None None s before (OfSlice byte mb kind frame_num count) refl (rw un refl) h
  slice-passed r (Some u) s before byte mb kind frame_num count un h = slice-pending r _ s before byte mb kind frame_num count h

  pub slice-taken : (r : Reading) (p : Option UnitCall) (s s' : S) (before : List Call) (byte mb : ℕ) (kind : SliceType) (frame_num : ℕ) (count : ℤ) →
      is_some p ≡ false → is_chosen choice r ≡ true → ((b : List Call) → took s b → took s' (b ++ OfSlice byte mb kind frame_num count ∷ [])) →
      HoldsLeft took choice (record { reading = r; pending = pending_call p }) s before →
      HoldsLeft took choice (record { reading = r; pending = pending_call p }) s' (before ++ OfSlice byte mb kind frame_num count ∷ [])
  slice-taken r None s s' before byte mb kind frame_num count none is told h =
      took-more r r None None s s' before (OfSlice byte mb kind frame_num count ∷ []) (OfSlice byte mb kind frame_num count) refl (rw is refl) told h
  slice-taken r (Some u) s s' before byte mb kind frame_num count none is told h = absurd (cc)

  pub slice-refused : (r : Reading) (p : Option UnitCall) (s s' : S) (before : List Call) (byte mb : ℕ) (kind : SliceType) (frame_num : ℕ) (count : ℤ) →
      ((b : List Call) → took s b → took s' (b ++ [])) → HoldsLeft took choice (record { reading = r; pending = pending_call p }) s before →
      HoldsFront took choice s' (before ++ [])
  slice-refused r p s s' before byte mb kind frame_num count told h = let call = OfSlice byte mb kind frame_num count in
      took-front r (pending_call p) s s' before [] (left_by choice (record { reading = r; pending = pending_call p }) call) call refl told h
