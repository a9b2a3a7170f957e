-- Lines, bytes and elements of calls, with one call more.
use Rattle.std.proofs.Common.{◌≡◌, ℕ, ◌+◌, List, [], ◌∷◌, ◌++◌, refl, sym, ap, ◌∙◌, arith}
use Rattle.std.proofs.lemmas.List.{append_assoc, append-nil}
use Rattle.h264_base.specs.Call.{Call}
use Rattle.h264_lines.specs.Told.{ended, line_of, lines_of, counted, counted_of, bytes_in, bytes_of, elements_in, elements_of}
use Rattle.h264_lines.specs.Lines.{element_text}
use Rattle.h264_lines.specs.Objects.{Opening}
use Rattle.h264_lines.specs.Trail.{element_lines}
use Rattle.h264_lines.specs.declared.trail.Element.{Element}
use Rattle.h264_lines.specs.declared.listing.Listing.{Listing}

pub bytes-more : (calls : List Call) (call : Call) → bytes_of (calls ++ call ∷ []) ≡ bytes_of calls ++ bytes_in call
unfolding bytes_of
bytes-more [] call = append-nil (bytes_in call)
bytes-more (c ∷ calls) call = ap (λ l. bytes_in c ++ l) (bytes-more calls call) ∙ sym (append_assoc (bytes_in c) (bytes_of calls) (bytes_in call))

pub elements-more : (calls : List Call) (call : Call) → elements_of (calls ++ call ∷ []) ≡ elements_of calls ++ elements_in call
unfolding elements_of
elements-more [] call = append-nil (elements_in call)
elements-more (c ∷ calls) call = ap (λ l. elements_in c ++ l) (elements-more calls call) ∙
    sym (append_assoc (elements_in c) (elements_of calls) (elements_in call))

pub counted-more : (listing : Listing) (calls : List Call) (call : Call) → counted_of listing (calls ++ call ∷ []) ≡
    counted_of listing calls + counted listing call
counted-more listing [] call = let e : counted listing call + 0 ≡ 0 + counted listing call = omega arith in e
counted-more listing (c ∷ calls) call = let e = counted-more listing calls call in
    let d : counted listing c + counted_of listing (calls ++ call ∷ []) ≡ counted listing c + counted_of listing calls + counted listing call =
    omega (arith, e) in d

pub lines-more : (head : Opening) (listing : Listing) (n m : ℕ) (calls : List Call) (call : Call) → n + counted_of listing calls ≡ m →
    lines_of head listing n (calls ++ call ∷ []) ≡ lines_of head listing n calls ++ line_of head listing m call
unfolding lines_of
lines-more head listing n m [] call e = append-nil (line_of head listing n call) ∙ ap (λ k. line_of head listing k call) (let d : n ≡ m = omega arith in d)
lines-more head listing n m (c ∷ calls) call e =
    ap (λ l. line_of head listing n c ++ l) (lines-more head listing (counted listing c + n) m calls call (omega arith))
    ∙ sym (append_assoc (line_of head listing n c) (lines_of head listing (counted listing c + n) calls) (line_of head listing m call))

pub element-lines-append : (es fs : List Element) → element_lines (es ++ fs) ≡ element_lines es ++ element_lines fs
unfolding element_lines
element-lines-append [] fs = refl
element-lines-append (e ∷ es) fs = ap (λ l. ended (element_text e.name e.bit e.value) ++ l) (element-lines-append es fs) ∙
    sym (append_assoc (ended (element_text e.name e.bit e.value)) (element_lines es) (element_lines fs))

pub element-lines-more : (es : List Element) (e : Element) → element_lines (es ++ e ∷ []) ≡ element_lines es ++ ended (element_text e.name e.bit e.value)
unfolding element_lines
element-lines-more [] e = append-nil (ended (element_text e.name e.bit e.value))
element-lines-more (x ∷ es) e = ap (λ l. ended (element_text x.name x.bit x.value) ++ l) (element-lines-more es e) ∙
    sym (append_assoc (ended (element_text x.name x.bit x.value)) (element_lines es) (ended (element_text e.name e.bit e.value)))
