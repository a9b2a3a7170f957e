-- The entries of labels, with one more.
use Rattle.std.proofs.Common.{◌≡◌, ℕ, ◌+◌, ◌<◌, Bool, List, [], ◌∷◌, ◌++◌, map, flat_map, take, length, get_or, refl, sym, ap, ◌∙◌, subst}
use Rattle.std.proofs.lemmas.List.{append-nil, append_assoc, map-append, take_more}
use Rattle.h264_words.specs.Labels.{folded}
use Rattle.h264_command.specs.Explained.{label_in, entry_text, IsExplained}
use Rattle.h264_command.specs.declared.explaining.Entry.{Entry}

-- the first of some elements with one more, each turned into another thing
pub one-more : {X Y : Type 0} (of : X → Y) (xs : List X) (i : ℕ) (x : X) → i < length xs →
    map of (take (i + 1) xs) ≡ map of (take i xs) ++ of (get_or xs i x) ∷ []
one-more of xs i x inside = ap (map of) (take_more xs i x inside) ∙ map-append of (take i xs) (get_or xs i x ∷ [])

pub explained-none : (json : Bool) (text : List ℕ) → text ≡ [] → IsExplained json [] text
explained-none json text e = record { entries = []; are_theirs = refl; text_is = e }

texts-more : (f : Entry → List ℕ) (es : List Entry) (e : Entry) → flat_map f (es ++ e ∷ []) ≡ flat_map f es ++ f e
texts-more f [] e = append-nil (f e)
texts-more f (x ∷ es) e = ap (λ l. f x ++ l) (texts-more f es e) ∙ sym (append_assoc (f x) (flat_map f es) (f e))

more : (json : Bool) (labels : List (List ℕ)) (label text new : List ℕ) (e : Entry) → IsExplained json labels text → folded (label_in e) ≡ folded label →
    new ≡ text ++ entry_text json e → IsExplained json (labels ++ label ∷ []) new
more json labels label text new e h is text-is = record {
  entries = h.entries ++ e ∷ [];
  are_theirs =
      map-append (λ x. folded (label_in x)) h.entries (e ∷ []) ∙ ap (λ l. l ++ folded (label_in e) ∷ []) h.are_theirs ∙
      ap (λ l. map folded labels ++ l ∷ []) is ∙ sym (map-append folded labels (label ∷ []));
  text_is = text-is ∙ ap (λ l. l ++ entry_text json e) h.text_is ∙ sym (texts-more (entry_text json) h.entries e);
}

pub explained-more : {X : Type 0} (json : Bool) (of : X → List ℕ) (xs : List X) (i : ℕ) (x : X) (text new : List ℕ) (e : Entry) →
    IsExplained json (map of (take i xs)) text → i < length xs →
    folded (label_in e) ≡ folded (of (get_or xs i x)) → new ≡ text ++ entry_text json e → IsExplained json (map of (take (i + 1) xs)) new
explained-more json of xs i x text new e h inside is text-is =
    subst (λ ls. IsExplained json ls new) (sym (one-more of xs i x inside)) (more json (map of (take i xs)) (of (get_or xs i x)) text new e h is text-is)
