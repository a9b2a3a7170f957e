-- Plain words that are added one after another.
use Rattle.std.proofs.Common.{◌≡◌, ℕ, ◌+◌, ◌<◌, List, [], ◌∷◌, ◌++◌, map, take, length, get_or, flat_map, Bool, true, false, Bor, Option, Some, None, Result}
use Rattle.std.proofs.Common.{Ok, Err, OnOk, string_bytes, codes, refl, sym, ap, ◌∙◌, subst, append_assoc}
use Rattle.std.specs.Prelude.{String, is_some, option_map, unwrap_or}
use Rattle.std.proofs.lemmas.List.{append-nil, map-append, take_more}
use Rattle.std.proofs.lemmas.List.Concat.{flat_map-append}
use Rattle.clap.proofs.WalkLemmas.{first_value-rows, one_text-rows, raw_values-rows}
use Rattle.clap.specs.Walk.{rows_of}
use Rattle.clap.specs.Words.{Row, Text, all_of, first_of, first_value, matched_of, one_of, one_text, raw_values}
use Rattle.clap.specs.declared.parser.matches.Found.{Found}
use Rattle.h264_words.specs.Options.{IsFlag}
use Rattle.h264_words.proofs.Given.{some-given}
use Rattle.h264_command.specs.Lists.{texts_in, flag_words, named_by, AreFlags, HasFlags, HasMore}

-- a word more
pub text-more : {A : Type 0} (words : List (String A)) (word : String A) → texts_in (words ++ word ∷ []) ≡ texts_in words ++ string_bytes word ∷ []
text-more words word = map-append (λ w. string_bytes w) words (word ∷ [])

-- one that was pushed
pub word-more : {A : Type 0} (old new : List (String A)) (word : String A) (text : Text) → new ≡ old ++ word ∷ [] → string_bytes word ≡ text →
    texts_in new ≡ texts_in old ++ text ∷ []
word-more old new word text pushed is = ap texts_in pushed ∙ text-more old word ∙ ap (λ t. texts_in old ++ t ∷ []) is

-- what is found of a flag
pub flag-found : (found : Found) (option : Text) (has : Bool) → (one_text found option ≡ None → has ≡ false) →
    (one_text found option ≡ Some (codes "true") → has ≡ true) → (one_text found option ≡ Some (codes "false") → has ≡ false) →
    IsFlag (one_of option (rows_of found)) has
flag-found found option has none given not_given =
    let e = one_text-rows found option in
    record { absent = λ n. none (e ∙ n); given = λ t. given (e ∙ t); not_given = λ f. not_given (e ∙ f) }

-- a value is found, or values are, exactly where the rows have some
pub one-found : (found : Found) (id : Text) (r : Option (Bor Text)) → option_map (λ s. s.now) r ≡ first_value found id → is_some r ≡
    is_some (first_of id (rows_of found))
one-found found id r e = some-given (λ s. s.now) r _ (e ∙ first_value-rows found id)

pub all-found : (found : Found) (id : Text) (r : Option (Bor (List (Bor Text)))) → option_map (λ s. map (λ v. v.now) s.now) r ≡
    option_map raw_values (matched_of found id) →
    is_some r ≡ is_some (all_of id (rows_of found))
all-found found id r e = some-given (λ s. map (λ v. v.now) s.now) r _ (e ∙ raw_values-rows found id)

-- the front of plain words, word by word
pub front-of : (old first second third fourth last : List Text) (a b z : Text) (part vals : List Text) → first ≡ old ++ a ∷ [] → second ≡ first ++ b ∷ [] →
    third ≡ second ++ part → fourth ≡ third ++ vals → last ≡ fourth ++ z ∷ [] → last ≡ old ++ a ∷ (b ∷ (part ++ (vals ++ z ∷ [])))
front-of old first second third fourth last a b z part vals e1 e2 e3 e4 e5 =
    e5 ∙ ap (λ l. l ++ z ∷ []) (e4 ∙ ap (λ l. l ++ vals) (e3 ∙ ap (λ l. l ++ part) (e2 ∙ ap (λ l. l ++ b ∷ []) e1))) ∙ simp append_assoc

-- an option more
pub flags-more : (rows : List Row) (options words : List Text) (option : Text) (has : Bool) → AreFlags rows options words → IsFlag (one_of option rows) has →
    AreFlags rows (options ++ option ∷ []) (words ++ flag_words option has)
flags-more rows [] words option has none is =
    (has, is, ([], refl, ap (λ l. l ++ flag_words option has) none ∙ sym (append-nil (flag_words option has))))
flags-more rows (o ∷ options) words option has some is =
    let rest = some.2.0 in (
      some.0,
      some.1,
      (
        rest ++ flag_words option has,
        flags-more rows options rest option has some.2.1 is,
        ap (λ l. l ++ flag_words option has) some.2.2 ∙ append_assoc (flag_words o some.0) rest (flag_words option has),
      ),
    )

-- no options
pub no-flags : (rows : List Row) (old : List Text) → HasFlags rows [] old old
no-flags rows old = record { part = []; are_flags = refl; is = sym (append-nil old) }

-- the words of the options so far, and of one more
pub one-flag : {X : Type 0} (rows : List Row) (name : X → Text) (all : List X) (i : ℕ) (d : X) (has : Bool) (old before new : List Text) → i < length all →
    HasFlags rows (map name (take i all)) old before → IsFlag (one_of (name (get_or all i d)) rows) has →
    new ≡ before ++ flag_words (name (get_or all i d)) has → HasFlags rows (map name (take (i + 1) all)) old new
one-flag rows name all i d has old before new within so_far is more =
    let option = name (get_or all i d) in
    let options : map name (take (i + 1) all) ≡ map name (take i all) ++ option ∷ [] =
    ap (map name) (take_more all i d within) ∙ map-append name (take i all) (get_or all i d ∷ []) in
    record {
      part = so_far.part ++ flag_words option has;
      are_flags = subst (λ os. AreFlags rows os (so_far.part ++ flag_words option has)) (sym options)
          (flags-more rows (map name (take i all)) so_far.part option has so_far.are_flags is);
      is = more ∙ ap (λ l. l ++ flag_words option has) so_far.is ∙ append_assoc old so_far.part (flag_words option has);
    }

-- the words that each of some values gives, so far
pub each-more : {X : Type 0} (f : X → List Text) (all : List X) (i : ℕ) (d : X) (old before new : List Text) → i < length all →
    before ≡ old ++ flat_map f (take i all) → new ≡ before ++ f (get_or all i d) → new ≡ old ++ flat_map f (take (i + 1) all)
each-more f all i d old before new within so_far more =
    let last : flat_map f (get_or all i d ∷ []) ≡ f (get_or all i d) = append-nil (f (get_or all i d)) in
    more ∙ ap (λ l. l ++ f (get_or all i d)) so_far ∙ append_assoc old (flat_map f (take i all)) (f (get_or all i d))
    ∙ ap (λ l. old ++ l) (sym (ap (flat_map f) (take_more all i d within) ∙ flat_map-append f (take i all) (get_or all i d ∷ [])
    ∙ ap (λ l. flat_map f (take i all) ++ l) last))

-- the values that are given, where some are
pub values-of : (r : Option (Bor (List (Bor Text)))) (d : Bor (List (Bor Text))) (o : Option (List Text)) → d.now ≡ [] →
    option_map (λ s. map (λ v. v.now) s.now) r ≡ o → map (λ v. v.now) (unwrap_or r d).now ≡ unwrap_or o []
values-of None d o none e = ap (map (λ v. v.now)) none ∙ ap (λ p. unwrap_or p []) e
values-of (Some s) d o none e = ap (λ p. unwrap_or p []) e

-- the names of files, with another one for standard input
pub names-of : (input : Option Text) (given : List (Bor Text)) (known : Option Text) (files : List Text) → input ≡ known → map (λ v. v.now) given ≡ files →
    map (λ name. named_by input name.now) given ≡ map (named_by known) files
names-of input given known files same are = each given ∙ ap (λ i. map (named_by i) (map (λ v. v.now) given)) same ∙ ap (map (named_by known)) are where
  each : (names : List (Bor Text)) → map (λ name. named_by input name.now) names ≡ map (named_by input) (map (λ v. v.now) names)
  each [] = refl
  each (n ∷ names) = ap (λ l. named_by input n.now ∷ l) (each names)

-- what follows from a fact of an Ok
pub ok-then : {T E : Type 0} (P Q : Type 0) (r : Result T E) → (P → Q) → OnOk r P → OnOk r Q
ok-then P Q (Ok x) f p = f p
ok-then P Q (Err e) f p = p

-- what has more has it after one more
pub more-more : (old before new : List Text) → HasMore old before → HasMore before new → HasMore old new
more-more old before new first second =
    (first.0 ++ second.0, second.1 ∙ ap (λ l. l ++ second.0) first.1 ∙ append_assoc old first.0 second.0)

pub no-more : (old : List Text) → HasMore old old
no-more old = ([], sym (append-nil old))
