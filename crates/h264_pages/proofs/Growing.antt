-- A page that grows, from one step to the next.
use Rattle.std.proofs.Common.{◌≡◌, ◌<◌, ◌+◌, List, ℕ, [], ◌++◌, flat_map, length, take, get_or, Bool, true, false, if◌then◌else◌, codes, Option, Some}
use Rattle.std.proofs.Common.{None, Result, refl, sym, ap, ◌∙◌, subst}
use Rattle.std.proofs.lemmas.List.{append-nil, append_assoc, flat_map_more, take_more}
use Rattle.h264_base.specs.declared.rule.Rule.{Rule}
use Rattle.h264_base.specs.declared.stop.Stop.{Stop}
use Rattle.h264_base.specs.declared.summary.Summary.{Summary}
use Rattle.h264_pages.specs.Findings.{rule_in}
use Rattle.h264_pages.specs.Pages.{Adds, AddsFirst, text_on, is_cut, text_field, answer_fields}
use Rattle.h264_pages.specs.Places.{allowed_as, place_fields, finding_fields, whole_finding_fields, said_fields, whole_fields, file_named}
use Rattle.h264_pages.specs.Reasons.{given_reason_fields, remedy_field, remedied_fields}
use Rattle.h264_pages.specs.declared.pages.finding.Finding.{Finding}
use Rattle.h264_pages.specs.declared.pages.finding.Guide.{Guide}
use Rattle.h264_pages.specs.declared.pages.page.Page.{Page}
use Rattle.h264_pages.specs.declared.pages.reason.Reason.{Reason}
use Rattle.h264_pages.specs.declared.survey.slice.Unit.{Unit}

-- two texts, one after the other
pub adds-both : (a b c : Page) (x y : List ℕ) → Adds a b x → Adds b c y → Adds a c (x ++ y)
adds-both a b c x y first second whole =
    let e = second whole in
    let d = first e.0 in
    (d.0, e.1 ∙ ap (λ l. l ++ y) d.1 ∙ append_assoc (text_on a) x y)

-- three texts, one after another
pub three-added : (a b c d : Page) (w x y : List ℕ) → Adds a b w → Adds b c x → Adds c d y → Adds a d (w ++ (x ++ y))
three-added a b c d w x y first second third = adds-both a b d w _ first (adds-both b c d x y second third)

-- four texts, one after another
pub four-added : (a b c d e : Page) (w x y z : List ℕ) → Adds a b w → Adds b c x → Adds c d y → Adds d e z → Adds a e (w ++ (x ++ (y ++ z)))
four-added a b c d e w x y z first second third fourth = adds-both a b e w _ first (adds-both b c e x _ second (adds-both c d e y z third fourth))

-- five texts, one after another
pub five-added : (a b c d e f : Page) (v w x y z : List ℕ) → Adds a b v → Adds b c w → Adds c d x → Adds d e y → Adds e f z →
    Adds a f (v ++ (w ++ (x ++ (y ++ z))))
five-added a b c d e f v w x y z first second third fourth fifth = adds-both a b f v _ first (four-added b c d e f w x y z second third fourth fifth)

-- the text of one more item
pub each-added : {X : Type 0} (f : X → List ℕ) (a b c : Page) (xs : List X) (i : ℕ) (d : X) → i < length xs → Adds a b (flat_map f (take i xs)) →
    Adds b c (f (get_or xs i d)) → Adds a c (flat_map f (take (i + 1) xs))
each-added f a b c xs i d within first second =
    subst (Adds a c) (flat_map_more f [] (take i xs) (get_or xs i d) ∙ ap (flat_map f) (sym (take_more xs i d within)))
    (adds-both a b c (flat_map f (take i xs)) (f (get_or xs i d)) first second)

-- no text
pub adds-nothing : (a : Page) → Adds a a []
adds-nothing a whole = (whole, sym (append-nil (text_on a)))

-- a text alone, with no other one to come
pub adds-no_more : (a b : Page) (x y : List ℕ) → y ≡ [] → Adds a b x → Adds a b (x ++ y)
adds-no_more a b x y none adds = rw (none, append-nil x) adds

-- of three texts the first, and the beginning of the second
pub adds-front : (a b : Page) (w x y more z : List ℕ) → x ≡ y ++ more → Adds a b (w ++ (x ++ z)) → AddsFirst a b (w ++ y)
adds-front a b w x y more z is adds whole =
    let e = adds whole in
    (e.0, (more ++ z, e.1 ∙ ap (λ l. text_on a ++ (w ++ (l ++ z))) is ∙ simp append_assoc))

-- what is made of a text that was made apart
pub part-added : (a b blank text : Page) (made : List ℕ → List ℕ) (words : List ℕ) (is_there : Bool) → text_on blank ≡ [] → Adds blank text words →
    Adds a b (if is_there then made (text_on text) else []) → (is_cut b ≡ false → is_cut text ≡ false) → Adds a b (if is_there then made words else [])
part-added a b blank text made words is_there empty added put whole short =
    let is : text_on text ≡ words = (added (whole short)).1 ∙ ap (λ l. l ++ words) empty in
    subst (λ t. (is_cut a ≡ false) × (text_on b ≡ text_on a ++ (if is_there then made t else []))) is (put short)

-- ---- what is allowed, and what was found

-- no words of what is allowed
pub nothing-allowed : (a : Page) (made : List ℕ → List ℕ) (rule : Option Rule) → Adds a a (allowed_as made rule None)
nothing-allowed a made None = adds-nothing a
nothing-allowed a made (Some rule) = adds-nothing a

-- words of it, or none
pub words-allowed : (a b : Page) (made : List ℕ → List ℕ) (rule : Option Rule) (broken : Rule) (is_said : Bool) (text : List ℕ) → rule ≡ Some broken →
    Adds a b (if is_said then made text else []) → (words : Option (List ℕ)) × Adds a b (allowed_as made rule words)
words-allowed a b made rule broken true text is adds = (Some text, rw is adds)
words-allowed a b made rule broken false text is adds = (None, rw is adds)

-- what was found begins with what it does without a remedy
pub found-front : (file : Option (List ℕ)) (unit : Option Unit) (rule : Option Rule) (finding : Option Finding) (words : Option (List ℕ)) →
    (more : List ℕ) × (whole_finding_fields file unit rule finding words ≡ finding_fields unit finding ++ more)
found-front file unit rule None words = ([], refl)
found-front file unit rule (Some f) words = of-reason f.reason
  where
    allowed : List ℕ
    allowed = allowed_as (text_field (codes "allowed")) rule words

    of-reason : (reason : Option Reason) → (more : List ℕ) ×
        ((place_fields unit f ++ remedied_fields file reason) ++ allowed ≡ (place_fields unit f ++ given_reason_fields reason) ++ more)
    of-reason None = (allowed, refl)
    of-reason (Some reason) = (remedy_field reason file ++ allowed, simp append_assoc)

-- the fields of a verdict, with what is said beside it
pub verdict-whole : (a b m n : Page) (answer : Result Summary Stop) (unit : Option Unit) (finding : Option Finding) (guide : Option Guide) →
    Adds a b (answer_fields answer) →
    (words : Option (List ℕ)) × Adds b m (whole_finding_fields (file_named guide) unit (rule_in answer) finding words) →
    Adds m n (said_fields finding guide) → (words : Option (List ℕ)) × Adds a n (whole_fields answer unit finding guide words)
verdict-whole a b m n answer unit finding guide answered placed said =
    (placed.0, adds-both a b n _ _ answered (adds-both b m n _ _ placed.1 said))

-- and of these the first
pub verdict-front : (a b : Page) (answer : Result Summary Stop) (unit : Option Unit) (finding : Option Finding) (guide : Option Guide)
    (words : Option (List ℕ)) → Adds a b (whole_fields answer unit finding guide words) →
    AddsFirst a b (answer_fields answer ++ finding_fields unit finding)
verdict-front a b answer unit finding guide words adds =
    let front = found-front (file_named guide) unit (rule_in answer) finding words in
    adds-front a b (answer_fields answer) (whole_finding_fields (file_named guide) unit (rule_in answer) finding words) (finding_fields unit finding)
    front.0 _ front.1 adds
