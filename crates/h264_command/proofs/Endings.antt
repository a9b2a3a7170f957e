-- Texts of some kind that are added to a page.
use Rattle.std.proofs.Common.{◌≡◌, false, List, ℕ, [], ◌++◌, Bor, Option, Some, None, IfSome, Result, refl, sym, ap, ◌∙◌}
use Rattle.std.specs.Prelude.{is_some, option_copied}
use Rattle.std.proofs.lemmas.List.{append-nil, append_assoc}
use Rattle.h264_pages.specs.Pages.{Adds, is_cut, text_on}
use Rattle.h264_pages.specs.declared.pages.page.Page.{Page}
use Rattle.clap.specs.Words.{Text}
use Rattle.h264_base.specs.declared.stop.Stop.{Stop}
use Rattle.h264_base.specs.declared.summary.Summary.{Summary}
use Rattle.h264_pages.specs.Places.{bit_in, file_named}
use Rattle.h264_pages.specs.declared.pages.finding.Guide.{Guide}
use Rattle.h264_command.specs.Endings.{AddsSome, IsGuideOn}
use Rattle.h264_command.specs.Texts.{AreBoth}

-- a text of this kind
pub some-added : (a b : Page) (text : List ℕ) (Is : List ℕ → Type 0) → Adds a b text → Is text → AddsSome a b Is
some-added a b text Is adds is whole = let e = adds whole in (e.0, (text, is, e.1))

-- no text
pub none-added : (a : Page) (Is : List ℕ → Type 0) → Is [] → AddsSome a a Is
none-added a Is is whole = (whole, ([], is, sym (append-nil (text_on a))))

-- a text of one kind, and after it one of another
pub both-added : (a b c : Page) (P Q : List ℕ → Type 0) → AddsSome a b P → AddsSome b c Q → AddsSome a c (AreBoth P Q)
both-added a b c P Q first second whole =
    let e = second whole in
    let d = first e.0 in
    let all = e.1.2 ∙ ap (λ l. l ++ e.1.0) d.1.2 ∙ append_assoc (text_on a) d.1.0 e.1.0 in
    (d.0, (d.1.0 ++ e.1.0, record { first = d.1.0; is_first = d.1.1; last = e.1.0; is_last = e.1.1; whole = refl }, all))

-- what is said of an answer, with the file's name
pub guide-said : (name : Bor Text) (answer : Result Summary Stop) (guide : Option Guide) → is_some guide ≡ is_some (bit_in answer) →
    IfSome guide (λ g. g.file ≡ Some name) → IsGuideOn name.now answer guide
guide-said name answer guide said named = record { said = said; file = go guide named } where
  go : (g : Option Guide) → IfSome g (λ g. g.file ≡ Some name) → IfSome g (λ g. file_named (Some g) ≡ Some name.now)
  go None e = e
  go (Some g) e = ap option_copied e
