use Rattle.std.proofs.Common.{◌≡◌, true, nat_eq, ◌++◌, codes, if◌then◌else◌, sym, ap, ◌∙◌, subst}
use Rattle.std.specs.Cmp.Lexicographic.{pointwise}
use Rattle.std.specs.Fmt.{decimal}
use Rattle.h264_pages.specs.Pages.{Adds}
use Rattle.h264_pages.specs.Reasons.{is_unnamed, profile_declared}
use Rattle.h264_pages.proofs.Growing.{adds-both}
use Rattle.h264_pages.proofs.pages.glance.Declared.put_profile.Goals as goal

pub returns-then-eq : goal.returns-then-eq
returns-then-eq c =
    let d = c.args.self.now in
    let a = c.args.page.now in
    let n = c.number.new.self in
    let unnamed : is_unnamed d ≡ true = ap (λ t. pointwise nat_eq t (codes "unknown")) (sym c.profile.ensures) ∙ sym c.eq.ensures ∙ c.if-eq.true in
    subst (λ b. Adds a n (if b then codes "profile_idc " ++ decimal d.profile_idc else profile_declared d ++ codes " profile")) (sym unnamed)
    (adds-both a c.put.new.self n _ _ c.put.ensures c.number.ensures)
