use Rattle.std.proofs.Common.{◌≡◌, ◌+◌, length, ap, sym, ◌∙◌}
use Rattle.std.proofs.lemmas.List.{length-map}
use Rattle.h264_dpb.specs.Renamed.{renamed}
use Rattle.h264_dpb.specs.declared.entry.Placed.{Placed}
use Rattle.h264_dpb.specs.Buffered.{Buffered, places_taken}
use Rattle.h264_dpb.specs.Turns.{Shown}
use Rattle.h264_dpb.specs.Kept.{SameBuffer, shown_at}
use Rattle.h264_dpb.proofs.output.Output.places_taken.Goals as goal

-- under their names as many places are taken
same-taken : (b : Buffered Shown) (kept : Buffered Placed) → SameBuffer b kept → places_taken kept ≡ places_taken b
same-taken b kept same = sym (ap (λ n. n + b.missing) (ap (λ es. length es) same.entries ∙ length-map kept.entries (renamed shown_at)) ∙
    ap (λ m. length kept.entries + m) same.missing)

pub returns : goal.returns
returns c = λ b written next k o. c.places_taken.ensures o.within ∙ same-taken b c.args.self.now.buffer k.same
