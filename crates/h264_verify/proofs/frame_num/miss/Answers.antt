use Rattle.std.proofs.Common.{◌≡◌, ℕ, ◌≤◌, Option, Some, sym, ap, ◌∙◌, subst, arith}
use Rattle.h264_dpb.specs.Kept.{size_of}
use Rattle.h264_header.proofs.Entries.{where-ok}
use Rattle.h264_verify.specs.declared.decoder.Decoder.{Decoder}
use Rattle.h264_verify.specs.Keeping.{HasPlaces, format_in}
use Rattle.h264_verify.proofs.kept.WhereMade.{some-made, none-made, quiet-made, full-made, quiet-told}
use Rattle.h264_verify.proofs.samples.FillsFrames.{some-filled}
use Rattle.h264_verify.proofs.language.OutcomesPlayed.{gives-plays}
use Rattle.h264_verify.proofs.frame_num.miss.Goals as goal

pub miss-requires-clause-few : goal.miss-requires-clause-few
miss-requires-clause-few g c = subst (HasPlaces _) c.in-Some.is c.requires.few

pub miss-requires-clause-kept : goal.miss-requires-clause-kept
miss-requires-clause-kept g c = some-filled _ _ c.in-Some.is c.requires.kept

pub returns-in-None-clause-plays : goal.returns-in-None-clause-plays
returns-in-None-clause-plays g c = λ depth frames t next k. rw (quiet-told depth _ (none-made _ depth _ c.in-None.is k))
    (gives-plays _ _ (λ (x : Unit {0}). x) tt _)

pub returns-in-None-clause-keeps : goal.returns-in-None-clause-keeps
returns-in-None-clause-keeps g c = λ depth frames t next k. quiet-made _ depth _ c.in-None.is (none-made _ depth _ c.in-None.is k)

pub returns-in-Some-clause-plays : goal.returns-in-Some-clause-plays
returns-in-Some-clause-plays g c = λ depth frames t next k.
    let made = some-made _ depth _ _ c.in-Some.is k in
    rw made.0 (c.miss.ensures.plays frames t next made.1)

pub returns-in-Some-clause-keeps : goal.returns-in-Some-clause-keeps
returns-in-Some-clause-keeps g c = λ depth frames t next k.
    let made = some-made _ depth _ _ c.in-Some.is k in
    where-ok c.miss.result (full-made _ depth _ made.0) (c.miss.ensures.keeps frames t next made.1)

-- as many places are there
as-many : (n : ℕ) (o : Option Decoder) (d new : Decoder) → o ≡ Some d → size_of new.output ≡ size_of d.output → HasPlaces n o → n ≤ size_of new.output
as-many n o d new e s h = let p : n ≤ size_of d.output = subst (HasPlaces n) e h in omega (arith, p, s)

pub returns-in-Some-clause-sized : goal.returns-in-Some-clause-sized
returns-in-Some-clause-sized g c = λ n h. as-many n _ _ c.miss.new.self c.in-Some.is c.miss.ensures.sized h

pub returns-in-Some-clause-format : goal.returns-in-Some-clause-format
returns-in-Some-clause-format g c = c.miss.ensures.format ∙ ap format_in (sym c.in-Some.is)
