use Rattle.std.proofs.Common.{◌≡◌, ◌+◌, List, ℕ, false, None}
use Rattle.h264_base.specs.Call.{span}
use Rattle.h264_verify.specs.declared.state.Terms.{Terms}
use Rattle.h264_verify.specs.Telling.{Told, Family}
use Rattle.h264_verify.specs.Feeding.{WasFed, GoesOn}
use Rattle.h264_verify.specs.Giving.{Gives, source_span}
use Rattle.h264_verify.proofs.running.read_all.Given as goal

abbrev pub invariant-loop : goal.invariant-loop
invariant-loop g l = record {
  fed : (given : List ℕ) × Gives (source_span g.R.Source.left g.R.Source.gave g.R.Source.failures l.initial.source l.source) given false
      × ((terms : Terms) (bytes : List ℕ) (frames : Family) (told : List Told) (f : WasFed terms l.initial.session bytes frames told) →
      GoesOn f (span g.S.Elements.took g.S.Elements.failures l.initial.sink l.sink) l.session given);
  runs : l.session.stop ≡ None;
  kept : g.S.Elements.failures l.sink ≡ g.S.Elements.failures l.initial.sink;
  quiet : g.R.Source.failures l.source ≡ g.R.Source.failures l.initial.source;
  turns : (n : ℕ) → g.R.Source.was_read l.initial.source n → g.R.Source.was_read l.source (n + l.counter);
}
