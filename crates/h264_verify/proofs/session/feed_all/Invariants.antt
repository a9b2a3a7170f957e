use Rattle.std.proofs.Common.{◌≡◌, List, ℕ, [], ◌++◌, length}
use Rattle.h264_base.specs.Call.{span}
use Rattle.h264_verify.specs.Telling.{Told, Family}
use Rattle.h264_verify.specs.Progress.{going}
use Rattle.h264_verify.specs.Feeding.{WasFed, IsReady, GoesOn}
use Rattle.h264_verify.proofs.session.feed_all.Given as goal

abbrev pub invariant-loop-rest : goal.invariant-loop-rest
invariant-loop-rest g l = record {
  goes : (front : List ℕ) × (l.piece ≡ front ++ l.rest) × ((bytes : List ℕ) (frames : Family) (told : List Told)
      (f : WasFed l.terms (going l.terms l.initial.splitter l.initial.state) bytes frames told) →
      GoesOn f (span g.S.Elements.took g.S.Elements.failures l.initial.sink l.sink) (going l.terms l.splitter l.state) front);
  ready : IsReady l.terms l.splitter l.state;
  kept : g.S.Elements.failures l.sink ≡ g.S.Elements.failures l.initial.sink;
  no_bytes : l.piece ≡ [] → (l.rest ≡ []) × (l.splitter ≡ l.initial.splitter) × (l.state ≡ l.initial.state) × (l.sink ≡ l.initial.sink);
}

abbrev pub decreases-loop-rest : goal.decreases-loop-rest
decreases-loop-rest g l = length l.rest
