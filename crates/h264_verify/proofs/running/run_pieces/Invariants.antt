use Rattle.std.proofs.Common.{◌≡◌, None, [], List, take}
use Rattle.std.specs.List.{flat_map}
use Rattle.h264_base.specs.Call.{span}
use Rattle.h264_verify.specs.declared.state.Terms.{Terms}
use Rattle.h264_verify.specs.Telling.{Told, Family}
use Rattle.h264_verify.specs.Feeding.{WasFed, GoesOn}
use Rattle.h264_verify.proofs.running.run_pieces.Given as goal

abbrev pub invariant-loop-piece : goal.invariant-loop-piece
invariant-loop-piece g l = record {
  goes : (terms : Terms) (frames : Family) (told : List Told) (f : WasFed terms l.initial.session [] frames told) →
      GoesOn f (span g.S.Elements.took g.S.Elements.failures l.initial.sink l.sink) l.session
      (flat_map (λ piece. piece.items) (take l.piece-index l.pieces));
  runs : l.session.stop ≡ None;
  kept : g.S.Elements.failures l.sink ≡ g.S.Elements.failures l.initial.sink;
}
