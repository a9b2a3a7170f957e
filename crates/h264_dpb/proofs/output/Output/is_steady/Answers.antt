use Rattle.std.proofs.Common.{List, Option, ℕ, map, ap, sym, ◌∙◌}
use Rattle.h264_marking.specs.declared.frame.ReferenceFrame.{ReferenceFrame}
use Rattle.h264_dpb.specs.Steady.{is_steady}
use Rattle.h264_dpb.proofs.Steady.{steady-turn}
use Rattle.h264_dpb.proofs.output.Output.is_steady.Goals as goal

pub returns : goal.returns
returns c = λ h b written k.
    let named = c.as_slice.ensures.value ∙ c.names-names.ensures ∙ ap (λ l. map (λ f. ReferenceFrame.picture f) l) c.frames.ensures.value in
    steady-turn c.args.held.now b c.args.self.now.buffer k.same
    (ap (λ (held : List (Option ℕ)). is_steady held c.args.self.now.buffer) (sym named) ∙ sym c.is_steady.ensures ∙ h)
