use Rattle.std.proofs.Common.{◌≡◌, ℕ, List, Option, None, Some, refl, inl, inr, ⊎_elim}
use Rattle.h264_base.specs.declared.mode.Mode.TheVariants as modes
use Rattle.h264_lines.specs.Sent.{wrote}
use Rattle.h264_report.specs.Written.{OfBytes, Lists, Checks}
use Rattle.h264_lines.specs.declared.listing.Listing.TheVariants as listings
use Rattle.h264_command.proofs.command.perform.Goals as goal

-- and the other writer holds what it held
beside : (known : Option (List ℕ)) (Is : List ℕ → Type 0) (held : Option (List ℕ)) → OfBytes known Is → OfBytes known (λ bytes. Is bytes × (held ≡ held))
beside None Is held p = (p.0, (p.1, refl))
beside (Some bytes) Is held p = (p, refl)

pub returns-in-Check-clause-performs : goal.returns-in-Check-clause-performs
returns-in-Check-clause-performs g c = rw c.in-Check.is
    (beside (g.R.Source.left c.args.source.now)
    (λ bytes. Checks c.args.target bytes c.check.result (wrote (g.W.Device.contents c.args.out.now) (g.W.Device.contents c.check.new.out)))
    (g.E.Device.contents c.args.err.now) c.check.ensures.checks)

pub returns-in-Units-clause-performs : goal.returns-in-Units-clause-performs
returns-in-Units-clause-performs g c = rw c.in-Units.is
    (beside (g.R.Source.left c.args.source.now)
    (λ bytes. Lists modes.Units c.args.target listings.Units bytes c.list.result
    (wrote (g.W.Device.contents c.args.out.now) (g.W.Device.contents c.list.new.out))) (g.E.Device.contents c.args.err.now)
    c.list.ensures.lists)

pub returns-in-Headers-clause-performs : goal.returns-in-Headers-clause-performs
returns-in-Headers-clause-performs g c =
    rw c.in-Headers.is (beside (g.R.Source.left c.args.source.now)
    (λ bytes. Lists modes.Headers c.args.target listings.Slices bytes c.list-in-Headers.result
    (wrote (g.W.Device.contents c.args.out.now) (g.W.Device.contents c.list-in-Headers.new.out))) (g.E.Device.contents c.args.err.now)
    c.list-in-Headers.ensures.lists)

pub returns-in-Frames-clause-performs : goal.returns-in-Frames-clause-performs
returns-in-Frames-clause-performs g c = rw c.in-Frames.is
    (beside (g.R.Source.left c.args.source.now)
    (λ bytes. Lists modes.Full c.args.target listings.Frames bytes c.list-in-Frames.result
    (wrote (g.W.Device.contents c.args.out.now) (g.W.Device.contents c.list-in-Frames.new.out))) (g.E.Device.contents c.args.err.now)
    c.list-in-Frames.ensures.lists)

pub returns-in-Decode-clause-performs : goal.returns-in-Decode-clause-performs
returns-in-Decode-clause-performs g c = rw c.in-Decode.is c.decode.ensures.decodes

pub returns-in-Elements-clause-performs : goal.returns-in-Elements-clause-performs
returns-in-Elements-clause-performs g c =
    rw c.in-Elements.is (beside (g.R.Source.left c.args.source.now)
    (λ bytes. Lists modes.Verdict c.args.target listings.Elements bytes c.list-in-Elements.result
    (wrote (g.W.Device.contents c.args.out.now) (g.W.Device.contents c.list-in-Elements.new.out))) (g.E.Device.contents c.args.err.now)
    c.list-in-Elements.ensures.lists)

pub returns-in-Check-clause-excused : goal.returns-in-Check-clause-excused
returns-in-Check-clause-excused g c = record {
  failures = record {
    unwritten = λ e. inl (c.check.ensures.failed e);
    write = λ e. absurd (c.check.ensures.write e);
    quiet = λ never e. (c.check.ensures.quiet e, refl);
    handed_over = λ never e. (inl (c.check.ensures.handed_over e), inr refl);
  };
  read = c.check.ensures.read;
  read_told = ⊎_elim (λ e. inl e) (λ r. inr (inl r)) c.check.ensures.read_told;
}

pub returns-in-Units-clause-excused : goal.returns-in-Units-clause-excused
returns-in-Units-clause-excused g c = record {
  failures = record {
    unwritten = λ e. inl (c.list.ensures.failed e);
    write = λ e. inl (c.list.ensures.write e);
    quiet = λ never e. (c.list.ensures.quiet never e, refl);
    handed_over = λ never e. (inl (c.list.ensures.handed_over e), inr refl);
  };
  read = c.list.ensures.read;
  read_told = c.list.ensures.read_told;
}

pub returns-in-Headers-clause-excused : goal.returns-in-Headers-clause-excused
returns-in-Headers-clause-excused g c = record {
  failures = record {
    unwritten = λ e. inl (c.list-in-Headers.ensures.failed e);
    write = λ e. inl (c.list-in-Headers.ensures.write e);
    quiet = λ never e. (c.list-in-Headers.ensures.quiet never e, refl);
    handed_over = λ never e. (inl (c.list-in-Headers.ensures.handed_over e), inr refl);
  };
  read = c.list-in-Headers.ensures.read;
  read_told = c.list-in-Headers.ensures.read_told;
}

pub returns-in-Frames-clause-excused : goal.returns-in-Frames-clause-excused
returns-in-Frames-clause-excused g c = record {
  failures = record {
    unwritten = λ e. inl (c.list-in-Frames.ensures.failed e);
    write = λ e. inl (c.list-in-Frames.ensures.write e);
    quiet = λ never e. (c.list-in-Frames.ensures.quiet never e, refl);
    handed_over = λ never e. (inl (c.list-in-Frames.ensures.handed_over e), inr refl);
  };
  read = c.list-in-Frames.ensures.read;
  read_told = c.list-in-Frames.ensures.read_told;
}

pub returns-in-Elements-clause-excused : goal.returns-in-Elements-clause-excused
returns-in-Elements-clause-excused g c = record {
  failures = record {
    unwritten = λ e. inl (c.list-in-Elements.ensures.failed e);
    write = λ e. inl (c.list-in-Elements.ensures.write e);
    quiet = λ never e. (c.list-in-Elements.ensures.quiet never e, refl);
    handed_over = λ never e. (inl (c.list-in-Elements.ensures.handed_over e), inr refl);
  };
  read = c.list-in-Elements.ensures.read;
  read_told = c.list-in-Elements.ensures.read_told;
}

pub returns-in-Decode-clause-excused : goal.returns-in-Decode-clause-excused
returns-in-Decode-clause-excused g c = record {
  failures = record {
    unwritten = λ e. inr (c.decode.ensures.failed e);
    write = λ e. inl (c.decode.ensures.write e);
    quiet = λ never e. (c.decode.ensures.quiet never, c.decode.ensures.quiet_err e);
    handed_over = λ never e. (inl (c.decode.ensures.handed_over never), inl (c.decode.ensures.handed_over_err e));
  };
  read = c.decode.ensures.read;
  read_told = c.decode.ensures.read_told;
}
