use Rattle.std.proofs.Common.{refl, inl, inr}
use Rattle.h264_command.proofs.Failing.{not-write}
use Rattle.h264_command.proofs.command.no_file.Goals as goal

pub returns-in-Check-clause-says : goal.returns-in-Check-clause-says
returns-in-Check-clause-says g c = rw c.in-Check.is (c.put_unread-in-Check.ensures.says, refl)

pub returns-in-Check-clause-failures : goal.returns-in-Check-clause-failures
returns-in-Check-clause-failures g c = record {
  unwritten = λ e. inl (c.put_unread-in-Check.ensures.unwritten e);
  write = not-write _ refl;
  quiet = λ never e. (c.put_unread-in-Check.ensures.quiet e, refl);
  handed_over = λ never e. (inl (c.put_unread-in-Check.ensures.handed_over e), inr refl);
}

pub returns-in-Units-clause-says : goal.returns-in-Units-clause-says
returns-in-Units-clause-says g c = rw c.in-Units.is (c.put_unread-in-Units.ensures.says, refl)

pub returns-in-Units-clause-failures : goal.returns-in-Units-clause-failures
returns-in-Units-clause-failures g c = record {
  unwritten = λ e. inl (c.put_unread-in-Units.ensures.unwritten e);
  write = not-write _ refl;
  quiet = λ never e. (c.put_unread-in-Units.ensures.quiet e, refl);
  handed_over = λ never e. (inl (c.put_unread-in-Units.ensures.handed_over e), inr refl);
}

pub returns-in-Headers-clause-says : goal.returns-in-Headers-clause-says
returns-in-Headers-clause-says g c = rw c.in-Headers.is (c.put_unread-in-Headers.ensures.says, refl)

pub returns-in-Headers-clause-failures : goal.returns-in-Headers-clause-failures
returns-in-Headers-clause-failures g c =
    record {
      unwritten = λ e. inl (c.put_unread-in-Headers.ensures.unwritten e);
      write = not-write _ refl;
      quiet = λ never e. (c.put_unread-in-Headers.ensures.quiet e, refl);
      handed_over = λ never e. (inl (c.put_unread-in-Headers.ensures.handed_over e), inr refl);
    }

pub returns-in-Frames-clause-says : goal.returns-in-Frames-clause-says
returns-in-Frames-clause-says g c = rw c.in-Frames.is (c.put_unread-in-Frames.ensures.says, refl)

pub returns-in-Frames-clause-failures : goal.returns-in-Frames-clause-failures
returns-in-Frames-clause-failures g c = record {
  unwritten = λ e. inl (c.put_unread-in-Frames.ensures.unwritten e);
  write = not-write _ refl;
  quiet = λ never e. (c.put_unread-in-Frames.ensures.quiet e, refl);
  handed_over = λ never e. (inl (c.put_unread-in-Frames.ensures.handed_over e), inr refl);
}

pub returns-in-Elements-clause-says : goal.returns-in-Elements-clause-says
returns-in-Elements-clause-says g c = rw c.in-Elements.is (c.put_unread-in-Elements.ensures.says, refl)

pub returns-in-Elements-clause-failures : goal.returns-in-Elements-clause-failures
returns-in-Elements-clause-failures g c =
    record {
      unwritten = λ e. inl (c.put_unread-in-Elements.ensures.unwritten e);
      write = not-write _ refl;
      quiet = λ never e. (c.put_unread-in-Elements.ensures.quiet e, refl);
      handed_over = λ never e. (inl (c.put_unread-in-Elements.ensures.handed_over e), inr refl);
    }

pub returns-in-Decode-clause-says : goal.returns-in-Decode-clause-says
returns-in-Decode-clause-says g c = rw c.in-Decode.is (c.put_unread.ensures.says, refl)

pub returns-in-Decode-clause-failures : goal.returns-in-Decode-clause-failures
returns-in-Decode-clause-failures g c = record {
  unwritten = λ e. inr (c.put_unread.ensures.unwritten e);
  write = not-write _ refl;
  quiet = λ never e. (refl, c.put_unread.ensures.quiet e);
  handed_over = λ never e. (inr refl, inl (c.put_unread.ensures.handed_over e));
}
