use Rattle.h264_lines.specs.Chosen.{no_choice}
use Rattle.h264_lines.specs.Objects.{bare}
use Rattle.h264_lines.specs.declared.listing.Listing.TheVariants.{Nothing}
use Rattle.h264_report.proofs.judging.write_frames.Given as goal

abbrev pub ghosts-run_frames : goal.ghosts-run_frames
ghosts-run_frames g a = record {
  name = a.pen.out.ghost_name;
  start = g.W.Device.contents a.pen.out.now;
  was_failed = g.W.Device.has_failed a.pen.out.now;
  opening = bare;
  listing = Nothing;
  choice = no_choice;
}
