use Rattle.h264_lines.specs.Chosen.{no_choice}
use Rattle.h264_lines.specs.Objects.{bare}
use Rattle.h264_report.proofs.judging.write_lines.Given as goal

abbrev pub ghosts-run_lines : goal.ghosts-run_lines
ghosts-run_lines g a = record {
  name = a.pen.out.ghost_name;
  start = g.W.Device.contents a.pen.out.now;
  was_failed = g.W.Device.has_failed a.pen.out.now;
  opening = bare;
  listing = a.listing;
  choice = no_choice;
}
