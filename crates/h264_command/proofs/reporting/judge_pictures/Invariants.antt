use Rattle.h264_lines.specs.Chosen.{no_choice}
use Rattle.h264_lines.specs.Objects.{bare}
use Rattle.h264_lines.specs.declared.listing.Listing.TheVariants as listings
use Rattle.h264_command.proofs.reporting.judge_pictures.Given as goal

abbrev pub ghosts-judge_pictures_by_pen : goal.ghosts-judge_pictures_by_pen
ghosts-judge_pictures_by_pen g a = record {
  name = a.pen.out.ghost_name;
  start = g.W.Device.contents a.pen.out.now;
  was_failed = g.W.Device.has_failed a.pen.out.now;
  opening = bare;
  listing = listings.Frames;
  choice = no_choice;
}
