use Rattle.h264_lines.specs.Objects.{opening_of}
use Rattle.h264_command.specs.Texts.{listing_of}
use Rattle.h264_command.proofs.listing.list_chosen.Given as goal

abbrev pub ghosts-list_chosen_by_pen : goal.ghosts-list_chosen_by_pen
ghosts-list_chosen_by_pen g a = record {
  name = a.pen.out.ghost_name;
  start = g.W.Device.contents a.pen.out.now;
  was_failed = g.W.Device.has_failed a.pen.out.now;
  opening = opening_of a.form;
  listing = listing_of a.job.now.task a.job.now.options.quiet;
  choice = a.job.now.options.choice;
}
