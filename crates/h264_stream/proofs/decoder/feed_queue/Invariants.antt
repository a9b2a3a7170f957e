use Rattle.h264_stream.specs.Queue.{told_of_frames}
use Rattle.h264_stream.proofs.decoder.feed_queue.Given as goal

abbrev pub ghosts-feed : goal.ghosts-feed
ghosts-feed a = record { handed_out = a.queue.handed_out; waiting = told_of_frames a.queue.waiting.items }
