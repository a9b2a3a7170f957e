use Rattle.h264_stream.specs.Queue.{told_of_frames}
use Rattle.h264_stream.proofs.decoder.conclude_queue.Given as goal

abbrev pub ghosts-conclude : goal.ghosts-conclude
ghosts-conclude a = record { handed_out = a.queue.handed_out; waiting = told_of_frames a.queue.waiting.items }
