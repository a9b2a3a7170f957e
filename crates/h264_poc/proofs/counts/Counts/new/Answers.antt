use Rattle.std.proofs.Common.{refl}
use Rattle.h264_poc.specs.Counts.{prev_of, prev_frame_num, prev_frame_num_offset, follows_non_reference}
use Rattle.h264_poc.proofs.counts.Counts.new.Goals as goal

pub returns : goal.returns
unfolding prev_of prev_frame_num prev_frame_num_offset follows_non_reference
returns c = record { prev = refl; frame_num = refl; frame_num_offset = refl; non_reference = refl }
