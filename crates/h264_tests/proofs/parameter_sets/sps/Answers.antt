use Rattle.std.proofs.Common.{◌≡◌, true, ◌&&◌, nat_le, refl}
use Rattle.std.proofs.lemmas.Bool.{le-leb, and_from}
use Rattle.h264_tables.specs.Level.{level_rows, limits_of}
use Rattle.h264_sps.specs.Usable.{has_count_lengths, is_usable}
use Rattle.h264_tests.proofs.parameter_sets.sps.Goals as goal

pub returns-clause-accepted : goal.returns-clause-accepted
unfolding is_usable limits_of level_rows
returns-clause-accepted c = let places = and_from (nat_le c.args.max_num_ref_frames 16) true (le-leb _ _ c.requires) refl in
    and_from (has_count_lengths c.counted.result) (nat_le c.args.max_num_ref_frames 16 && true) c.counted.ensures places
