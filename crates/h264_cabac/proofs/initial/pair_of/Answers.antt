use Rattle.std.proofs.Common.{ap, ◌∙◌}
use Rattle.std.specs.Prelude.{slice_get}
use Rattle.std.specs.Option.{option_and_then}
use Rattle.h264_cabac.specs.Contexts.{pair_of}
use Rattle.h264_cabac.specs.Pairs.{i_pairs, pairs_0, pairs_1, pairs_2}
use Rattle.h264_cabac.proofs.initial.pair_of.Goals as goal

pub returns-in-Intra : goal.returns-in-Intra
unfolding pair_of i_pairs
returns-in-Intra c = rw c.in-Intra.is (c.looked_up.ensures ∙ ap (option_and_then (slice_get i_pairs)) c.i_place.ensures)

pub returns-in-CabacInit0 : goal.returns-in-CabacInit0
unfolding pair_of pairs_0
returns-in-CabacInit0 c = rw c.in-CabacInit0.is (c.looked_up-in-CabacInit0.ensures ∙ ap (option_and_then (slice_get pairs_0)) c.p_place.ensures)

pub returns-in-CabacInit1 : goal.returns-in-CabacInit1
unfolding pair_of pairs_1
returns-in-CabacInit1 c = rw c.in-CabacInit1.is (c.looked_up-in-CabacInit1.ensures ∙ ap (option_and_then (slice_get pairs_1)) c.p_place-in-CabacInit1.ensures)

pub returns-in-CabacInit2 : goal.returns-in-CabacInit2
unfolding pair_of pairs_2
returns-in-CabacInit2 c = rw c.in-CabacInit2.is (c.looked_up-in-CabacInit2.ensures ∙ ap (option_and_then (slice_get pairs_2)) c.p_place-in-CabacInit2.ensures)
