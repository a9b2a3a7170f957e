use Rattle.h264_picture.proofs.Sources.{decoded-shared}
use Rattle.h264_picture.proofs.laws.sources_alone.Goals as goal

pub returns : goal.returns
returns c = decoded-shared
