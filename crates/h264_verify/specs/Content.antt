-- What stands in a unit. To be read beside the standard.
use Rattle.std.specs.Prelude.{List}
use Rattle.h264_sps.specs.declared.sps.Sps.{Sps}
use Rattle.h264_pps.specs.declared.Pps.{Pps}
use Rattle.h264_header.specs.declared.header.Header.{Header}
use Rattle.h264_near.specs.Coded.{CodedMacroblock}

pub data Content : Type 0 where
  OfSps : Sps → Content
  OfPps : Pps → Content
  -- the header of a slice, and the macroblocks of its picture up to its end; none where slice data are not read
  OfSlice : Header → List CodedMacroblock → Content
  -- what is passed over
  Passed : Content
