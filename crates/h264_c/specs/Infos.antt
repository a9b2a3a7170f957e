-- What C reads of what the parameter sets say. To be read beside include/h264v.h.
use Rattle.std.specs.Prelude.{◌≡◌, ◌<◌, ◌^◌}
use Rattle.h264_c.specs.declared.info.CInfo.{CInfo}
use Rattle.h264_stream.specs.declared.info.StreamInfo.{StreamInfo}

-- The fields are those of this stream. A number has 32 bits, which hold those of every set that is judged.
pub record IsCInfo (info : StreamInfo) (c : CInfo) : Type 0 where
  pub profile : info.profile_idc < 2 ^ 32 → c.profile_idc ≡ info.profile_idc
  pub level : info.level_idc < 2 ^ 32 → c.level_idc ≡ info.level_idc
  pub width : info.width < 2 ^ 32 → c.width ≡ info.width
  pub height : info.height < 2 ^ 32 → c.height ≡ info.height
  pub coded_width : info.coded_width < 2 ^ 32 → c.coded_width ≡ info.coded_width
  pub coded_height : info.coded_height < 2 ^ 32 → c.coded_height ≡ info.coded_height
  pub left : info.crop_left < 2 ^ 32 → c.crop_left ≡ info.crop_left
  pub right : info.crop_right < 2 ^ 32 → c.crop_right ≡ info.crop_right
  pub top : info.crop_top < 2 ^ 32 → c.crop_top ≡ info.crop_top
  pub bottom : info.crop_bottom < 2 ^ 32 → c.crop_bottom ≡ info.crop_bottom
