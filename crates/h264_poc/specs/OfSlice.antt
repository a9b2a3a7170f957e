-- A picture as its counts see it, by the header of its first slice (8.2.1). To be read beside the standard.
use Rattle.std.specs.Prelude.{take, ◌^◌}
use Rattle.h264_sps.specs.declared.sps.Sps.{Sps}
use Rattle.h264_sps.specs.declared.count_type.CountType.{CountType}
use Rattle.h264_sps.specs.declared.count_type.CountType.TheVariants as count_type
use Rattle.h264_header.specs.declared.header.Header.{Header}
use Rattle.h264_header.specs.declared.header.PicOrderCnt.{PicOrderCnt}
use Rattle.h264_header.specs.declared.header.PicOrderCnt.TheVariants as elements
use Rattle.h264_header.specs.Picture.{is_idr, is_reference}
use Rattle.h264_marking.specs.Ended.{resets}
use Rattle.h264_poc.specs.declared.picture.Picture.{Picture}
use Rattle.h264_poc.specs.declared.picture.Order.{Order}
use Rattle.h264_poc.specs.declared.picture.Order.TheVariants as order

-- what a picture order count comes from
abbrev pub order_of : CountType → PicOrderCnt → Order
order_of (count_type.Lsb length) (elements.Lsb lsb bottom) = order.Lsb (2 ^ length) lsb bottom
order_of (count_type.Lsb length) (elements.Deltas top bottom) = order.DecodingOrder
order_of (count_type.Lsb length) elements.DecodingOrder = order.DecodingOrder
order_of (count_type.Cycle always_zero non_ref top_to_bottom cycle) (elements.Lsb lsb bottom) = order.DecodingOrder
order_of (count_type.Cycle always_zero non_ref top_to_bottom cycle) (elements.Deltas top bottom) =
    order.Cycle non_ref top_to_bottom (take cycle.length cycle.offset_for_ref_frame) top bottom
order_of (count_type.Cycle always_zero non_ref top_to_bottom cycle) elements.DecodingOrder = order.DecodingOrder
order_of count_type.DecodingOrder e = order.DecodingOrder

-- a picture as its counts see it
abbrev pub picture_of : Sps → Header → Picture
picture_of sps h = record {
  idr = is_idr h;
  reference = is_reference h;
  resets = resets h.marking;
  frame_num = h.frame_num.value;
  max_frame_num = 2 ^ sps.log2_max_frame_num;
  order = order_of sps.count_type h.pic_order_cnt;
}
