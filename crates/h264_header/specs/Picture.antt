-- Where a picture begins (7.4.1.2.4). To be read beside the standard.
use Rattle.std.specs.Prelude.{ℕ, ◌==◌, ◌||◌, ◌&&◌, not, Bool, true, false, Option, Some, None}
use Rattle.std.specs.Option.{is_some}
use Rattle.h264_bits.specs.declared.element.Found.{Found}
use Rattle.h264_header.specs.declared.header.PicOrderCnt.{PicOrderCnt}
use Rattle.h264_header.specs.declared.header.PicOrderCnt.TheVariants.{Lsb, Deltas, DecodingOrder}
use Rattle.h264_header.specs.declared.header.Header.{Header}
use Rattle.h264_header.specs.declared.header.PictureElements.{PictureElements}
use Rattle.std.specs.Ordering.{int_eq}

-- pic_order_cnt_type is 0 for both, and pic_order_cnt_lsb or delta_pic_order_cnt_bottom differs
abbrev pub lsb_differs : PicOrderCnt → PicOrderCnt → Bool
lsb_differs (Lsb lsb bottom) (Lsb lsb' bottom') = not (lsb == lsb') || not (int_eq bottom bottom')
lsb_differs (Lsb lsb bottom) (Deltas top' bottom') = false
lsb_differs (Lsb lsb bottom) DecodingOrder = false
lsb_differs (Deltas top bottom) other = false
lsb_differs DecodingOrder other = false

-- pic_order_cnt_type is 1 for both, and delta_pic_order_cnt[0] or delta_pic_order_cnt[1] differs
abbrev pub deltas_differ : PicOrderCnt → PicOrderCnt → Bool
deltas_differ (Lsb lsb bottom) other = false
deltas_differ (Deltas top bottom) (Lsb lsb' bottom') = false
deltas_differ (Deltas top bottom) (Deltas top' bottom') = not (int_eq top top') || not (int_eq bottom bottom')
deltas_differ (Deltas top bottom) DecodingOrder = false
deltas_differ DecodingOrder other = false

-- both are slices of IDR pictures, and idr_pic_id differs
abbrev pub idr_pic_ids_differ : Option (Found ℕ) → Option (Found ℕ) → Bool
idr_pic_ids_differ None other = false
idr_pic_ids_differ (Some id) None = false
idr_pic_ids_differ (Some id) (Some id') = not (id.value == id'.value)

-- IdrPicFlag differs
abbrev pub idr_differs : Option (Found ℕ) → Option (Found ℕ) → Bool
idr_differs None None = false
idr_differs None (Some id') = true
idr_differs (Some id) None = true
idr_differs (Some id) (Some id') = false

-- nal_ref_idc differs, and is 0 for one of them
abbrev pub reference_differs : ℕ → ℕ → Bool
reference_differs idc idc' = not (idc == idc') && (idc == 0 || idc' == 0)

-- the elements of a slice that are compared
abbrev pub picture_elements : Header → PictureElements
picture_elements h = record {
  nal_ref_idc = h.nal_ref_idc;
  pic_parameter_set_id = h.pic_parameter_set_id.value;
  frame_num = h.frame_num.value;
  idr_pic_id = h.idr_pic_id;
  pic_order_cnt = h.pic_order_cnt;
}

-- The second slice is the first of a picture, where the first slice is the one before it.
abbrev pub begins_picture : PictureElements → PictureElements → Bool
begins_picture old new =
    not (old.frame_num == new.frame_num)
    || not (old.pic_parameter_set_id == new.pic_parameter_set_id)
    || reference_differs old.nal_ref_idc new.nal_ref_idc
    || lsb_differs old.pic_order_cnt new.pic_order_cnt
    || deltas_differ old.pic_order_cnt new.pic_order_cnt
    || idr_differs old.idr_pic_id new.idr_pic_id
    || idr_pic_ids_differ old.idr_pic_id new.idr_pic_id

-- a slice of an IDR picture
abbrev pub is_idr : Header → Bool
is_idr h = is_some h.idr_pic_id

-- its picture is used for reference
abbrev pub is_reference : Header → Bool
is_reference h = not (h.nal_ref_idc == 0)
