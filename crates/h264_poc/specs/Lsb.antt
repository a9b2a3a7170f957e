-- pic_order_cnt_type 0 (8.2.1.1). To be read beside the standard.
use Rattle.std.specs.Prelude.{ℕ, ◌-◌, ◌/◌, nat_lt, nat_le, ◌&&◌, Bool, ℤ, pos, ◌+ℤ◌, ◌-ℤ◌, if◌then◌else◌}
use Rattle.std.specs.Int.{int_gap, int_min}
use Rattle.h264_poc.specs.declared.lsb.Prev.{Prev}
use Rattle.h264_poc.specs.declared.within.FieldCounts.{FieldCounts}

-- prevPicOrderCntMsb and prevPicOrderCntLsb of an IDR picture
abbrev pub no_prev : Prev
no_prev = record { msb = pos 0; lsb = 0 }

-- PicOrderCntMsb: the lsb has wrapped upwards, or downwards, or not
abbrev pub msb_of : Prev → ℕ → ℕ → ℤ
msb_of prev lsb max =
    if nat_lt lsb prev.lsb && nat_le (max / 2) (prev.lsb - lsb) then prev.msb +ℤ pos max
    else (if nat_lt prev.lsb lsb && nat_lt (max / 2) (lsb - prev.lsb) then prev.msb -ℤ pos max
    else prev.msb)

abbrev pub lsb_counts : ℤ → ℕ → ℤ → FieldCounts
lsb_counts msb lsb delta_bottom = record { top = msb +ℤ pos lsb; bottom = (msb +ℤ pos lsb) +ℤ delta_bottom }

-- TopFieldOrderCnt once operation 5 has taken the lesser count from it
abbrev pub reset_top : FieldCounts → ℕ
reset_top counts = int_gap (int_min counts.top counts.bottom) counts.top

-- what a reference picture leaves as prevPicOrderCntMsb and prevPicOrderCntLsb
abbrev pub prev_after : Bool → ℤ → ℕ → ℤ → Prev
prev_after resets msb lsb delta_bottom =
    if resets then record { msb = pos 0; lsb = reset_top (lsb_counts msb lsb delta_bottom) }
    else record { msb = msb; lsb = lsb }
