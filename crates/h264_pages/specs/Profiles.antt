-- The names of profiles and levels. To be read beside the standard (A.2, A.3).
use Rattle.std.specs.Prelude.{ℕ, ◌/◌, ◌%◌, ◌==◌, ◌||◌, ◌&&◌, Bool, List, ◌++◌, codes, if◌then◌else◌}
use Rattle.std.specs.Fmt.{decimal}

-- the name of a profile, by profile_idc and constraint_set1_flag
unfoldable pub profile_name : (profile_idc : ℕ) → (constraint_set1 : Bool) → List ℕ
profile_name p constraint_set1 =
    if p == 66 then (if constraint_set1 then codes "Constrained Baseline" else codes "Baseline")
    else if p == 77 then codes "Main"
    else if p == 88 then codes "Extended"
    else if p == 100 then codes "High"
    else if p == 110 then codes "High 10"
    else if p == 122 then codes "High 4:2:2"
    else if p == 244 then codes "High 4:4:4 Predictive"
    else if p == 44 then codes "CAVLC 4:4:4 Intra"
    else if p == 83 then codes "Scalable Baseline"
    else if p == 86 then codes "Scalable High"
    else if p == 118 then codes "Multiview High"
    else if p == 128 then codes "Stereo High"
    else if p == 138 then codes "Multiview Depth High"
    else codes "unknown"

-- level 1b: level_idc 9, or 11 with constraint_set3_flag in the Baseline, the Main and the Extended profile (7.4.2.1.1)
abbrev pub is_level_1b : (profile_idc level_idc : ℕ) → (constraint_set3 : Bool) → Bool
is_level_1b p l constraint_set3 = (l == 9) || ((l == 11) && (constraint_set3 && ((p == 66) || (p == 77) || (p == 88))))

-- a level such as 3.1: level_idc is ten times as much; whole ones have no decimal
abbrev pub plain_level : ℕ → List ℕ
plain_level l = if l % 10 == 0 then decimal (l / 10) else decimal (l / 10) ++ (codes "." ++ decimal (l % 10))

-- the name of a level of a profile
abbrev pub level_name : (profile_idc level_idc : ℕ) → (constraint_set3 : Bool) → List ℕ
level_name p l constraint_set3 = if is_level_1b p l constraint_set3 then codes "1b" else plain_level l
