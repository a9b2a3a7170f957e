-- The last line or object of several files: how many had which answer. To be read beside docs/OUTPUT.md.
use Rattle.std.specs.Prelude.{ℕ, List, ◌++◌, codes}
use Rattle.h264_pages.specs.Pages.{numbered, number_field}
use Rattle.h264_command.specs.declared.more.Totals.{Totals as Counts}

-- total: files N yes N no N outside N memory N failed N
abbrev pub total_line : Counts → List ℕ
total_line t = numbered (codes "total: files ") t.files ++ (numbered (codes " yes ") t.yes ++ (numbered (codes " no ") t.no
    ++ (numbered (codes " outside ") t.outside ++ (numbered (codes " memory ") t.memory ++ (numbered (codes " failed ") t.failed ++ codes "\n")))))

-- {"kind":"total","files":N,"yes":N,"no":N,"outside":N,"memory":N,"failed":N}
abbrev pub total_object : Counts → List ℕ
total_object t = codes "{\"kind\":\"total\"" ++ (number_field (codes "files") t.files ++ (number_field (codes "yes") t.yes
    ++ (number_field (codes "no") t.no ++ (number_field (codes "outside") t.outside ++ (number_field (codes "memory") t.memory
    ++ (number_field (codes "failed") t.failed ++ codes "}\n"))))))
