-- The lines of elements. To be read beside docs/OUTPUT.md.
use Rattle.std.specs.Prelude.{ℕ, ◌∷◌, ◌++◌, List, []}
use Rattle.h264_lines.specs.Lines.{element_text}
use Rattle.h264_lines.specs.Told.{ended}
use Rattle.h264_lines.specs.declared.trail.Element.{Element}

-- a line each, the first first
unfoldable pub element_lines : List Element → List ℕ
element_lines [] = []
element_lines (e ∷ es) = ended (element_text e.name e.bit e.value) ++ element_lines es
