-- To be read beside the standard. The residual of a macroblock (8.5.1, 8.5.2, 8.5.4), and whether all values of its transform are in range. Blocks are
-- named by their column x and row y of blocks.
use Rattle.std.specs.Prelude.{ℕ, zero, suc, ◌+◌, ◌*◌, ◌/◌, ◌%◌, Bool, true, ◌&&◌, [], get_or, ℤ}
use Rattle.h264_plane.specs.declared.frame.Component.{Component}
use Rattle.h264_plane.specs.declared.frame.Component.TheVariants.{Y, Cb, Cr}
use Rattle.h264_plane.specs.Blocks.{number_of, column_of, row_of}
use Rattle.h264_scale.specs.Residual.{d_of, d_with_dc, residual_at, residual_fits}
use Rattle.h264_scale.specs.Dc.{dc16_at, dc16_fits, dc2_at, dc2_fits}
use Rattle.h264_scale.specs.declared.levels.LumaLevels.{LumaLevels}
use Rattle.h264_scale.specs.declared.levels.LumaLevels.TheVariants as luma
use Rattle.h264_scale.specs.declared.levels.ChromaLevels.{ChromaLevels}
use Rattle.h264_scale.specs.declared.levels.ChromaLevels.TheVariants as chroma
use Rattle.h264_scale.specs.declared.levels.Levels.{Levels}

-- ---- the residual

-- d of a luma block
unfoldable pub luma_d : ℕ → LumaLevels → ℕ → ℕ → ℕ → ℕ → ℤ
luma_d qp luma.NotCoded x y = d_of [] qp
luma_d qp (luma.Blocks levels) x y = d_of (get_or levels (number_of x y) []) qp
luma_d qp (luma.WithDc levels) x y = d_with_dc (dc16_at levels.dc qp y x) (get_or levels.ac (number_of x y) []) qp

-- d of a chroma block
unfoldable pub chroma_d : ℕ → ChromaLevels → ℕ → ℕ → ℕ → ℕ → ℤ
chroma_d qp chroma.NotCoded x y = d_of [] qp
chroma_d qp (chroma.WithDc levels) x y = d_with_dc (dc2_at levels.dc qp y x) (get_or levels.ac (2 * y + x) []) qp

unfoldable pub block_d : Levels → Component → ℕ → ℕ → ℕ → ℕ → ℤ
block_d l Y = luma_d l.qp l.luma
block_d l Cb = chroma_d l.qp_cb l.cb
block_d l Cr = chroma_d l.qp_cr l.cr

-- the residual at column x and row y of a plane of the macroblock
unfoldable pub residual : Levels → Component → ℕ → ℕ → ℤ
residual l p x y = residual_at (block_d l p (x / 4) (y / 4)) (y % 4) (x % 4)

-- ---- the range of the transform

-- whether a test holds of each number below n
unfoldable pub all_below : ℕ → (ℕ → Bool) → Bool
all_below zero p = true
all_below (suc n) p = all_below n p && p n

-- of the DC coefficients, where these have a transform of their own
unfoldable pub luma_dc_fits : ℕ → LumaLevels → Bool
luma_dc_fits qp luma.NotCoded = true
luma_dc_fits qp (luma.Blocks levels) = true
luma_dc_fits qp (luma.WithDc levels) = dc16_fits levels.dc qp

unfoldable pub chroma_dc_fits : ℕ → ChromaLevels → Bool
chroma_dc_fits qp chroma.NotCoded = true
chroma_dc_fits qp (chroma.WithDc levels) = dc2_fits levels.dc qp

-- of the blocks, by their numbers
unfoldable pub luma_blocks_fit : ℕ → LumaLevels → Bool
luma_blocks_fit qp levels = all_below 16 (λ b. residual_fits (luma_d qp levels (column_of b) (row_of b)))

unfoldable pub chroma_blocks_fit : ℕ → ChromaLevels → Bool
chroma_blocks_fit qp levels = all_below 4 (λ b. residual_fits (chroma_d qp levels (b % 2) (b / 2)))

unfoldable pub luma_fits : ℕ → LumaLevels → Bool
luma_fits qp levels = luma_dc_fits qp levels && luma_blocks_fit qp levels

unfoldable pub chroma_fits : ℕ → ChromaLevels → Bool
chroma_fits qp levels = chroma_dc_fits qp levels && chroma_blocks_fit qp levels

-- whether each value of the transform of a macroblock is in range (8.5.10, 8.5.11, 8.5.12)
unfoldable pub levels_fit : Levels → Bool
levels_fit l = luma_fits l.qp l.luma && chroma_fits l.qp_cb l.cb && chroma_fits l.qp_cr l.cr
