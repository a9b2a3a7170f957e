-- What is always so of the memory of a sequence stays so.
use Rattle.std.proofs.Common.{◌≡◌, ℕ, ◌+◌, ◌*◌, ◌%◌, ◌<◌, ◌≤◌, List, length, vec_len, Fits, w32, arith, ◌∙◌, refl}
use Rattle.h264_plane.specs.Places.{side}
use Rattle.h264_plane.specs.declared.frame.Component.{Component}
use Rattle.std.proofs.Common.{true}
use Rattle.std.proofs.lemmas.Bool.Decides.{nat_tests}
use Rattle.h264_plane.specs.declared.plane.TheConstants.{MAX_SIDE}
use Rattle.h264_sps.specs.declared.sps.FrameSize.{FrameSize}
use Rattle.h264_plane.specs.declared.frame.Component.TheVariants.{Y, Cb, Cr}
use Rattle.h264_recon.specs.Lines.{store_of}
use Rattle.h264_near.specs.declared.near.Near.{Near}
use Rattle.h264_recon.specs.declared.macroblock.Position.{Position}
use Rattle.h264_recon.specs.declared.store.Lines.{Lines}
use Rattle.h264_picture.specs.declared.canvas.Canvas.{Canvas}
use Rattle.h264_picture.specs.declared.frames.Frames.{Frames}
use Rattle.h264_picture.specs.declared.picture.Picture.{Picture}
use Rattle.h264_picture.specs.Lent.{AreFrames}
use Rattle.h264_picture.specs.Sound.{ArePlaces, IsSound, IsCanvas}
use Rattle.h264_sps.specs.Usable.{is_frame_size}

pub same-places : (old new : Frames) (ps : List ℕ) → length new.pool ≡ length old.pool → new.place ≡ old.place → ArePlaces old ps → ArePlaces new ps
same-places old new ps n p a = record {
  each = λ k i. let h = a.each k i in
      record { inside = (let x = h.inside in omega arith); other = λ e. h.other (e ∙ p) };
}

-- other frames, of the same size and as many
pub same-frames : (across down places : ℕ) (c : Canvas) (f : Frames) → AreFrames (16 * across) (16 * down) f → length f.pool ≡ length c.frames.pool →
    IsCanvas across down places c → IsCanvas across down places (record c { frames = f })
same-frames across down places c f a n d = record { lines = d.lines; frames = a; count = n ∙ d.count }

-- where the first macroblock of a picture stands
abbrev first : Position
first = record { column = 0; row = 0 }

-- the first macroblock of a picture
pub begun : (across down count : ℕ) (p : Picture) (n : Near) → IsSound across down count p →
    IsSound across down count (record p { near = n; next = 0; position = first })
begun across down count p near s = record { wide = s.wide; tall = s.tall; size = s.size; next = omega arith; column = s.wide.0 }

-- a sequence of which no picture is begun
pub fresh : (w h : ℕ) (n : Near) → ((0 < w) × (w ≤ 543)) → ((0 < h) × (h ≤ 543)) →
    IsSound w h (w * h) (record { near = n; next = 0; position = first })
fresh w h near wide tall = record { wide = wide; tall = tall; size = refl; next = omega arith; column = wide.0 }

-- a frame size that is allowed
pub sized : (s : FrameSize) → is_frame_size s ≡ true → ((0 < s.width) × (s.width ≤ 543)) × ((0 < s.height) × (s.height ≤ 543))
sized s h = ((grind (arith, nat_tests), grind (arith, nat_tests)), (grind (arith, nat_tests), grind (arith, nat_tests)))

pub lined : (l : Lines) (w : ℕ) → vec_len l.y.above ≡ 16 * w → vec_len l.cb.above ≡ 8 * w → vec_len l.cr.above ≡ 8 * w →
    (p : Component) → vec_len (store_of p l).above ≡ side p * w
lined l w y cb cr Y = y
lined l w y cb cr Cb = cb
lined l w y cb cr Cr = cr

-- the number of its macroblocks is small
few : (s : FrameSize) → is_frame_size s ≡ true → s.width * s.height ≤ 36864
few s h = grind (arith, nat_tests)

pub counted : (s : FrameSize) → is_frame_size s ≡ true → Fits w32 (s.width * s.height)
counted s h = let n = few s h in omega arith

-- and so are its sides
pub record IsWideEnough (w : ℕ) : Type 0 where
  pub small : w ≤ 1024
  pub side : 16 * w ≤ MAX_SIDE
  pub whole : 16 * w % 16 ≡ 0

pub wide-enough : (w : ℕ) → w ≤ 543 → IsWideEnough w
wide-enough w h = record { small = omega arith; side = omega arith; whole = omega arith }

-- a frame more than the picture buffer holds
pub one-more : (n : ℕ) → n ≤ 16 → (0 < n + 1) × (n + 1 ≤ 17)
one-more n h = (omega arith, omega arith)

-- one macroblock more
pub next-sound : (across down count : ℕ) (p : Picture) (on : Position) → IsSound across down count p → on.column < across →
    on.row * across + on.column ≡ p.position.row * across + p.position.column + 1 → IsSound across down count (record p { next = p.next + 1; position = on })
next-sound across down count p on s i e =
    record { wide = s.wide; tall = s.tall; size = s.size; next = (let n = s.next in omega arith); column = i }
