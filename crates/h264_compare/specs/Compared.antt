-- What comes of frames, compared one after another with a reconstruction. To be read as it stands, beside no clause of the standard.
use Rattle.std.specs.Prelude.{◌≡◌, ℕ, ◌+◌, ◌<◌, List, [], ◌∷◌, ◌++◌, map, length, Option, None, Some, IsTrue, if◌then◌else◌}
use Rattle.std.specs.List.{All, flat_map, range_with_len}
use Rattle.std.specs.Io.KnownBytes.{Consumes}
use Rattle.h264_base.specs.Call.{Call, OfFrame}
use Rattle.h264_plane.specs.declared.frame.Component.{Component}
use Rattle.h264_plane.specs.declared.frame.Frame.{Frame}
use Rattle.h264_dpb.specs.Shown.{width_in, height_in}
use Rattle.h264_dpb.specs.declared.entry.Rectangle.{Rectangle}
use Rattle.h264_lines.specs.Frames.{shown_bytes}
use Rattle.h264_compare.specs.declared.comparing.Run.{Run}
use Rattle.h264_compare.specs.declared.shown.ShownFrame.{ShownFrame}
use Rattle.h264_compare.specs.declared.given.Lack.{Lack}
use Rattle.h264_compare.specs.declared.given.Layout.{Layout}
use Rattle.h264_compare.specs.declared.numbers.Numbers.{Numbers}
use Rattle.h264_compare.specs.Places.{luma}
use Rattle.h264_compare.specs.Differences.{differences, first_of, differ, squares}
use Rattle.h264_compare.specs.Numbers.{Compared, AreNoted, AreNumbersOf, capped, earlier, sum_of}
use Rattle.h264_compare.specs.Given.{Standing, EndsWith, IsLine, suits}

-- what is shown of a frame: its width and height in luma samples, and its bytes as `decode` writes them
pub record Picture : Type 0 where
  pub width : ℕ
  pub height : ℕ
  pub bytes : List ℕ

abbrev pub picture_of : Frame → Rectangle → Picture
picture_of f r = record { width = width_in r f; height = height_in r f; bytes = shown_bytes f r }

-- the pictures that a sink was told, in the order of output
abbrev pub picture_in : Call → List Picture
picture_in (OfFrame count width height bytes) = record { width = width; height = height; bytes = bytes } ∷ []
picture_in call = []

abbrev pub pictures_of : List Call → List Picture
pictures_of calls = flat_map picture_in calls

-- the picture that a frame was compared as, and what was read for it
abbrev pub compared_as : Compared → Picture
compared_as f = record { width = f.shown.width; height = f.shown.height; bytes = f.made }

abbrev pub read_for : Compared → List ℕ
read_for f = f.line ++ f.given

-- Where samples of it were given, what stands before them is as the layout says, and the frame has the size that the reconstruction names.
pub record Suits (layout : Layout) (f : Compared) : Type 0 where
  pub line : 0 < length f.given → IsLine layout f.line
  pub size : 0 < length f.given → IsTrue (suits layout f.shown.width f.shown.height)

-- From old to new one frame more was counted and noted.
pub record AddsFrame (old new : Numbers) (f : Compared) : Type 0 where
  pub number : f.shown.number ≡ old.frames
  pub frames : new.frames ≡ old.frames + 1
  pub differing : new.differing ≡ capped (old.differing + (if differ f.made f.given then 1 else 0))
  pub first : new.first ≡ earlier old.first (first_of (differences f.shown 0 f.made f.given))
  pub luma_are : new.luma ≡ capped (old.luma + luma f.shown)
  pub squares_are : (c : Component) → sum_of c new.squares ≡ capped (sum_of c old.squares + squares c f.shown 0 f.made f.given)

-- From old to new the samples of a frame were compared with those that stand next in the reconstruction.
pub record ComparesNext (layout : Layout) (shown : ShownFrame) (old new : Standing) (made : List ℕ) (run : Run) : Type 0 where
  pub line : List ℕ
  pub given : List ℕ
  pub read : Consumes old.left new.left (line ++ given)
  pub suits_it : Suits layout (record { shown = shown; made = made; line = line; given = given })
  pub noted : AreNoted shown 0 old.numbers new.numbers made given
  pub differs_are : run.differs ≡ differ made given
  pub ends : EndsWith run.lack new.left made given

-- From old to new a frame of this picture was compared.
pub record ComparesFrame (layout : Layout) (old new : Standing) (picture : Picture) (lack : Option Lack) : Type 0 where
  pub frame : Compared
  pub compared : compared_as frame ≡ picture
  pub read : Consumes old.left new.left (read_for frame)
  pub suits_it : Suits layout frame
  pub ends : EndsWith lack new.left frame.made frame.given
  pub adds : AddsFrame old.numbers new.numbers frame

-- All samples of a frame were given.
abbrev pub IsWhole : Compared → Type 0
IsWhole f = length f.given ≡ length f.made

-- Of the last frame, and of no other one, only the first samples were given, or none.
pub record LacksOfLast (lack : Lack) (left : Option (List ℕ)) (frames : List Compared) : Type 0 where
  pub before : List Compared
  pub last : Compared
  pub all : frames ≡ before ++ last ∷ []
  pub whole : All IsWhole before
  pub ends : EndsWith (Some lack) left last.made last.given

abbrev pub AreGiven : Option Lack → (left : Option (List ℕ)) → List Compared → Type 0
AreGiven None left frames = All IsWhole frames
AreGiven (Some lack) left frames = LacksOfLast lack left frames

-- From this start of the reconstruction the pictures of these calls were compared.
pub record HasCompared (start : Option (List ℕ)) (layout : Layout) (now : Standing) (lack : Option Lack) (calls : List Call) : Type 0 where
  pub frames : List Compared
  pub told : map compared_as frames ≡ pictures_of calls
  pub numbered : map (λ f. f.shown.number) frames ≡ range_with_len 0 (length frames)
  pub read : Consumes start now.left (flat_map read_for frames)
  pub suit : All (Suits layout) frames
  pub given : AreGiven lack now.left frames
  pub numbers : AreNumbersOf now.numbers frames
