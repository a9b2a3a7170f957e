-- YUV4MPEG2: a header, and each frame after a line of its own. To be read beside the description of that format.
use Rattle.std.specs.Prelude.{◌≡◌, ℕ, ◌<◌, Bool, List, [], ◌++◌, ◌∷◌, length, Option, None, Some, codes}
use Rattle.std.specs.Fmt.{decimal}
use Rattle.std.specs.List.{All}
use Rattle.h264_base.specs.Call.{Call, OfFrame}
use Rattle.h264_lines.specs.Sent.{IsBlamed, LentWriter}
use Rattle.h264_lines.specs.Told.{ended, HoldsCalls}
use Rattle.h264_lines.specs.declared.head.Aspect.{Aspect}
use Rattle.h264_lines.specs.declared.head.Head.{Head}

-- the shape of a sample, where it is known: a blank and AWIDTH:HEIGHT
abbrev pub aspect_text : Option Aspect → List ℕ
aspect_text None = []
aspect_text (Some aspect) = codes " A" ++ (decimal aspect.width ++ (codes ":" ++ decimal aspect.height))

-- YUV4MPEG2 WWIDTH HHEIGHT FFRAMES:SECONDS Ip [AWIDTH:HEIGHT] C420
abbrev pub head_text : Head → List ℕ
head_text head =
    codes "YUV4MPEG2 W" ++ (decimal head.width ++ (codes " H" ++ (decimal head.height ++ (codes " F" ++ (decimal head.frames
    ++ (codes ":" ++ (decimal head.seconds ++ (codes " Ip" ++ (aspect_text head.aspect ++ codes " C420")))))))))

-- a frame with its line
abbrev pub framed : List ℕ → List ℕ
framed bytes = ended (codes "FRAME") ++ bytes

abbrev pub framed_in : Call → List ℕ
framed_in (OfFrame count width height bytes) = framed bytes
framed_in call = []

-- the frames of these calls, each with its line
unfoldable pub framed_of : List Call → List ℕ
framed_of [] = []
framed_of (call ∷ calls) = framed_in call ++ framed_of calls

-- these frames with their lines, after the header; without a frame there is no header
abbrev pub headed : Option Head → List ℕ → List ℕ
headed None bytes = bytes
headed (Some head) [] = []
headed (Some head) (byte ∷ bytes) = ended (head_text head) ++ byte ∷ bytes

-- the bytes of the frames of these calls, after this header
abbrev pub y4m_of : Option Head → List Call → List ℕ
y4m_of head calls = headed head (framed_of calls)

-- a frame has the size that the header names
abbrev pub HasSize : Head → Call → Type 0
HasSize head (OfFrame count width height bytes) = (width ≡ head.width) × (height ≡ head.height)
HasSize head call = Unit {0}

-- There is a header where there is a frame, and its size is that of each frame of these calls.
abbrev pub SuitsHead : Option Head → List Call → Type 0
SuitsHead None calls = framed_of calls ≡ []
SuitsHead (Some head) calls = (0 < length (framed_of calls)) × All (HasSize head) calls

-- Through this reference the writer took the header and the frames of these calls since the start; or the last of them broke off.
pub record TookY4m (start : LentWriter) (head : Option Head) (broke_off : Bool) (writer : LentWriter) (calls : List Call) : Type 0 where
  pub same_reference : writer.reference ≡ start.reference
  pub suits : SuitsHead head calls
  pub holds : HoldsCalls broke_off (y4m_of head) start.bytes writer.bytes calls
  pub blamed : IsBlamed broke_off start.has_failed writer.has_failed
