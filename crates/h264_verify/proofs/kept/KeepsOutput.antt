-- What is kept of the frames, by the mode.
use Rattle.std.proofs.Common.{◌≡◌, ◌<◌, ℕ, true, false, Bool, ◌∷◌, [], List, Option, Some, None, length, arith}
use Rattle.std.specs.Option.{option_map_or}
use Rattle.h264_near.specs.Coded.{CodedMacroblock}
use Rattle.h264_picture.specs.declared.sequence.Sequence.{Sequence}
use Rattle.h264_picture.specs.Holds.{IsActive, HoldsMacroblocks}
use Rattle.h264_picture.specs.Places.{places}
use Rattle.h264_verify.specs.declared.state.Depth.{Depth}
use Rattle.h264_verify.specs.declared.decoder.Decoder.{Decoder}
use Rattle.h264_verify.specs.Pictures.{CodedSlice, CodedPicture, open_of, begins_after}
use Rattle.h264_verify.specs.Buffering.{after_all}
use Rattle.h264_picture.specs.declared.work.Work.{Work}
use Rattle.h264_verify.specs.Keeping.{KeepsFrames, WhereMade, FillsFrames, EntersSome, EntersBy, HoldsCoded, HoldsNewest}
use Rattle.h264_header.specs.declared.header.Header.{Header}
use Rattle.h264_verify.proofs.kept.WhereMade.{made-then}
use Rattle.h264_verify.specs.Telling.{Family}

-- there is a picture that begins
pub enters-some : (frames : Family) (begins : Bool) (s : CodedSlice) (on : Bool) (pictures : List CodedPicture) (d : Decoder) → begins ≡ true →
    EntersBy frames begins s on pictures d → EntersSome d
enters-some frames true s on pictures d b k = record { frames = frames; slice = s; pictures = pictures; keeps = k }
enters-some frames false s on pictures d b k = cc

-- the macroblocks of the picture that may go on
pub coded-by : (frames : Family) (on : Bool) (pictures : List CodedPicture) (d : Decoder) → KeepsFrames frames on false pictures d →
    HoldsCoded (open_of on pictures) d.work
coded-by frames on [] d h = tt
coded-by frames true (p ∷ ps) d h = h.picture.so_far.holds
coded-by frames false (p ∷ ps) d h = tt

-- once the newest picture has ended
pub gap-by : (frames : Family) (on : Bool) (pictures : List CodedPicture) (d : Decoder) → KeepsFrames frames on true pictures d →
    FillsFrames frames (after_all pictures) (length pictures) d
gap-by frames on [] d h = record { output = h.output; settled = h.picture }
gap-by frames true (p ∷ ps) d h = record { output = h.output; settled = h.picture }
gap-by frames false (p ∷ ps) d h = record { output = h.output; settled = h.picture }

pub ended-gap : (depth : Depth) (frames : Family) (on : Bool) (pictures : List CodedPicture) (decoder : Option Decoder) →
    WhereMade depth (KeepsFrames frames on true pictures) decoder → WhereMade depth (FillsFrames frames (after_all pictures) (length pictures)) decoder
ended-gap depth frames on pictures decoder h = made-then _ _ depth decoder (gap-by frames on pictures) h

-- what a slice that is no first one finds of its picture's macroblocks
pub holds-newest : (on : Bool) (pictures : List CodedPicture) (h : Header) (begins : Bool) (work : Work) → begins ≡ begins_after (open_of on pictures) h →
    HoldsCoded (open_of on pictures) work → HoldsNewest begins pictures work
holds-newest on pictures h true work b k = tt
holds-newest on [] h false work b k = cc
holds-newest true (p ∷ ps) h false work b k = k
holds-newest false (p ∷ ps) h false work b k = cc

-- a sequence that is active has places
some-places : (P : Sequence → Type 0) (o : Option Sequence) → IsActive P o → 0 < option_map_or (λ (s : Sequence). s.places) o 0
some-places P None h = absurd h
some-places P (Some s) h = let r = s.room in omega arith

pub has-places : (width size : ℕ) (picture : List CodedMacroblock) (work : Work) → HoldsMacroblocks width size picture work → 0 < places work
has-places width size picture work h = some-places _ work.active h
