-- The rules that `check --strict` judges beside the verdict's: their labels and clauses. To be read beside the standard.
use Rattle.std.specs.Prelude.{ℕ, Bool, if◌then◌else◌, List, [], ◌∷◌, Option, None, Some, codes}
use Rattle.h264_strict.specs.declared.strict_rule.StrictRule.{StrictRule}
use Rattle.h264_strict.specs.declared.strict_rule.StrictRule.TheVariants as rules

-- its place among them, from 0
unfoldable pub place_of : StrictRule → ℕ
place_of rules.ReservedBits = 0
place_of rules.AspectRatio = 1
place_of rules.VideoFormat = 2
place_of rules.ColourPrimaries = 3
place_of rules.TransferCharacteristics = 4
place_of rules.MatrixCoefficients = 5
place_of rules.ChromaLocation = 6
place_of rules.Timing = 7
place_of rules.Restriction = 8
place_of rules.OperationsExclude = 9
place_of rules.IdrCount = 10
place_of rules.SetRefIdc = 11
place_of rules.DelimiterFirst = 12
place_of rules.FillerFirst = 13
place_of rules.AfterEndOfStream = 14
place_of rules.Level1b = 15
place_of rules.ReservedConstraint = 16
place_of rules.DirectInference = 17
place_of rules.LowDelay = 18
place_of rules.UnitLength = 19
place_of rules.EndFirst = 20
place_of rules.LongTermReference = 21
place_of rules.Weights = 22
place_of rules.FrameNumRepeated = 23
place_of rules.CountRepeated = 24
place_of rules.Reorder = 25
place_of rules.VectorCount = 26
place_of rules.FrameRate = 27
place_of rules.ScheduleOrder = 28
place_of rules.ScheduleLimits = 29
place_of rules.CommonFactor = 30
place_of rules.PictureBytes = 31
place_of rules.SeiSizes = 32
place_of rules.DelimiterBits = 33
place_of rules.FillerBytes = 34
place_of rules.ZeroByte = 35
place_of rules.DelimiterType = 36
place_of rules.SeiContent = 37
place_of rules.BufferUnderflow = 38
place_of rules.InitialDelay = 39
place_of rules.BufferOverflow = 40
place_of rules.MinCompression = 41
place_of rules.RemovalRate = 42

unfoldable pub label_of : StrictRule → List ℕ
label_of rules.ReservedBits = codes "ReservedBits"
label_of rules.AspectRatio = codes "AspectRatio"
label_of rules.VideoFormat = codes "VideoFormat"
label_of rules.ColourPrimaries = codes "ColourPrimaries"
label_of rules.TransferCharacteristics = codes "TransferCharacteristics"
label_of rules.MatrixCoefficients = codes "MatrixCoefficients"
label_of rules.ChromaLocation = codes "ChromaLocation"
label_of rules.Timing = codes "Timing"
label_of rules.Restriction = codes "Restriction"
label_of rules.OperationsExclude = codes "OperationsExclude"
label_of rules.IdrCount = codes "IdrCount"
label_of rules.SetRefIdc = codes "SetRefIdc"
label_of rules.DelimiterFirst = codes "DelimiterFirst"
label_of rules.FillerFirst = codes "FillerFirst"
label_of rules.AfterEndOfStream = codes "AfterEndOfStream"
label_of rules.Level1b = codes "Level1b"
label_of rules.ReservedConstraint = codes "ReservedConstraint"
label_of rules.DirectInference = codes "DirectInference"
label_of rules.LowDelay = codes "LowDelay"
label_of rules.UnitLength = codes "UnitLength"
label_of rules.EndFirst = codes "EndFirst"
label_of rules.LongTermReference = codes "LongTermReference"
label_of rules.Weights = codes "Weights"
label_of rules.FrameNumRepeated = codes "FrameNumRepeated"
label_of rules.CountRepeated = codes "CountRepeated"
label_of rules.Reorder = codes "Reorder"
label_of rules.VectorCount = codes "VectorCount"
label_of rules.FrameRate = codes "FrameRate"
label_of rules.ScheduleOrder = codes "ScheduleOrder"
label_of rules.ScheduleLimits = codes "ScheduleLimits"
label_of rules.CommonFactor = codes "CommonFactor"
label_of rules.PictureBytes = codes "PictureBytes"
label_of rules.SeiSizes = codes "SeiSizes"
label_of rules.DelimiterBits = codes "DelimiterBits"
label_of rules.FillerBytes = codes "FillerBytes"
label_of rules.ZeroByte = codes "ZeroByte"
label_of rules.DelimiterType = codes "DelimiterType"
label_of rules.SeiContent = codes "SeiContent"
label_of rules.BufferUnderflow = codes "BufferUnderflow"
label_of rules.InitialDelay = codes "InitialDelay"
label_of rules.BufferOverflow = codes "BufferOverflow"
label_of rules.MinCompression = codes "MinCompression"
label_of rules.RemovalRate = codes "RemovalRate"

-- the clause of H.264 that states it
unfoldable pub clause_of : StrictRule → List ℕ
clause_of rules.ReservedBits = codes "7.4.2.1.1"
clause_of rules.AspectRatio = codes "E.2.1"
clause_of rules.VideoFormat = codes "E.2.1"
clause_of rules.ColourPrimaries = codes "E.2.1"
clause_of rules.TransferCharacteristics = codes "E.2.1"
clause_of rules.MatrixCoefficients = codes "E.2.1"
clause_of rules.ChromaLocation = codes "E.2.1"
clause_of rules.Timing = codes "E.2.1"
clause_of rules.Restriction = codes "E.2.1"
clause_of rules.OperationsExclude = codes "7.4.3.3"
clause_of rules.IdrCount = codes "8.2.1"
clause_of rules.SetRefIdc = codes "7.4.1"
clause_of rules.DelimiterFirst = codes "7.4.1.2.3"
clause_of rules.FillerFirst = codes "7.4.1.2.3"
clause_of rules.AfterEndOfStream = codes "7.4.2.6"
clause_of rules.Level1b = codes "7.4.2.1.1"
clause_of rules.ReservedConstraint = codes "7.4.2.1.1"
clause_of rules.DirectInference = codes "A.2"
clause_of rules.LowDelay = codes "E.2.1"
clause_of rules.UnitLength = codes "7.3.2"
clause_of rules.EndFirst = codes "7.4.1.2.3"
clause_of rules.LongTermReference = codes "7.4.3.3"
clause_of rules.Weights = codes "A.2.1"
clause_of rules.FrameNumRepeated = codes "7.4.3"
clause_of rules.CountRepeated = codes "8.2.1"
clause_of rules.Reorder = codes "E.2.1"
clause_of rules.VectorCount = codes "A.3.1"
clause_of rules.FrameRate = codes "A.3.1"
clause_of rules.ScheduleOrder = codes "E.2.2"
clause_of rules.ScheduleLimits = codes "A.3.1"
clause_of rules.CommonFactor = codes "E.2.1"
clause_of rules.PictureBytes = codes "E.2.1"
clause_of rules.SeiSizes = codes "7.3.2.3"
clause_of rules.DelimiterBits = codes "7.3.2.4"
clause_of rules.FillerBytes = codes "7.3.2.7"
clause_of rules.ZeroByte = codes "B.1.2"
clause_of rules.DelimiterType = codes "7.4.2.4"
clause_of rules.SeiContent = codes "D.1"
clause_of rules.BufferUnderflow = codes "C.3"
clause_of rules.InitialDelay = codes "C.3"
clause_of rules.BufferOverflow = codes "C.3"
clause_of rules.MinCompression = codes "A.3.1"
clause_of rules.RemovalRate = codes "A.3.1"

-- a rule, if it is broken
abbrev pub broken_if : Bool → StrictRule → Option StrictRule
broken_if is_broken rule = if is_broken then Some rule else None

-- the rules among these
abbrev pub listed : Option StrictRule → List StrictRule
listed None = []
listed (Some rule) = rule ∷ []
