-- What the reader's own types show. A working form.
use Rattle.h264_sps.specs.declared.read.Level.{Level}
use Rattle.h264_sps.specs.declared.read.Front.{Front}
use Rattle.h264_sps.specs.Sps.{LevelNamed, ProfileAndLevel}

abbrev pub level_seen : Level → LevelNamed
level_seen l = record { level_idc = l.level_idc; limits = l.limits }

abbrev pub front_seen : Front → ProfileAndLevel
front_seen f = record { profile_idc = f.profile_idc; flags = f.flags; reserved = f.reserved; named = level_seen f.level }
