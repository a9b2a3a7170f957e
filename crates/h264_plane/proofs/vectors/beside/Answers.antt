use Rattle.h264_plane.proofs.Lanes.{first_beside, second_beside}
use Rattle.h264_plane.proofs.vectors.beside.Goals as goal

pub returns-clause-first : goal.returns-clause-first
returns-clause-first c k p = first_beside 8 8 c.args.a c.args.b k c.fits-a.0 c.fits-b.0 p

pub returns-clause-second : goal.returns-clause-second
returns-clause-second c k p = second_beside 8 8 c.args.a c.args.b k c.fits-a.0 c.fits-b.0
