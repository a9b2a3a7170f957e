use Rattle.h264_inter.proofs.Depends.{quarter_depends, eighth_depends}
use Rattle.h264_inter.proofs.laws.places_depend_on_samples.Goals as goal

pub returns-clause-quarter : goal.returns-clause-quarter
returns-clause-quarter c = quarter_depends

pub returns-clause-eighth : goal.returns-clause-eighth
returns-clause-eighth c = eighth_depends
