use Rattle.std.proofs.Common.{ap}
use Rattle.post.specs.Places.{lying}
use Rattle.band.proofs.Band.new.Goals as goal

pub returns-clause-empty : goal.returns-clause-empty
returns-clause-empty c = ap (lying _) c.new-lines.ensures
