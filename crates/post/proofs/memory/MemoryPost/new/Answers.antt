use Rattle.std.proofs.Common.{ap}
use Rattle.post.specs.Places.{lying}
use Rattle.post.proofs.memory.MemoryPost.new.Goals as goal

pub returns-clause-empty : goal.returns-clause-empty
returns-clause-empty g c = ap (lying _) c.new-lines.ensures
