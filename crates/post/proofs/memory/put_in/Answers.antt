use Rattle.std.proofs.Common.{rules}
use Rattle.post.specs.Places.{places}
use Rattle.post.proofs.Posts.{put_left}
use Rattle.post.proofs.memory.put_in.Goals as goal

pub returns-clause-left : goal.returns-clause-left
returns-clause-left g c =
    put_left (g.M.Memory.letters c.args.memory.now) c.args.lines.now c.args.pair.receiver c.args.pair.sender _ _ _ _ (places c.add.new.self)
    c.store.ensures.letters (search rules) (search rules) c.add.ensures.left
