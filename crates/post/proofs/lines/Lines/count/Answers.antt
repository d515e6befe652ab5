use Rattle.std.proofs.Common.{sym, rules}
use Rattle.post.proofs.Turns.{reads, waiting}
use Rattle.post.proofs.lines.Lines.count.Goals as goal

pub returns-in-Some : goal.returns-in-Some
returns-in-Some c = sym (waiting c.args.self.now _ _ _ _ (reads c.args.self.now c.args.pair.receiver c.args.pair.sender _ c.index-self-number.result c.in-Some.ensures (search rules)))
