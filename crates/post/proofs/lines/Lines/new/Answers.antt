use Rattle.post.proofs.Turns.{all_empty}
use Rattle.post.proofs.lines.Lines.new.Goals as goal

pub returns : goal.returns
returns c = all_empty c.new.result c.new.ensures.1
