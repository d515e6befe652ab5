use Rattle.std.proofs.Common.{sym, ◌∙◌, arith}
use Rattle.std.proofs.lemmas.Bool.{le-ltb}
use Rattle.sets.proofs.Bits.{has_past}
use Rattle.sets.proofs.has.Goals as goal

pub returns-else-tag-lt64 : goal.returns-else-tag-lt64
returns-else-tag-lt64 c = le-ltb c.args.tag 64 (omega arith) ∙ sym (has_past 64 c.args.tag c.args.set (omega arith) (omega arith))
