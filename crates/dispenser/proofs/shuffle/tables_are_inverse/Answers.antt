use Rattle.dispenser.specs.Shuffles.{inverse}
use Rattle.dispenser.proofs.shuffle.tables_are_inverse.Goals as goal

pub returns : goal.returns
returns c = inverse
