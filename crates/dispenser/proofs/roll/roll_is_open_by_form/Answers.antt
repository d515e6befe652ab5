use Rattle.dispenser.specs.Rolls.{open_by_form}
use Rattle.dispenser.proofs.roll.roll_is_open_by_form.Goals as goal

pub returns : goal.returns
returns c = open_by_form
