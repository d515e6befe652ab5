use Rattle.std.proofs.Common.{ap, ◌∙◌}
use Rattle.dispenser.specs.Cut.{cut}
use Rattle.dispenser.specs.Cuts.{cut_new}
use Rattle.dispenser.proofs.quota.Quota.new.Goals as goal

pub returns-clause-meaning : goal.returns-clause-meaning
returns-clause-meaning g c =
    let m = g.D.Dispenser.meaning c.args.below in
    ap (cut m) c.new.ensures ∙ cut_new m c.args.most (g.met.D.Dispenser.lawful c.args.below)
