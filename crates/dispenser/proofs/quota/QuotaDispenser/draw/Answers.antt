use Rattle.std.proofs.Common.{◌≡◌, ◌<◌, get_or, ◌∙◌, ap₂, arith}
use Rattle.dispenser.specs.Cut.{cut}
use Rattle.dispenser.specs.Cuts.{cut_drawn}
use Rattle.dispenser.proofs.quota.QuotaDispenser.draw.Goals as goal

pub returns-clause-left : goal.returns-clause-left
returns-clause-left g c =
    let s = c.args.self.now in
    let left = s.allowance.left in
    let e : c.in_ok-known.known ≡ c.args.lane = c.in_ok-known.ensures.same in
    let h : 0 < get_or left c.in_ok-known.known 0 = omega (arith, c.of.ensures) in
    rw e at (ap₂ cut c.draw.ensures.left c.spend.ensures) ∙ cut_drawn (g.D.Dispenser.meaning s.below) left c.args.lane (rw e at h)
