use Rattle.std.proofs.Common.{◌≡◌, ◌++◌, take, drop}
use Rattle.dispenser.specs.Draws.{lanes_of, answered, after}
use Rattle.dispenser.proofs.draws.draw_all.Given as goal

-- the answers so far and the answers to come are those of the whole list
abbrev pub invariant-loop-draw : goal.invariant-loop-draw
invariant-loop-draw g l =
    let m = g.D.Dispenser.meaning l.initial.dispenser in
    let n = g.D.Dispenser.meaning l.dispenser in
    let to_come = lanes_of (drop l.draw-index l.draws) in
    (take l.draw-index l.draws ++ answered n to_come ≡ answered m (lanes_of l.initial.draws))
    × (after n to_come ≡ after m (lanes_of l.initial.draws))
