use Rattle.std.proofs.Common.{ℕ, Bool, refl, ◌∙◌, rules}
use Rattle.std.proofs.lemmas.Iterator.{YieldsList-from_range, YieldsList-from_map}
use Rattle.std.proofs.lemmas.Iterator.Consumers.{fold_from_yields_List}
use Rattle.sets.specs.Sets.{has, union}
use Rattle.dispenser.specs.Shuffled.{back}
use Rattle.dispenser.proofs.Gathered.{alone, gathered}
use Rattle.dispenser.proofs.shuffle.forward_set.Goals as goal

pub returns : goal.returns
returns c =
    let f : ℕ → Bool = λ n. has (back n) c.args.tags in
    fold_from_yields_List _ union 0 _ c.fold.ensures.ran
    (YieldsList-from_map _ (alone f) (YieldsList-from_range 0 64 64 c.map.ensures.source refl) c.map.ensures.closure (λ x r q k. search rules))
    (λ a x b q k. search rules)
    ∙ gathered f 64
