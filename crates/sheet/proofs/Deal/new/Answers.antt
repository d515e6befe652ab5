use Rattle.std.proofs.Common.{sym, subst}
use Rattle.sheet.specs.Dealing.{Sound}
use Rattle.sheet.specs.Hands.{tried, ByHand}
use Rattle.sheet.specs.declared.dealt.Dealt.{Dealt}
use Rattle.sheet.proofs.Deals.{blank_sound}
use Rattle.sheet.proofs.Homes.{by_hand}
use Rattle.sheet.proofs.Deal.new.Goals as goal

pub invariant_of-sheet : goal.invariant_of-sheet
invariant_of-sheet c = record { sound = ∣ subst (λ (d : Dealt). Sound d) (sym c.new.ensures) blank_sound ∣₁ }

pub returns-clause-by_hand : goal.returns-clause-by_hand
returns-clause-by_hand c deals = subst (λ (d : Dealt). ByHand (tried d deals) deals) (sym c.new.ensures) (by_hand deals)
