use Rattle.std.proofs.Common.{sym, ap, ◌∙◌, subst}
use mathlib.Core.Logic.{∥∥₁_map}
use Rattle.sheet.specs.Dealing.{placed, Sound}
use Rattle.sheet.specs.declared.dealt.Dealt.{Dealt}
use Rattle.sheet.proofs.Deals.{checked, placed_sound}
use Rattle.sheet.proofs.Deal.deal.Goals as goal

pub invariant_of-self : goal.invariant_of-self
invariant_of-self c =
    let d = c.args.self.now.sheet.dealt in
    let ok = c.in_ok-lane.ensures.ok in
    let fine = checked d c.args.dealing.tag c.args.dealing.lane ok.1 in
    let e = c.place.ensures ∙ ap (placed d c.args.dealing.tag) ok.0 in
    record { sound = ∥∥₁_map c.args.self.now.sheet.sound (λ s. subst (λ (x : Dealt). Sound x) (sym e) (placed_sound d c.args.dealing.tag c.args.dealing.lane s fine)) }
