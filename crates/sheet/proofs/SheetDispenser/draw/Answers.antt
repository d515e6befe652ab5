use Rattle.std.proofs.Common.{◌≡◌, ℕ, ◌^◌, ◌<◌, true, length, get_or, sym, ap, ◌∙◌, arith, rules}
use mathlib.Core.Logic.{∥∥₁_map}
use Rattle.std.proofs.lemmas.Bool.{false≢true}
use Rattle.std.proofs.lemmas.List.{get_or_past}
use Rattle.sets.specs.Sets.{has}
use Rattle.dispenser.specs.Meaning.{first, drawn}
use Rattle.sheet.specs.Dealing.{sheet}
use Rattle.sheet.proofs.Draws.{with_lane, less_sound, cleared_part, draw_none, draw_lowest}
use Rattle.sheet.proofs.SheetDispenser.draw.Goals as goal

pub returns-in_err-new : goal.returns-in_err-new
returns-in_err-new c =
    let d = c.args.self.now.dealt in
    let no : c.args.lane < 48 → ⊥ = λ l. false≢true (c.in_err-new.ensures.there.1 l) in
    let size : length d.lanes ≡ 48 = search rules in
    let q = draw_none d c.args.lane (get_or_past d.lanes c.args.lane 0 (omega (arith, no, size))) in
    record { answer = c.from_residual.ensures ∙ q.answer; left = q.left }

-- the set that is stored is the lane's without its lowest tag
pub invariant_of-self : goal.invariant_of-self
invariant_of-self c =
    let s = c.args.self.now in
    let set = get_or s.dealt.lanes c.from-at.result 0 in
    let part : (t : ℕ) → has t c.cleared.result ≡ true → has t set ≡ true = λ t h. cleared_part set c.in_ok-tag.tag t (ap (has t) (sym c.cleared.ensures) ∙ h) in
    record { sound = ∥∥₁_map s.sound (less_sound s.dealt c.from-at.result c.cleared.result c.from-at.ensures.0 part) }

pub returns : goal.returns
returns c =
    let d = c.args.self.now.dealt in
    let k = c.from-at.result in
    let set = get_or d.lanes k 0 in
    let l : k < length d.lanes = search rules in
    let h : set < 2 ^ 64 = search rules in
    let r = draw_lowest d k c.in_ok-tag.tag l h c.in_ok-tag.ensures in
    let lane : k ≡ c.args.lane = c.from-at.ensures.1 ∙ c.in_ok-new.ensures.same in
    record {
      answer = r.answer ∙ ap (λ j. first ((sheet d).lane j)) lane;
      left = ap (λ x. sheet (with_lane d k x)) c.cleared.ensures ∙ r.left ∙ ap (drawn (sheet d)) lane;
    }
