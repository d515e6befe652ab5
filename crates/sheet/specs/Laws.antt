-- A sound sheet is a lawful dispenser. Assumes nothing.
use Rattle.std.specs.Prelude.{◌≡◌, ℕ, ◌<◌, ◌≤◌, true, ◌⊎◌, slice_index}
use Rattle.std.proofs.Common.{sym, ap, ◌∙◌, inl, inr, arith}
use Rattle.std.proofs.Math.Logic.{∥∥₁_elim}
use Rattle.std.specs.List.{slice_get}
use Rattle.std.proofs.lemmas.List.{get_or_past}
use Rattle.std.proofs.lemmas.Bool.{cases_lt, false≢true}
use Rattle.sets.specs.Sets.{has}
use Rattle.sets.proofs.Bits.{has_zero}
use Rattle.dispenser.specs.Meaning.{Lawful}
use Rattle.dispenser.specs.Lanes.{lawful_prop}
use Rattle.sheet.specs.Tags.{tags}
use Rattle.sheet.specs.Dealing.{sheet, Sound}
use Rattle.sheet.specs.declared.dealt.Dealt.{Dealt}
use Rattle.sheet.specs.Lists.{tags_in, tags_once}

sound_lawful : (d : Dealt) → Sound d → Lawful (sheet d)
sound_lawful d sound = record {
  small = λ k a t h. (few k t (cases_lt k 48) (tags_in (at k) a t h).0, (tags_in (at k) a t h).1);
  once = λ j k a b t h i.
      let e : j ≡ k = (sound.homed t).one_lane j k (tags_in (at j) a t h).0 (tags_in (at k) b t i).0 in
      (e, tags_once (at k) a b t (ap (λ x. slice_get (tags (at x)) a) (sym e) ∙ h) i);
  by_choice = λ k a t h. (sound.homed t).by_choice k (tags_in (at k) a t h).0;
  apart = λ t. (sound.homed t).apart;
}
  where
    at : ℕ → ℕ
    at k = slice_index d.lanes k

    few : (k t : ℕ) → (k < 48) ⊎ (48 ≤ k) → has t (slice_index d.lanes k) ≡ true → k < 48
    few k t (inl l) h = l
    few k t (inr l) h =
        let e = get_or_past d.lanes k 0 (omega (arith, sound.size)) in
        absurd (false≢true (sym (has_zero t) ∙ ap (has t) (sym e) ∙ h))

pub lawful : (d : Dealt) → ∥ Sound d ∥₁ → Lawful (sheet d)
lawful d sound = ∥∥₁_elim sound (lawful_prop (sheet d)) (sound_lawful d)
