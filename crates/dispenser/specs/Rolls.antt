-- The open sets of the roll, and that it keeps the laws and starts with every tag. Assumes nothing.
use Rattle.std.specs.Prelude.{◌≡◌, ℕ, zero, suc, ◌+◌, ◌*◌, ◌/◌, ◌%◌, ◌<◌, ◌≤◌, false, ◌&&◌, ◌||◌, ◌⊎◌, List, [], drop, replicate, Some, ◌==◌, nat_lt, slice_index, refl}
use Rattle.std.proofs.Common.{sym, ap, ◌∙◌, inl, inr, arith}
use Rattle.std.specs.List.{slice_get}
use Rattle.std.proofs.lemmas.Bool.{agree_below_at, lt-ltb, le-ltb, cond-true, cond-false, cases_lt}
use Rattle.std.proofs.lemmas.Bool.Decides.{nat_tests}
use Rattle.sets.specs.Sets.{has}
use Rattle.sets.proofs.Bits.{has_past}
use Rattle.dispenser.specs.Meaning.{Lawful, Stands}
use Rattle.dispenser.specs.Rolled.{choice_tags, full_lane, roll_opens, full_roll, rolled, OpenByForm}
use Rattle.std.proofs.lemmas.Option.{none-some}
use Rattle.dispenser.specs.Lanes.{same_meaning, slice_index-replicate, slice_get-drop, part_lawful}

-- ---- the open sets, by the form of a tag

pub open_by_form : OpenByForm
unfolding has
open_by_form t h = (
  agree_below_at (λ n. has n roll_opens.adding) (λ n. n % 4 == 1 || n % 4 == 2) 64 t refl h,
  agree_below_at (λ n. has n roll_opens.taking) (λ n. n % 4 == 3) 64 t refl h,
)

-- ---- the laws

-- tag t is the a-th of choice c of task i
abbrev Is : ℕ → ℕ → ℕ → ℕ → Type 0
Is i c a t =
    ((c ≡ 0) × (a ≡ 0) × (t ≡ 4 * i)) ⊎ (((c ≡ 1) × (a ≡ 0) × (t ≡ 4 * i + 3)) ⊎
    (((c ≡ 2) × (a ≡ 0) × (t ≡ 4 * i + 1)) ⊎ ((c ≡ 2) × (a ≡ 1) × (t ≡ 4 * i + 2))))

choice_is : (i c a t : ℕ) → slice_get (choice_tags i c) a ≡ Some t → Is i c a t
choice_is i zero zero t h = inl (refl, refl, cc)
choice_is i (suc zero) zero t h = inr (inl (refl, refl, cc))
choice_is i (suc (suc zero)) zero t h = inr (inr (inl (refl, refl, cc)))
choice_is i (suc (suc zero)) (suc zero) t h = inr (inr (inr (refl, refl, cc)))
choice_is i zero (suc a) t h = absurd (none-some t h)
choice_is i (suc zero) (suc a) t h = absurd (none-some t h)
choice_is i (suc (suc zero)) (suc (suc a)) t h = absurd (none-some t h)
choice_is i (suc (suc (suc c))) a t h = absurd (none-some t h)

lane_past : (k : ℕ) → 48 ≤ k → full_lane k ≡ []
lane_past k h = cond-false (nat_lt k 48) (choice_tags (k / 3) (k % 3)) [] (le-ltb k 48 h)

pub lane_is : (k : ℕ) → k < 48 → full_lane k ≡ choice_tags (k / 3) (k % 3)
lane_is k h = cond-true (nat_lt k 48) (choice_tags (k / 3) (k % 3)) [] (lt-ltb k 48 h)

stands_is : (k a t : ℕ) → Stands full_roll k a t → (k < 48) × Is (k / 3) (k % 3) a t
stands_is k a t h = go (cases_lt k 48)
  where
    go : (k < 48) ⊎ (48 ≤ k) → (k < 48) × Is (k / 3) (k % 3) a t
    go (inl l) = (l, choice_is (k / 3) (k % 3) a t (ap (λ xs. slice_get xs a) (sym (lane_is k l)) ∙ h))
    go (inr l) = absurd (none-some t (ap (λ xs. slice_get xs a) (sym (lane_past k l)) ∙ h))

full_lawful : Lawful full_roll
full_lawful = record {
  small = λ k a t h. let f = stands_is k a t h in (f.0, omega arith);
  once = λ j k a b t h i. let f = stands_is j a t h in let g = stands_is k b t i in (omega arith, omega arith);
  by_choice = λ k a t h.
      let f = stands_is k a t h in
      let o = open_by_form t (omega arith) in
      (o.1 ∙ takes k a t f.1, o.0 ∙ adds k a t f.1);
  apart = λ t. go t (cases_lt t 64);
}
  where
    takes : (k a t : ℕ) → Is (k / 3) (k % 3) a t → (t % 4 == 3) ≡ (k % 3 == 1)
    takes k a t f = grind (arith, nat_tests)

    adds : (k a t : ℕ) → Is (k / 3) (k % 3) a t → (t % 4 == 1 || t % 4 == 2) ≡ (k % 3 == 2)
    adds k a t f = grind (arith, nat_tests)

    never : (d : ℕ) → (d == 3 && (d == 1 || d == 2)) ≡ false
    never d = grind (arith, nat_tests)

    go : (t : ℕ) → (t < 64) ⊎ (64 ≤ t) → (has t roll_opens.taking && has t roll_opens.adding) ≡ false
    go t (inl l) = let o = open_by_form t l in rw (o.0, o.1) (never (t % 4))
    go t (inr l) = rw (has_past 64 t roll_opens.taking (omega arith) l)

pub rolled_lawful : (used : List ℕ) → Lawful (rolled used)
rolled_lawful used = part_lawful full_roll (λ k. drop (slice_index used k) (full_lane k)) (λ k. slice_index used k) (λ k a t h. sym (slice_get-drop (slice_index used k) (full_lane k) a) ∙ h) full_lawful

-- ---- a roll of which nothing is drawn

pub rolled_none : rolled (replicate 48 0) ≡ full_roll
rolled_none = same_meaning (rolled (replicate 48 0)) full_roll (λ k. ap (λ n. drop n (full_lane k)) (slice_index-replicate 48 k)) refl
