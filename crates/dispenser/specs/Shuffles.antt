-- The shuffle's tables undo each other; the shuffle keeps the laws. Assumes nothing.
use Rattle.std.specs.Prelude.{◌≡◌, ℕ, ◌<◌, Bool, true, false, ◌&&◌, Some, None, Option, ◌==◌, nat_lt, slice_index, refl}
use Rattle.std.proofs.Common.{sym, ap, ◌∙◌, arith}
use Rattle.std.specs.Option.{option_map}
use Rattle.std.specs.List.{slice_get}
use Rattle.std.proofs.lemmas.List.FromFn.{get_or-map-range_with_len}
use Rattle.std.proofs.lemmas.Bool.{agree_below_at, eqb-true, ltb-true, lt-ltb, and_parts}
use Rattle.sets.specs.Sets.{has}
use Rattle.sets.proofs.Bits.{has-those_below}
use Rattle.dispenser.specs.Meaning.{Meaning, Lawful, Stands}
use Rattle.dispenser.specs.Shuffled.{moved, back, forward_table, backward_table, moved_set, shuffled, Inverse}
use Rattle.std.proofs.lemmas.Option.{none-some, slice_get-map}

-- ---- one test over both tables

round : ℕ → Bool
round n =
    nat_lt (slice_index forward_table n) 64 && (nat_lt (slice_index backward_table n) 64 &&
    (slice_index backward_table (slice_index forward_table n) == n && slice_index forward_table (slice_index backward_table n) == n))

pub inverse : Inverse
unfolding round
inverse n h =
    let p = and_parts _ _ (agree_below_at round (λ k. true) 64 n refl h) in
    let q = and_parts _ _ p.1 in
    let r = and_parts _ _ q.1 in
    (ltb-true _ 64 p.0, ltb-true _ 64 q.0, eqb-true _ n r.0, eqb-true _ n r.1)

pub forward_at : (n : ℕ) → n < 64 → slice_index forward_table n ≡ moved n
forward_at n h = get_or-map-range_with_len moved 0 64 n n 0 h (omega arith)

pub backward_at : (n : ℕ) → n < 64 → slice_index backward_table n ≡ back n
backward_at n h = get_or-map-range_with_len back 0 64 n n 0 h (omega arith)

pub back_moved : (n : ℕ) → n < 64 → back (moved n) ≡ n
back_moved n h =
    let i = inverse n h in
    let f = forward_at n h in
    sym (backward_at (moved n) (omega arith)) ∙ ap (λ x. slice_index backward_table x) (sym f) ∙ i.2

-- ---- the open sets

-- a tag is in the moved set when the tag that it was is in the set
pub has-moved_set : (s n : ℕ) → n < 64 → has (moved n) (moved_set s) ≡ has n s
has-moved_set s n h =
    has-those_below (moved n) (λ t. has (back t) s) 64 ∙ rw (lt-ltb (moved n) 64 (omega arith)) (ap (λ t. has t s) (back_moved n h))

-- ---- the laws

was : (f : ℕ → ℕ) (o : Option ℕ) (t : ℕ) → option_map f o ≡ Some t → (u : ℕ) × (o ≡ Some u) × (t ≡ f u)
was f None t h = absurd (none-some t h)
was f (Some u) t h = (u, refl, cc)

module _ (m : Meaning) (laws : Lawful m) where
  -- what stands in the shuffle is a tag below, moved
  below : (k a t : ℕ) → Stands (shuffled m) k a t → (u : ℕ) × Stands m k a u × (t ≡ moved u) × (u < 64)
  below k a t h =
      let w = was moved (slice_get (m.lane k) a) t (sym (slice_get-map moved (m.lane k) a) ∙ h) in
      (w.0, w.1, w.2, (laws.small k a w.0 w.1).1)

  pub shuffled_lawful : Lawful (shuffled m)
  shuffled_lawful = record {
    small = λ k a t h. let w = below k a t h in ((laws.small k a w.0 w.1).0, omega arith);
    once = λ j k a b t h i.
        let v = below j a t h in
        let w = below k b t i in
        let e : v.0 ≡ w.0 = sym (back_moved v.0 v.3) ∙ ap back (sym v.2 ∙ w.2) ∙ back_moved w.0 w.3 in
        laws.once j k a b w.0 (v.1 ∙ ap Some e) w.1;
    by_choice = λ k a t h.
        let w = below k a t h in
        let o = laws.by_choice k a w.0 w.1 in
        let at : (s : ℕ) → has t (moved_set s) ≡ has w.0 s = λ s. ap (λ x. has x (moved_set s)) w.2 ∙ has-moved_set s w.0 w.3 in
        (at m.opens.taking ∙ o.0, at m.opens.adding ∙ o.1);
    apart = λ t.
        let bit : (s : ℕ) → has t (moved_set s) ≡ (nat_lt t 64 && has (back t) s) = λ s. has-those_below t (λ n. has (back n) s) 64 in
        rw (bit m.opens.taking, bit m.opens.adding) (never (nat_lt t 64) _ _ (laws.apart (back t)));
  }
    where
      never : (p x y : Bool) → (x && y) ≡ false → ((p && x) && (p && y)) ≡ false
      never p x y h = grind arith
