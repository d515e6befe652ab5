-- The quota keeps the laws, and its draws. Assumes nothing.
use Rattle.std.specs.Prelude.{◌≡◌, ℕ, zero, suc, ◌-◌, ◌<◌, ◌≤◌, min, ◌⊎◌, List, [], ◌∷◌, length, take, drop, replicate, slice_index, slice_range, slice_set, refl}
use Rattle.std.proofs.Common.{sym, ap, ◌∙◌, inl, inr, zero-add, arith}
use Rattle.std.proofs.Math.Seq.{take-nil}
use Rattle.std.proofs.lemmas.List.{get_or-set_same, get_or-set_other, get_or-replicate, get_or_past}
use Rattle.std.proofs.lemmas.Bool.{cases_lt, eq-eqb, ne_eqb}
use Rattle.dispenser.specs.Meaning.{Meaning, Lawful, drawn}
use Rattle.dispenser.specs.Cut.{cut, quota}
use Rattle.dispenser.specs.Lanes.{same_meaning, slice_get-take, part_lawful, past_empty, drawn_by}

rest_take : (n : ℕ) (xs : List ℕ) → 0 < n → slice_range xs 1 n ≡ drop 1 (take n xs)
rest_take zero xs h = absurd (omega arith)
rest_take (suc n) [] h = take-nil (suc n - 1)
rest_take (suc n) (x ∷ xs) h = ap (λ i. take i xs) (omega arith)

pub cut_lawful : (m : Meaning) (left : List ℕ) → Lawful m → Lawful (cut m left)
cut_lawful m left laws =
    part_lawful m (λ k. take (slice_index left k) (m.lane k)) (λ k. 0)
    (λ k a t h. rw (zero-add a) (slice_get-take (slice_index left k) (m.lane k) a t h)) laws

-- the allowance that is made at first is the quota
pub cut_new : (m : Meaning) (q : ℕ) → Lawful m → cut m (replicate 48 (min q 3)) ≡ quota m q
cut_new m q laws = same_meaning (cut m (replicate 48 (min q 3))) (quota m q) (λ k. go k (cases_lt k 48)) refl
  where
    go : (k : ℕ) → (k < 48) ⊎ (48 ≤ k) → take (slice_index (replicate 48 (min q 3)) k) (m.lane k) ≡ take (min q 3) (m.lane k)
    go k (inl h) = ap (λ n. take n (m.lane k)) (get_or-replicate 48 k (min q 3) 0 h)
    go k (inr h) = rw (past_empty m laws k h) (take-nil _ ∙ sym (take-nil (min q 3)))

pub cut_drawn : (m : Meaning) (left : List ℕ) (k : ℕ) → 0 < slice_index left k → cut (drawn m k) (slice_set left k (slice_index left k - 1)) ≡ drawn (cut m left) k
cut_drawn m left k h =
    let l = inside (cases_lt k (length left)) in
    drawn_by (cut m left) (cut (drawn m k) (slice_set left k (slice_index left k - 1))) k refl
    (rw (eq-eqb k k refl, get_or-set_same) (rest_take (slice_index left k) (m.lane k) h))
    (λ j d. rw (ne_eqb j k d, get_or-set_other))
  where
    inside : (k < length left) ⊎ (length left ≤ k) → k < length left
    inside (inl l) = l
    inside (inr l) = absurd (omega (arith, get_or_past left k 0 l))
