-- The numbers below a bound that pass a test, put into a set one by one. Assumes nothing.
use Rattle.std.proofs.Common.{◌≡◌, ℕ, zero, suc, ◌^◌, Bool, cond, [], ◌∷◌, map, sym, refl, ap, ◌∙◌, add-one, arith}
use Rattle.std.specs.List.{fold, range_with_len}
use Rattle.std.proofs.lemmas.List.Sums.{fold-append}
use Rattle.std.proofs.lemmas.List.FromFn.{map-range_with_len_more}
use Rattle.sets.specs.Sets.{union, those_below}

-- the set of the number n alone if it passes the test, and else the empty set
abbrev pub alone : (ℕ → Bool) → ℕ → ℕ
alone f n = cond (f n) (2 ^ n) 0

pub gathered : (f : ℕ → Bool) (n : ℕ) → fold union 0 (map (alone f) (range_with_len 0 n)) ≡ those_below f n
unfolding those_below
gathered f zero = refl
gathered f (suc n) =
    ap (λ k. fold union 0 (map (alone f) (range_with_len 0 k))) (sym (add-one n))
    ∙ ap (fold union 0) (map-range_with_len_more (alone f) 0 n n (omega arith))
    ∙ fold-append union 0 (map (alone f) (range_with_len 0 n)) (alone f n ∷ [])
    ∙ ap (λ a. union a (alone f n)) (gathered f n)
