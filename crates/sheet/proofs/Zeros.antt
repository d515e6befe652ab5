-- The number of trailing zeros of a set is its lowest tag. Assumes nothing.
use Rattle.std.proofs.Common.{◌≡◌, ℕ, zero, suc, ◌/◌, ◌%◌, ◌^◌, ◌<◌, true, false, eqb, ◌⊎◌, sym, ◌∙◌, inl, inr, pow-suc, div-one, arith}
use lib.Count.{count_trailing_zeros}
use Rattle.std.proofs.lemmas.Bool.{cases_eq}
use Rattle.sets.specs.Sets.{has}
use Rattle.sets.proofs.Bits.{has_half}

pub record Lowest (n s z : ℕ) : Type 0 where
  pub small : z < n
  pub there : has z s ≡ true
  pub none_below : (j : ℕ) → j < z → has j s ≡ false

has_first : (s : ℕ) → has 0 s ≡ eqb (s % 2) 1
unfolding has
has_first s = rw (div-one s)

zeros_odd : (n s : ℕ) → s % 2 ≡ 1 → count_trailing_zeros (suc n) s ≡ 0
unfolding count_trailing_zeros
zeros_odd n s e = rw e

zeros_even : (n s : ℕ) → s % 2 ≡ 0 → count_trailing_zeros (suc n) s ≡ suc (count_trailing_zeros n (s / 2))
unfolding count_trailing_zeros
zeros_even n s e = rw e

pub lowest : (n s : ℕ) → s < 2 ^ n → (s ≡ 0 → ⊥) → Lowest n s (count_trailing_zeros n s)
lowest zero s h d = absurd (omega arith)
lowest (suc n) s h d = go (cases_eq (s % 2) 1) (λ k m. lowest n (s / 2) k m)
  where
    below : s % 2 ≡ 0 → Lowest n (s / 2) (count_trailing_zeros n (s / 2)) → (j : ℕ) → j < suc (count_trailing_zeros n (s / 2)) → has j s ≡ false
    below e r zero l = has_first s ∙ rw e
    below e r (suc j) l = sym (has_half j s) ∙ r.none_below j (omega arith)

    go : (s % 2 ≡ 1) ⊎ (s % 2 ≡ 1 → ⊥) → (s / 2 < 2 ^ n → (s / 2 ≡ 0 → ⊥) → Lowest n (s / 2) (count_trailing_zeros n (s / 2))) → Lowest (suc n) s (count_trailing_zeros (suc n) s)
    go (inl e) half = rw (zeros_odd n s e) (record { small = omega arith; there = has_first s ∙ rw e; none_below = λ j l. absurd (omega arith) })
    go (inr o) half =
        let e : s % 2 ≡ 0 = omega arith in
        let p = pow-suc 2 n in
        let r = half (omega arith) (omega arith) in
        rw (zeros_even n s e) (record { small = omega (arith, r.small); there = sym (has_half _ s) ∙ r.there; none_below = below e r })
