-- The laws of tag sets, bit by bit. Assumes nothing.
use Rattle.std.proofs.Common.{◌≡◌, ℕ, zero, suc, ◌/◌, ◌^◌, ◌<◌, ◌≤◌, Bool, true, false, cond, not, ◌&&◌, ◌||◌, eqb, ltb, ◌⊎◌, sym, refl, ap, ◌∙◌, inl, inr, arith}
use Rattle.std.specs.Int.{bit_at}
use lib.Bits.{bit_and, bit_or}
use Rattle.std.proofs.lemmas.Nat.Bits.{bit_at_and, bit_at_or, bit_at_xor, bit_at_above, bit_at-pow_same, bit_at-pow_other, bit_at-lt, bit_at-suc, same_from_bits}
use Rattle.std.proofs.Math.Bool.{and-true}
use Rattle.std.proofs.lemmas.Bool.{eqb-true, eq-eqb, ne_eqb, le-ltb, and_left, and_right, cases_eq}
use Rattle.std.proofs.lemmas.Bool.Decides.{nat_tests}
use Rattle.sets.specs.Sets.{has, without, within, only, those_below, Laws}

-- ---- each operation at one tag

pub has-bit_and : (t a b : ℕ) → has t (bit_and a b) ≡ (has t a && has t b)
unfolding has
has-bit_and t a b = let e = bit_at_and a b t in let p = bit_at-lt a t in let q = bit_at-lt b t in grind (arith, nat_tests)

pub has-bit_or : (t a b : ℕ) → has t (bit_or a b) ≡ (has t a || has t b)
unfolding has
has-bit_or t a b = let e = bit_at_or a b t in let p = bit_at-lt a t in let q = bit_at-lt b t in grind (arith, nat_tests)

pub has-without : (t a b : ℕ) → has t (without a b) ≡ (has t a && not (has t b))
unfolding has without
has-without t a b =
    let e = rw (bit_at_and a b t) at (bit_at_xor a (bit_and a b) t) in
    let p = bit_at-lt a t in
    let q = bit_at-lt b t in
    grind (arith, nat_tests)

-- ---- sets of no tag, of one, and of those that pass a test

-- a set below 2 ^ n has no tag from n on
pub has_past : (n t s : ℕ) → s < 2 ^ n → n ≤ t → has t s ≡ false
unfolding has
has_past n t s h l = rw (bit_at_above s n t h l)

pub has_zero : (t : ℕ) → has t 0 ≡ false
has_zero t = has_past 0 t 0 (omega arith) (omega arith)

pub has_power : (t u : ℕ) → has t (2 ^ u) ≡ eqb t u
unfolding has
has_power t u = go (cases_eq t u)
  where
    go : (t ≡ u) ⊎ (t ≡ u → ⊥) → eqb (bit_at (2 ^ u) t) 1 ≡ eqb t u
    go (inl e) = rw (e, bit_at-pow_same u) (sym (eq-eqb u u refl))
    go (inr n) = rw (bit_at-pow_other u t n) (sym (ne_eqb t u n))

pub has-only : (t u : ℕ) → has t (only u) ≡ (eqb t u && ltb u 64)
unfolding only
has-only t u = go (ltb u 64)
  where
    go : (b : Bool) → has t (cond b (2 ^ u) 0) ≡ (eqb t u && b)
    go true = has_power t u ∙ sym (and-true (eqb t u))
    go false = has_zero t ∙ sym (and_right (eqb t u) false refl)

pub has-those_below : (t : ℕ) (f : ℕ → Bool) (n : ℕ) → has t (those_below f n) ≡ (ltb t n && f t)
unfolding those_below
has-those_below t f zero = has_zero t ∙ sym (and_left (ltb t 0) (f t) (le-ltb t 0 (omega arith)))
has-those_below t f (suc n) = has-bit_or t (those_below f n) (cond (f n) (2 ^ n) 0) ∙ rw (has-those_below t f n) (one_more (f n) refl)
  where
    step : (y b : Bool) → (t ≡ n → y ≡ b) → ((ltb t n && y) || cond b (eqb t n) false) ≡ (ltb t (suc n) && y)
    step y b h = grind (arith, nat_tests)

    one_more : (b : Bool) → f n ≡ b → ((ltb t n && f t) || has t (cond b (2 ^ n) 0)) ≡ (ltb t (suc n) && f t)
    one_more true e = rw (has_power t n) (step (f t) true (λ q. ap f q ∙ e))
    one_more false e = rw (has_zero t) (step (f t) false (λ q. ap f q ∙ e))

-- ---- a set is known by its tags

pub has_half : (t s : ℕ) → has t (s / 2) ≡ has (suc t) s
unfolding has
has_half t s = ap (λ x. eqb x 1) (sym (bit_at-suc s t))

pub same : (a b : ℕ) → ((t : ℕ) → has t a ≡ has t b) → a ≡ b
unfolding has
same a b f = same_from_bits a b (λ t. digit (bit_at a t) (bit_at b t) (bit_at-lt a t) (bit_at-lt b t) (f t))
  where
    digit : (x y : ℕ) → x < 2 → y < 2 → eqb x 1 ≡ eqb y 1 → x ≡ y
    digit x y p q e = grind (arith, nat_tests)

pub part_has : (t a b : ℕ) → within a b ≡ true → has t a ≡ true → has t b ≡ true
unfolding within
part_has t a b h p =
    let e : has t a ≡ (has t a && has t b) = ap (has t) (sym (eqb-true (bit_and a b) a h)) ∙ has-bit_and t a b in
    grind arith

pub part_from : (a b : ℕ) → ((t : ℕ) → has t a ≡ true → has t b ≡ true) → within a b ≡ true
unfolding within
part_from a b f = eq-eqb (bit_and a b) a (same (bit_and a b) a (λ t. has-bit_and t a b ∙ absorb (has t a) (has t b) (f t)))
  where
    absorb : (x y : Bool) → (x ≡ true → y ≡ true) → (x && y) ≡ x
    absorb x y h = grind arith

pub laws : Laws
laws = record {
  in_union = has-bit_or;
  in_meet = has-bit_and;
  in_without = has-without;
  in_only = has-only;
  in_those = λ t f. has-those_below t f 64;
  in_part = part_has;
  part_from = part_from;
  same = same;
}
