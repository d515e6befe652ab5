-- Sets of tags, each in one number: tag t is in the set s when bit t of s is 1. Assumes nothing.
use Rattle.std.specs.Prelude.{◌≡◌, ℕ, zero, suc, ◌/◌, ◌%◌, ◌^◌, Bool, true, if◌then◌else◌, not, ◌&&◌, ◌||◌, ◌==◌, bit_and, bit_or, bit_xor, nat_lt}

-- whether the tag t is in the set s
unfoldable pub has : ℕ → ℕ → Bool
has t s = s / 2 ^ t % 2 == 1

-- what is in a or in b
abbrev pub union : ℕ → ℕ → ℕ
union a b = bit_or a b

-- what is in both
abbrev pub meet : ℕ → ℕ → ℕ
meet a b = bit_and a b

-- what is in a and not in b
unfoldable pub without : ℕ → ℕ → ℕ
without a b = bit_xor a (bit_and a b)

-- whether everything in a is in b
unfoldable pub within : ℕ → ℕ → Bool
within a b = bit_and a b == a

-- the set of the one tag t; a number above 63 is no tag, and its set is empty
unfoldable pub only : ℕ → ℕ
only t = if nat_lt t 64 then 2 ^ t else 0

-- the set of the numbers below n that pass a test
unfoldable pub those_below : (ℕ → Bool) → ℕ → ℕ
those_below f zero = 0
those_below f (suc n) = union (those_below f n) (if f n then 2 ^ n else 0)

-- the set of the tags that pass a test
abbrev pub those : (ℕ → Bool) → ℕ
those f = those_below f 64

-- What the names above promise: a set is known by its tags, and each operation by what it does to one tag.
pub record Laws : Type 0 where
  pub in_union : (t a b : ℕ) → has t (union a b) ≡ (has t a || has t b)
  pub in_meet : (t a b : ℕ) → has t (meet a b) ≡ (has t a && has t b)
  pub in_without : (t a b : ℕ) → has t (without a b) ≡ (has t a && not (has t b))
  pub in_only : (t u : ℕ) → has t (only u) ≡ (t == u && nat_lt u 64)
  pub in_those : (t : ℕ) (f : ℕ → Bool) → has t (those f) ≡ (nat_lt t 64 && f t)
  pub in_part : (t a b : ℕ) → within a b ≡ true → has t a ≡ true → has t b ≡ true
  pub part_from : (a b : ℕ) → ((t : ℕ) → has t a ≡ true → has t b ≡ true) → within a b ≡ true
  pub same : (a b : ℕ) → ((t : ℕ) → has t a ≡ has t b) → a ≡ b
