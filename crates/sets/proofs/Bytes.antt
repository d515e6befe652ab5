-- A number is read back from its bytes. Assumes nothing.
use Rattle.std.proofs.Common.{◌≡◌, ℕ, zero, suc, ◌+◌, ◌*◌, ◌/◌, ◌%◌, ◌^◌, ◌<◌, List, length, get_or, sym, refl, ap, ◌∙◌, mod-eq_of_lt, mul_assoc, add-mul, arith}
use native.Mathlib.Nat.{one-le-pow, pow-succ'}
use lib.Arith.{mod-mul}
use Rattle.std.proofs.lemmas.List.FromFn.{fill_by_all}
use Rattle.sets.specs.Bytes.{in_bytes, value_from, value, by_places}

-- the bytes of n give what of n they can hold, whatever they follow
follow : (k n a : ℕ) → value_from a (in_bytes k n) ≡ a * 256 ^ k + n % 256 ^ k
follow zero n a = omega arith
follow (suc k) n a =
    let d = n / 256 ^ k % 256 in
    let p = 256 ^ k in
    let split : n % 256 ^ suc k ≡ d * p + n % p = ap (λ x. n % x) (pow-succ' 256 k) ∙ mod-mul n {m = 256} (omega arith) (one-le-pow k 256 (omega arith)) in
    let wide : a * 256 ^ suc k ≡ a * 256 * p = ap (λ x. a * x) (pow-succ' 256 k) ∙ sym (mul_assoc a 256 p) in
    follow k n (a * 256 + d) ∙ omega (arith, split, wide, add-mul (a * 256) d p)

pub read_back : (k n : ℕ) → n < 256 ^ k → value (in_bytes k n) ≡ n
read_back k n h = follow k n 0 ∙ omega (arith, mod-eq_of_lt h)

pub eight : (bs : List ℕ) → length bs ≡ 8 → by_places bs ≡ value bs
eight bs l = sym (ap value (fill_by_all (λ k. get_or bs k 0) bs 8 0 l (λ k h. refl)) ∙ omega arith)
