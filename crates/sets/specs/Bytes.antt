-- Numbers as bytes, the high byte first. Assumes nothing.
use Rattle.std.specs.Prelude.{ℕ, zero, suc, ◌+◌, ◌*◌, ◌/◌, ◌%◌, ◌^◌, List, [], ◌∷◌, slice_index}

-- the number n in k bytes
abbrev pub in_bytes : ℕ → ℕ → List ℕ
in_bytes zero n = []
in_bytes (suc k) n = (n / 256 ^ k % 256) ∷ in_bytes k n

-- the number that bytes make when they follow n
abbrev pub value_from : ℕ → List ℕ → ℕ
value_from n [] = n
value_from n (b ∷ bs) = value_from (n * 256 + b) bs

abbrev pub value : List ℕ → ℕ
value bs = value_from 0 bs

-- eight bytes, each by its place
abbrev pub by_places : List ℕ → ℕ
by_places bs =
    slice_index bs 0 * 256 ^ 7 + slice_index bs 1 * 256 ^ 6 + slice_index bs 2 * 256 ^ 5 + slice_index bs 3 * 256 ^ 4 + slice_index bs 4 * 256 ^ 3 + slice_index bs 5 * 256 ^ 2 + slice_index bs 6 * 256 + slice_index bs 7
