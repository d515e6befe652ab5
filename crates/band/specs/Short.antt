-- No letter of a band is longer than 16 bytes: a law that its memory owes, so its proof stands here. Assumes nothing.
use Rattle.std.specs.Prelude.{ℕ, ◌≤◌, min, List, length, drop, slice_index}
use Rattle.std.proofs.Common.{arith, length-take}
use Rattle.band.specs.Banded.{cell, banded}

pub short : (bytes : List ℕ) (k : ℕ) → length (banded bytes k).body ≤ 16
short bytes k = let t = length-take (min (slice_index (cell bytes k) 0) 16) (drop 1 (cell bytes k)) in omega arith
