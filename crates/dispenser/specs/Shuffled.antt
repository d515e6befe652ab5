-- The shuffle: tag n below becomes (5 * n + 17) mod 64. Assumes nothing.
use Rattle.std.specs.Prelude.{◌≡◌, ℕ, ◌+◌, ◌*◌, ◌%◌, ◌<◌, List, map, slice_index}
use Rattle.std.specs.List.{range_with_len}
use Rattle.sets.specs.Sets.{has, those}
use Rattle.dispenser.specs.Meaning.{Meaning}

abbrev pub moved : ℕ → ℕ
moved n = (5 * n + 17) % 64

-- the tag that becomes n
abbrev pub back : ℕ → ℕ
back n = (13 * n + 35) % 64

-- both rules written out, from tag 0 on
abbrev pub forward_table : List ℕ
forward_table = map moved (range_with_len 0 64)

abbrev pub backward_table : List ℕ
backward_table = map back (range_with_len 0 64)

-- both tables hold tags only, and each undoes the other; so each holds every tag once
abbrev pub Inverse : Type 0
Inverse = (n : ℕ) → n < 64 →
    (slice_index forward_table n < 64) × (slice_index backward_table n < 64) × (slice_index backward_table (slice_index forward_table n) ≡ n) × (slice_index forward_table (slice_index backward_table n) ≡ n)

-- the set of what the tags of s become
abbrev pub moved_set : ℕ → ℕ
moved_set s = those (λ n. has (back n) s)

abbrev pub shuffled : Meaning → Meaning
shuffled m = record {
  lane = λ k. map moved (m.lane k);
  opens = record { adding = moved_set m.opens.adding; taking = moved_set m.opens.taking };
}
