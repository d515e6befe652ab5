-- No letter of a rack is longer than 16 bytes: a law that its memory owes, so its proof stands here. Assumes nothing.
use Rattle.std.specs.Prelude.{ℕ, ◌≤◌, List, length, Some, None, Option}
use Rattle.std.proofs.Common.{arith}
use Rattle.std.specs.List.{slice_get}
use Rattle.post.specs.Laws.{short_body}
use Rattle.post.specs.declared.record.Record.{Record}
use Rattle.rack.specs.Racked.{letter_at, recorded}

pub short : (xs : List Record) (k : ℕ) → length (recorded xs k).body ≤ 16
short xs k = all (slice_get xs k)
  where
    all : (o : Option Record) → length (letter_at o).body ≤ 16
    all (Some x) = short_body x
    all None = omega arith
