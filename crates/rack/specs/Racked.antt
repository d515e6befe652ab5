-- The letters that lie in records. Assumes nothing.
use Rattle.std.specs.Prelude.{ℕ, List, Some, None, Option}
use Rattle.std.specs.List.{slice_get}
use Rattle.post.specs.Queues.{Letter}
use Rattle.post.specs.Records.{letter_in, blank}
use Rattle.post.specs.declared.record.Record.{Record}

abbrev pub letter_at : Option Record → Letter
letter_at (Some x) = letter_in x
letter_at None = blank

-- the letter in each place
abbrev pub recorded : List Record → ℕ → Letter
recorded xs k = letter_at (slice_get xs k)
