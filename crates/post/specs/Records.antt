-- The letter that lies in a record. Assumes nothing.
use Rattle.std.specs.Prelude.{◌≡◌, ◌<◌, ◌≤◌, [], length, take, Result, MatchResult}
use Rattle.post.specs.Queues.{Letter}
use Rattle.post.specs.declared.letter.Full.{Full}
use Rattle.post.specs.declared.record.Record.{Record}

abbrev pub letter_in : Record → Letter
letter_in x = record { sets = x.sets; body = take x.len x.body }

-- a letter with nothing in it
abbrev pub blank : Letter
blank = record { sets = record { plus = 0; minus = 0; secrecy = 0; integrity = 0 }; body = [] }

-- what making a record of a letter gives: a record of just that letter, or a refusal where the body is over 16 bytes
abbrev pub Fitted : Letter → Result Record Full → Type 0
Fitted l r = MatchResult r (λ x. (letter_in x ≡ l) × (length l.body ≤ 16)) (λ _. 16 < length l.body)
