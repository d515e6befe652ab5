-- The quota: each lane is cut to its first tags. Assumes nothing.
use Rattle.std.specs.Prelude.{ℕ, min, if◌then◌else◌, List, take, nat_lt, slice_index}
use Rattle.dispenser.specs.Meaning.{Meaning, drawn}

-- a dispenser as it is with a new quota of q, where more than 3 counts as 3
abbrev pub quota : Meaning → ℕ → Meaning
quota m q = record { lane = λ k. take (min q 3) (m.lane k); opens = m.opens }

-- each lane cut to what the list still allows it
abbrev pub cut : Meaning → List ℕ → Meaning
cut m left = record { lane = λ k. take (slice_index left k) (m.lane k); opens = m.opens }

-- what a draw on lane k leaves below: nothing is drawn there once the lane's allowance is 0
abbrev pub passed_on : Meaning → List ℕ → ℕ → Meaning
passed_on m left k = if nat_lt 0 (slice_index left k) then drawn m k else m
