-- What a tag dispenser holds, what a draw does to it, and the laws of every dispenser. Assumes nothing.
use Rattle.std.specs.Prelude.{◌≡◌, ℕ, ◌%◌, ◌<◌, false, if◌then◌else◌, ◌&&◌, List, drop, Some, Option, ◌==◌}
use Rattle.std.specs.List.{slice_get}
use Rattle.sets.specs.Sets.{has}
use Rattle.dispenser.specs.declared.OpenSets.{OpenSets}

-- the tags of each lane, in the order in which they will be drawn, and the two open sets
pub record Meaning : Type 0 where
  pub lane : ℕ → List ℕ
  pub opens : OpenSets

-- what a draw on a lane answers
abbrev pub first : List ℕ → Option ℕ
first tags = slice_get tags 0

-- what a draw on lane k leaves: that lane without its first tag, and all else as it was
abbrev pub drawn : Meaning → ℕ → Meaning
drawn m k = record { lane = λ j. if j == k then drop 1 (m.lane j) else m.lane j; opens = m.opens }

-- tag t stands at place a of lane k
abbrev pub Stands : Meaning → ℕ → ℕ → ℕ → Type 0
Stands m k a t = slice_get (m.lane k) a ≡ Some t

pub record Lawful (m : Meaning) : Type 0 where
  -- there are 48 lanes and 64 tags
  pub small : (k a t : ℕ) → Stands m k a t → (k < 48) × (t < 64)
  -- a tag has one place
  pub once : (j k a b t : ℕ) → Stands m j a t → Stands m k b t → (j ≡ k) × (a ≡ b)
  -- a tag of choice 1 is open to taking away, one of choice 2 to adding, and no other to either
  pub by_choice : (k a t : ℕ) → Stands m k a t → (has t m.opens.taking ≡ (k % 3 == 1)) × (has t m.opens.adding ≡ (k % 3 == 2))
  -- nothing is open both ways
  pub apart : (t : ℕ) → (has t m.opens.taking && has t m.opens.adding) ≡ false
