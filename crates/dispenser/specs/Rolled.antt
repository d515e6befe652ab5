-- The roll: four tags for each task i, from 4i to 4i + 3. Assumes nothing.
use Rattle.std.specs.Prelude.{◌≡◌, ℕ, zero, suc, ◌+◌, ◌*◌, ◌/◌, ◌%◌, ◌<◌, if◌then◌else◌, ◌||◌, List, [], ◌∷◌, drop, ◌==◌, nat_lt, slice_index}
use Rattle.sets.specs.Sets.{has}
use Rattle.dispenser.specs.Meaning.{Meaning}
use Rattle.dispenser.specs.declared.OpenSets.{OpenSets}

-- the tags of task i, by the choice
abbrev pub choice_tags : ℕ → ℕ → List ℕ
choice_tags i zero = (4 * i) ∷ []
choice_tags i (suc zero) = (4 * i + 3) ∷ []
choice_tags i (suc (suc zero)) = (4 * i + 1) ∷ (4 * i + 2) ∷ []
choice_tags i (suc (suc (suc c))) = []

abbrev pub full_lane : ℕ → List ℕ
full_lane k = if nat_lt k 48 then choice_tags (k / 3) (k % 3) else []

abbrev pub roll_opens : OpenSets
roll_opens = record { adding = 0x6666_6666_6666_6666; taking = 0x8888_8888_8888_8888 }

-- those two sets, by the form of a tag
abbrev pub OpenByForm : Type 0
OpenByForm = (t : ℕ) → t < 64 → (has t roll_opens.adding ≡ (t % 4 == 1 || t % 4 == 2)) × (has t roll_opens.taking ≡ (t % 4 == 3))

-- the roll of which nothing is drawn
abbrev pub full_roll : Meaning
full_roll = record { lane = full_lane; opens = roll_opens }

-- the roll of which some tags of each lane are gone
abbrev pub rolled : List ℕ → Meaning
rolled used = record { lane = λ k. drop (slice_index used k) (full_lane k); opens = roll_opens }
