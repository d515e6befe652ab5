-- The number and the name of each choice. Assumes nothing.
use Rattle.std.specs.Prelude.{ℕ, zero, suc, List, codes}
use Rattle.dispenser.specs.declared.choice.Choice.{Choice}
use Rattle.dispenser.specs.declared.choice.Choice.TheVariants.{Kept, Taking, Adding}

-- the choice of lane k has the number k % 3
abbrev pub code : Choice → ℕ
code Kept = 0
code Taking = 1
code Adding = 2

-- what a table calls each choice
abbrev pub choice_text : ℕ → List ℕ
choice_text zero = codes "kept"
choice_text (suc zero) = codes "open to taking away"
choice_text (suc (suc c)) = codes "open to adding"
