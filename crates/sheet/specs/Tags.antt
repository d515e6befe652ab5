-- The tags of a set as a list, the lowest first. Assumes nothing.
use Rattle.std.specs.Prelude.{ℕ, zero, suc, if◌then◌else◌, List, [], ◌∷◌}
use Rattle.sets.specs.Sets.{has}

-- those of the n numbers from i on that are in the set s
unfoldable pub tags_from : ℕ → ℕ → ℕ → List ℕ
tags_from zero i s = []
tags_from (suc n) i s = if has i s then i ∷ tags_from n (suc i) s else tags_from n (suc i) s

unfoldable pub tags : ℕ → List ℕ
tags s = tags_from 64 0 s
