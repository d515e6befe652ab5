-- What a sheet is once any list of deals has been tried on it: a tag lies where it was first dealt. Assumes nothing.
use Rattle.std.specs.Prelude.{◌≡◌, ℕ, ◌%◌, ◌<◌, Bool, false, if◌then◌else◌, ◌&&◌, List, [], ◌∷◌, Some, None, Option, ◌==◌, nat_lt}
use Rattle.sets.specs.Sets.{has}
use Rattle.dispenser.specs.Meaning.{Stands}
use Rattle.sheet.specs.Dealing.{sheet, fault, left}
use Rattle.sheet.specs.declared.dealt.Dealt.{Dealt}

-- deals of a tag to a lane, tried one after the other
abbrev pub tried : Dealt → List (ℕ × ℕ) → Dealt
tried d [] = d
tried d (x ∷ xs) = tried (left d x.0 x.1 (fault d x.0 x.1)) xs

-- there are such a tag and such a lane
abbrev pub valid : ℕ → ℕ → Bool
valid tag lane = nat_lt tag 64 && nat_lt lane 48

-- the lane of the first valid deal of the tag t
abbrev pub home : ℕ → List (ℕ × ℕ) → Option ℕ
home t [] = None
home t (x ∷ xs) = if x.0 == t && valid t x.1 then Some x.1 else home t xs

-- whether there is a lane, and it is of choice c
abbrev pub of_choice : ℕ → Option ℕ → Bool
of_choice c None = false
of_choice c (Some k) = k % 3 == c

-- the sheet, by the deals that were tried on it from the start
pub record ByHand (d : Dealt) (deals : List (ℕ × ℕ)) : Type 0 where
  pub nowhere_else : (k a t : ℕ) → Stands (sheet d) k a t → home t deals ≡ Some k
  pub there : (k t : ℕ) → home t deals ≡ Some k → (a : ℕ) × Stands (sheet d) k a t
  pub rising : (k a b t u : ℕ) → Stands (sheet d) k a t → Stands (sheet d) k b u → a < b → t < u
  pub taking : (t : ℕ) → has t d.taking ≡ of_choice 1 (home t deals)
  pub adding : (t : ℕ) → has t d.adding ≡ of_choice 2 (home t deals)
