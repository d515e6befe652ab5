-- One element of a list is changed: what is then found at a place. Assumes nothing.
use Rattle.std.proofs.Common.{◌≡◌, ℕ, zero, suc, ◌<◌, List, [], ◌∷◌, length, set, Some, refl, ap, arith}
use Rattle.std.specs.List.{slice_get}

pub slice_get-set_here : {A : Type 0} (xs : List A) (k : ℕ) (x : A) → k < length xs → slice_get (set xs k x) k ≡ Some x
slice_get-set_here [] k x h = absurd (omega arith)
slice_get-set_here (y ∷ ys) zero x h = refl
slice_get-set_here (y ∷ ys) (suc k) x h = slice_get-set_here ys k x (omega arith)

pub slice_get-set_there : {A : Type 0} (xs : List A) (k j : ℕ) (x : A) → (j ≡ k → ⊥) → slice_get (set xs k x) j ≡ slice_get xs j
slice_get-set_there [] k j x n = refl
slice_get-set_there (y ∷ ys) zero zero x n = absurd (n refl)
slice_get-set_there (y ∷ ys) zero (suc j) x n = refl
slice_get-set_there (y ∷ ys) (suc k) zero x n = refl
slice_get-set_there (y ∷ ys) (suc k) (suc j) x n = slice_get-set_there ys k j x (λ e. n (ap suc e))
