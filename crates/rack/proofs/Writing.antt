-- Writing one place changes one letter, and a record that is read gives its letter. Assumes nothing.
use Rattle.std.proofs.Common.{◌≡◌, ℕ, ◌<◌, ◌⊎◌, List, length, get_or, set, ap, ◌∙◌, sym, inl, inr}
use Rattle.std.specs.List.{slice_get}
use Rattle.std.proofs.lemmas.Option.{slice_get-get_or}
use Rattle.std.proofs.lemmas.Bool.{cases_eq, eq-eqb, ne_eqb, cond-true, cond-false}
use Rattle.post.specs.Queues.{upd}
use Rattle.post.specs.Records.{letter_in}
use Rattle.post.specs.declared.record.Record.{Record}
use Rattle.post.proofs.Elements.{slice_get-set_here, slice_get-set_there}
use Rattle.rack.specs.Racked.{letter_at, recorded}

pub recorded_set : (xs : List Record) (k : ℕ) (x : Record) → k < length xs → recorded (set xs k x) ≡ upd (recorded xs) k (letter_in x)
recorded_set xs k x h = λ i j. go j (cases_eq j k) i
  where
    go : (j : ℕ) → (j ≡ k) ⊎ (j ≡ k → ⊥) → recorded (set xs k x) j ≡ upd (recorded xs) k (letter_in x) j
    go j (inl e) = ap (λ n. letter_at (slice_get (set xs k x) n)) e ∙ ap letter_at (slice_get-set_here xs k x h) ∙ sym (cond-true _ (letter_in x) (recorded xs j) (eq-eqb j k e))
    go j (inr n) = ap letter_at (slice_get-set_there xs k j x n) ∙ sym (cond-false _ (letter_in x) (recorded xs j) (ne_eqb j k n))

-- the letter of a record that is read, in a list of any length; the check finds it for a rack by itself
pub recorded_at : (xs : List Record) (k : ℕ) (d : Record) → k < length xs → letter_in (get_or xs k d) ≡ recorded xs k
recorded_at xs k d h = sym (ap letter_at (slice_get-get_or xs k d h))
