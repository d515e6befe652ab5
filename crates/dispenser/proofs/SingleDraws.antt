-- What one draw answers and leaves: in an empty lane, under a quota, in the roll, and in the shuffle. Assumes nothing.
use Rattle.std.specs.Prelude.{◌≡◌, ℕ, zero, suc, ◌/◌, ◌%◌, ◌<◌, ◌≤◌, Bool, true, false, if◌then◌else◌, List, [], ◌∷◌, map, take, drop, None, Option, nat_lt, slice_index, refl}
use Rattle.std.proofs.Common.{sym, ap, ◌∙◌, arith}
use Rattle.std.specs.Option.{option_map}
use Rattle.std.specs.List.{slice_get}
use Rattle.std.proofs.Math.Seq.{take-nil}
use Rattle.std.proofs.lemmas.List.{drop-map}
use Rattle.std.proofs.lemmas.Bool.{lt-ltb, ne_eqb, eq-eqb}
use Rattle.std.proofs.lemmas.Option.{none-some, slice_get-map}
use Rattle.dispenser.specs.Meaning.{Meaning, Lawful, first, drawn}
use Rattle.dispenser.specs.Cut.{cut, passed_on}
use Rattle.dispenser.specs.Rolled.{choice_tags, rolled}
use Rattle.dispenser.specs.Rolls.{lane_is}
use Rattle.dispenser.specs.Shuffled.{moved, shuffled}
use Rattle.dispenser.specs.Lanes.{past_empty, drawn_by, draw_empty}

-- past the last place nothing is left
pub drop_none : (n : ℕ) (xs : List ℕ) → slice_get xs n ≡ None → drop n xs ≡ []
drop_none zero [] h = refl
drop_none zero (x ∷ xs) h = absurd (none-some x (sym h))
drop_none (suc n) [] h = refl
drop_none (suc n) (x ∷ xs) h = drop_none n xs h

pub none_empty : (xs : List ℕ) → None ≡ first xs → xs ≡ []
none_empty xs h = drop_none 0 xs (sym h)

pub first_take : (n : ℕ) (xs : List ℕ) → 0 < n → first (take n xs) ≡ first xs
first_take zero xs h = absurd (omega arith)
first_take (suc n) [] h = refl
first_take (suc n) (x ∷ xs) h = refl

-- a lane that is empty below is empty
pub cut_empty : (m : Meaning) (left : List ℕ) (k : ℕ) → m.lane k ≡ [] → (cut m left).lane k ≡ []
cut_empty m left k e = ap (take (slice_index left k)) e ∙ take-nil (slice_index left k)

pub passed_past : (m : Meaning) (left : List ℕ) (k : ℕ) → Lawful m → 48 ≤ k → m ≡ passed_on m left k
passed_past m left k laws h = go (nat_lt 0 (slice_index left k))
  where
    go : (b : Bool) → m ≡ (if b then drawn m k else m)
    go true = (draw_empty m k (past_empty m laws k h)).left
    go false = refl

pub passed_none : (m : Meaning) (left : List ℕ) (k : ℕ) → slice_index left k ≡ 0 → m ≡ passed_on m left k
passed_none m left k e = rw e

pub passed_some : (m : Meaning) (left : List ℕ) (k : ℕ) → 0 < slice_index left k → drawn m k ≡ passed_on m left k
passed_some m left k h = rw (lt-ltb 0 (slice_index left k) h)

pub draw_none : (used : List ℕ) (k : ℕ) → k < 48 → None ≡ slice_get (choice_tags (k / 3) (k % 3)) (slice_index used k) → record { answer : None ≡ first ((rolled used).lane k); left : rolled used ≡ drawn (rolled used) k }
draw_none used k l h = draw_empty (rolled used) k (ap (drop (slice_index used k)) (lane_is k l) ∙ drop_none (slice_index used k) _ (sym h))

-- what a draw below answers, moved, is what a draw answers
pub first_moved : (xs : List ℕ) (o : Option ℕ) → o ≡ first xs → option_map moved o ≡ first (map moved xs)
first_moved xs o h = ap (option_map moved) h ∙ sym (slice_get-map moved xs 0)

pub shuffled_drawn : (m : Meaning) (k : ℕ) → shuffled (drawn m k) ≡ drawn (shuffled m) k
shuffled_drawn m k =
    drawn_by (shuffled m) (shuffled (drawn m k)) k refl
    (rw (eq-eqb k k refl) (sym (drop-map moved 1 (m.lane k))))
    (λ j d. rw (ne_eqb j k d))
