-- Runs of puts and takes, and what holds over every run. Assumes nothing.
use Rattle.std.specs.Prelude.{◌≡◌, ℕ, Bool, if◌then◌else◌, ◌&&◌, List, [], ◌∷◌, ◌++◌, take, filter, ◌==◌}
use Rattle.std.specs.List.{flat_map}
use Rattle.post.specs.Queues.{Letter, Queues, room, posted, reached, removed}

-- a letter is put, or one is taken with a buffer of some size
pub data Kind : Type 0 where
  puts : Letter → Kind
  takes : ℕ → Kind

pub record Operation : Type 0 where
  pub receiver : ℕ
  pub sender : ℕ
  pub kind : Kind

-- whether the operation is one of receiver r and sender s
abbrev pub of_pair : ℕ → ℕ → Operation → Bool
of_pair r s a = a.receiver == r && a.sender == s

-- ---- one operation: what it leaves, and the letter that it brings into the post or fetches from it, if any

abbrev pub operated : Queues → ℕ → ℕ → Kind → Queues
operated q r s (puts l) = posted q r s l
operated q r s (takes size) = removed q r s size

abbrev pub after_one : Queues → Operation → Queues
after_one q a = operated q a.receiver a.sender a.kind

abbrev pub brings : Queues → ℕ → ℕ → Kind → List Letter
brings q r s (puts l) = if room q r s l.body then l ∷ [] else []
brings q r s (takes size) = []

abbrev pub brought : Queues → Operation → List Letter
brought q a = brings q a.receiver a.sender a.kind

abbrev pub fetches : Queues → ℕ → ℕ → Kind → List Letter
fetches q r s (puts l) = []
fetches q r s (takes size) = take 1 (reached q r s size)

abbrev pub fetched : Queues → Operation → List Letter
fetched q a = fetches q a.receiver a.sender a.kind

-- ---- a run

abbrev pub after : Queues → List Operation → Queues
after q [] = q
after q (a ∷ xs) = after (after_one q a) xs

-- what each operation of one pair brings, or what each fetches
abbrev pub told : (Queues → Operation → List Letter) → ℕ → ℕ → Queues → List Operation → List (List Letter)
told f r s q [] = []
told f r s q (a ∷ xs) = if of_pair r s a then f q a ∷ told f r s (after_one q a) xs else told f r s (after_one q a) xs

-- all of that, one behind the other
abbrev pub in_a_row : List (List Letter) → List Letter
in_a_row xs = flat_map (λ x. x) xs

-- the operations of one pair
abbrev pub own : ℕ → ℕ → List Operation → List Operation
own r s xs = filter (of_pair r s) xs

pub record Faithful (q : Queues) : Type 0 where
  -- of each pair, the letters that waited and those kept since, in this order, are those taken and those that wait now
  pub nothing_lost : (xs : List Operation) (r s : ℕ) → q r s ++ in_a_row (told brought r s q xs) ≡ in_a_row (told fetched r s q xs) ++ after q xs r s
  -- which letters a pair's operations bring and fetch depends on that pair's queue and on these operations alone
  pub nothing_mixed : (p : Queues) (xs ys : List Operation) (r s : ℕ) → q r s ≡ p r s → own r s xs ≡ own r s ys →
      (told brought r s q xs ≡ told brought r s p ys) × (told fetched r s q xs ≡ told fetched r s p ys)
