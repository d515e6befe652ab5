-- Runs of draws: what each answers, and two laws over every run. Assumes nothing.
use Rattle.std.specs.Prelude.{◌≡◌, ℕ, Bool, true, List, [], ◌∷◌, map, Some}
use Rattle.std.specs.List.{slice_get, filter}
use Rattle.dispenser.specs.Meaning.{Meaning, first, drawn}
use Rattle.dispenser.specs.declared.draws.Draw.{Draw}

abbrev pub lanes_of : List Draw → List ℕ
lanes_of = map (λ d. d.lane)

-- draws on the lanes in turn, each with its answer
abbrev pub answered : Meaning → List ℕ → List Draw
answered m [] = []
answered m (k ∷ ks) = record { lane = k; tag = first (m.lane k) } ∷ answered (drawn m k) ks

-- what they leave
abbrev pub after : Meaning → List ℕ → Meaning
after m [] = m
after m (k ∷ ks) = after (drawn m k) ks

-- whatever the run, a tag comes at most once
abbrev pub NeverTwice : Meaning → Type 0
NeverTwice m = (ks : List ℕ) (i j t : ℕ) (x y : Draw) → slice_get (answered m ks) i ≡ Some x → slice_get (answered m ks) j ≡ Some y → x.tag ≡ Some t → y.tag ≡ Some t → i ≡ j

-- Whoever draws on some lanes only learns nothing of the draws on others: in two runs, of dispensers alike in those
-- lanes, with the same draws on those lanes in the same order, these draws have the same answers.
abbrev pub OwnLanesOnly : Meaning → Type 0
OwnLanesOnly m =
    (mine : ℕ → Bool) (n : Meaning) (ks ls : List ℕ) → ((k : ℕ) → mine k ≡ true → m.lane k ≡ n.lane k) → filter mine ks ≡ filter mine ls →
    filter (λ d. mine d.lane) (answered m ks) ≡ filter (λ d. mine d.lane) (answered n ls)
