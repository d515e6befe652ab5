-- Where the letters lie: each pair has four places of 1,024, and uses them in turn. Assumes nothing.
use Rattle.std.specs.Prelude.{ℕ, zero, suc, ◌+◌, ◌*◌, ◌%◌, Bool, if◌then◌else◌, ◌&&◌, List, [], ◌∷◌, ◌++◌, map, length, drop, Some, None, Option, nat_lt}
use Rattle.std.specs.List.{slice_get}
use Rattle.post.specs.Queues.{Letter, Queues, valid, requeued}
use Rattle.post.specs.declared.lines.Lines.{Lines}
use Rattle.post.specs.declared.lines.line.Line.{Line}

-- the number of a pair
abbrev pub pair : ℕ → ℕ → ℕ
pair r s = r * 16 + s

-- n places of the pair p, one after another and round again, from turn f on
unfoldable pub ring : ℕ → ℕ → ℕ → List ℕ
ring p f zero = []
ring p f (suc n) = (p * 4 + f % 4) ∷ ring p (suc f) n

-- the places of the letters in the line of the pair p, that of the oldest first
abbrev pub places_in : ℕ → Option Line → List ℕ
places_in p None = []
places_in p (Some x) = ring p x.first x.count

-- the turn after the newest letter's
abbrev pub turn_after : Option Line → ℕ
turn_after None = 0
turn_after (Some x) = x.first + x.count

-- the places of the letters that wait, by receiver and then by sender
abbrev pub places : Lines → ℕ → ℕ → List ℕ
places l r s = if valid r s then places_in (pair r s) (slice_get l.lines (pair r s)) else []

-- whether the pair has a place for one letter more, and which it is
abbrev pub vacant : Lines → ℕ → ℕ → Bool
vacant l r s = valid r s && nat_lt (length (places l r s)) 4

abbrev pub next : Lines → ℕ → ℕ → ℕ
next l r s = pair r s * 4 + turn_after (slice_get l.lines (pair r s)) % 4

-- with that place in use
abbrev pub added : Lines → ℕ → ℕ → ℕ → ℕ → List ℕ
added l r s = if vacant l r s then requeued (places l) r s (places l r s ++ (next l r s ∷ [])) else places l

-- with the oldest letter's place free
abbrev pub freed : Lines → ℕ → ℕ → ℕ → ℕ → List ℕ
freed l r s = requeued (places l) r s (drop 1 (places l r s))

-- the queues of a post, by the letter that lies in each place
abbrev pub lying : (ℕ → Letter) → (ℕ → ℕ → List ℕ) → Queues
lying at p = λ r s. map at (p r s)
