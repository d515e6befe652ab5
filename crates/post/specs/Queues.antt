-- What a post holds, what put and take do to it, and the laws of every post. Assumes nothing.
use Rattle.std.specs.Prelude.{◌≡◌, ℕ, ◌≤◌, Bool, false, if◌then◌else◌, ◌&&◌, List, [], ◌∷◌, ◌++◌, length, drop, Some, None, Ok, Err, Option, Result, ◌==◌, nat_le, nat_lt}
use Rattle.std.specs.List.{AllByRecursion}
use Rattle.post.specs.declared.letter.Full.{Full}
use Rattle.post.specs.declared.letter.LetterSets.{LetterSets}
use Rattle.post.specs.declared.letter.Taken.{Taken}

pub record Letter : Type 0 where
  pub sets : LetterSets
  pub body : List ℕ

-- the letters that wait, by receiver and then by sender, the oldest first
abbrev pub Queues : Type 0
Queues = ℕ → ℕ → List Letter

-- both numbers are those of tasks
abbrev pub valid : ℕ → ℕ → Bool
valid r s = nat_lt r 16 && nat_lt s 16

-- the function f with v at i
abbrev pub upd : {A : Type 0} → (ℕ → A) → ℕ → A → ℕ → A
upd f i v j = if j == i then v else f j

-- with x for the pair of receiver r and sender s; no other pair is touched
abbrev pub requeued : {A : Type 0} → (ℕ → ℕ → A) → ℕ → ℕ → A → ℕ → ℕ → A
requeued q r s x = upd q r (upd (q r) s x)

-- whether a letter with this body is kept
abbrev pub room : Queues → ℕ → ℕ → List ℕ → Bool
room q r s body = nat_le (length body) 16 && (valid r s && nat_lt (length (q r s)) 4)

-- what a put answers
abbrev pub kept_or_full : Bool → Result (Unit {0}) Full
kept_or_full there_is_room = if there_is_room then Ok tt else Err (record {})

-- what putting a letter leaves
abbrev pub posted : Queues → ℕ → ℕ → Letter → Queues
posted q r s l = if room q r s l.body then requeued q r s (q r s ++ (l ∷ [])) else q

-- the letters of a pair as a take finds them: it sees none with a buffer of under 16 bytes
abbrev pub reached : Queues → ℕ → ℕ → ℕ → List Letter
reached q r s size = if nat_le 16 size then q r s else []

-- what a take answers
abbrev pub oldest : List Letter → Option Taken
oldest [] = None
oldest (l ∷ ls) = Some (record { sets = l.sets; len = length l.body })

-- the buffer after a take: the body in front, and the other bytes as they were
abbrev pub written : List Letter → List ℕ → List ℕ
written [] buffer = buffer
written (l ∷ ls) buffer = l.body ++ drop (length l.body) buffer

-- what a take leaves
abbrev pub removed : Queues → ℕ → ℕ → ℕ → Queues
removed q r s size = if nat_le 16 size then requeued q r s (drop 1 (q r s)) else q

pub record Lawful (q : Queues) : Type 0 where
  pub few : (r s : ℕ) → length (q r s) ≤ 4
  pub nowhere_else : (r s : ℕ) → valid r s ≡ false → q r s ≡ []
  pub short : (r s : ℕ) → AllByRecursion (λ l. length l.body ≤ 16) (q r s)
