-- The letter of a record is short; a post over lines is lawful, whatever its letters lie in. Assumes nothing.
use Rattle.std.proofs.Common.{◌≡◌, ℕ, zero, suc, ◌≤◌, true, false, ◌⊎◌, List, [], ◌∷◌, map, length, Some, None, Option, sym, refl, ap, inl, inr, arith, length-take}
use lib.ListN.{length-map}
use Rattle.std.specs.List.{slice_get, AllByRecursion}
use Rattle.std.proofs.lemmas.Bool.{cases_Bool, cond-false}
use Rattle.post.specs.Queues.{Letter, Lawful, valid}
use Rattle.post.specs.Records.{letter_in}
use Rattle.post.specs.Places.{pair, ring, places_in, places, lying}
use Rattle.post.specs.declared.lines.Lines.{Lines}
use Rattle.post.specs.declared.lines.line.Line.{Line}
use Rattle.post.specs.declared.record.Record.{Record}

-- a body is as long as its record says
pub body_length : (x : Record) → length (letter_in x).body ≡ x.len
body_length x = let t = length-take x.len x.body in omega (arith, x.short, x.whole)

pub short_body : (x : Record) → length (letter_in x).body ≤ 16
short_body x = omega (arith, body_length x, x.short)

pub length-ring : (p f n : ℕ) → length (ring p f n) ≡ n
unfolding ring
length-ring p f zero = refl
length-ring p f (suc n) = ap suc (length-ring p (suc f) n)

few_in : (p : ℕ) (o : Option Line) → length (places_in p o) ≤ 4
few_in p None = omega arith
few_in p (Some x) = let f = x.few in omega (arith, length-ring p x.first x.count)

pub waiting_few : (l : Lines) (r s : ℕ) → length (places l r s) ≤ 4
waiting_few l r s = go (cases_Bool (valid r s))
  where
    go : (valid r s ≡ true) ⊎ (valid r s ≡ false) → length (places l r s) ≤ 4
    go (inl v) = rw v (few_in (pair r s) (slice_get l.lines (pair r s)))
    go (inr v) = rw v (omega arith)

module _ (at : ℕ → Letter) (l : Lines) where
  pub counted : (r s : ℕ) → length (places l r s) ≡ length (lying at (places l) r s)
  counted r s = sym (length-map (places l r s) at)

  pub lawful : ((k : ℕ) → length (at k).body ≤ 16) → Lawful (lying at (places l))
  lawful short = record {
    few = λ r s. omega (arith, counted r s, waiting_few l r s);
    nowhere_else = λ r s v. ap (map at) (cond-false (valid r s) _ [] v);
    short = λ r s. all (places l r s);
  }
    where
      all : (ps : List ℕ) → AllByRecursion (λ x. length x.body ≤ 16) (map at ps)
      all [] = tt
      all (k ∷ ks) = (short k, all ks)
