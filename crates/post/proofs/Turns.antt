-- The lines of all pairs when one place is taken into use or set free. Assumes nothing.
use Rattle.std.proofs.Common.{◌≡◌, ℕ, zero, suc, ◌+◌, ◌-◌, ◌*◌, ◌%◌, ◌<◌, ◌≤◌, true, false, cond, ltb, ◌⊎◌, List, [], ◌∷◌, ◌++◌, length, get_or, drop, set, replicate, Some, None, Option, sym, refl, ap, subst, ◌∙◌, ap₂, inl, inr, arith, rules}
use Rattle.std.specs.List.{slice_get, AllByRecursion}
use Rattle.std.proofs.lemmas.Option.{none-some, slice_get-get_or}
use Rattle.std.proofs.lemmas.List.{places as element-laws, nil_from_length}
use Rattle.std.proofs.lemmas.Bool.{cases_Bool, cases_eq, and_parts, and_from, and_right, ltb-true, le-ltb, lt-ltb}
use Rattle.post.specs.Laws.{length-ring}
use Rattle.post.specs.Queues.{valid, requeued}
use Rattle.post.specs.Places.{pair, ring, places_in, turn_after, places, vacant, next, freed}
use Rattle.post.specs.declared.lines.Lines.{Lines}
use Rattle.post.specs.declared.lines.line.Line.{Line}
use Rattle.post.proofs.Elements.{slice_get-set_here, slice_get-set_there}
use Rattle.post.proofs.Rings.{no_places, ring_first, ring_rest, ring_more, ring_all}
use Rattle.post.proofs.Pairs.{known, unchanged}

-- `places` by the list of lines
abbrev pub spread : List Line → ℕ → ℕ → List ℕ
spread ls r s = cond (valid r s) (places_in (pair r s) (slice_get ls (pair r s))) []

spread_at : (ls : List Line) (r s : ℕ) → valid r s ≡ true → spread ls r s ≡ places_in (pair r s) (slice_get ls (pair r s))
spread_at ls r s v = rw v

spread_none : (ls : List Line) (r s : ℕ) → valid r s ≡ false → spread ls r s ≡ []
spread_none ls r s v = rw v

-- two pairs have different numbers
valid_below : (r s : ℕ) → valid r s ≡ true → (r < 16) × (s < 16)
valid_below r s v = let p = and_parts (ltb r 16) (ltb s 16) v in (ltb-true r 16 p.0, ltb-true s 16 p.1)

apart : (i j r s : ℕ) → valid i j ≡ true → valid r s ≡ true → ((i ≡ r) × (j ≡ s) → ⊥) → pair i j ≡ pair r s → ⊥
apart i j r s v w n e =
    let p = valid_below i j v in
    let q = valid_below r s w in
    n (omega arith, omega arith)

-- one pair's line is changed
line_changed : (ls : List Line) (r s : ℕ) (x : Line) → valid r s ≡ true → length ls ≡ 256 → spread (set ls (pair r s) x) ≡ requeued (spread ls) r s (ring (pair r s) x.first x.count)
line_changed ls r s x v n = known _ (spread ls) r s _ here there
  where
    bound : pair r s < length ls
    bound = let p = valid_below r s v in omega arith

    here : spread (set ls (pair r s) x) r s ≡ ring (pair r s) x.first x.count
    here = spread_at (set ls (pair r s) x) r s v ∙ ap (places_in (pair r s)) (slice_get-set_here ls (pair r s) x bound)

    there : (i j : ℕ) → ((i ≡ r) × (j ≡ s) → ⊥) → spread (set ls (pair r s) x) i j ≡ spread ls i j
    there i j o = go (cases_Bool (valid i j))
      where
        go : (valid i j ≡ true) ⊎ (valid i j ≡ false) → spread (set ls (pair r s) x) i j ≡ spread ls i j
        go (inl w) =
            spread_at (set ls (pair r s) x) i j w
            ∙ ap (places_in (pair i j)) (slice_get-set_there ls (pair r s) (pair i j) x (apart i j r s w v o))
            ∙ sym (spread_at ls i j w)
        go (inr w) = spread_none (set ls (pair r s) x) i j w ∙ sym (spread_none ls i j w)

-- ---- a pair's number, as the code asks for it

abbrev pub Found : ℕ → ℕ → ℕ → Type 0
Found r s k = (valid r s ≡ true) × (k ≡ pair r s) × (k < 256)

pub found : (r s k : ℕ) → Some k ≡ cond (valid r s) (Some (pair r s)) None → Found r s k
found r s k h = go (cases_Bool (valid r s))
  where
    go : (valid r s ≡ true) ⊎ (valid r s ≡ false) → Found r s k
    go (inl v) = let e : Some k ≡ Some (pair r s) = h ∙ rw v in let q : k ≡ pair r s = cc in let b = valid_below r s v in (v, q, omega arith)
    go (inr v) = let e : Some k ≡ None = h ∙ rw v in let z : ◌≡◌ {A = ℕ} 0 1 = cc in absurd (omega arith)

-- ---- all lines

-- the pair has the number k, and its line is x
pub record Reads (l : Lines) (r s k : ℕ) (x : Line) : Type 0 where
  pub number : Found r s k
  pub is : slice_get l.lines k ≡ Some x

pub reads : (l : Lines) (r s k : ℕ) (d : Line) → Some k ≡ cond (valid r s) (Some (pair r s)) None → length l.lines ≡ 256 → Reads l r s k (get_or l.lines k d)
reads l r s k d h n =
    let p = found r s k h in
    record { number = p; is = slice_get-get_or l.lines k d (omega (arith, p.2)) }

module _ (l : Lines) (r s k : ℕ) (x : Line) (q : Reads l r s k x) where
  p : Found r s k
  p = q.number

  at_pair : slice_get l.lines (pair r s) ≡ Some x
  at_pair = ap (slice_get l.lines) (sym p.1) ∙ q.is

  line : places l r s ≡ ring k x.first x.count
  line = spread_at l.lines r s p.0 ∙ ap (places_in (pair r s)) at_pair ∙ ap (λ n. ring n x.first x.count) (sym p.1)

  -- how many wait
  pub waiting : length (places l r s) ≡ x.count
  waiting = ap length line ∙ length-ring k _ _

  pub no_room : 3 < x.count → vacant l r s ≡ false
  no_room h = and_right (valid r s) _ (le-ltb (length (places l r s)) 4 (omega (arith, waiting)))

  pub has_room : x.count ≤ 3 → vacant l r s ≡ true
  has_room h = and_from (valid r s) _ p.0 (lt-ltb (length (places l r s)) 4 (omega (arith, waiting)))

  pub next_place : k * 4 + (x.first + x.count) % 4 ≡ next l r s
  next_place = ap₂ (λ n o. n * 4 + turn_after o % 4) p.1 (sym at_pair)

  changed : (y : Line) → length l.lines ≡ 256 → spread (set l.lines k y) ≡ requeued (places l) r s (ring k y.first y.count)
  changed y n = rw p.1 (line_changed l.lines r s y p.0 n)

  pub one_added : (y : Line) → y.first ≡ x.first → y.count ≡ x.count + 1 → length l.lines ≡ 256
      → spread (set l.lines k y) ≡ requeued (places l) r s (places l r s ++ (next l r s ∷ []))
  one_added y f c n =
      changed y n ∙ ap (requeued (places l) r s) (ap₂ (ring k) f c ∙ ring_more k _ _ ∙ ap₂ (λ xs m. xs ++ (m ∷ [])) (sym line) next_place)

  pub one_freed : (y : Line) → 0 < x.count → y.first ≡ (x.first + 1) % 4 → y.count + 1 ≡ x.count → length l.lines ≡ 256 → spread (set l.lines k y) ≡ freed l r s
  one_freed y h f c n =
      let d : y.count ≡ x.count - 1 = omega arith in
      changed y n ∙ ap (requeued (places l) r s) (ap₂ (ring k) f d ∙ sym (ring_rest k _ _ h) ∙ ap (drop 1) (sym line))

  pub first_place : 0 < x.count → slice_get (places l r s) 0 ≡ Some (k * 4 + x.first % 4)
  first_place h = ap (λ xs. slice_get xs 0) line ∙ ring_first k _ _ h

  pub none_waits : x.count ≡ 0 → places l r s ≡ []
  none_waits h = nil_from_length (places l r s) (waiting ∙ h)

-- where none waits, nothing is set free
pub none_freed : (l : Lines) (r s : ℕ) → places l r s ≡ [] → places l ≡ freed l r s
none_freed l r s e = sym (unchanged (places l) r s (drop 1 (places l r s)) (e ∙ sym (ap (drop 1) e)))

-- ---- the next place is not in use

pub next_free : (l : Lines) (r s : ℕ) → vacant l r s ≡ true → (i j : ℕ) → AllByRecursion (λ k. k ≡ next l r s → ⊥) (places l i j)
next_free l r s h i j = go (cases_Bool (valid i j)) (cases_eq (pair i j) (pair r s))
  where
    v : valid r s ≡ true
    v = (and_parts (valid r s) _ h).0

    Free : ℕ → Type 0
    Free k = k ≡ next l r s → ⊥

    here : (x : Line) → slice_get l.lines (pair r s) ≡ Some x → Reads l r s (pair r s) x
    here x is = let b = valid_below r s v in record { number = (v, refl, omega arith); is = is }

    same : (o : Option Line) → slice_get l.lines (pair r s) ≡ o → AllByRecursion Free (places_in (pair r s) o)
    same None q = tt
    same (Some x) q = ring_all Free (pair r s) x.first x.count (λ a b t. omega (arith, few, sym (next_place l r s (pair r s) x (here x q))))
      where
        few : x.count < 4
        few = omega (arith, ltb-true (length (places l r s)) 4 (and_parts (valid r s) _ h).1, waiting l r s (pair r s) x (here x q))

    other : (o : Option Line) → (pair i j ≡ pair r s → ⊥) → AllByRecursion Free (places_in (pair i j) o)
    other None d = tt
    other (Some y) d = ring_all Free (pair i j) y.first y.count (λ a b t. d (omega arith))

    go : (valid i j ≡ true) ⊎ (valid i j ≡ false) → (pair i j ≡ pair r s) ⊎ (pair i j ≡ pair r s → ⊥) → AllByRecursion Free (places l i j)
    go (inl w) (inl e) = rw w (subst (λ (p : ℕ). AllByRecursion Free (places_in p (slice_get l.lines p))) (sym e) (same (slice_get l.lines (pair r s)) refl))
    go (inl w) (inr d) = rw w (other (slice_get l.lines (pair i j)) d)
    go (inr w) e = rw w tt

-- ---- where nothing waits

-- stated for lines that are told by two lists of numbers
pub zeros : (n k : ℕ) → ◌≡◌ {A = ℕ} (get_or (replicate n 0) k 0) 0
zeros n k = search (rules, element-laws)

-- no line has a letter
pub empty_lines : (ls : List Line) → ((k : ℕ) (x : Line) → slice_get ls k ≡ Some x → x.count ≡ 0) → spread ls ≡ (λ r s. [])
empty_lines ls h = λ t r s. go r s (cases_Bool (valid r s)) t
  where
    none : (p : ℕ) (o : Option Line) → ((x : Line) → o ≡ Some x → x.count ≡ 0) → places_in p o ≡ []
    none p None g = refl
    none p (Some x) g = ap (ring p x.first) (g x refl) ∙ no_places p x.first

    go : (r s : ℕ) → (valid r s ≡ true) ⊎ (valid r s ≡ false) → spread ls r s ≡ []
    go r s (inl v) = spread_at ls r s v ∙ none (pair r s) (slice_get ls (pair r s)) (h (pair r s))
    go r s (inr v) = spread_none ls r s v

-- all lines are the same
pub all_empty : (x : Line) → x.count ≡ 0 → spread (replicate 256 x) ≡ (λ r s. [])
all_empty x h = empty_lines (replicate 256 x) (same 256)
  where
    same : (n k : ℕ) (y : Line) → slice_get (replicate n x) k ≡ Some y → y.count ≡ 0
    same zero k y e = absurd (none-some y e)
    same (suc n) zero y e = let q : x ≡ y = cc in ap (λ z. z.count) (sym q) ∙ h
    same (suc n) (suc k) y e = same n k y e
