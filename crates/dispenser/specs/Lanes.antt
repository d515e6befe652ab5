-- Lanes: places in them, what a draw leaves, and a dispenser whose lanes are parts of another's. Assumes nothing.
use Rattle.std.specs.Prelude.{◌≡◌, ℕ, zero, suc, ◌+◌, ◌%◌, ◌<◌, ◌≤◌, false, ◌&&◌, ◌⊎◌, List, [], ◌∷◌, take, drop, replicate, Some, None, ◌==◌, ◌≢◌, slice_index, refl}
use Rattle.std.proofs.Common.{sym, ap, ◌∙◌, inl, inr, zero-add, suc-add, arith}
use denote.Struct.Props.{props}
use Rattle.std.specs.List.{slice_get}
use Rattle.std.proofs.lemmas.Bool.{cases_eq, eq-eqb, ne_eqb}
use Rattle.std.proofs.lemmas.Option.{none-some}
use Rattle.sets.specs.Sets.{has}
use Rattle.dispenser.specs.Meaning.{Meaning, Lawful, Stands, first, drawn}

-- ---- places in a list

pub slice_get-drop : (n : ℕ) (xs : List ℕ) (a : ℕ) → slice_get (drop n xs) a ≡ slice_get xs (n + a)
slice_get-drop zero xs a = ap (slice_get xs) (sym (zero-add a))
slice_get-drop (suc n) [] a = refl
slice_get-drop (suc n) (x ∷ xs) a = slice_get-drop n xs a ∙ ap (slice_get (x ∷ xs)) (sym (suc-add n a))

pub slice_get-take : (n : ℕ) (xs : List ℕ) (a t : ℕ) → slice_get (take n xs) a ≡ Some t → slice_get xs a ≡ Some t
slice_get-take zero xs a t h = absurd (none-some t h)
slice_get-take (suc n) [] a t h = h
slice_get-take (suc n) (x ∷ xs) zero t h = h
slice_get-take (suc n) (x ∷ xs) (suc a) t h = slice_get-take n xs a t h

pub slice_index-replicate : (n k : ℕ) → ◌≡◌ {A = ℕ} (slice_index (replicate n 0) k) 0
slice_index-replicate zero k = refl
slice_index-replicate (suc n) zero = refl
slice_index-replicate (suc n) (suc k) = slice_index-replicate n k

-- ---- draws

pub same_meaning : (m n : Meaning) → ((k : ℕ) → m.lane k ≡ n.lane k) → m.opens ≡ n.opens → m ≡ n
same_meaning m n l o = λ i. record { lane = λ k. l k i; opens = o i }

-- a draw on lane k is known by what it does to that lane, and that it does nothing to others
pub drawn_by : (m n : Meaning) (k : ℕ) → n.opens ≡ m.opens → n.lane k ≡ drop 1 (m.lane k) → ((j : ℕ) → (j ≢ k) → n.lane j ≡ m.lane j) → n ≡ drawn m k
drawn_by m n k o here other = same_meaning n (drawn m k) (λ j. go j (cases_eq j k)) o
  where
    go : (j : ℕ) → (j ≡ k) ⊎ (j ≢ k) → n.lane j ≡ (drawn m k).lane j
    go j (inl e) = rw (e, eq-eqb k k refl) here
    go j (inr d) = rw (ne_eqb j k d) (other j d)

-- a draw where there is nothing to draw
pub drawn_empty : (m : Meaning) (k : ℕ) → m.lane k ≡ [] → drawn m k ≡ m
drawn_empty m k e = sym (drawn_by m m k refl (e ∙ sym (ap (drop 1) e)) (λ j d. refl))

pub draw_empty : (m : Meaning) (k : ℕ) → m.lane k ≡ [] → record { answer : None ≡ first (m.lane k); left : m ≡ drawn m k }
draw_empty m k e = record { answer = sym (ap first e); left = sym (drawn_empty m k e) }

-- ---- laws

-- l is part of the lanes of m: what stands at place a of lane k stands there s k places further on
pub part_lawful : (m : Meaning) (l : ℕ → List ℕ) (s : ℕ → ℕ) → ((k a t : ℕ) → slice_get (l k) a ≡ Some t → Stands m k (s k + a) t) → Lawful m → Lawful (record { lane = l; opens = m.opens })
part_lawful m l s part laws = record {
  small = λ k a t h. laws.small k (s k + a) t (part k a t h);
  once = λ j k a b t h i.
      let e = laws.once j k (s j + a) (s k + b) t (part j a t h) (part k b t i) in
      let q : s j ≡ s k = ap s e.0 in
      (e.0, omega (arith, e.1));
  by_choice = λ k a t h. laws.by_choice k (s k + a) t (part k a t h);
  apart = laws.apart;
}

pub past_empty : (m : Meaning) → Lawful m → (k : ℕ) → 48 ≤ k → m.lane k ≡ []
past_empty m laws k h = go (m.lane k) (λ t e. (laws.small k 0 t e).0)
  where
    go : (xs : List ℕ) → ((t : ℕ) → slice_get xs 0 ≡ Some t → k < 48) → xs ≡ []
    go [] f = refl
    go (x ∷ xs) f = absurd (omega (arith, f x refl))

-- being lawful is a proposition, so that it can be had from a truncated invariant
pub lawful_prop : (m : Meaning) → IsProp (Lawful m)
lawful_prop m x y = λ i. record {
  small = small x.small y.small i;
  once = once x.once y.once i;
  by_choice = by_choice x.by_choice y.by_choice i;
  apart = apart x.apart y.apart i;
}
  where
    small : IsProp ((k a t : ℕ) → Stands m k a t → (k < 48) × (t < 64))
    small = hlevel props

    both : (j k a b : ℕ) → IsProp ((j ≡ k) × (a ≡ b))
    both j k a b = hlevel props

    once : IsProp ((j k a b t : ℕ) → Stands m j a t → Stands m k b t → (j ≡ k) × (a ≡ b))
    once p q = λ i j k a b t h l. both j k a b (p j k a b t h l) (q j k a b t h l) i

    by_choice : IsProp ((k a t : ℕ) → Stands m k a t → (has t m.opens.taking ≡ (k % 3 == 1)) × (has t m.opens.adding ≡ (k % 3 == 2)))
    by_choice = hlevel props

    apart : IsProp ((t : ℕ) → (has t m.opens.taking && has t m.opens.adding) ≡ false)
    apart = hlevel props
