-- The tags of a set as a list: just those of the set, each lower one before each higher. Assumes nothing.
use Rattle.std.specs.Prelude.{◌≡◌, ℕ, zero, suc, ◌+◌, ◌<◌, ◌≤◌, true, false, ◌⊎◌, [], ◌∷◌, Some, ◌≢◌, refl}
use Rattle.std.proofs.Common.{sym, ap, ◌∙◌, inl, inr, arith}
use Rattle.std.specs.List.{slice_get}
use Rattle.std.proofs.lemmas.Bool.{cases_Bool, cases_eq, cases_order, false≢true}
use Rattle.sets.specs.Sets.{has}
use Rattle.sets.proofs.Bits.{has_zero}
use Rattle.std.proofs.lemmas.Option.{none-some}
use Rattle.sheet.specs.Tags.{tags_from, tags}

take_in : (n i s : ℕ) → has i s ≡ true → tags_from (suc n) i s ≡ i ∷ tags_from n (suc i) s
unfolding tags_from
take_in n i s e = rw e

pass_by : (n i s : ℕ) → has i s ≡ false → tags_from (suc n) i s ≡ tags_from n (suc i) s
unfolding tags_from
pass_by n i s e = rw e

-- what stands in the list is in the set, and among the n numbers from i on
abbrev Among : ℕ → ℕ → ℕ → ℕ → Type 0
Among n i s t = (has t s ≡ true) × (i ≤ t) × (t < i + n)

among : (n i s a t : ℕ) → slice_get (tags_from n i s) a ≡ Some t → Among n i s t
unfolding tags_from
among zero i s a t h = absurd (none-some t h)
among (suc n) i s a t h = go (cases_Bool (has i s)) a h (λ b k. among n (suc i) s b t k)
  where
    wider : Among n (suc i) s t → Among (suc n) i s t
    wider p = (p.0, omega arith, omega arith)

    go : (has i s ≡ true) ⊎ (has i s ≡ false) → (a : ℕ) → slice_get (tags_from (suc n) i s) a ≡ Some t → ((b : ℕ) → slice_get (tags_from n (suc i) s) b ≡ Some t → Among n (suc i) s t) → Among (suc n) i s t
    go (inl e) zero h r = let q : i ≡ t = at (sym (ap (λ xs. slice_get xs 0) (take_in n i s e)) ∙ h) in (ap (λ x. has x s) (sym q) ∙ e, omega arith, omega arith)
      where
        at : Some i ≡ Some t → i ≡ t
        at p = cc
    go (inl e) (suc a) h r = wider (r a (sym (ap (λ xs. slice_get xs (suc a)) (take_in n i s e)) ∙ h))
    go (inr e) a h r = wider (r a (sym (ap (λ xs. slice_get xs a) (pass_by n i s e)) ∙ h))

-- a lower place has a lower tag
abbrev Rising : ℕ → ℕ → ℕ → ℕ → ℕ → Type 0
Rising n i s t u = (a b : ℕ) → slice_get (tags_from n i s) a ≡ Some t → slice_get (tags_from n i s) b ≡ Some u → a < b → t < u

rising : (n i s t u : ℕ) → Rising n i s t u
unfolding tags_from
rising zero i s t u a b h k l = absurd (none-some t h)
rising (suc n) i s t u a b h k l = go (cases_Bool (has i s)) (rising n (suc i) s t u)
  where
    here : Rising n (suc i) s t u → (a b : ℕ) → slice_get (i ∷ tags_from n (suc i) s) a ≡ Some t → slice_get (i ∷ tags_from n (suc i) s) b ≡ Some u → a < b → t < u
    here r a zero h k l = absurd (omega arith)
    here r zero (suc b) h k l = let e : i ≡ t = cc in omega (arith, (among n (suc i) s b u k).1)
    here r (suc a) (suc b) h k l = r a b h k (omega arith)

    go : (has i s ≡ true) ⊎ (has i s ≡ false) → Rising n (suc i) s t u → t < u
    go (inl e) r = here r a b (sym (ap (λ xs. slice_get xs a) (take_in n i s e)) ∙ h) (sym (ap (λ xs. slice_get xs b) (take_in n i s e)) ∙ k) l
    go (inr e) r = r a b (sym (ap (λ xs. slice_get xs a) (pass_by n i s e)) ∙ h) (sym (ap (λ xs. slice_get xs b) (pass_by n i s e)) ∙ k) l

-- a tag of the set stands in the list
found : (n i s t : ℕ) → has t s ≡ true → i ≤ t → t < i + n → (a : ℕ) × (slice_get (tags_from n i s) a ≡ Some t)
found zero i s t h l m = absurd (omega arith)
found (suc n) i s t h l m = go (cases_Bool (has i s)) (cases_eq t i) (λ k. found n (suc i) s t h k (omega arith))
  where
    go : (has i s ≡ true) ⊎ (has i s ≡ false) → (t ≡ i) ⊎ (t ≢ i) → (suc i ≤ t → (a : ℕ) × (slice_get (tags_from n (suc i) s) a ≡ Some t)) → (a : ℕ) × (slice_get (tags_from (suc n) i s) a ≡ Some t)
    go (inl e) (inl q) r = (0, ap (λ xs. slice_get xs 0) (take_in n i s e) ∙ ap Some (sym q))
    go (inl e) (inr d) r = let p = r (omega arith) in (suc p.0, ap (λ xs. slice_get xs (suc p.0)) (take_in n i s e) ∙ p.1)
    go (inr e) (inl q) r = absurd (false≢true (sym e ∙ ap (λ x. has x s) (sym q) ∙ h))
    go (inr e) (inr d) r = let p = r (omega arith) in (p.0, ap (λ xs. slice_get xs p.0) (pass_by n i s e) ∙ p.1)

-- sets that agree from i on have the same list
agree : (n i s r : ℕ) → ((t : ℕ) → i ≤ t → has t s ≡ has t r) → tags_from n i s ≡ tags_from n i r
unfolding tags_from
agree zero i s r f = refl
agree (suc n) i s r f = rw (f i (omega arith), agree n (suc i) s r (λ t h. f t (omega arith)))

-- z is the lowest tag of s, and r has all of s but z
low_first : (n i s r z : ℕ) → i ≤ z → z < i + n → has z s ≡ true → ((j : ℕ) → j < z → has j s ≡ false) → has z r ≡ false → ((t : ℕ) → (t ≢ z) → has t r ≡ has t s)
    → tags_from n i s ≡ z ∷ tags_from n i r
low_first zero i s r z l h p none q same = absurd (omega arith)
low_first (suc n) i s r z l h p none q same = go (cases_eq i z) (λ k m. low_first n (suc i) s r z k m p none q same)
  where
    go : (i ≡ z) ⊎ (i ≢ z) → (suc i ≤ z → z < suc i + n → tags_from n (suc i) s ≡ z ∷ tags_from n (suc i) r) → tags_from (suc n) i s ≡ z ∷ tags_from (suc n) i r
    go (inl e) rest =
        take_in n i s (ap (λ x. has x s) e ∙ p) ∙ ap (λ x. x ∷ tags_from n (suc i) s) e
        ∙ ap (λ xs. z ∷ xs) (agree n (suc i) s r (λ t k. sym (same t (λ d. omega arith))) ∙ sym (pass_by n i r (ap (λ x. has x r) e ∙ q)))
    go (inr d) rest =
        let b = none i (omega arith) in
        pass_by n i s b ∙ rest (omega arith) (omega arith) ∙ ap (λ xs. z ∷ xs) (sym (pass_by n i r (same i d ∙ b)))

-- ---- the same of whole sets

pub tags_in : (s a t : ℕ) → slice_get (tags s) a ≡ Some t → (has t s ≡ true) × (t < 64)
unfolding tags
tags_in s a t h = let p = among 64 0 s a t h in (p.0, omega arith)

pub tags_rising : (s t u a b : ℕ) → slice_get (tags s) a ≡ Some t → slice_get (tags s) b ≡ Some u → a < b → t < u
unfolding tags
tags_rising s t u = rising 64 0 s t u

pub tags_once : (s a b t : ℕ) → slice_get (tags s) a ≡ Some t → slice_get (tags s) b ≡ Some t → a ≡ b
tags_once s a b t h k = go (cases_order a b)
  where
    go : (a ≡ b) ⊎ ((a < b) ⊎ (b < a)) → a ≡ b
    go (inl e) = e
    go (inr (inl l)) = absurd (omega (arith, tags_rising s t t a b h k l))
    go (inr (inr l)) = absurd (omega (arith, tags_rising s t t b a k h l))

pub tags_found : (s t : ℕ) → has t s ≡ true → t < 64 → (a : ℕ) × (slice_get (tags s) a ≡ Some t)
unfolding tags
tags_found s t h l = found 64 0 s t h (omega arith) (omega arith)

pub tags_low : (s r z : ℕ) → z < 64 → has z s ≡ true → ((j : ℕ) → j < z → has j s ≡ false) → has z r ≡ false → ((t : ℕ) → (t ≢ z) → has t r ≡ has t s) → tags s ≡ z ∷ tags r
unfolding tags
tags_low s r z h = low_first 64 0 s r z (omega arith) (omega arith)

empty : (n i : ℕ) → tags_from n i 0 ≡ []
unfolding tags_from
empty zero i = refl
empty (suc n) i = rw (has_zero i) (empty n (suc i))

pub tags_empty : tags 0 ≡ []
unfolding tags
tags_empty = empty 64 0
