-- Every run of puts and takes is faithful. Assumes nothing.
use Rattle.std.proofs.Common.{◌≡◌, ℕ, Bool, true, false, cond, ◌&&◌, ltb, leb, ◌⊎◌, List, [], ◌∷◌, ◌++◌, length, take, drop, sym, refl, ap, ◌∙◌, ap₂, inl, inr}
use Rattle.std.proofs.lemmas.List.{append_assoc, append-nil, take-append-drop}
use Rattle.std.proofs.lemmas.Bool.{cases_Bool, and_parts, and_from, eqb-true, eq-eqb, cond-true, cond-false, both_ways}
use Rattle.post.specs.Queues.{Letter, Queues, valid, requeued, room, reached}
use Rattle.post.specs.Runs.{Kind, puts, takes, Operation, of_pair, operated, after_one, brings, brought, fetches, fetched, after, told, in_a_row, own, Faithful}
use Rattle.post.proofs.Pairs.{changed_here, changed_there}

-- ---- one operation

-- another pair's queue stays
elsewhere : (q : Queues) (r s i j : ℕ) (d : Kind) → ((i ≡ r) × (j ≡ s) → ⊥) → operated q r s d i j ≡ q i j
elsewhere q r s i j (puts l) n = go (room q r s l.body)
  where
    go : (b : Bool) → cond b (requeued q r s (q r s ++ (l ∷ []))) q i j ≡ q i j
    go true = changed_there q r s _ i j n
    go false = refl
elsewhere q r s i j (takes size) n = go (leb 16 size)
  where
    go : (b : Bool) → cond b (requeued q r s (drop 1 (q r s))) q i j ≡ q i j
    go true = changed_there q r s _ i j n
    go false = refl

-- the pair's own queue, which alone decides
abbrev moved : List Letter → Bool → Kind → List Letter
moved x v (puts l) = cond (leb (length l.body) 16 && (v && ltb (length x) 4)) (x ++ (l ∷ [])) x
moved x v (takes size) = cond (leb 16 size) (drop 1 x) x

here : (q : Queues) (r s : ℕ) (d : Kind) → operated q r s d r s ≡ moved (q r s) (valid r s) d
here q r s (puts l) = go (room q r s l.body)
  where
    go : (b : Bool) → cond b (requeued q r s (q r s ++ (l ∷ []))) q r s ≡ cond b (q r s ++ (l ∷ [])) (q r s)
    go true = changed_here q r s _
    go false = refl
here q r s (takes size) = go (leb 16 size)
  where
    go : (b : Bool) → cond b (requeued q r s (drop 1 (q r s))) q r s ≡ cond b (drop 1 (q r s)) (q r s)
    go true = changed_here q r s _
    go false = refl

-- letters go through it
through : (q : Queues) (r s : ℕ) (d : Kind) → q r s ++ brings q r s d ≡ fetches q r s d ++ operated q r s d r s
through q r s (puts l) = go (room q r s l.body) ∙ sym (here q r s (puts l))
  where
    go : (b : Bool) → q r s ++ cond b (l ∷ []) [] ≡ cond b (q r s ++ (l ∷ [])) (q r s)
    go true = refl
    go false = append-nil (q r s)
through q r s (takes size) = go (leb 16 size) ∙ ap (λ x. take 1 (reached q r s size) ++ x) (sym (here q r s (takes size)))
  where
    go : (b : Bool) → q r s ++ [] ≡ take 1 (cond b (q r s) []) ++ cond b (drop 1 (q r s)) (q r s)
    go true = append-nil (q r s) ∙ sym (take-append-drop 1 (q r s))
    go false = append-nil (q r s)

-- ---- the same, seen from one pair

one_of : (r s : ℕ) (a : Operation) → of_pair r s a ≡ true → (a.receiver ≡ r) × (a.sender ≡ s)
one_of r s a e = let p = and_parts _ _ e in (eqb-true a.receiver r p.0, eqb-true a.sender s p.1)

not_of : (r s : ℕ) (a : Operation) → of_pair r s a ≡ false → (r ≡ a.receiver) × (s ≡ a.sender) → ⊥
not_of r s a e p = both_ways _ e (and_from _ _ (eq-eqb a.receiver r (sym p.0)) (eq-eqb a.sender s (sym p.1)))

-- ---- nothing is lost

lost_none : (q : Queues) (xs : List Operation) (r s : ℕ) → q r s ++ in_a_row (told brought r s q xs) ≡ in_a_row (told fetched r s q xs) ++ after q xs r s
lost_none q [] r s = append-nil (q r s)
lost_none q (a ∷ xs) r s = go (cases_Bool (of_pair r s a)) (lost_none (after_one q a) xs r s)
  where
    mine : (i j : ℕ) → i ≡ r → j ≡ s → q r s ++ brings q i j a.kind ≡ fetches q i j a.kind ++ operated q i j a.kind r s
    mine i j e f = rw (e, f) (through q r s a.kind)

    go : (of_pair r s a ≡ true) ⊎ (of_pair r s a ≡ false) → after_one q a r s ++ in_a_row (told brought r s (after_one q a) xs) ≡ in_a_row (told fetched r s (after_one q a) xs) ++ after (after_one q a) xs r s
        → q r s ++ in_a_row (told brought r s q (a ∷ xs)) ≡ in_a_row (told fetched r s q (a ∷ xs)) ++ after q (a ∷ xs) r s
    go (inl e) ih =
        let p = one_of r s a e in
        ap (λ x. q r s ++ in_a_row x) (cond-true _ _ _ e)
        ∙ sym (append_assoc (q r s) (brought q a) (in_a_row (told brought r s (after_one q a) xs)))
        ∙ ap (λ x. x ++ in_a_row (told brought r s (after_one q a) xs)) (mine a.receiver a.sender p.0 p.1)
        ∙ append_assoc (fetched q a) (after_one q a r s) (in_a_row (told brought r s (after_one q a) xs))
        ∙ ap (λ x. fetched q a ++ x) ih
        ∙ sym (append_assoc (fetched q a) (in_a_row (told fetched r s (after_one q a) xs)) (after (after_one q a) xs r s))
        ∙ ap (λ x. in_a_row x ++ after (after_one q a) xs r s) (sym (cond-true _ _ _ e))
    go (inr e) ih =
        ap (λ x. q r s ++ in_a_row x) (cond-false _ _ _ e)
        ∙ ap (λ x. x ++ in_a_row (told brought r s (after_one q a) xs)) (sym (elsewhere q a.receiver a.sender r s a.kind (not_of r s a e)))
        ∙ ih
        ∙ ap (λ x. in_a_row x ++ after (after_one q a) xs r s) (sym (cond-false _ _ _ e))

-- ---- nothing is mixed

-- all queues the same, for what reads one alone
abbrev flat : List Letter → Queues
flat x = λ _ _. x

module _ (f : Queues → Operation → List Letter) (reads-one : (q p : Queues) (a : Operation) → q a.receiver a.sender ≡ p a.receiver a.sender → f q a ≡ f p a) (r s : ℕ) where
  -- a run of the pair's operations on its queue
  alone : List Letter → List Operation → List (List Letter)
  alone x [] = []
  alone x (a ∷ xs) = f (flat x) a ∷ alone (moved x (valid a.receiver a.sender) a.kind) xs

  mine_alone : (q : Queues) (xs : List Operation) → told f r s q xs ≡ alone (q r s) (own r s xs)
  unfolding alone
  mine_alone q [] = refl
  mine_alone q (a ∷ xs) = go (cases_Bool (of_pair r s a)) (mine_alone (after_one q a) xs)
    where
      at : (g : ℕ → ℕ → List Letter) → of_pair r s a ≡ true → g a.receiver a.sender ≡ g r s
      at g e = let p = one_of r s a e in ap₂ g p.0 p.1

      go : (of_pair r s a ≡ true) ⊎ (of_pair r s a ≡ false) → told f r s (after_one q a) xs ≡ alone (after_one q a r s) (own r s xs) → told f r s q (a ∷ xs) ≡ alone (q r s) (own r s (a ∷ xs))
      go (inl e) ih =
          cond-true _ _ _ e
          ∙ ap₂ ◌∷◌ (reads-one q (flat (q r s)) a (at q e))
          (ih ∙ ap (λ x. alone x (own r s xs)) (sym (at (after_one q a) e) ∙ here q a.receiver a.sender a.kind ∙ ap (λ x. moved x (valid a.receiver a.sender) a.kind) (at q e)))
          ∙ ap (alone (q r s)) (sym (cond-true _ (a ∷ own r s xs) (own r s xs) e))
      go (inr e) ih =
          cond-false _ _ _ e ∙ ih
          ∙ ap (λ x. alone x (own r s xs)) (elsewhere q a.receiver a.sender r s a.kind (not_of r s a e))
          ∙ ap (alone (q r s)) (sym (cond-false _ (a ∷ own r s xs) (own r s xs) e))

  mixed_none : (q p : Queues) (xs ys : List Operation) → q r s ≡ p r s → own r s xs ≡ own r s ys → told f r s q xs ≡ told f r s p ys
  mixed_none q p xs ys e o = mine_alone q xs ∙ ap₂ alone e o ∙ sym (mine_alone p ys)

brought_one : (q p : Queues) (a : Operation) → q a.receiver a.sender ≡ p a.receiver a.sender → brought q a ≡ brought p a
brought_one q p a e = go a.kind
  where
    go : (d : Kind) → brings q a.receiver a.sender d ≡ brings p a.receiver a.sender d
    go (puts l) = ap (λ x. cond (leb (length l.body) 16 && (valid a.receiver a.sender && ltb (length x) 4)) (l ∷ []) []) e
    go (takes size) = refl

fetched_one : (q p : Queues) (a : Operation) → q a.receiver a.sender ≡ p a.receiver a.sender → fetched q a ≡ fetched p a
fetched_one q p a e = go a.kind
  where
    go : (d : Kind) → fetches q a.receiver a.sender d ≡ fetches p a.receiver a.sender d
    go (puts l) = refl
    go (takes size) = ap (λ x. take 1 (cond (leb 16 size) x [])) e

pub faithful : (q : Queues) → Faithful q
faithful q = record {
  nothing_lost = lost_none q;
  nothing_mixed = λ p xs ys r s e o. (mixed_none brought brought_one r s q p xs ys e o, mixed_none fetched fetched_one r s q p xs ys e o);
}
