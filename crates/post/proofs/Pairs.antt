-- Tables by receiver and sender: one pair's entry changed, and letters read place by place. Assumes nothing.
use Rattle.std.proofs.Common.{◌≡◌, ℕ, cond, ◌⊎◌, List, [], ◌∷◌, ◌++◌, map, drop, sym, refl, ap, ◌∙◌, inl, inr}
use Rattle.std.specs.List.{AllByRecursion}
use Rattle.std.proofs.lemmas.List.{drop-map}
use Rattle.std.proofs.lemmas.Bool.{cases_eq, eq-eqb, ne_eqb}
use Rattle.post.specs.Queues.{Letter, upd, requeued}
use Rattle.post.specs.Places.{lying}

pub changed_here : {A : Type 0} (q : ℕ → ℕ → A) (r s : ℕ) (x : A) → requeued q r s x r s ≡ x
changed_here q r s x = rw (eq-eqb r r refl, eq-eqb s s refl) refl

pub changed_there : {A : Type 0} (q : ℕ → ℕ → A) (r s : ℕ) (x : A) (i j : ℕ) → ((i ≡ r) × (j ≡ s) → ⊥) → requeued q r s x i j ≡ q i j
changed_there q r s x i j n = go (cases_eq i r) (cases_eq j s)
  where
    go : (i ≡ r) ⊎ (i ≡ r → ⊥) → (j ≡ s) ⊎ (j ≡ s → ⊥) → requeued q r s x i j ≡ q i j
    go (inl a) (inl b) = absurd (n (a, b))
    go (inl a) (inr b) = rw (a, eq-eqb r r refl, ne_eqb j s b) refl
    go (inr a) b = rw (ne_eqb i r a) refl

-- a table is known by its entry of one pair, and that it has the others of q
pub known : {A : Type 0} (p q : ℕ → ℕ → A) (r s : ℕ) (x : A) → p r s ≡ x → ((i j : ℕ) → ((i ≡ r) × (j ≡ s) → ⊥) → p i j ≡ q i j) → p ≡ requeued q r s x
known p q r s x here there = λ t i j. go i j (cases_eq i r) (cases_eq j s) t
  where
    go : (i j : ℕ) → (i ≡ r) ⊎ (i ≡ r → ⊥) → (j ≡ s) ⊎ (j ≡ s → ⊥) → p i j ≡ requeued q r s x i j
    go i j (inl a) (inl b) = rw (a, b) (here ∙ sym (changed_here q r s x))
    go i j (inl a) (inr b) = there i j (λ e. b e.1) ∙ sym (changed_there q r s x i j (λ e. b e.1))
    go i j (inr a) b = there i j (λ e. a e.0) ∙ sym (changed_there q r s x i j (λ e. a e.0))

-- what the pair has already
pub unchanged : {A : Type 0} (q : ℕ → ℕ → A) (r s : ℕ) (x : A) → q r s ≡ x → requeued q r s x ≡ q
unchanged q r s x e = sym (known q q r s x e (λ i j n. refl))

-- a letter written to a place that is not among those read
elsewhere : (at : ℕ → Letter) (k : ℕ) (l : Letter) (xs : List ℕ) → AllByRecursion (λ j. j ≡ k → ⊥) xs → map (upd at k l) xs ≡ map at xs
elsewhere at k l [] a = refl
elsewhere at k l (x ∷ xs) a = λ i. (ap (λ b. cond b l (at x)) (ne_eqb x k a.0)) i ∷ elsewhere at k l xs a.1 i

there : (at : ℕ → Letter) (k : ℕ) (l : Letter) (xs : List ℕ) → AllByRecursion (λ j. j ≡ k → ⊥) xs → map (upd at k l) (xs ++ (k ∷ [])) ≡ map at xs ++ (l ∷ [])
there at k l [] a = ap (λ b. cond b l (at k) ∷ []) (eq-eqb k k refl)
there at k l (x ∷ xs) a = λ i. (ap (λ b. cond b l (at x)) (ne_eqb x k a.0)) i ∷ there at k l xs a.1 i

-- a letter in a place that was not in use stands behind the others of its pair
pub one_more : (at : ℕ → Letter) (ps : ℕ → ℕ → List ℕ) (r s k : ℕ) (l : Letter) → ((i j : ℕ) → AllByRecursion (λ x. x ≡ k → ⊥) (ps i j))
    → lying (upd at k l) (requeued ps r s (ps r s ++ (k ∷ []))) ≡ requeued (lying at ps) r s (map at (ps r s) ++ (l ∷ []))
one_more at ps r s k l free =
    known _ (lying at ps) r s _ (ap (map (upd at k l)) (changed_here ps r s _) ∙ there at k l (ps r s) (free r s))
    (λ i j n. ap (map (upd at k l)) (changed_there ps r s _ i j n) ∙ elsewhere at k l (ps i j) (free i j))

-- the oldest letter's place is free
pub one_less : (at : ℕ → Letter) (ps : ℕ → ℕ → List ℕ) (r s : ℕ) → lying at (requeued ps r s (drop 1 (ps r s))) ≡ requeued (lying at ps) r s (drop 1 (map at (ps r s)))
one_less at ps r s =
    known _ (lying at ps) r s _ (ap (map at) (changed_here ps r s _) ∙ sym (drop-map at 1 (ps r s))) (λ i j n. ap (map at) (changed_there ps r s _ i j n))
