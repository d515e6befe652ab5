-- A post over lines: what a put and a take answer, and the queues that they leave, whatever the letters lie in. Assumes nothing.
use Rattle.std.proofs.Common.{◌≡◌, ℕ, ◌≤◌, true, false, cond, ◌&&◌, ltb, ◌⊎◌, List, [], ◌∷◌, map, length, Some, None, Ok, Err, Result, sym, refl, ap, ◌∙◌, inl, inr}
use Rattle.std.specs.List.{slice_get}
use Rattle.std.proofs.lemmas.Bool.{cases_Bool, le-leb, cond-true, cond-false}
use Rattle.std.proofs.lemmas.Option.{none-some}
use Rattle.post.specs.Queues.{Letter, Queues, valid, upd, room, kept_or_full, posted, reached, oldest, written, removed}
use Rattle.post.specs.Places.{places, vacant, next, added, freed, lying}
use Rattle.post.specs.Laws.{counted}
use Rattle.post.specs.declared.letter.Full.{Full}
use Rattle.post.specs.declared.lines.Lines.{Lines}
use Rattle.post.proofs.Pairs.{one_more, one_less}
use Rattle.post.proofs.Turns.{next_free}

module _ (at : ℕ → Letter) (l : Lines) where
  -- the queues of the post
  abbrev queues : Queues
  queues = lying at (places l)

  roomy : (r s : ℕ) (m : Letter) → length m.body ≤ 16 → room queues r s m.body ≡ vacant l r s
  roomy r s m h = rw (le-leb (length m.body) 16 h) (ap (λ n. valid r s && ltb n 4) (sym (counted at l r s)))

  abbrev pub Next : ℕ → ℕ → ℕ → Type 0
  Next r s k = Some k ≡ cond (vacant l r s) (Some (next l r s)) None

  -- the place that a letter gets
  gets : (r s k : ℕ) → Next r s k → (vacant l r s ≡ true) × (k ≡ next l r s)
  gets r s k h = go (cases_Bool (vacant l r s))
    where
      go : (vacant l r s ≡ true) ⊎ (vacant l r s ≡ false) → (vacant l r s ≡ true) × (k ≡ next l r s)
      go (inl v) = let e : Some k ≡ Some (next l r s) = h ∙ cond-true _ _ _ v in let q : k ≡ next l r s = cc in (v, q)
      go (inr v) = absurd (none-some k (sym (h ∙ cond-false _ _ _ v)))

  pub put_left : (r s k : ℕ) (m x : Letter) (q : ℕ → Letter) (ps : ℕ → ℕ → List ℕ) → q ≡ upd at k x → (x ≡ m) × (length m.body ≤ 16) → Next r s k → ps ≡ added l r s
      → lying q ps ≡ posted queues r s m
  put_left r s k m x q ps w f h e =
      let g = gets r s k h in
      ap (λ a. lying a ps) (w ∙ ap (upd at k) f.0)
      ∙ ap (lying (upd at k m)) (e ∙ cond-true _ _ _ g.0) ∙ rw g.1 (one_more at (places l) r s (next l r s) m (next_free l r s g.0))
      ∙ sym (cond-true _ _ _ (roomy r s m f.1 ∙ g.0))

  -- what a put owes: the answer, and the queues. The check finds the answer of `put_in` by itself, and needs `put_left` alone; a post of
  -- another make may want the whole.
  pub record Puts (r s : ℕ) (m : Letter) (given : Result (Unit {0}) Full) (after : Queues) : Type 0 where
    pub answer : given ≡ kept_or_full (room queues r s m.body)
    pub left : after ≡ posted queues r s m

  pub kept : (r s k : ℕ) (m : Letter) (ps : ℕ → ℕ → List ℕ) → Next r s k → ps ≡ added l r s → length m.body ≤ 16 → Puts r s m (Ok tt) (lying (upd at k m) ps)
  kept r s k m ps h e b = record {
    answer = sym (ap kept_or_full (roomy r s m b ∙ (gets r s k h).0));
    left = put_left r s k m m (upd at k m) ps refl (refl, b) h e;
  }

  pub full : (r s : ℕ) (m : Letter) (ps : ℕ → ℕ → List ℕ) → None ≡ cond (vacant l r s) (Some (next l r s)) None → ps ≡ added l r s → length m.body ≤ 16
      → Puts r s m (Err (record {})) (lying at ps)
  full r s m ps h e b = go (cases_Bool (vacant l r s))
    where
      go : (vacant l r s ≡ true) ⊎ (vacant l r s ≡ false) → Puts r s m (Err (record {})) (lying at ps)
      go (inl v) = absurd (none-some (next l r s) (h ∙ cond-true _ _ _ v))
      go (inr v) =
          let t = roomy r s m b ∙ v in
          record { answer = sym (ap kept_or_full t); left = ap (lying at) (e ∙ cond-false _ _ _ v) ∙ sym (cond-false _ _ _ t) }

  pub take_left : (r s n : ℕ) (ps : ℕ → ℕ → List ℕ) → ps ≡ freed l r s → 16 ≤ n → lying at ps ≡ removed queues r s n
  take_left r s n ps f h = ap (lying at) f ∙ one_less at (places l) r s ∙ sym (cond-true _ _ _ (le-leb 16 n h))

  -- what a take owes: the answer, the buffer and the queues, likewise
  pub record Takes (r s : ℕ) (buffer : List ℕ) (found : List Letter) (after : Queues) : Type 0 where
    pub answer : oldest found ≡ oldest (reached queues r s (length buffer))
    pub body : written found buffer ≡ written (reached queues r s (length buffer)) buffer
    pub left : after ≡ removed queues r s (length buffer)

  -- of a queue that is known only in front
  owes : (r s : ℕ) (buffer : List ℕ) (found : List Letter) (ps : ℕ → ℕ → List ℕ) → oldest found ≡ oldest (queues r s) → written found buffer ≡ written (queues r s) buffer
      → ps ≡ freed l r s → 16 ≤ length buffer → Takes r s buffer found (lying at ps)
  owes r s buffer found ps o w f h =
      let e = sym (cond-true _ (queues r s) [] (le-leb 16 (length buffer) h)) in
      record { answer = o ∙ ap oldest e; body = w ∙ ap (λ x. written x buffer) e; left = take_left r s (length buffer) ps f h }

  pub taken : (r s k : ℕ) (buffer : List ℕ) (ps : ℕ → ℕ → List ℕ) → Some k ≡ slice_get (places l r s) 0 → ps ≡ freed l r s → 16 ≤ length buffer
      → Takes r s buffer (at k ∷ []) (lying at ps)
  taken r s k buffer ps h f b = go (places l r s) refl h
    where
      go : (xs : List ℕ) → places l r s ≡ xs → Some k ≡ slice_get xs 0 → Takes r s buffer (at k ∷ []) (lying at ps)
      go [] e q = absurd (none-some k (sym q))
      go (x ∷ xs) e q =
          let j : k ≡ x = cc in
          let c : at k ∷ map at xs ≡ queues r s = ap (λ y. at y ∷ map at xs) j ∙ sym (ap (map at) e) in
          owes r s buffer (at k ∷ []) ps (ap oldest c) (ap (λ y. written y buffer) c) f b

  pub none_taken : (r s : ℕ) (buffer : List ℕ) (ps : ℕ → ℕ → List ℕ) → None ≡ slice_get (places l r s) 0 → ps ≡ freed l r s → 16 ≤ length buffer
      → Takes r s buffer [] (lying at ps)
  none_taken r s buffer ps h f b = go (places l r s) refl h
    where
      go : (xs : List ℕ) → places l r s ≡ xs → None ≡ slice_get xs 0 → Takes r s buffer [] (lying at ps)
      go [] e q =
          let c : [] ≡ queues r s = sym (ap (map at) e) in
          owes r s buffer [] ps (ap oldest c) (ap (λ y. written y buffer) c) f b
      go (x ∷ xs) e q = absurd (none-some x q)
