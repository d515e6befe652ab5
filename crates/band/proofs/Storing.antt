-- One place of 49 bytes is written: it holds what was written, and all other bytes are as they were. Assumes nothing.
use Rattle.std.proofs.Common.{◌≡◌, ℕ, ◌+◌, ◌-◌, ◌*◌, ◌<◌, ◌≤◌, ◌⊎◌, List, ◌++◌, length, take, drop, sym, ap, ◌∙◌, inl, inr, arith}
use Rattle.std.proofs.lemmas.List.{append_assoc, length-append, length-drop, length-take-le, take_at, take-append-le, take-take, drop_at, drop-append-le, drop-drop, drop-take}
use Rattle.std.proofs.lemmas.Bool.{cases_order, eq-eqb, ne_eqb, cond-true, cond-false}
use Rattle.post.specs.Queues.{upd}
use Rattle.band.specs.Banded.{unpacked, cell, stored, banded}

module _ (b x : List ℕ) (k : ℕ) (long : k * 49 + 49 ≤ length b) (whole : length x ≡ 49) where
  front : List ℕ
  front = take (k * 49) b

  front_length : length front ≡ k * 49
  unfolding front
  front_length = length-take-le (k * 49) b (omega arith)

  -- all behind the place
  pub behind : (n : ℕ) → k * 49 + 49 ≤ n → drop n (stored b k x) ≡ drop n b
  unfolding front
  behind n h =
      let e : n ≡ k * 49 + 49 + (n - (k * 49 + 49)) = omega arith in
      let f : length (front ++ x) ≡ k * 49 + 49 = length-append front x ∙ omega (arith, front_length) in
      let d = n - (k * 49 + 49) in
      ap (λ m. drop m (stored b k x)) e ∙ sym (drop-drop d (k * 49 + 49) (stored b k x))
      ∙ ap (λ l. drop d (drop (k * 49 + 49) l)) (sym (append_assoc front x (drop (k * 49 + 49) b)))
      ∙ ap (drop d) (drop_at (front ++ x) (drop (k * 49 + 49) b) (k * 49 + 49) f)
      ∙ drop-drop d (k * 49 + 49) b ∙ ap (λ m. drop m b) (sym e)

  -- a place before it
  before : (j : ℕ) → j < k → cell (stored b k x) j ≡ cell b j
  unfolding front
  before j h =
      let m = k * 49 - j * 49 in
      let e : k * 49 ≡ j * 49 + m = omega arith in
      let l : 49 ≤ length (drop (j * 49) front) = omega (arith, length-drop (j * 49) front, front_length) in
      ap (take 49) (drop-append-le (j * 49) front (x ++ drop (k * 49 + 49) b) (omega (arith, front_length)))
      ∙ take-append-le 49 (drop (j * 49) front) (x ++ drop (k * 49 + 49) b) l
      ∙ ap (λ n. take 49 (drop (j * 49) (take n b))) e
      ∙ ap (take 49) (drop-take (j * 49) m b)
      ∙ take-take 49 m (drop (j * 49) b) (omega arith)

  here : cell (stored b k x) k ≡ x
  unfolding front
  here = ap (take 49) (drop_at front (x ++ drop (k * 49 + 49) b) (k * 49) front_length) ∙ take_at x (drop (k * 49 + 49) b) 49 whole

  pub one_letter : banded (stored b k x) ≡ upd (banded b) k (unpacked x)
  one_letter = λ i j. go j (cases_order j k) i
    where
      other : (j : ℕ) → (j ≡ k → ⊥) → cell (stored b k x) j ≡ cell b j → banded (stored b k x) j ≡ upd (banded b) k (unpacked x) j
      other j n e = ap unpacked e ∙ sym (cond-false _ (unpacked x) (banded b j) (ne_eqb j k n))

      go : (j : ℕ) → (j ≡ k) ⊎ ((j < k) ⊎ (k < j)) → banded (stored b k x) j ≡ upd (banded b) k (unpacked x) j
      go j (inl e) = ap (λ i. banded (stored b k x) i) e ∙ ap unpacked here ∙ sym (cond-true _ (unpacked x) (banded b j) (eq-eqb j k e))
      go j (inr (inl l)) = other j (λ e. omega arith) (before j l)
      go j (inr (inr l)) = other j (λ e. omega arith) (ap (take 49) (behind (j * 49) (omega arith)))
