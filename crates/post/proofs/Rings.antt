-- A ring of four places: how many are in use, the first and the others, one more, and that the next is not in use. Assumes nothing.
use Rattle.std.proofs.Common.{◌≡◌, ℕ, zero, suc, ◌+◌, ◌-◌, ◌*◌, ◌%◌, ◌<◌, [], ◌∷◌, ◌++◌, drop, Some, sym, refl, ap, ◌∙◌, arith}
use Rattle.std.specs.List.{slice_get, AllByRecursion}
use Rattle.post.specs.Places.{ring}

pub no_places : (p f : ℕ) → ring p f 0 ≡ []
unfolding ring
no_places p f = refl

-- only the turn's remainder counts
turns : (p f g n : ℕ) → f % 4 ≡ g % 4 → ring p f n ≡ ring p g n
unfolding ring
turns p f g zero e = refl
turns p f g (suc n) e =
    let s : suc f % 4 ≡ suc g % 4 = omega arith in
    λ i. (p * 4 + e i) ∷ turns p (suc f) (suc g) n s i

pub ring_first : (p f n : ℕ) → 0 < n → slice_get (ring p f n) 0 ≡ Some (p * 4 + f % 4)
unfolding ring
ring_first p f zero h = absurd (omega arith)
ring_first p f (suc n) h = refl

pub ring_rest : (p f n : ℕ) → 0 < n → drop 1 (ring p f n) ≡ ring p ((f + 1) % 4) (n - 1)
unfolding ring
ring_rest p f zero h = absurd (omega arith)
ring_rest p f (suc n) h =
    let m : suc n - 1 ≡ n = omega arith in
    turns p (suc f) ((f + 1) % 4) n (omega arith) ∙ ap (ring p ((f + 1) % 4)) (sym m)

pub ring_more : (p f n : ℕ) → ring p f (n + 1) ≡ ring p f n ++ ((p * 4 + (f + n) % 4) ∷ [])
unfolding ring
ring_more p f zero = ap (λ m. (p * 4 + m % 4) ∷ []) (let e : f ≡ f + 0 = omega arith in e)
ring_more p f (suc n) =
    let s : suc n + 1 ≡ suc (n + 1) = omega arith in
    let e : suc f + n ≡ f + suc n = omega arith in
    ap (ring p f) s ∙ ap (λ l. (p * 4 + f % 4) ∷ l) (ring_more p (suc f) n ∙ ap (λ m. ring p (suc f) n ++ ((p * 4 + m % 4) ∷ [])) e)

-- what holds of each place of the ring
pub ring_all : (P : ℕ → Type 0) (p f n : ℕ) → ((i : ℕ) → i < n → P (p * 4 + (f + i) % 4)) → AllByRecursion P (ring p f n)
unfolding ring
ring_all P p f zero h = tt
ring_all P p f (suc n) h =
    (at 0 f (omega arith) (omega arith), ring_all P p (suc f) n (λ i l. at (suc i) (suc f + i) (omega arith) (omega arith)))
  where
    at : (i m : ℕ) → f + i ≡ m → i < suc n → P (p * 4 + m % 4)
    at i m e l = rw (← e) (h i l)
