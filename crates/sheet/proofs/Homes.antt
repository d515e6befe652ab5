-- After any list of deals a tag lies where it was first dealt. Assumes nothing.
use Rattle.std.proofs.Common.{◌≡◌, ℕ, ◌<◌, ◌≤◌, Bool, true, false, cond, ◌&&◌, eqb, ltb, ◌⊎◌, List, [], ◌∷◌, get_or, Some, None, Option, sym, refl, ap, ◌∙◌, subst, inl, inr, arith}
use Rattle.std.proofs.lemmas.Bool.{cases_eq, cases_lt, eqb-true, eq-eqb, ne_eqb, ltb-true, lt-ltb, le-ltb, and_parts, and_left, and_right, false≢true}
use Rattle.sets.specs.Sets.{has}
use Rattle.sets.proofs.Bits.{has_zero}
use Rattle.std.proofs.lemmas.Option.{none-some}
use Rattle.sheet.specs.Dealing.{blank, fault, left, placed, Sound}
use Rattle.sheet.specs.Hands.{tried, valid, home, of_choice, ByHand}
use Rattle.sheet.specs.declared.dealt.Dealt.{Dealt}
use Rattle.sheet.specs.Lists.{tags_in, tags_found, tags_rising}
use Rattle.sheet.proofs.Deals.{Fine, Verdict, verdict, blank_sound, placed_sound, with_tag, other_tag, added_tag, added_other, lane_old, taking_old, adding_old, lane_tag, lane_other}

-- ---- one deal

abbrev step : Dealt → ℕ → ℕ → Dealt
step d tag lane = left d tag lane (fault d tag lane)

step_sound : (d : Dealt) (tag lane : ℕ) → Sound d → Sound (step d tag lane)
step_sound d tag lane sound = go (verdict d tag lane)
  where
    go : Verdict d tag lane → Sound (step d tag lane)
    go (inl r) = subst (λ (x : Dealt). Sound x) (sym (ap (left d tag lane) r.1)) sound
    go (inr f) = subst (λ (x : Dealt). Sound x) (sym (ap (left d tag lane) f.0)) (placed_sound d tag lane sound f.1)

-- two sheets have the tag t in the same lanes and sets
record Same (t : ℕ) (d e : Dealt) : Type 0 where
  lanes : (k : ℕ) → has t (get_or d.lanes k 0) ≡ has t (get_or e.lanes k 0)
  taking : has t d.taking ≡ has t e.taking
  adding : has t d.adding ≡ has t e.adding
  all : has t d.all ≡ has t e.all

same_from : (t : ℕ) (d e : Dealt) → d ≡ e → Same t d e
same_from t d e q = record {
  lanes = λ k. ap (λ x. has t (get_or x.lanes k 0)) q;
  taking = ap (λ x. has t x.taking) q;
  adding = ap (λ x. has t x.adding) q;
  all = ap (λ x. has t x.all) q;
}

same_then : (t : ℕ) (c d e : Dealt) → Same t c d → Same t d e → Same t c e
same_then t c d e p q = record {
  lanes = λ k. p.lanes k ∙ q.lanes k;
  taking = p.taking ∙ q.taking;
  adding = p.adding ∙ q.adding;
  all = p.all ∙ q.all;
}

-- a deal of another tag
step_other : (d : Dealt) (tag lane t : ℕ) → Sound d → (t ≡ tag → ⊥) → Same t (step d tag lane) d
step_other d tag lane t sound n = go (verdict d tag lane)
  where
    go : Verdict d tag lane → Same t (step d tag lane) d
    go (inl r) = same_from t (step d tag lane) d (ap (left d tag lane) r.1)
    go (inr f) = same_then t (step d tag lane) (placed d tag lane) d (same_from t (step d tag lane) (placed d tag lane) (ap (left d tag lane) f.0)) (record {
      lanes = lane_other d tag lane sound f.1 t n;
      taking = added_other d tag lane sound f.1 1 d.taking t n;
      adding = added_other d tag lane sound f.1 2 d.adding t n;
      all = other_tag d tag lane sound f.1 d.all t n;
    })

-- ---- a tag that is dealt stays where it is

stays : (d : Dealt) (xs : List (ℕ × ℕ)) (t : ℕ) → Sound d → has t d.all ≡ true → Same t (tried d xs) d
stays d [] t sound h = same_from t d d refl
stays d (x ∷ xs) t sound h =
    let one = one_deal (cases_eq t x.0) (verdict d x.0 x.1) in
    same_then t (tried d (x ∷ xs)) (step d x.0 x.1) d (stays (step d x.0 x.1) xs t (step_sound d x.0 x.1 sound) (one.all ∙ h)) one
  where
    one_deal : (t ≡ x.0) ⊎ (t ≡ x.0 → ⊥) → Verdict d x.0 x.1 → Same t (step d x.0 x.1) d
    one_deal (inl e) (inl r) = same_from t (step d x.0 x.1) d (ap (left d x.0 x.1) r.1)
    one_deal (inl e) (inr f) = absurd (false≢true (sym f.1.2 ∙ ap (λ y. has y d.all) (sym e) ∙ h))
    one_deal (inr n) v = step_other d x.0 x.1 t sound n

-- ---- a tag that is not dealt goes to the lane of its first valid deal

abbrev is_lane : ℕ → Option ℕ → Bool
is_lane k None = false
is_lane k (Some j) = eqb k j

-- the tag t is in the lane, if any, and in the sets of its choice
record AtHome (t : ℕ) (d : Dealt) (o : Option ℕ) : Type 0 where
  lanes : (k : ℕ) → has t (get_or d.lanes k 0) ≡ is_lane k o
  taking : has t d.taking ≡ of_choice 1 o
  adding : has t d.adding ≡ of_choice 2 o

at_home_same : (t : ℕ) (d e : Dealt) (o : Option ℕ) → Same t d e → AtHome t e o → AtHome t d o
at_home_same t d e o s h = record { lanes = λ k. s.lanes k ∙ h.lanes k; taking = s.taking ∙ h.taking; adding = s.adding ∙ h.adding }

-- the deal that puts it there
brought : (d : Dealt) (tag lane : ℕ) → Sound d → (fault d tag lane ≡ None) × Fine d tag lane → AtHome tag (step d tag lane) (Some lane) × (has tag (step d tag lane).all ≡ true)
brought d tag lane sound f =
    let q = same_from tag (step d tag lane) (placed d tag lane) (ap (left d tag lane) f.0) in
    let new = f.1.2 in
    let at_home : AtHome tag (placed d tag lane) (Some lane) = record {
      lanes = lane_tag d tag lane sound f.1;
      taking = added_tag d tag lane sound f.1 1 d.taking (taking_old d tag sound new);
      adding = added_tag d tag lane sound f.1 2 d.adding (adding_old d tag sound new);
    } in
    (at_home_same tag (step d tag lane) (placed d tag lane) (Some lane) q at_home, q.all ∙ with_tag d tag lane sound f.1 d.all)

comes_home : (d : Dealt) (xs : List (ℕ × ℕ)) (t : ℕ) → Sound d → has t d.all ≡ false → AtHome t (tried d xs) (home t xs)
comes_home d [] t sound new = record { lanes = lane_old d t sound new; taking = taking_old d t sound new; adding = adding_old d t sound new }
comes_home d (x ∷ xs) t sound new = go (cases_eq x.0 t) (verdict d x.0 x.1) (comes_home (step d x.0 x.1) xs t (step_sound d x.0 x.1 sound))
  where
    -- the first deal is that of the tag's home, or is not
    deal_is : (b : Bool) → (eqb x.0 t && valid t x.1) ≡ b → AtHome t (tried d (x ∷ xs)) (cond b (Some x.1) (home t xs)) → AtHome t (tried d (x ∷ xs)) (home t (x ∷ xs))
    deal_is b e = subst (λ (c : Bool). AtHome t (tried d (x ∷ xs)) (cond c (Some x.1) (home t xs))) (sym e)

    here : x.0 ≡ t → (fault d x.0 x.1 ≡ None) × Fine d x.0 x.1 → AtHome t (tried d (x ∷ xs)) (Some x.1)
    here e f =
        let b = brought d x.0 x.1 sound f in
        subst (λ (u : ℕ). AtHome u (tried d (x ∷ xs)) (Some x.1)) e
        (at_home_same x.0 (tried d (x ∷ xs)) (step d x.0 x.1) (Some x.1) (stays (step d x.0 x.1) xs x.0 (step_sound d x.0 x.1 sound) b.1) b.0)

    invalid : x.0 ≡ t → (Fine d x.0 x.1 → ⊥) → (t < 64) ⊎ (64 ≤ t) → (x.1 < 48) ⊎ (48 ≤ x.1) → valid t x.1 ≡ false
    invalid e n (inl a) (inl b) = absurd (n (omega arith, b, ap (λ y. has y d.all) e ∙ new))
    invalid e n (inl a) (inr b) = and_right (ltb t 64) (ltb x.1 48) (le-ltb x.1 48 b)
    invalid e n (inr a) c = and_left (ltb t 64) (ltb x.1 48) (le-ltb t 64 a)

    go : (x.0 ≡ t) ⊎ (x.0 ≡ t → ⊥) → Verdict d x.0 x.1 → (has t (step d x.0 x.1).all ≡ false → AtHome t (tried d (x ∷ xs)) (home t xs)) → AtHome t (tried d (x ∷ xs)) (home t (x ∷ xs))
    go (inl e) (inl r) rest =
        deal_is false (and_right (eqb x.0 t) (valid t x.1) (invalid e r.2 (cases_lt t 64) (cases_lt x.1 48)))
        (rest (ap (λ y. has t y.all) (ap (left d x.0 x.1) r.1) ∙ new))
    go (inl e) (inr f) rest = deal_is true (rw (eq-eqb x.0 t e, lt-ltb t 64 (subst (λ (u : ℕ). u < 64) e f.1.0), lt-ltb x.1 48 f.1.1)) (here e f)
    go (inr n) v rest =
        deal_is false (and_left (eqb x.0 t) (valid t x.1) (ne_eqb x.0 t n))
        (rest ((step_other d x.0 x.1 t sound (λ q. n (sym q))).all ∙ new))

-- ---- the sheet from the start

home_small : (t k : ℕ) (xs : List (ℕ × ℕ)) → home t xs ≡ Some k → t < 64
home_small t k [] h = absurd (none-some k h)
home_small t k (x ∷ xs) h = go (eqb x.0 t && valid t x.1) refl h (home_small t k xs)
  where
    go : (b : Bool) → (eqb x.0 t && valid t x.1) ≡ b → cond b (Some x.1) (home t xs) ≡ Some k → (home t xs ≡ Some k → t < 64) → t < 64
    go true e h r = ltb-true t 64 (and_parts (ltb t 64) _ (and_parts (eqb x.0 t) _ e).1).0
    go false e h r = r h

lane_of : (k : ℕ) (o : Option ℕ) → is_lane k o ≡ true → o ≡ Some k
lane_of k None h = absurd (false≢true h)
lane_of k (Some j) h = ap Some (sym (eqb-true k j h))

pub by_hand : (xs : List (ℕ × ℕ)) → ByHand (tried blank xs) xs
by_hand xs = record {
  nowhere_else = λ k a t h. lane_of k (home t xs) (sym ((all_home t).lanes k) ∙ (tags_in (get_or (tried blank xs).lanes k 0) a t h).0);
  there = λ k t h. tags_found (get_or (tried blank xs).lanes k 0) t ((all_home t).lanes k ∙ ap (is_lane k) h ∙ eq-eqb k k refl) (home_small t k xs h);
  rising = λ k a b t u. tags_rising (get_or (tried blank xs).lanes k 0) t u a b;
  taking = λ t. (all_home t).taking;
  adding = λ t. (all_home t).adding;
}
  where
    all_home : (t : ℕ) → AtHome t (tried blank xs) (home t xs)
    all_home t = comes_home blank xs t blank_sound (has_zero t)
