-- The blank sheet is sound, and a deal that is not refused keeps a sheet sound. Assumes nothing.
use Rattle.std.proofs.Common.{◌≡◌, ℕ, ◌%◌, ◌<◌, ◌≤◌, Bool, true, false, cond, ◌&&◌, eqb, ◌⊎◌, length, get_or, replicate, Some, None, sym, refl, ap, ◌∙◌, subst, inl, inr, arith, length-set}
use Rattle.std.proofs.lemmas.List.{get_or-set_same, get_or-set_other}
use Rattle.std.proofs.Math.Bool.{or-false}
use Rattle.std.proofs.lemmas.Bool.{false_from_ne_true, cases_eq, cases_lt, cases_Bool, eq-eqb, ne_eqb, eqb-true, lt-ltb, le-ltb, or_left, or_right, false≢true}
use Rattle.std.proofs.lemmas.Bool.Decides.{nat_tests}
use Rattle.std.proofs.lemmas.Option.{none-some}
use Rattle.sets.specs.Sets.{has, union, only}
use Rattle.sets.proofs.Bits.{has_zero, has-bit_or, has-only}
use Rattle.dispenser.specs.Lanes.{slice_index-replicate}
use Rattle.sheet.specs.Dealing.{blank, fault, added, placed, Homed, Sound}
use Rattle.sheet.specs.declared.dealt.Dealt.{Dealt}
use Rattle.sheet.specs.declared.refusal.DealRefusal.{DealRefusal}
use Rattle.sheet.specs.declared.refusal.DealRefusal.TheVariants.{NoSuchTag, NoSuchLane, DealtBefore}

-- ---- the blank sheet

pub blank_sound : Sound blank
blank_sound = record {
  size = refl;
  homed = λ t. rw (has_zero t) (record {
    one_lane = λ j k h i. absurd (none t j h);
    lane_dealt = λ k h. absurd (none t k h);
    by_choice = λ k h. absurd (none t k h);
    open_dealt = λ h. h;
    apart = refl;
  });
}
  where
    none : (t k : ℕ) → has t (get_or (replicate 48 0) k 0) ≡ true → ⊥
    none t k h = false≢true (sym (has_zero t) ∙ ap (has t) (sym (slice_index-replicate 48 k)) ∙ h)

-- ---- one tag more, which was not dealt before

-- a deal is refused, or there are such a tag and lane and the tag has none yet
abbrev pub Fine : Dealt → ℕ → ℕ → Type 0
Fine d tag lane = (tag < 64) × (lane < 48) × (has tag d.all ≡ false)

abbrev pub Verdict : Dealt → ℕ → ℕ → Type 0
Verdict d tag lane = ((e : DealRefusal) × (fault d tag lane ≡ Some e) × (Fine d tag lane → ⊥)) ⊎ ((fault d tag lane ≡ None) × Fine d tag lane)

pub verdict : (d : Dealt) (tag lane : ℕ) → Verdict d tag lane
verdict d tag lane = go (cases_lt 63 tag) (cases_lt 47 lane) (cases_Bool (has tag d.all))
  where
    go : (63 < tag) ⊎ (tag ≤ 63) → (47 < lane) ⊎ (lane ≤ 47) → (has tag d.all ≡ true) ⊎ (has tag d.all ≡ false)
        → Verdict d tag lane
    go (inl a) b c = inl (NoSuchTag, rw (lt-ltb 63 tag a), λ f. omega arith)
    go (inr a) (inl b) c = inl (NoSuchLane, rw (le-ltb 63 tag a, lt-ltb 47 lane b), λ f. omega arith)
    go (inr a) (inr b) (inl c) = inl (DealtBefore, rw (le-ltb 63 tag a, le-ltb 47 lane b, c), λ f. false≢true (sym f.2 ∙ c))
    go (inr a) (inr b) (inr c) = inr (rw (le-ltb 63 tag a, le-ltb 47 lane b, c), (omega arith, omega arith, c))

pub checked : (d : Dealt) (tag lane : ℕ) → fault d tag lane ≡ None → Fine d tag lane
checked d tag lane h = go (verdict d tag lane)
  where
    go : Verdict d tag lane → Fine d tag lane
    go (inl r) = absurd (none-some r.0 (sym h ∙ r.1))
    go (inr f) = f.1

same_homed : (l m : ℕ → Bool) (a b c p q r : Bool) → ((k : ℕ) → m k ≡ l k) → p ≡ a → q ≡ b → r ≡ c → Homed l a b c → Homed m p q r
same_homed l m a b c p q r f x y z h = record {
  one_lane = λ j k u v. h.one_lane j k (sym (f j) ∙ u) (sym (f k) ∙ v);
  lane_dealt = λ k u. z ∙ h.lane_dealt k (sym (f k) ∙ u);
  by_choice = λ k u. let e = h.by_choice k (sym (f k) ∙ u) in (x ∙ e.0, y ∙ e.1);
  open_dealt = λ u. z ∙ h.open_dealt (rw (x, y) at u);
  apart = rw (x, y) h.apart;
}

-- a tag that is not dealt is in no lane and no open set
module _ (d : Dealt) (t : ℕ) (sound : Sound d) (new : has t d.all ≡ false) where
  absent : (x : Bool) → (x ≡ true → has t d.all ≡ true) → x ≡ false
  absent x f = false_from_ne_true x (λ e. false≢true (sym new ∙ f e))

  pub lane_old : (k : ℕ) → has t (get_or d.lanes k 0) ≡ false
  lane_old k = absent _ ((sound.homed t).lane_dealt k)

  pub taking_old : has t d.taking ≡ false
  taking_old = absent _ (λ e. (sound.homed t).open_dealt (or_left (has t d.taking) (has t d.adding) e))

  pub adding_old : has t d.adding ≡ false
  adding_old = absent _ (λ e. (sound.homed t).open_dealt (or_right (has t d.taking) (has t d.adding) e))

module _ (d : Dealt) (tag lane : ℕ) (sound : Sound d) (fine : Fine d tag lane) where
  -- a set with the tag, at that tag and at another
  pub with_tag : (s : ℕ) → has tag (union s (only tag)) ≡ true
  with_tag s = has-bit_or tag s (only tag) ∙ rw (has-only tag tag, eq-eqb tag tag refl, lt-ltb tag 64 fine.0) (or_right (has tag s) true refl)

  pub other_tag : (s t : ℕ) → (t ≡ tag → ⊥) → has t (union s (only tag)) ≡ has t s
  other_tag s t n = has-bit_or t s (only tag) ∙ rw (has-only t tag, ne_eqb t tag n) (or-false (has t s))

  pub added_tag : (c s : ℕ) → has tag s ≡ false → has tag (added c s tag lane) ≡ eqb (lane % 3) c
  added_tag c s h = go (eqb (lane % 3) c)
    where
      go : (b : Bool) → has tag (cond b (union s (only tag)) s) ≡ b
      go true = with_tag s
      go false = h

  pub added_other : (c s t : ℕ) → (t ≡ tag → ⊥) → has t (added c s tag lane) ≡ has t s
  added_other c s t n = go (eqb (lane % 3) c)
    where
      go : (b : Bool) → has t (cond b (union s (only tag)) s) ≡ has t s
      go true = other_tag s t n
      go false = refl

  -- the lanes after the deal, at the tag and at another
  abbrev after : ℕ → ℕ
  after k = get_or (placed d tag lane).lanes k 0

  here : after lane ≡ union (get_or d.lanes lane 0) (only tag)
  here = let l : lane < length d.lanes = omega (arith, sound.size, fine.1) in get_or-set_same d.lanes lane _ 0 l

  pub lane_tag : (k : ℕ) → has tag (after k) ≡ eqb k lane
  lane_tag k = go (cases_eq k lane)
    where
      go : (k ≡ lane) ⊎ (k ≡ lane → ⊥) → has tag (after k) ≡ eqb k lane
      go (inl e) = ap (λ x. has tag (after x)) e ∙ ap (has tag) here ∙ with_tag _ ∙ sym (eq-eqb k lane e)
      go (inr n) = ap (has tag) (get_or-set_other d.lanes lane k _ 0 n) ∙ lane_old d tag sound fine.2 k ∙ sym (ne_eqb k lane n)

  pub lane_other : (t : ℕ) → (t ≡ tag → ⊥) → (k : ℕ) → has t (after k) ≡ has t (get_or d.lanes k 0)
  lane_other t m k = go (cases_eq k lane)
    where
      go : (k ≡ lane) ⊎ (k ≡ lane → ⊥) → has t (after k) ≡ has t (get_or d.lanes k 0)
      go (inl e) = ap (λ x. has t (after x)) e ∙ ap (has t) here ∙ other_tag _ t m ∙ ap (λ x. has t (get_or d.lanes x 0)) (sym e)
      go (inr n) = ap (has t) (get_or-set_other d.lanes lane k _ 0 n)

  -- a tag that is in the one lane alone, open as that lane's choice says
  at_home : Homed (λ k. eqb k lane) (eqb (lane % 3) 1) (eqb (lane % 3) 2) true
  at_home = record {
    one_lane = λ j k h i. eqb-true j lane h ∙ sym (eqb-true k lane i);
    lane_dealt = λ k h. refl;
    by_choice = λ k h. let e = eqb-true k lane h in (ap (λ x. eqb (x % 3) 1) (sym e), ap (λ x. eqb (x % 3) 2) (sym e));
    open_dealt = λ h. refl;
    apart = never (lane % 3);
  }
    where
      never : (c : ℕ) → (eqb c 1 && eqb c 2) ≡ false
      never c = grind (arith, nat_tests)

  pub placed_sound : Sound (placed d tag lane)
  placed_sound = record { size = length-set d.lanes lane _ ∙ sound.size; homed = λ t. go t (cases_eq t tag) }
    where
      go : (t : ℕ) → (t ≡ tag) ⊎ (t ≡ tag → ⊥) → Homed (λ k. has t (after k)) (has t (placed d tag lane).taking) (has t (placed d tag lane).adding) (has t (placed d tag lane).all)
      go t (inl e) = subst
          (λ (x : ℕ). Homed (λ k. has x (after k)) (has x (placed d tag lane).taking) (has x (placed d tag lane).adding) (has x (placed d tag lane).all))
          (sym e)
          (same_homed (λ k. eqb k lane) (λ k. has tag (after k)) _ _ _ _ _ _ lane_tag (added_tag 1 d.taking (taking_old d tag sound fine.2)) (added_tag 2 d.adding (adding_old d tag sound fine.2)) (with_tag d.all) at_home)
      go t (inr n) = same_homed (λ k. has t (get_or d.lanes k 0)) (λ k. has t (after k)) _ _ _ _ _ _
          (lane_other t n) (added_other 1 d.taking t n) (added_other 2 d.adding t n) (other_tag d.all t n) (sound.homed t)
