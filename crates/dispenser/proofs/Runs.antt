-- Runs of draws: the two laws, and one turn of a loop. Assumes nothing.
use Rattle.std.proofs.Common.{◌≡◌, ℕ, zero, suc, ◌+◌, ◌<◌, Bool, true, false, cond, eqb, List, [], ◌∷◌, ◌++◌, length, get_or, take, drop, set, Some, sym, refl, ap, ◌∙◌, ap₂, zero-add, arith}
use Rattle.std.specs.List.{slice_get, filter}
use Rattle.std.proofs.lemmas.List.{append_assoc, drop-set-lt, drop_more, take_more_set}
use Rattle.std.proofs.lemmas.Bool.{eq-eqb, ne_eqb, false≢true}
use Rattle.dispenser.specs.Meaning.{Meaning, Lawful, Stands, first, drawn}
use Rattle.dispenser.specs.Draws.{lanes_of, answered, after, NeverTwice, OwnLanesOnly}
use Rattle.dispenser.specs.declared.draws.Draw.{Draw}
use Rattle.std.proofs.lemmas.Option.{none-some}
use Rattle.dispenser.specs.Lanes.{slice_get-drop, part_lawful}

-- ---- no tag twice

-- how many places a draw on lane k moves the tags of lane j
abbrev moves : ℕ → ℕ → ℕ
moves k j = cond (eqb j k) 1 0

drawn_place : (m : Meaning) (k j a : ℕ) → slice_get ((drawn m k).lane j) a ≡ slice_get (m.lane j) (moves k j + a)
drawn_place m k j a = go (eqb j k)
  where
    go : (b : Bool) → slice_get (cond b (drop 1 (m.lane j)) (m.lane j)) a ≡ slice_get (m.lane j) (cond b 1 0 + a)
    go true = slice_get-drop 1 (m.lane j) a
    go false = ap (slice_get (m.lane j)) (sym (zero-add a))

drawn_lawful : (m : Meaning) (k : ℕ) → Lawful m → Lawful (drawn m k)
drawn_lawful m k = part_lawful m (drawn m k).lane (moves k) (λ j a t h. sym (drawn_place m k j a) ∙ h)

-- the first answer of a run is the first tag of its lane
first_stood : (m : Meaning) (k : ℕ) (ks : List ℕ) (t : ℕ) (x : Draw) → slice_get (answered m (k ∷ ks)) 0 ≡ Some x → x.tag ≡ Some t → Stands m k 0 t
first_stood m k ks t x h e = ap (λ d. d.tag) (same h) ∙ e
  where
    same : Some (record { lane = k; tag = first (m.lane k) }) ≡ Some x → record { lane = k; tag = first (m.lane k) } ≡ x
    same p = cc

-- a tag that a run answers stood in a lane
stood : (m : Meaning) (ks : List ℕ) (i t : ℕ) (x : Draw) → slice_get (answered m ks) i ≡ Some x → x.tag ≡ Some t → (j : ℕ) × (a : ℕ) × Stands m j a t
stood m [] i t x h e = absurd (none-some x h)
stood m (k ∷ ks) zero t x h e = (k, 0, first_stood m k ks t x h e)
stood m (k ∷ ks) (suc i) t x h e =
    let s = stood (drawn m k) ks i t x h e in
    (s.0, moves k s.0 + s.1, sym (drawn_place m k s.0 s.1) ∙ s.2)

-- the first tag of the lane drawn on is in no lane afterwards
gone : (m : Meaning) → Lawful m → (k : ℕ) (ks : List ℕ) (i t : ℕ) (x : Draw) → Stands m k 0 t → slice_get (answered (drawn m k) ks) i ≡ Some x → x.tag ≡ Some t → ⊥
gone m laws k ks i t x h l p =
    let s = stood (drawn m k) ks i t x l p in
    let e = laws.once s.0 k (moves k s.0 + s.1) 0 t (sym (drawn_place m k s.0 s.1) ∙ s.2) h in
    let q : moves k s.0 ≡ 1 = ap (λ b. cond b 1 0) (eq-eqb s.0 k e.0) in
    omega (arith, e.1)

pub never_twice : (m : Meaning) → Lawful m → NeverTwice m
never_twice m laws [] i j t x y h l p q = absurd (none-some x h)
never_twice m laws (k ∷ ks) zero zero t x y h l p q = refl
never_twice m laws (k ∷ ks) zero (suc j) t x y h l p q = absurd (gone m laws k ks j t y (first_stood m k ks t x h p) l q)
never_twice m laws (k ∷ ks) (suc i) zero t x y h l p q = absurd (gone m laws k ks i t x (first_stood m k ks t y l q) h p)
never_twice m laws (k ∷ ks) (suc i) (suc j) t x y h l p q = ap suc (never_twice (drawn m k) (drawn_lawful m k laws) ks i j t x y h l p q)

-- ---- own lanes only

abbrev Agree : (ℕ → Bool) → Meaning → Meaning → Type 0
Agree mine m n = (k : ℕ) → mine k ≡ true → m.lane k ≡ n.lane k

agree_drawn : (mine : ℕ → Bool) (m n : Meaning) (k : ℕ) → Agree mine m n → Agree mine (drawn m k) (drawn n k)
agree_drawn mine m n k f j h = ap (λ xs. cond (eqb j k) (drop 1 xs) xs) (f j h)

agree_other : (mine : ℕ → Bool) (m : Meaning) (k : ℕ) → mine k ≡ false → Agree mine (drawn m k) m
agree_other mine m k e j h = rw (ne_eqb j k (λ q. false≢true (sym e ∙ ap mine (sym q) ∙ h)))

same_answers : (mine : ℕ → Bool) (m n : Meaning) (ks : List ℕ) → Agree mine m n → answered m (filter mine ks) ≡ answered n (filter mine ks)
same_answers mine m n [] f = refl
same_answers mine m n (k ∷ ks) f = go (mine k) refl (same_answers mine (drawn m k) (drawn n k) ks (agree_drawn mine m n k f)) (same_answers mine m n ks f)
  where
    go : (b : Bool) → mine k ≡ b → answered (drawn m k) (filter mine ks) ≡ answered (drawn n k) (filter mine ks) → answered m (filter mine ks) ≡ answered n (filter mine ks)
        → answered m (cond b (k ∷ filter mine ks) (filter mine ks)) ≡ answered n (cond b (k ∷ filter mine ks) (filter mine ks))
    go true e r s = λ i. record { lane = k; tag = first (f k e i) } ∷ r i
    go false e r s = s

-- what of a run is mine is a run of what is mine
mine_alone : (mine : ℕ → Bool) (m : Meaning) (ks : List ℕ) → filter (λ (d : Draw). mine d.lane) (answered m ks) ≡ answered m (filter mine ks)
mine_alone mine m [] = refl
mine_alone mine m (k ∷ ks) = go (mine k) refl (mine_alone mine (drawn m k) ks)
  where
    go : (b : Bool) → mine k ≡ b → filter (λ (d : Draw). mine d.lane) (answered (drawn m k) ks) ≡ answered (drawn m k) (filter mine ks)
        → cond b (record { lane = k; tag = first (m.lane k) } ∷ filter (λ (d : Draw). mine d.lane) (answered (drawn m k) ks)) (filter (λ (d : Draw). mine d.lane) (answered (drawn m k) ks)) ≡ answered m (cond b (k ∷ filter mine ks) (filter mine ks))
    go true e r = ap (λ xs. record { lane = k; tag = first (m.lane k) } ∷ xs) r
    go false e r = r ∙ same_answers mine (drawn m k) m ks (agree_other mine m k e)

pub own_lanes_only : (m : Meaning) → OwnLanesOnly m
own_lanes_only m mine n ks ls f e = mine_alone mine m ks ∙ same_answers mine m n ks f ∙ ap (answered n) e ∙ sym (mine_alone mine n ls)

-- ---- one turn of a loop over the draws

-- the draw at place i is answered by r, and n is left. The check finds this for `draw_all` by itself; another loop may want it.
pub turn : (m n : Meaning) (ds : List Draw) (i : ℕ) (d r : Draw) → i < length ds → r ≡ record { lane = (get_or ds i d).lane; tag = first (m.lane (get_or ds i d).lane) } → n ≡ drawn m (get_or ds i d).lane →
    (take (i + 1) (set ds i r) ++ answered n (lanes_of (drop (i + 1) (set ds i r))) ≡ take i ds ++ answered m (lanes_of (drop i ds)))
    × (after n (lanes_of (drop (i + 1) (set ds i r))) ≡ after m (lanes_of (drop i ds)))
turn m n ds i d r l p q =
    let k = (get_or ds i d).lane in
    let past : drop (i + 1) (set ds i r) ≡ drop (i + 1) ds = drop-set-lt (i + 1) ds i r (omega arith) in
    let here = drop_more ds i d l in
    let tail = lanes_of (drop (i + 1) ds) in (
      ap₂ ◌++◌ (take_more_set ds i r l) (ap₂ (λ o xs. answered o (lanes_of xs)) q past)
          ∙ append_assoc (take i ds) (r ∷ []) (answered (drawn m k) tail)
          ∙ ap (λ y. take i ds ++ (y ∷ answered (drawn m k) tail)) p
          ∙ ap (λ xs. take i ds ++ answered m (lanes_of xs)) (sym here),
      ap₂ (λ o xs. after o (lanes_of xs)) q past ∙ ap (λ xs. after m (lanes_of xs)) (sym here),
    )
