-- A draw takes the lowest tag of a lane, and keeps a sheet sound. Assumes nothing.
use Rattle.std.proofs.Common.{◌≡◌, ℕ, ◌^◌, ◌<◌, Bool, true, false, if◌then◌else◌, eqb, nat_eq, ◌⊎◌, ◌∷◌, length, get_or, drop, set, Some, None, sym, refl, ap, ◌∙◌, inl, inr, arith, length-set}
use lib.Count.{count_trailing_zeros}
use Rattle.std.proofs.lemmas.List.{get_or-set_same, get_or-set_other}
use Rattle.std.proofs.Math.Bool.{and-true}
use Rattle.std.proofs.lemmas.Bool.{and_parts, and_right, cases_eq, eq-eqb, ne_eqb, lt-ltb, false≢true}
use Rattle.std.proofs.lemmas.Option.{none-some}
use Rattle.sets.specs.Sets.{has, without, only}
use Rattle.sets.proofs.Bits.{has-without, has-only}
use Rattle.dispenser.specs.Meaning.{first, drawn}
use Rattle.dispenser.specs.Lanes.{drawn_by, draw_empty}
use Rattle.sheet.specs.Tags.{tags}
use Rattle.sheet.specs.Dealing.{sheet, Sound}
use Rattle.sheet.specs.declared.dealt.Dealt.{Dealt}
use Rattle.sheet.specs.Lists.{tags_low, tags_empty}
use Rattle.sheet.proofs.Zeros.{Lowest, lowest}

-- the sheet with another set in a lane
abbrev pub with_lane : Dealt → ℕ → ℕ → Dealt
with_lane d k s = record { lanes = set d.lanes k s; adding = d.adding; taking = d.taking; all = d.all }

-- a lane that has lost tags
pub less_sound : (d : Dealt) (k s : ℕ) → k < 48 → ((t : ℕ) → has t s ≡ true → has t (get_or d.lanes k 0) ≡ true) → Sound d → Sound (with_lane d k s)
less_sound d k s l part sound = record {
  size = length-set d.lanes k s ∙ sound.size;
  homed = λ t. let h = sound.homed t in record {
    one_lane = λ i j u v. h.one_lane i j (was t i (cases_eq i k) u) (was t j (cases_eq j k) v);
    lane_dealt = λ j u. h.lane_dealt j (was t j (cases_eq j k) u);
    by_choice = λ j u. h.by_choice j (was t j (cases_eq j k) u);
    open_dealt = h.open_dealt;
    apart = h.apart;
  };
}
  where
    was : (t j : ℕ) → (j ≡ k) ⊎ (j ≡ k → ⊥) → has t (get_or (set d.lanes k s) j 0) ≡ true → has t (get_or d.lanes j 0) ≡ true
    was t j (inl e) u =
        let h : k < length d.lanes = omega (arith, sound.size) in
        ap (λ x. has t (get_or d.lanes x 0)) e ∙ part t (ap (has t) (sym (get_or-set_same d.lanes k s 0 h)) ∙ ap (λ x. has t (get_or (set d.lanes k s) x 0)) (sym e) ∙ u)
    was t j (inr n) u = ap (has t) (sym (get_or-set_other d.lanes k j s 0 n)) ∙ u

-- a set without its lowest tag
pub cleared_part : (s z t : ℕ) → has t (without s (only z)) ≡ true → has t s ≡ true
cleared_part s z t h = (and_parts (has t s) _ (sym (has-without t s (only z)) ∙ h)).0

-- the lowest tag of a set stands first in its list, and the rest of the list is that of the set without it
tags_cleared : (s : ℕ) → s < 2 ^ 64 → (s ≡ 0 → ⊥) → tags s ≡ count_trailing_zeros 64 s ∷ tags (without s (only (count_trailing_zeros 64 s)))
tags_cleared s h d = tags_low s (without s (only z)) z low.small low.there low.none_below gone kept
  where
    z : ℕ
    z = count_trailing_zeros 64 s

    low : Lowest 64 s z
    low = lowest 64 s h d

    gone : has z (without s (only z)) ≡ false
    gone = has-without z s (only z) ∙ rw (has-only z z, eq-eqb z z refl, lt-ltb z 64 low.small) (and_right (has z s) false refl)

    kept : (t : ℕ) → (t ≡ z → ⊥) → has t (without s (only z)) ≡ has t s
    kept t n = has-without t s (only z) ∙ rw (has-only t z, ne_eqb t z n) (and-true (has t s))

pub draw_none : (d : Dealt) (k : ℕ) → get_or d.lanes k 0 ≡ 0 → record { answer : None ≡ first ((sheet d).lane k); left : sheet d ≡ drawn (sheet d) k }
draw_none d k e = draw_empty (sheet d) k (ap tags e ∙ tags_empty)

-- a tag that is the lowest, if there is one: then there is one
lowest_of : (s t z : ℕ) → Some z ≡ (if nat_eq s 0 then None else Some t) → (s ≡ 0 → ⊥) × (t ≡ z)
lowest_of s t z h = go (eqb s 0) refl h
  where
    go : (b : Bool) → eqb s 0 ≡ b → Some z ≡ (if b then None else Some t) → (s ≡ 0 → ⊥) × (t ≡ z)
    go true e o = absurd (none-some z (sym o))
    go false e o = (λ n. false≢true (sym e ∙ eq-eqb s 0 n), cc)

pub draw_lowest : (d : Dealt) (k z : ℕ) → k < length d.lanes → get_or d.lanes k 0 < 2 ^ 64 → Some z ≡ (if nat_eq (get_or d.lanes k 0) 0 then None else Some (count_trailing_zeros 64 (get_or d.lanes k 0))) →
    record {
      answer : Some z ≡ first ((sheet d).lane k);
      left : sheet (with_lane d k (without (get_or d.lanes k 0) (only z))) ≡ drawn (sheet d) k;
    }
draw_lowest d k z l h o =
    let s = get_or d.lanes k 0 in
    let p = lowest_of s (count_trailing_zeros 64 s) z o in
    let e : tags s ≡ z ∷ tags (without s (only z)) = rw p.1 at (tags_cleared s h p.0) in
    record {
      answer = sym (ap first e);
      left = drawn_by (sheet d) (sheet (with_lane d k (without s (only z)))) k refl
          (ap tags (get_or-set_same d.lanes k _ 0 l) ∙ sym (ap (drop 1) e))
          (λ j m. ap tags (get_or-set_other d.lanes k j _ 0 m));
    }
