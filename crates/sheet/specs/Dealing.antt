-- What a sheet holds, and what a deal does to it. Assumes nothing.
use Rattle.std.specs.Prelude.{◌≡◌, ℕ, ◌%◌, Bool, true, false, if◌then◌else◌, ◌&&◌, ◌||◌, length, replicate, Some, None, Ok, Err, Option, Result, ◌==◌, nat_lt, slice_index, slice_set}
use Rattle.sets.specs.Sets.{has, union, only}
use Rattle.dispenser.specs.Meaning.{Meaning}
use Rattle.sheet.specs.Tags.{tags}
use Rattle.sheet.specs.declared.dealt.Dealt.{Dealt}
use Rattle.sheet.specs.declared.refusal.DealRefusal.{DealRefusal}
use Rattle.sheet.specs.declared.refusal.DealRefusal.TheVariants.{NoSuchTag, NoSuchLane, DealtBefore}

-- a sheet as a dispenser: each lane gives its lowest tag first
abbrev pub sheet : Dealt → Meaning
sheet d = record { lane = λ k. tags (slice_index d.lanes k); opens = record { adding = d.adding; taking = d.taking } }

-- nothing is dealt yet
abbrev pub blank : Dealt
blank = record { lanes = replicate 48 0; adding = 0; taking = 0; all = 0 }

-- why a deal of the tag to the lane is refused, if it is
abbrev pub fault : Dealt → ℕ → ℕ → Option DealRefusal
fault d tag lane =
    if nat_lt 63 tag then Some NoSuchTag
    else (if nat_lt 47 lane then Some NoSuchLane
    else (if has tag d.all then Some DealtBefore
    else None))

abbrev pub answer : Option DealRefusal → Result (Unit {0}) DealRefusal
answer None = Ok tt
answer (Some refusal) = Err refusal

-- the set with the tag, where the lane is of choice c
abbrev pub added : ℕ → ℕ → ℕ → ℕ → ℕ
added c s tag lane = if lane % 3 == c then union s (only tag) else s

-- the tag in its lane
abbrev pub placed : Dealt → ℕ → ℕ → Dealt
placed d tag lane = record {
  lanes = slice_set d.lanes lane (union (slice_index d.lanes lane) (only tag));
  adding = added 2 d.adding tag lane;
  taking = added 1 d.taking tag lane;
  all = union d.all (only tag);
}

-- what a deal leaves: a refused one leaves all as it was
abbrev pub left : Dealt → ℕ → ℕ → Option DealRefusal → Dealt
left d tag lane None = placed d tag lane
left d tag lane (Some refusal) = d

-- What holds of one tag on every sheet, by the lanes that have it and by whether it is open to taking away, open to adding, and dealt.
pub record Homed (lane : ℕ → Bool) (takes adds dealt : Bool) : Type 0 where
  pub one_lane : (j k : ℕ) → lane j ≡ true → lane k ≡ true → j ≡ k
  pub lane_dealt : (k : ℕ) → lane k ≡ true → dealt ≡ true
  pub by_choice : (k : ℕ) → lane k ≡ true → (takes ≡ (k % 3 == 1)) × (adds ≡ (k % 3 == 2))
  pub open_dealt : (takes || adds) ≡ true → dealt ≡ true
  pub apart : (takes && adds) ≡ false

pub record Sound (d : Dealt) : Type 0 where
  pub size : length d.lanes ≡ 48
  pub homed : (t : ℕ) → Homed (λ k. has t (slice_index d.lanes k)) (has t d.taking) (has t d.adding) (has t d.all)
