-- The number of each refusal of a deal. Assumes nothing.
use Rattle.std.specs.Prelude.{ℕ}
use Rattle.sheet.specs.declared.refusal.DealRefusal.{DealRefusal}
use Rattle.sheet.specs.declared.refusal.DealRefusal.TheVariants.{NoSuchTag, NoSuchLane, DealtBefore}

abbrev pub number : DealRefusal → ℕ
number NoSuchTag = 2
number NoSuchLane = 2
number DealtBefore = 2
