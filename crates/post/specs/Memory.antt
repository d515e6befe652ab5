-- The refusal of too little memory, and its number. Assumes nothing.
use Rattle.std.specs.Prelude.{ℕ, if◌then◌else◌, Ok, Err, Result, nat_le}
use Rattle.post.specs.declared.fault.PostFault.{PostFault}
use Rattle.post.specs.declared.fault.PostFault.TheVariants.{TooLittleMemory}

abbrev pub number : PostFault → ℕ
number TooLittleMemory = 1

-- the answer to the question whether so much memory is as much as is needed
abbrev pub checked : ℕ → ℕ → Result (Unit {0}) PostFault
checked size needed = if nat_le needed size then Ok tt else Err TooLittleMemory
