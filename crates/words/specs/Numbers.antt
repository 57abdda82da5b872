-- The number that digits write.
use Rattle.std.specs.Prelude.{ℕ, ◌+◌, ◌-◌, ◌*◌, List}
use Rattle.std.specs.List.{fold}

-- the number that the digit c writes behind those that write n
abbrev pub read_on : ℕ → ℕ → ℕ
read_on n c = n * 10 + (c - 48)

-- the number that digits write
abbrev pub value : List ℕ → ℕ
value ds = fold read_on 0 ds
