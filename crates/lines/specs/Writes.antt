-- What every writer promises.
use Rattle.std.specs.Prelude.{◌≡◌, ℕ, ◌+◌, Bool, cond, List, length, Ok, Err, Result, nat_le}
use Rattle.lines.specs.declared.faults.WriteFault.{WriteFault}
use Rattle.lines.specs.declared.faults.WriteFault.TheVariants.{NoRoom}
use Rattle.lines.specs.Put.{put}

-- bs finds room from at on
abbrev pub has_room : (out : List ℕ) (at : ℕ) (bs : List ℕ) → Bool
has_room out at bs = nat_le (at + length bs) (length out)

-- the place after bs, or a refusal where there is not enough room
abbrev pub written_to : (out : List ℕ) (at : ℕ) (bs : List ℕ) → Result ℕ WriteFault
written_to out at bs = cond (has_room out at bs) (Ok (at + length bs)) (Err NoRoom)

-- a writer of bs answers r and leaves out'; where it refuses, it changes nothing
pub record Writes (out : List ℕ) (at : ℕ) (bs : List ℕ) (r : Result ℕ WriteFault) (out' : List ℕ) : Type 0 where
  pub answer : r ≡ written_to out at bs
  pub after : out' ≡ cond (has_room out at bs) (put out at bs) out
