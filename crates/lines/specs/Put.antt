-- Bytes put into a lent slice.
use Rattle.std.specs.Prelude.{◌≡◌, ℕ, ◌+◌, List, ◌++◌, length, take, drop}

-- out with bs from at on; what stands ahead and after stays
abbrev pub put : (out : List ℕ) (at : ℕ) (bs : List ℕ) → List ℕ
put out at bs = take at out ++ (bs ++ drop (at + length bs) out)

-- out becomes out' by putting bs from at on, and r is the place after bs
pub record Puts (out : List ℕ) (at : ℕ) (bs : List ℕ) (r : ℕ) (out' : List ℕ) : Type 0 where
  pub after : out' ≡ put out at bs
  pub next : r ≡ at + length bs
