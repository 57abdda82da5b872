-- Bytes added to a page.
use Rattle.std.specs.Prelude.{◌≡◌, ℕ, ◌+◌, ◌-◌, ◌^◌, ◌≤◌, List, length, min}
use Rattle.lines.specs.declared.pages.Page.{Page}
use Rattle.lines.specs.Put.{Puts}

-- s becomes t by adding bs: they are counted as far as a place counts, and put where they find room
pub record Adds (s : Page) (bs : List ℕ) (t : Page) : Type 0 where
  pub counts : t.next ≡ min (s.next + length bs) (2 ^ 64 - 1)
  pub puts : s.next + length bs ≤ length s.out.now → Puts s.out.now s.next bs t.next t.out.now
  pub same : t.out.ghost_name ≡ s.out.ghost_name
