-- How the code's answers mean what the definition says. They serve contracts alone.
use Rattle.std.specs.Prelude.{◌≡◌, false, cond, List, ℕ, ◌+◌, ◌≤◌, min, length, drop, Option, Some, None}
use Rattle.text.specs.Rfc3629.{decode}
use Rattle.lines.specs.Lines.{lines_of}
use Rattle.panel.specs.Panel.{PanelRow, shown_as, size, newest}
use Rattle.panel.specs.declared.Seen.{Seen}
use Rattle.panel.specs.declared.Tail.{Tail}

-- the sign at a place, and the next place
abbrev pub seen_at : ℕ → List ℕ → Seen
seen_at at line = let f = decode (drop at line) in record { sign = shown_as f; next = at + size f }

-- a row that does not run over so far
abbrev pub row_at : ℕ → List ℕ → PanelRow
row_at column cells = record { cells = cells; column = column; over = false }

-- the column at which drawing goes on, if it does; every column after the row counts as 80
unfoldable pub step_of : PanelRow → Option ℕ
step_of r = cond r.over None (Some (min 80 r.column))

-- where the newest lines of a text begin, and how many they are
pub record Newest (s : List ℕ) (t : Tail) : Type 0 where
  pub within : t.at ≤ length s
  pub lines : lines_of (drop t.at s) ≡ newest (lines_of s)
  pub count : t.count ≡ length (lines_of (drop t.at s))
  pub few : t.count ≤ 24
