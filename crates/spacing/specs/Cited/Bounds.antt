-- What the code of gap width and added space answers: the definition's number, and a bound for the sums that it goes into; and settings to sum with.
use Rattle.std.specs.Prelude.{Bool, ◌≡◌, ℕ, ◌+◌, ◌≤◌, ◌<◌, ◌^◌, Option}
use Rattle.records.specs.Cited.Table.{before_number}
use Rattle.spacing.specs.declared.Setting.{Setting}
use Rattle.spacing.specs.Spacing.{gap_width, added_space}

pub record GapIs (tab column : ℕ) (before : Option ℕ) (after r : ℕ) : Type 0 where
  pub is : r ≡ gap_width tab column before after
  pub most : r ≤ after + before_number before + tab

pub record AddedIs (uniform new_line sentence_start previousPunct : Bool) (r : ℕ) : Type 0 where
  pub is : r ≡ added_space uniform new_line sentence_start previousPunct
  pub most : r ≤ 2

-- a setting whose numbers keep every sum in range
pub record Fair (g : Setting) : Type 0 where
  pub some : 1 ≤ g.tab
  pub tab : g.tab ≤ 100
  pub width : g.width < 2 ^ 32
  pub first : g.first < 2 ^ 32
  pub indent : g.indent < 2 ^ 32
