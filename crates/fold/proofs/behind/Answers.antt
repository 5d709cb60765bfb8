-- `fold::behind` meets its contract: a character, or a damaged byte.
use mathlib.Core.Path.{sym, ◌∙◌}
use Rattle.text.proofs.Glyphs.{char_here, char_damaged_here}
use Rattle.fold.proofs.Stays.{behind_char, behind_damaged}
use Rattle.fold.proofs.behind.Goals as goal

pub returns-in-None : goal.returns-in-None
returns-in-None c =
    let p = c.requires in
    behind_damaged _ _ _ _ p.2 (char_damaged_here _ _ p.0 (sym c.decode_at.ensures ∙ c.in-None.is)) p.0

pub returns-in-Some : goal.returns-in-Some
returns-in-Some c =
    behind_char _ _ _ _ c.requires.2 (char_here _ _ _ _ (sym c.decode_at.ensures ∙ c.in-Some.is)) c.column_behind.ensures.0 c.column_behind.ensures.1
