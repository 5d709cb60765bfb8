-- `lines::behind` meets its contract: a byte below 0x80, another accepted character, or a damaged byte.
use mathlib.Core.Path.{refl, sym, ◌∙◌}
use Rattle.text.proofs.Glyphs.{ascii_here, char_here, char_damaged_here}
use Rattle.lines.proofs.Measures.{behind_char, behind_damaged}
use Rattle.lines.proofs.behind.Goals as goal

pub returns-then-b-lt128 : goal.returns-then-b-lt128
returns-then-b-lt128 c =
    let p = c.requires in
    let h = ascii_here _ _ p.1 c.if-b-lt128.true in
    let column = rw c.from.ensures at c.column_behind.ensures.0 in
    behind_char _ _ _ _ p.0 h column c.column_behind.ensures.1

pub returns-in_default : goal.returns-in_default
returns-in_default c =
    let p = c.requires in
    let b = char_damaged_here _ _ p.1 (sym c.decode_at.ensures ∙ c.in_default.is) in
    behind_damaged _ _ _ _ p.0 b p.1 refl refl

pub returns : goal.returns
returns c =
    let p = c.requires in
    let h = char_here _ _ _ _ (sym c.decode_at.ensures ∙ c.in-Some.is) in
    behind_char _ _ _ _ p.0 h c.column_behind-2.ensures.0 c.column_behind-2.ensures.1
