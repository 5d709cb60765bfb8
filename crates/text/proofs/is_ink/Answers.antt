-- `text::is_ink` meets its contract: the first character there is not U+00A0, so that it alone decides.
use mathlib.Core.Path.{sym, ap, ◌∙◌}
use mathlib.Core.Bool.{not}
use borrow.Author.Rules.{rules}
use borrow.Author.Tests.{le-ltb}
use Rattle.text.proofs.Glyphs.{blank_here, not_blank}
use Rattle.text.proofs.NoBreaks.{ink_past, ink_first}
use Rattle.text.proofs.is_ink.Goals.{in-Blank, in_default}
use Rattle.text.proofs.is_ink.Goals as goal

pub returns-else-at-s : goal.returns-else-at-s
returns-else-at-s c = le-ltb _ _ c.if-at-s.false ∙ ink_past _ _ c.if-at-s.false

pub returns-after-matches : goal.returns-after-matches
returns-after-matches c =
    let i = c.args in
    elim c.match-matches.branch [
      | in-Blank w ↦ rw w.matches-is (sym (ink_first i.s.now i.at c.if-at-s.true c.requires ∙ ap not (blank_here i.s.now i.at _ _ (sym c.glyph_at.ensures ∙ w.in-Blank.is)).is_blank))
      | in_default w ↦ rw w.matches-is (sym (ink_first i.s.now i.at c.if-at-s.true c.requires ∙ ap not (not_blank i.s.now i.at _ c.glyph_at.ensures (search rules))))
    ]
