-- `pieces::second_line` meets its contract, line by line.
use mathlib.Core.Path.{sym}
use Rattle.options.specs.Opts.{meant}
use Rattle.pieces.proofs.Following.{other_keys}
use Rattle.pieces.proofs.Paragraphs.{joined_line}
use Rattle.pieces.proofs.Seconds.{second_past, second_other, second_told}
use borrow.Enum.Refused.{opened}
use Rattle.pieces.proofs.second_line.Goals as goal

pub returns-then-notes-at : goal.returns-then-notes-at
returns-then-notes-at c = (second_past _ _ _ _ c.if-notes-at.true, tt)

pub returns-in_default : goal.returns-in_default
returns-in_default c = (second_other _ _ _ _ _ c.line_at-next.ensures (other_keys c.line_at-next.result.class (opened c.in_default.in_default-own.keys2)), tt)

pub returns : goal.returns
unfolding meant
returns c =
    let l = c.line_at-next.ensures in
    let joined = joined_line _ _ _ _ _ l c.in-Formatted.is c.requires.usable c.requires.short in
    rw c.then_some.ensures (second_told _ _ _ _ _ l _ c.in-Formatted.is c.is_second.result (sym c.is_second.ensures) joined)
