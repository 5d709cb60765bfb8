-- `lines::lead_of` meets its contract: the spaces alone, or the blanks after them too.
use Rattle.lines.proofs.Spaces.{spaces_behind, spaces_only}
use Rattle.lines.proofs.lead_of.Goals as goal

pub returns-then-is_plain : goal.returns-then-is_plain
returns-then-is_plain c = λ glue. let i = c.is_plain.ensures c.if-is_plain.true in spaces_only _ _ c.requires.0 i.0 i.1 i.2 glue _

pub returns : goal.returns
returns c = λ glue. spaces_behind _ _ c.requires.0 glue _ _ (c.over_blanks.ensures glue)
