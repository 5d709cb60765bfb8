-- `words::behind_blank` meets its contract: a case for each kind of blank.
use mathlib.Core.Path.{refl}
use Rattle.words.proofs.BlankRuns.{gap_later}
use Rattle.words.proofs.behind_blank.Goals as goal

pub returns-in-Some : goal.returns-in-Some
returns-in-Some c = (refl, gap_later _ _ _ _ c.if-code-ne9.false _ c.in-Some.is)
