-- `panel::mark_over` meets its contract.
use lib.ListN.{get_or}
use borrow.Author.Tests.{ne_eqb}
use Rattle.panel.specs.Panel.{marked}
use Rattle.panel.proofs.mark_over.Goals.{then-row-eq0, else-row-eq0}
use Rattle.panel.proofs.mark_over.Goals as goal

pub returns : goal.returns
unfolding marked
returns c =
    elim c.if-row-eq0.branch [
      | then-row-eq0 w ↦ rw (w.if-row-eq0.true, w.row-is)
      | else-row-eq0 w ↦ rw (ne_eqb (get_or c.args.row.now 79 0) 0 w.if-row-eq0.false, w.row-is)
    ]
