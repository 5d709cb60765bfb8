-- `fold::fold` meets its contract.
use borrow.Author.Rules.{rules}
use Rattle.panel.proofs.Panels.{stop_bounds}
use Rattle.fold.proofs.Answers.{in_bounds, folds_options, folds_long, folds_done, folds_room}
use Rattle.fold.proofs.fold.Goals as goal

pub returns-then-tab-columns : goal.returns-then-tab-columns
returns-then-tab-columns c = folds_options _ _ _ _ c.if-tab-columns.true

pub returns-then-text-gt1073741824 : goal.returns-then-text-gt1073741824
returns-then-text-gt1073741824 c = folds_long _ _ _ _ c.if-tab-columns.false c.if-text-gt1073741824.true

pub put_lines-needed-requires : goal.put_lines-needed-requires
put_lines-needed-requires c =
    let b = in_bounds c.args.text.now _ _ c.args.out.now c.if-tab-columns.false in
    let s = stop_bounds _ _ b.0 c.stop_width.ensures in
    (c.if-text-gt1073741824.false, s.0, s.1, b.1)

pub returns-then-needed-out : goal.returns-then-needed-out
returns-then-needed-out c =
    let p = c.put_lines-needed.ensures in folds_done _ _ _ _ c.if-tab-columns.false c.if-text-gt1073741824.false (rw c.stop_width.ensures at p.0) p.1 c.if-needed-out.true

pub returns-else-needed-out : goal.returns-else-needed-out
returns-else-needed-out c =
    let p = c.put_lines-needed.ensures in
    folds_room _ _ _ _ c.if-tab-columns.false c.if-text-gt1073741824.false (rw c.stop_width.ensures at p.0) p.1 c.if-needed-out.false (search rules)
