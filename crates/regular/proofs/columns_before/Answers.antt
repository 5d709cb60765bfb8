-- `regular::columns_before` meets its contract.
use mathlib.Core.Path.{sym, ◌∙◌}
use native.Mathlib.Omega.{arith}
use Rattle.regular.proofs.Columns.{columns_join, columns_plain, columns_size}
use Rattle.regular.proofs.columns_before.Goals as goal

pub returns-then-columns-e : goal.returns-then-columns-e
returns-then-columns-e c = let pre = c.requires in sym (columns_plain _ _ _ _ pre.0 pre.1 pre.2 (sym pre.4 ∙ c.if-columns-e.true))

pub overflow_sub-result-then-next-at : goal.overflow_sub-result-then-next-at
overflow_sub-result-then-next-at c =
    let start = c in
    let pre = start.requires in
    omega (arith, c.columns_between.ensures, pre.5.full, columns_join start.args.s.now start.args.p start.args.next start.args.at pre.0 c.if-next-at.true (omega (arith, pre.2, pre.5.most)))

pub returns-then-next-at : goal.returns-then-next-at
returns-then-next-at c =
    let start = c in
    let pre = start.requires in
    omega (arith, c.columns_between.ensures, pre.5.full, columns_join start.args.s.now start.args.p start.args.next start.args.at pre.0 c.if-next-at.true (omega (arith, pre.2, pre.5.most)))

pub overflow_add-result : goal.overflow_add-result
overflow_add-result c =
    let start = c in
    let pre = start.requires in
    omega (arith, c.columns_between-else-next-at.ensures, pre.2, pre.3, pre.5.full, pre.5.most, pre.1, columns_size start.args.s.now start.args.at start.args.next (omega (arith, pre.1, pre.2)), columns_size start.args.s.now start.args.p start.args.at (omega (arith, pre.2, pre.5.most)))

pub returns-else-next-at : goal.returns-else-next-at
returns-else-next-at c =
    let start = c in
    let pre = start.requires in
    omega (arith, c.columns_between-else-next-at.ensures, pre.5.full, columns_join start.args.s.now start.args.p start.args.at start.args.next pre.5.on (omega (arith, c.if-next-at.false)) (omega (arith, pre.1, pre.2)))
