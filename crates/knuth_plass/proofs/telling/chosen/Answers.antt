-- `knuth_plass::telling::chosen` meets its contract. Invariant: what is found from here on is what is found in all.
use mathlib.Core.Path.{sym, ◌∙◌}
use Rattle.knuth_plass.specs.Cited.Table.{table_in, active_in}
use Rattle.knuth_plass.proofs.Makers.{chosen_step, chosen_end}
use Rattle.knuth_plass.proofs.telling.chosen.Goals as goal

pub returns-in-Some : goal.returns-in-Some
returns-in-Some c =
    let l = c.loop-k in
    let here = chosen_step c.args.g.setting c.args.weight c.args.total c.args.kept (table_in c.args.breaks.now) (active_in c.args.breaks.now) l.k _ _ _ c.loop-k-test.true c.requires.listed c.active.ensures c.get_break-b.ensures c.try_break.ensures in
    sym (rw c.in-Some.is at here) ∙ l.invariant

pub loop-k-preserved : goal.loop-k-preserved
loop-k-preserved c =
    let l = c.loop-k in
    let here = chosen_step c.args.g.setting c.args.weight c.args.total c.args.kept (table_in c.args.breaks.now) (active_in c.args.breaks.now) l.k _ _ _ c.loop-k-test.true c.requires.listed c.active.ensures c.get_break-b.ensures c.try_break.ensures in
    sym (rw c.in_default.is at here) ∙ l.invariant

pub returns : goal.returns
returns c =
    chosen_end c.args.g.setting c.args.weight c.args.total c.args.kept (table_in c.args.breaks.now) (active_in c.args.breaks.now) _ c.loop-k-test.false ∙ c.loop-k.invariant
