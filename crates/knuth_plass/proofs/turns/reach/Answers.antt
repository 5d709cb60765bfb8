-- `knuth_plass::turns::reach` meets its contract. Without a tab the gap is the same at any column.
use native.Mathlib.Omega.{arith}
use Rattle.knuth_plass.proofs.Line.{no_tab, line_plain, plain_small}
use Rattle.knuth_plass.proofs.turns.reach.Goals as goal

pub returns : goal.returns
returns c =
    let a = c.args in
    let e = rw c.from.ensures at c.either.ensures in
    let h = plain_small a.b.fresh a.r.now.turn.space a.r.now.turn.word.width a.r.now.turn.word.after c.either.result e in
    (line_plain a.r.now.goals.setting a.r.now.turn a.b _ (no_tab _ _ c.is_some.ensures c.if-is_some.false) e, omega arith)
