-- `knuth_plass::turns::better` meets its contract. A choice for each number.
use Rattle.knuth_plass.proofs.Offers.{better_is}
use Rattle.knuth_plass.proofs.turns.better.Goals as goal

pub returns : goal.returns
returns c =
    let a = c.args in
    better_is a.best a.previous a.total a.ratio _ _ _ c.either.ensures c.either-2.ensures c.either-3.ensures
