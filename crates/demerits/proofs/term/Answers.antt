-- `demerits::term` meets its contract.
use Rattle.demerits.specs.Demerits.{term}
use Rattle.demerits.proofs.term.Goals as goal

pub returns : goal.returns
unfolding term
returns c = rw (c.from.ensures, c.abs.ensures) at c.trunc.ensures
