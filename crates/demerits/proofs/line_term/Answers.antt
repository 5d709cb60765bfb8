-- `demerits::line_term` meets its contract.
use lib.Dec.{lit≤}
use Rattle.demerits.specs.Cited.Bounds.{most_truncated}
use Rattle.demerits.proofs.Terms.{weighted_up_to, line_le}
use Rattle.demerits.proofs.line_term.Goals as goal

pub term-requires : goal.term-requires
term-requires c = weighted_up_to most_truncated 100 1 c.args.r (lit≤ tt) (lit≤ tt) (lit≤ tt) c.requires

pub returns : goal.returns
returns c = (c.term.ensures, rw c.term.ensures (line_le c.args.r c.requires))
