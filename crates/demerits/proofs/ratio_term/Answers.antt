-- `demerits::ratio_term` meets its contract.
use lib.Dec.{lit≤}
use lib.Ieee.{of_bits, of_int}
use Rattle.demerits.specs.Cited.Bounds.{most_truncated}
use Rattle.demerits.proofs.Terms.{weighted_up_to, change_within, ratio_le}
use Rattle.demerits.proofs.ratio_term.Goals as goal

pub term-requires : goal.term-requires
unfolding of_bits of_int
term-requires c = weighted_up_to most_truncated 600 1 _ (lit≤ tt) (lit≤ tt) (lit≤ tt) (change_within c.args.r c.args.old c.requires.0 c.requires.1)

pub returns : goal.returns
unfolding of_bits of_int
returns c =
    (c.term.ensures, rw c.term.ensures (ratio_le c.args.r c.args.old c.requires.0 c.requires.1))
