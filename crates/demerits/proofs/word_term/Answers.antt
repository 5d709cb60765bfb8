-- `demerits::word_term` meets its contract.
use mathlib.Core.Path.{◌∙◌}
use native.Mathlib.Omega.{arith}
use lib.Dec.{lit≤}
use Rattle.demerits.specs.Cited.Bounds.{most_truncated}
use Rattle.demerits.proofs.Terms.{weighted_up_to, word_tight, word_any, word_within, word_le}
use Rattle.demerits.proofs.word_term.Goals as goal

pub returns-then-stretch-le1 : goal.returns-then-stretch-le1
returns-then-stretch-le1 c = let a = c.args in (word_tight a.stretch a.word c.if-stretch-le1.true, lit≤ tt)

pub term-requires : goal.term-requires
term-requires c =
    let a = c.args in
    rw (c.float.ensures, c.float-else-stretch-le1.ensures, c.saturating_sub.ensures)
    (weighted_up_to most_truncated 300 2 _ (lit≤ tt) (lit≤ tt) (lit≤ tt) (word_within a.stretch a.word (omega arith) (omega arith)))

pub returns-else-stretch-le1 : goal.returns-else-stretch-le1
returns-else-stretch-le1 c =
    let a = c.args in
    let t = rw (c.float.ensures, c.float-else-stretch-le1.ensures, c.saturating_sub.ensures) at c.term.ensures in
    let e = t ∙ word_any a.stretch a.word (omega arith) (omega arith) in
    (e, rw e (word_le a.stretch a.word (omega arith) (omega arith)))
