-- `unflow::content_start` meets its contract.
use borrow.Author.Rules.{rules}
use mathlib.Core.Path.{◌≡◌}
use lib.ListN.{get_or}
use Rattle.unflow.proofs.Lines.{content_told}
use Rattle.unflow.proofs.content_start.Goals as goal

pub returns : goal.returns
returns c =
    let e : c.unwrap_or.result ≡ get_or c.args.line.now c.args.depth 0 = search rules in
    content_told _ _ c.requires.0 c.requires.1 _ (rw (← e) c.from.ensures)
