-- `unflow::stuffing_of` meets its contract.
use borrow.Author.Rules.{rules}
use mathlib.Core.Path.{◌≡◌}
use lib.ListN.{get_or}
use Rattle.pieces.specs.Pieces.{from_word}
use Rattle.unflow.proofs.Lines.{stuffing_told}
use Rattle.unflow.proofs.stuffing_of.Goals as goal

pub returns : goal.returns
unfolding from_word
returns c =
    let e : c.unwrap_or-first.result ≡ get_or c.args.content.now 0 0 = search rules in
    stuffing_told _ _ (rw (← e, ← c.begins.ensures) c.from.ensures)
