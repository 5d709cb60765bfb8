-- `pieces::is_header` meets its contract: `From `, or a name with its colon after it.
use Rattle.std.proofs.Common.{sym, ◌∙◌, arith}
use Rattle.std.proofs.lemmas.Grind.{common_steps}
use Rattle.pieces.specs.Pieces.{from_word}
use Rattle.pieces.proofs.Headers.{header_from, header_is}
use Rattle.pieces.proofs.is_header.Goals as goal

pub returns-then-begins : goal.returns-then-begins
unfolding from_word
returns-then-begins c = header_from _ (sym c.begins.ensures ∙ c.if-begins.true)

pub returns-then-n-line : goal.returns-then-n-line
unfolding from_word
returns-then-n-line c =
    let h = header_is c.args.line.now (sym c.begins.ensures ∙ c.if-begins.false) _ c.name_end-n.ensures.0 in
    grind (arith, common_steps)

pub returns-else-n-line : goal.returns-else-n-line
unfolding from_word
returns-else-n-line c =
    let h = header_is c.args.line.now (sym c.begins.ensures ∙ c.if-begins.false) _ c.name_end-n.ensures.0 in
    grind (arith, common_steps)
