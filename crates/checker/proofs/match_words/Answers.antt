-- `checker::match_words` meets its contract.
use Rattle.std.proofs.Common.{rules}
use Rattle.output.specs.Cited.Writers.{margin_of}
use Rattle.checker.proofs.Rests.{word_within, words_fault, words_rest}
use Rattle.checker.proofs.match_words.Goals as goal

pub returns-in_err-q : goal.returns-in_err-q
returns-in_err-q c =
    let p = c.requires.0 in let w = word_within p.words c.get-w.ensures p.some in search (rules, words_fault c.args.glue (margin_of c.args.notes.now c.args.indent) _ _ c.args.n _ _ c.args.p _ c.get-w.ensures p.some w.text c.in_err-q.ensures)

pub returns : goal.returns
returns c =
    let p = c.requires.0 in let w = word_within p.words c.get-w.ensures p.some in words_rest _ _ _ _ _ _ _ c.args.p _ c.get-w.ensures p.some w.text c.in_ok-q.ensures c.match_rest.ensures
