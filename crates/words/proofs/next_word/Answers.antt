-- `words::next_word` meets its contract: no word is left, or one of mail or of a line.
use mathlib.Core.List.{[]}
use Rattle.options.specs.Opts.{meant}
use Rattle.words.specs.Cited.Scan.{OverBlanks}
use Rattle.words.proofs.BlankRuns.{blanks_before}
use Rattle.words.proofs.NextWord.{next_none, places_past, next_mail, next_line}
use Rattle.words.proofs.next_word.Goals as goal

pub returns-then-s-start : goal.returns-then-s-start
unfolding meant
returns-then-s-start c =
    let over : OverBlanks c.args.o.glue c.args.o.tab c.args.first c.args.s.now c.args.at c.blanks_at-b.result = blanks_before c.args.first c.requires.0 c.requires.4 c.blanks_at-b.ensures in
    (next_none _ _ _ _ _ (over) _ _ c.if-s-start.true, places_past (meant [] c.args.o) _ _ _ _ (over) c.if-s-start.true)

pub returns-then-mail : goal.returns-then-mail
unfolding meant
returns-then-mail c =
    let over : OverBlanks c.args.o.glue c.args.o.tab c.args.first c.args.s.now c.args.at c.blanks_at-b.result = blanks_before c.args.first c.requires.0 c.requires.4 c.blanks_at-b.ensures in
    rw (c.mail_word.ensures, c.if-mail.true) (next_mail _ _ _ _ _ (over) _ c.over_ink-w.ensures c.if-s-start.false _)

pub returns-else-mail : goal.returns-else-mail
unfolding meant
returns-else-mail c =
    let over : OverBlanks c.args.o.glue c.args.o.tab c.args.first c.args.s.now c.args.at c.blanks_at-b.result = blanks_before c.args.first c.requires.0 c.requires.4 c.blanks_at-b.ensures in
    rw (c.word_of.ensures, c.if-mail.false) (next_line _ _ _ _ _ (over) _ c.over_ink-w.ensures c.if-s-start.false _)
