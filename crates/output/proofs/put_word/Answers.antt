-- `output::put_word` meets its contract.
use Rattle.output.proofs.Sink.{wrote_part}
use Rattle.output.proofs.Emission.{word_fresh, word_joined}
use Rattle.output.proofs.put_word.Goals as goal

pub returns-then-fresh : goal.returns-then-fresh
returns-then-fresh c =
    rw c.if-fresh.true
    (word_fresh c.args.notes.now c.args.w _ _ c.requires.0 _ c.requires.4 c.requires.5
    c.put_break-k.ensures
    (wrote_part _ _ _ _ _ _ c.min-place.ensures c.put_text.ensures))

pub returns-else-fresh : goal.returns-else-fresh
returns-else-fresh c =
    rw c.if-fresh.false
    (word_joined c.args.notes.now c.args.w _ _ c.requires.0 _ c.requires.4 c.requires.5
    c.put_added-k.ensures
    (wrote_part _ _ _ _ _ _ c.min-place-else-fresh.ensures c.put_text-else-fresh.ensures))
