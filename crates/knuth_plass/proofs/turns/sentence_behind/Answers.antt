-- `knuth_plass::turns::sentence_behind` meets its contract. The next word's marks, or true where there is none.
use Rattle.records.specs.Word.{meaning}
use Rattle.records.specs.Cited.Table.{word_in}
use Rattle.knuth_plass.proofs.Paragraph.{behind_last, behind_next}
use Rattle.knuth_plass.proofs.turns.sentence_behind.Goals as goal

pub returns-then-n-next : goal.returns-then-n-next
returns-then-n-next c = λ notes. let a = c.args in behind_last a.table.now a.n a.i notes (meaning notes (word_in a.table.now a.i)) c.if-n-next.true

pub returns-then-w : goal.returns-then-w
unfolding meaning
returns-then-w c = λ notes. let a = c.args in rw c.if-w.true (rw c.if-w.true at (behind_next a.table.now a.n a.i notes (meaning notes (word_in a.table.now a.i)) _ c.get-w.ensures.is c.if-n-next.false))

pub returns-then-w-2 : goal.returns-then-w-2
unfolding meaning
returns-then-w-2 c =
    λ notes.
    let a = c.args in
    rw c.get.ensures.is
    (rw (c.if-w.false, c.if-w-2.true) at (behind_next a.table.now a.n a.i notes (meaning notes (word_in a.table.now a.i)) _ c.get-w.ensures.is c.if-n-next.false))

pub returns-else-w-2 : goal.returns-else-w-2
unfolding meaning
returns-else-w-2 c =
    λ notes.
    let a = c.args in
    rw c.if-w-2.false (rw (c.if-w.false, c.if-w-2.false) at (behind_next a.table.now a.n a.i notes (meaning notes (word_in a.table.now a.i)) _ c.get-w.ensures.is c.if-n-next.false))
