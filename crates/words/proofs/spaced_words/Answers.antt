-- `words::spaced_words` meets its contract. Invariant: wherever the line's text ends, the words in the table, with those of what is left of
-- it, are all the words.
use mathlib.Core.List.{[]}
use Prim.Native.Nat.{◌+◌, ◌≤◌, ◌<◌}
use native.Mathlib.Omega.{arith}
use lib.ListN.{length, take}
use Rattle.options.specs.Opts.{meant}
use Rattle.records.specs.Cited.Table.{Small, with_word}
use Rattle.words.specs.Cited.Split.{Kept}
use Rattle.words.specs.Cited.Spaced.{PlainNext}
use Rattle.words.proofs.SpacedWords.{spaced_step, spaced_more}
use Rattle.words.proofs.spaced_words.Goals as goal

pub loop-r-preserved : goal.loop-r-preserved
unfolding meant
loop-r-preserved c =
    let a = c.args in
    let l = c.loop-r in
    let h = c.requires in
    let i = l.invariant in
    let p : PlainNext (meant [] a.o) l.r.first l.r.punct (take a.next a.notes.now) l.r.at c.in-Some.w = rw c.in-Some.is at c.spaced_word.ensures in
    let t : Small c.in-Some.w × Kept a.most (length a.notes.now) (l.r.count + 1) (with_word l.table l.r.count c.in-Some.w) × (l.r.at < c.in-Some.w.end) × (c.in-Some.w.end ≤ a.next) = spaced_step (meant [] a.o) a.notes.now a.next l.r.at l.r.first l.r.punct p.gap p.stop c.in-Some.w h.1 h.3 p.plain p.is (omega (arith, c.loop-r-test.true)) i.0 i.2 h.2 in
    rw c.store.ensures (
      t.1,
      omega (arith, t.2, i.1),
      t.3,
      (λ end line.
          spaced_more (meant [] a.o) a.notes.now a.next l.r.at l.r.first l.r.punct p.gap p.stop c.in-Some.w h.1 h.3 p.plain p.is (omega (arith, c.loop-r-test.true)) i.0 c.if-mail.false line i.1 (i.3 end line)),
    )
