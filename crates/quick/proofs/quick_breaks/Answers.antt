-- `quick::quick_breaks` meets its contract. Invariant: the words are as they were, and the table with the breaks still to come marked from i on is the table with all breaks marked.
use mathlib.Core.Path.{◌≡◌, refl, sym, ap, ◌∙◌}
use mathlib.Core.Bool.{cond}
use Prim.Native.Nat.{◌+◌}
use native.Mathlib.Omega.{arith}
use borrow.Author.Tests.{lt-ltb, le-ltb}
use lib.Dec.{ltb}
use Rattle.records.specs.Cited.Marks.{with_marks}
use Rattle.records.proofs.Marks.{mark_word, marked_by}
use Rattle.quick.proofs.Laws.{breaks_first, breaks_length, column_most, turn, last}
use Rattle.quick.proofs.quick_breaks.Goals.{then-fresh, else-fresh}
use Rattle.quick.proofs.quick_breaks.Goals as goal

pub loop-i-init : goal.loop-i-init
loop-i-init c =
    (omega arith, λ j. refl, λ notes. ap (with_marks c.args.table.now 1) (sym (breaks_first _ _ _ _ _ c.get-head.ensures.is c.requires.0)))

pub loop-i-preserved : goal.loop-i-preserved
loop-i-preserved c =
    let r = c.reach-reached in
    let l = c.loop-i in
    let m = c.mark.ensures in
    let g = c.args.g in
    let behind : c.if-fresh.column ≡ cond (ltb g.width r.result) (g.indent + c.get-w.result.width) r.result
    = elim c.if-fresh.branch [ then-fresh w ↦ rw (lt-ltb g.width r.result w.if-fresh.true) w.column-is | else-fresh w ↦ rw (le-ltb g.width r.result w.if-fresh.false) w.column-is ] in (
      rw behind (column_most _ g.width _ r.result refl c.requires.2.width (omega arith)),
      λ j. rw m (mark_word l.table l.i _ (omega arith) j ∙ l.invariant.1 j),
      λ notes. rw m (turn g notes c.args.table.now c.args.n _ _ _ _ r.result _ _ _ (c.get-w.ensures.is ∙ l.invariant.1 _) c.loop-i-test.true r.ensures.0 behind (l.invariant.2 notes)),
    )

pub returns : goal.returns
returns c =
    λ notes. marked_by _ _ _ _ c.requires.0 c.requires.1 (breaks_length _ notes _ _ c.requires.0)
    (last _ notes _ _ _ _ _ _ _ c.loop-i-test.false (c.loop-i.invariant.2 notes))
