-- `regular::fill` meets its contract. Invariant: what is left of the output is that of the words from p on, on a fresh line, and of those that follow; left are their columns.
use mathlib.Core.Path.{◌≡◌, refl, ◌∙◌}
use mathlib.Core.Logic.{◌⊎◌, inl, inr}
use Prim.Native.Nat.{ℕ, ◌+◌, ◌≤◌, ◌<◌}
use native.Mathlib.Omega.{arith}
use Rattle.output.proofs.Sink.{wrote_length}
use Rattle.regular.specs.Cited.Places.{NoSpace, columns_in}
use Rattle.regular.proofs.Columns.{columns_some, columns_size}
use Rattle.regular.proofs.Cuts.{cut_columns}
use Rattle.regular.proofs.Filling.{along_first, along_turn, along_done}
use Rattle.regular.proofs.fill.Goals as goal
use Rattle.regular.proofs.fill.Goals.{else-loop-column-test, then-loop-column-test+then-cut-e}

pub loop-column-init : goal.loop-column-init
loop-column-init c = let pre = c.requires in (omega arith, omega arith, omega arith, refl, along_first _ _ _ _ _ _ _ _ _ pre.0 pre.2, pre.1)

pub overflow_add-column : goal.overflow_add-column
overflow_add-column c =
    let l = c.loop-column in
    let few = columns_size c.args.s.now l.p c.args.e l.invariant.4.inked.within in
    let pre = c.requires in
    omega (arith, few, l.invariant.5, l.invariant.4.inked.within, pre.4, pre.6, pre.7, l.invariant.2)

pub place_of-at-requires : goal.place_of-at-requires
place_of-at-requires c =
    let l = c.loop-column in
    let inked = l.invariant.4.inked in (
      omega (arith, inked.on),
      inked.within,
      l.invariant.5,
      omega (arith, c.saturating_sub-room.ensures, c.loop-column-test.true, l.invariant.5, columns_some c.args.s.now l.p c.args.e c.args.e inked.on (omega arith) inked.within inked.letters),
    )

pub overflow_add-result : goal.overflow_add-result
overflow_add-result c =
    let l = c.loop-column in
    let few = columns_size c.args.s.now l.p c.args.e l.invariant.4.inked.within in
    let pre = c.requires in
    omega (arith, few, l.invariant.5, l.invariant.4.inked.within, pre.4, pre.6, pre.7, l.invariant.2)

pub overflow_sub-left : goal.overflow_sub-left
overflow_sub-left c =
    let found = c.cut_line-cut.ensures.cut (omega (arith, c.cut_line-cut.ensures.most, c.if-cut-e.false)) in
    let rest = cut_columns found c.loop-column.invariant.5 c.columns_before-left.ensures in
    omega (arith, rest)

pub loop-column-preserved : goal.loop-column-preserved
loop-column-preserved c =
    let found = c.cut_line-cut.ensures.cut (omega (arith, c.cut_line-cut.ensures.most, c.if-cut-e.false)) in
    let rest = cut_columns found c.loop-column.invariant.5 c.columns_before-left.ensures in
    let l = c.loop-column in
    let put = c.put_line-k.ensures in (
      omega (arith, l.invariant.0, found.on, found.gap),
      omega (arith, l.invariant.0, l.invariant.1, put.1, found.on, found.gap),
      omega arith,
      wrote_length put.0 ∙ l.invariant.3,
      along_turn _ _ _ _ _ _ _ _ _ _ _ _ _ _ l.invariant.4 _ _ _ c.saturating_sub-room.ensures c.place_of-at.ensures found _ _ put.0,
      omega (arith, rest),
    )

pub returns : goal.returns
returns c =
    let l = c.loop-column in
    let sum : l.column + l.left ≡ l.column + columns_in c.args.s.now l.p c.args.e = rw l.invariant.5 in
    let done : (l.column + columns_in c.args.s.now l.p c.args.e ≤ c.args.g.width) ⊎ ((i : ℕ) → l.p ≤ i → i < c.args.e → NoSpace c.args.s.now i) =
    elim c.loop-column-test.branch [
      | else-loop-column-test w ↦ inl (omega (arith, w.loop-column-test.false, l.invariant.5))
      | then-loop-column-test+then-cut-e w ↦ inr (w.cut_line-cut.ensures.lone (omega (arith, w.if-cut-e.true)))
    ] in
    along_done _ _ _ _ _ _ _ _ _ _ _ _ _ _ l.invariant.4 done l.invariant.0 l.invariant.1 l.invariant.2 c.requires.4 _ _ c.put_at.ensures sum
