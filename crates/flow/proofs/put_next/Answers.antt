-- `flow::put_next` meets its contract.
use mathlib.Core.Path.{ap}
use mathlib.Core.Bool.{not}
use native.Mathlib.Omega.{arith}
use Prim.Native.Nat.{◌≤◌, ◌^◌}
use Rattle.output.proofs.Sink.{wrote_part}
use Rattle.flow.proofs.Writing.{as_number, turned_on, turned_off, word_most}
use Rattle.flow.proofs.put_next.Goals as goal

pub overflow_add-result : goal.overflow_add-result
overflow_add-result c =
    let on-most : c.put_word.result ≤ 2 ^ 34 = word_most c.args.notes.now c.args.w c.args.indent c.requires.0 c.requires.1 c.requires.2 c.requires.3 c.put_word.ensures in
    omega (arith, on-most, c.requires.4)

pub returns-then-not-fresh : goal.returns-then-not-fresh
returns-then-not-fresh c =
    let on-most : c.put_word.result ≤ 2 ^ 34 = word_most c.args.notes.now c.args.w c.args.indent c.requires.0 c.requires.1 c.requires.2 c.requires.3 c.put_word.ensures in
    turned_on c.args.notes.now c.args.w _ c.args.indent _ c.args.t (ap not c.if-not-fresh.true) (wrote_part _ _ _ _ _ _ c.min-place.ensures c.put_word.ensures) (omega (arith, on-most))

pub returns : goal.returns
returns c =
    turned_off c.args.notes.now c.args.w _ c.args.indent _ c.args.t c.opening_of-o.result (ap not c.if-not-fresh.false) c.opening_of-o.ensures (as_number c.args.t.dashed c.from.ensures) (wrote_part _ _ _ _ _ _ c.min-place.ensures c.put_break.ensures.0) (omega (arith, c.put_break.ensures.1))
