-- `output::emit_rest` meets its contract. Invariant: what is left to write is what the words behind the run give; each turn adds less than 2 ^ 34.
use mathlib.Core.Path.{◌∙◌}
use Prim.Native.Nat.{◌≤◌, ◌^◌}
use native.Mathlib.Omega.{arith}
use Rattle.output.proofs.Sink.{wrote_length, wrote_part, left_last}
use Rattle.output.proofs.Emission.{turn_most, rest_end}
use Rattle.output.proofs.Runs.{turn_left}
use Rattle.output.proofs.emit_rest.Goals as goal

pub overflow_add-k : goal.overflow_add-k
overflow_add-k c =
    let most : c.put_word-k.result ≤ 2 ^ 34 = turn_most c.requires.0 c.get-w.ensures c.loop-r-test.true _ _ _ c.added_space-added.ensures.most c.run_from-r.ensures.within c.put_word-k.ensures in
    omega (arith, most, c.loop-r.invariant.1, c.loop-r-test.true, c.requires.0.few)

pub loop-r-preserved : goal.loop-r-preserved
loop-r-preserved c =
    let most : c.put_word-k.result ≤ 2 ^ 34 = turn_most c.requires.0 c.get-w.ensures c.loop-r-test.true _ _ _ c.added_space-added.ensures.most c.run_from-r.ensures.within c.put_word-k.ensures in
    let l = c.loop-r in
    let r = c.run_from-r.ensures in (
      r.few,
      omega (arith, r.on),
      wrote_length (wrote_part _ l.k _ _ _ _ c.min-place.ensures c.put_word-k.ensures) ∙ l.invariant.2,
      turn_left c.requires.0 c.get-w.ensures c.loop-r-test.true _ _ c.added_space-added.ensures.is c.starts_line-fresh.ensures r l.invariant.3
          (wrote_part _ _ _ _ _ _ c.min-place.ensures c.put_word-k.ensures),
    )

pub returns : goal.returns
returns c =
    let l = c.loop-r in
    left_last
    (rw (rest_end _ _ _ _ _ _ c.loop-r-test.false) at l.invariant.3)
    (wrote_part _ _ _ _ _ _ c.min-place-2.ensures c.put_feed.ensures)
