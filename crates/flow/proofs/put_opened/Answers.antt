-- `flow::put_opened` meets its contract.
use native.Mathlib.Omega.{arith}
use Prim.Native.Nat.{ℕ, ◌+◌, ◌^◌, ◌≤◌}
use lib.ListN.{length-append, length-replicate}
use lib.Seq.{slice, length-slice}
use Rattle.output.specs.Cited.Writers.{margin_of}
use Rattle.output.proofs.Sink.{wrote_then, wrote_part}
use Rattle.output.proofs.Writers.{margin_most}
use Rattle.flow.proofs.put_opened.Goals as goal

pub returns : goal.returns
returns c =
    let bound : c.put_added-k.result + c.put_first.result ≤ 2 ^ 33 + 2 ^ 32 =
    let m = margin_most c.args.notes.now c.args.m c.requires.2 in
    let t = length-slice c.args.from c.args.to c.args.notes.now c.requires.1 in
    let a = length-append (margin_of c.args.notes.now c.args.m) (slice c.args.from c.args.to c.args.notes.now) in
    let r = length-replicate {A = ℕ} c.args.spaces 32 in
    omega (arith, c.requires.3, c.requires.4, c.put_added-k.ensures.count, c.put_first.ensures.count) in
    (wrote_then c.put_added-k.ensures (wrote_part _ _ _ _ _ _ c.min-place.ensures c.put_first.ensures), bound)
