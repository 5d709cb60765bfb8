-- `output::emit_line` meets its contract.
use native.Mathlib.Omega.{arith}
use lib.Seq.{length-slice}
use Rattle.output.proofs.Sink.{wrote_then, wrote_part}
use Rattle.output.proofs.emit_line.Goals as goal

pub returns : goal.returns
returns c =
    let s = c in
    let t = length-slice s.args.from s.args.to s.args.notes.now s.requires.1 in (
      wrote_then
          (wrote_part _ _ _ _ _ _ c.min-place.ensures c.put_text.ensures)
          (wrote_part _ _ _ _ _ _ c.min-behind.ensures c.put_feed.ensures),
      omega (arith, c.put_text.ensures.count, c.put_feed.ensures.count),
    )
