-- `salvage::put_byte` meets its contract.
use native.Mathlib.Omega.{arith}
use lib.ListN.{length-set}
use Rattle.salvage.proofs.Writes.{put_low, put_high, room_low, room_high}
use Rattle.salvage.proofs.put_byte.Goals as goal

pub bounds-copy-to : goal.bounds-copy-to
bounds-copy-to c = room_low _ _ _ _ _ _ c.if-b-lt128.true c.requires.1

pub returns-then-b-lt128 : goal.returns-then-b-lt128
returns-then-b-lt128 c = put_low _ _ _ _ _ _ c.if-b-lt128.true

pub bounds-copy-to-2 : goal.bounds-copy-to-2
bounds-copy-to-2 c = omega (arith, (room_high _ _ _ _ _ _ c.if-b-lt128.false (omega arith) c.requires.1).0)

pub bounds-copy-second : goal.bounds-copy-second
bounds-copy-second c = rw length-set (room_high _ _ _ _ _ _ c.if-b-lt128.false (omega arith) c.requires.1).0

pub bounds-places-n : goal.bounds-places-n
bounds-places-n c = (room_high _ _ _ _ _ _ c.if-b-lt128.false (omega arith) c.requires.1).1

pub bounds-bytes-n : goal.bounds-bytes-n
bounds-bytes-n c = (room_high _ _ _ _ _ _ c.if-b-lt128.false (omega arith) c.requires.1).2

pub returns : goal.returns
returns c = put_high _ _ _ _ _ _ c.if-b-lt128.false (omega arith)
