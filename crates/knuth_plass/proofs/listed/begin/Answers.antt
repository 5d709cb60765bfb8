-- `knuth_plass::listed::begin` meets its contract.
use mathlib.Core.Path.{refl}
use Prim.Native.Nat.{◌<◌, ◌^◌}
use native.Mathlib.Omega.{arith}
use lib.Ieee.{of_bits}
use Rattle.knuth_plass.proofs.Work.{begun, part_room, worked_home}
use Rattle.knuth_plass.proofs.listed.begin.Goals as goal

pub append-requires : goal.append-requires
append-requires c =
    let p = c.requires in
    let a = c.args in
    let w : c.get-w.result.width < 2 ^ 31 = rw c.get-w.ensures.is (p.2 0 p.0) in
    let f = a.g.limits.first in
    let some = p.0 in
    let e = part_room a.n a.work.now p.1 in
    (rw e (omega arith), rw e (omega arith), omega arith, record { previous = omega arith; word = omega arith; columns = omega arith })

pub returns : goal.returns
unfolding of_bits
returns c =
    let p = c.requires in
    let a = c.args in
    let narrow : c.get-w.result.width < 2 ^ 31 = rw c.get-w.ensures.is (p.2 0 p.0) in (
      begun a.g.setting a.n a.work.now p.1 p.0 a.g.limits c.get-w.result c.get-w.ensures.is narrow c.append.new.breaks _ c.work-1.given.0 refl 0 refl c.append.ensures.0 c.append.ensures.1,
      worked_home a.n a.work.now p.1 c.append.new.breaks _ c.work-1.given.0 refl,
    )
