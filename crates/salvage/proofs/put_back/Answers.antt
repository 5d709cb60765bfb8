-- `salvage::put_back` meets its contract. Invariant: what is left to come back, stored behind what is back, gives the whole.
use mathlib.Core.Path.{◌≡◌, refl}
use Prim.Native.Nat.{◌+◌, ◌≤◌}
use native.Mathlib.Omega.{arith}
use lib.ListN.{length, get_or}
use Rattle.salvage.proofs.Back.{listed_length, rest_room, returning_last, entry_stands, gap_room, byte_room, byte_back}
use Rattle.salvage.proofs.put_back.Goals as goal

pub slice_bounds-put_text-count : goal.slice_bounds-put_text-count
slice_bounds-put_text-count c =
    let stands : (c.loop-k.at ≤ (get_or c.args.places.now c.loop-k.k 0)) × ((get_or c.args.places.now c.loop-k.k 0) + c.loop-k.k + 2 ≤ length c.args.copy.now) =
    let s = c.args in
    let l = c.loop-k in
    entry_stands s.places.now s.bytes.now l.k _ c.min-count.ensures c.loop-k-test.true refl l.invariant (omega (arith, c.type_inv.bytes l.k)) in
    let p = stands in omega (arith, p.0, p.1)

pub slice_bounds-put_text-start : goal.slice_bounds-put_text-start
slice_bounds-put_text-start c =
    let stands : (c.loop-k.at ≤ (get_or c.args.places.now c.loop-k.k 0)) × ((get_or c.args.places.now c.loop-k.k 0) + c.loop-k.k + 2 ≤ length c.args.copy.now) =
    let s = c.args in
    let l = c.loop-k in
    entry_stands s.places.now s.bytes.now l.k _ c.min-count.ensures c.loop-k-test.true refl l.invariant (omega (arith, c.type_inv.bytes l.k)) in
    let p = stands in omega (arith, p.0, p.1)

pub slice_bounds-put_text-end : goal.slice_bounds-put_text-end
slice_bounds-put_text-end c =
    let stands : (c.loop-k.at ≤ (get_or c.args.places.now c.loop-k.k 0)) × ((get_or c.args.places.now c.loop-k.k 0) + c.loop-k.k + 2 ≤ length c.args.copy.now) =
    let s = c.args in
    let l = c.loop-k in
    entry_stands s.places.now s.bytes.now l.k _ c.min-count.ensures c.loop-k-test.true refl l.invariant (omega (arith, c.type_inv.bytes l.k)) in
    let p = stands in omega (arith, p.0, p.1)

pub put_text-requires : goal.put_text-requires
put_text-requires c =
    let s = c.args in
    let l = c.loop-k in
    gap_room s.places.now s.bytes.now l.k _ c.min-count.ensures c.loop-k-test.true refl l.invariant (omega (arith, c.type_inv.bytes l.k))

pub bounds-notes-place : goal.bounds-notes-place
bounds-notes-place c =
    let s = c.args in
    let l = c.loop-k in
    byte_room s.places.now s.bytes.now l.k _ c.min-count.ensures c.loop-k-test.true refl l.invariant (omega (arith, c.type_inv.bytes l.k)) c.put_text.ensures

pub loop-k-preserved : goal.loop-k-preserved
loop-k-preserved c =
    let s = c.args in
    let l = c.loop-k in
    byte_back s.places.now s.bytes.now l.k _ c.min-count.ensures c.loop-k-test.true refl l.invariant (omega (arith, c.type_inv.bytes l.k)) c.put_text.ensures

pub put_text-requires-2 : goal.put_text-requires-2
put_text-requires-2 c =
    let e : c.min-count.result ≡ c.loop-k.k = omega arith in
    rw e (rest_room c.loop-k.invariant (omega (arith, listed_length c.args.places.now c.args.bytes.now, c.min-count.ensures)))

pub returns : goal.returns
returns c =
    let e : c.min-count.result ≡ c.loop-k.k = omega arith in
    returning_last c.loop-k.invariant (omega (arith, listed_length c.args.places.now c.args.bytes.now, c.min-count.ensures)) (rw e at c.put_text-2.ensures)
