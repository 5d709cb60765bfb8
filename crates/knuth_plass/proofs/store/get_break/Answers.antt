-- `knuth_plass::store::get_break` meets its contract. The record is put together from its numbers.
use Rattle.knuth_plass.specs.Cited.Table.{record_at}
use native.Mathlib.Omega.{arith}
use Rattle.knuth_plass.proofs.Table.{has_room, table_at}
use Rattle.knuth_plass.proofs.store.get_break.Goals as goal

pub number-at-requires : goal.number-at-requires
number-at-requires c = (has_room c.args.breaks.now c.args.i c.requires, omega arith)

pub overflow_mul-k : goal.overflow_mul-k
overflow_mul-k c = let h = has_room c.args.breaks.now c.args.i c.requires in omega arith

pub overflow_add-k : goal.overflow_add-k
overflow_add-k c = let h = has_room c.args.breaks.now c.args.i c.requires in omega arith

pub number-requires : goal.number-requires
number-requires c = (has_room c.args.breaks.now c.args.i c.requires, omega arith)

pub demerits_of-requires : goal.demerits_of-requires
demerits_of-requires c =
    has_room c.args.breaks.now c.args.i c.requires

pub offset_bounds-breaks-k : goal.offset_bounds-breaks-k
offset_bounds-breaks-k c =
    let h = has_room c.args.breaks.now c.args.i c.requires in omega arith

pub bounds-breaks-k : goal.bounds-breaks-k
bounds-breaks-k c =
    let h = has_room c.args.breaks.now c.args.i c.requires in omega arith

pub number-requires-2 : goal.number-requires-2
number-requires-2 c =
    (has_room c.args.breaks.now c.args.i c.requires, omega arith)

pub number-requires-3 : goal.number-requires-3
number-requires-3 c =
    (has_room c.args.breaks.now c.args.i c.requires, omega arith)

pub returns : goal.returns
unfolding record_at
returns c =
    rw (table_at c.args.breaks.now c.args.i c.requires, c.number-at.ensures.0, c.number.ensures.0, c.number-2.ensures.0, c.number-3.ensures.0, c.demerits_of.ensures)
