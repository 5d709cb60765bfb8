-- `knuth_plass::listed::append` meets its contract. The record, and its number.
use native.Mathlib.Omega.{arith}
use Rattle.knuth_plass.proofs.Table.{has_room, table_more, active_more}
use Rattle.knuth_plass.proofs.listed.append.Goals as goal

pub store_break-requires : goal.store_break-requires
store_break-requires c = let p = c.requires in (has_room c.args.breaks.now c.args.size p.0, p.3)

pub put_active-requires : goal.put_active-requires
put_active-requires c = let p = c.requires in let h = has_room c.args.breaks.now c.args.kept p.1 in let f = p.2 in (omega (arith, h, c.breaks-1.given), omega arith)

pub returns : goal.returns
returns c =
    let a = c.args in
    let p = c.requires in (
      table_more a.breaks.now a.size a.b a.kept a.size _ _ p.0 c.store_break.ensures c.put_active.ensures,
      active_more a.breaks.now a.size a.b a.kept a.size _ _ p.1 c.store_break.ensures c.put_active.ensures,
    )
