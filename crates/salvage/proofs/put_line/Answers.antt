-- `salvage::put_line` meets its contract.
use mathlib.Core.Path.{sym, ap, ◌∙◌}
use native.Mathlib.Omega.{arith}
use lib.ListN.{length}
use Rattle.salvage.proofs.Counts.{left_as_found, changed}
use Rattle.salvage.proofs.Writes.{line_as_it_is}
use Rattle.salvage.proofs.put_line.Goals as goal

pub put_text-requires : goal.put_text-requires
put_text-requires c = omega (arith, c.requires.1.copied, ap length (left_as_found _ (sym c.is_well_formed.ensures ∙ c.if-is_well_formed.true)).0)

pub returns-then-is_well_formed : goal.returns-then-is_well_formed
returns-then-is_well_formed c = line_as_it_is _ _ _ _ _ _ _ (sym c.is_well_formed.ensures ∙ c.if-is_well_formed.true) c.put_text.ensures

pub put_mended-requires : goal.put_mended-requires
put_mended-requires c =
    let f = changed _ (sym c.is_well_formed.ensures ∙ c.if-is_well_formed.false) in
    (c.requires.0, rw (f.0, f.1 c.args.at) at c.requires.1)

pub returns-else-is_well_formed : goal.returns-else-is_well_formed
returns-else-is_well_formed c =
    let f = changed _ (sym c.is_well_formed.ensures ∙ c.if-is_well_formed.false) in
    rw (f.0, f.1 c.args.at) c.put_mended.ensures
