-- `checker::match_text` meets its contract.
use Rattle.checker.proofs.Spots.{text_on, text_off, part_begins}
use Rattle.checker.proofs.match_text.Goals as goal

pub returns-then-starts_with : goal.returns-then-starts_with
returns-then-starts_with c = text_on _ _ _ c.requires (part_begins _ c.args.digest.now c.args.p.at c.if-starts_with.ensures.value)

pub returns-else-starts_with : goal.returns-else-starts_with
returns-else-starts_with c = text_off _ _ _ c.requires (part_begins _ c.args.digest.now c.args.p.at c.if-starts_with.ensures.value)
