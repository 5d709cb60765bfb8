-- `formatter::admit_within` meets its contract.
use mathlib.Core.Path.{refl}
use Rattle.formatter.specs.Format.{up_to}
use Rattle.formatter.proofs.Replies.{limits, notes_admitted, notes_within}
use Rattle.formatter.proofs.admit_within.Goals as goal

pub invariant_of-result : goal.invariant_of-result
invariant_of-result c = record {
  admitted = notes_admitted (limits c.args.most (up_to 0)) _ _ _ c.read_block.ensures c.in_ok-options.was c.requires (rw c.in_ok-refuse_notes.was at (c.refuse_notes.ensures (up_to 0) c.args.block.now));
}

pub returns-clause-admits : goal.returns-clause-admits
returns-clause-admits c =
    λ w.
    let n = notes_within (limits c.args.most w) _ _ _ c.read_block.ensures c.in_ok-options.was (rw c.in_ok-refuse_notes.was at (c.refuse_notes.ensures w c.args.block.now)) in
    ((refl, refl), n.0, n.1)
