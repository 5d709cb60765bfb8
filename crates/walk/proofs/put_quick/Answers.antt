-- `walk::put_quick` meets its contract.
use mathlib.Core.Path.{refl, sym, ap, ◌∙◌}
use mathlib.Core.Bool.{true≢false}
use native.Mathlib.Omega.{arith}
use Rattle.paragraphs.specs.Cited.Steps.{room_for}
use Rattle.walk.specs.declared.notes.Notes.{Notes}
use Rattle.walk.proofs.Steps.{room_few, room_full}
use Rattle.walk.proofs.Courses.{Gone, gone_first, gone_short, gone_stopped}
use Rattle.walk.proofs.put_quick.Goals as goal
use Rattle.walk.proofs.put_quick.Goals.{then-text-le-SURE_BYTES+in-Err, else-text-le-SURE_BYTES}

pub put_in-requires : goal.put_in-requires
put_in-requires c = room_few _ _ 0 refl (λ e. omega arith) (λ e. omega arith)

pub put_in-requires-2 : goal.put_in-requires-2
put_in-requires-2 c = room_few _ _ 7168 refl (λ e. omega arith) (λ e. omega arith)

pub returns-in_err-put_in : goal.returns-in_err-put_in
returns-in_err-put_in c =
    let g : Gone c.args.text c.args.out.now c.if-text-le-SURE_BYTES.left c.if-text-le-SURE_BYTES.out = elim c.if-text-le-SURE_BYTES.branch [
      | then-text-le-SURE_BYTES+in-Err w ↦ rw (w.left-is, w.out-is) (gone_short (gone_first _ _) _ w.in-Err.ensures)
      | else-text-le-SURE_BYTES w ↦ rw (w.left-is, w.out-is) (gone_first _ _)
    ] in
    let q = ap (λ (n : Notes). n.options.quick) g.same ∙ c.requires in
    gone_stopped g (room_for c.if-text-le-SURE_BYTES.left.notes.options.quick 7168) (omega (arith, room_full _ 7168 (λ e. refl) (λ e. absurd (true≢false (sym q ∙ e))))) c.in_err-put_in.field-0.0 c.in_err-put_in.ensures c.from_residual.result c.from_residual.ensures.1
