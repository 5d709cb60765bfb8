-- `walk::put_best` meets its contract.
use mathlib.Core.Path.{◌≡◌, refl, sym, ap, ◌∙◌}
use mathlib.Core.Bool.{true≢false}
use native.Mathlib.Omega.{arith}
use Rattle.paragraphs.specs.Cited.Steps.{room_for}
use Rattle.walk.specs.declared.notes.Notes.{Notes}
use Rattle.walk.proofs.Steps.{room_few, room_full}
use Rattle.walk.proofs.Courses.{Gone, gone_first, gone_short, gone_stopped, gone_ended}
use Rattle.walk.proofs.put_best.Goals as goal
use Rattle.walk.proofs.put_best.Goals.{then-size-le-FEW_BYTES+in-Err, else-size-le-FEW_BYTES, then-size-le-MORE_BYTES+in-Err-put_in, else-size-le-MORE_BYTES}

pub put_in-requires : goal.put_in-requires
put_in-requires c = room_few _ _ 600 refl (λ e. omega arith) (λ e. omega arith)

pub put_in-requires-then-size-le-MORE_BYTES : goal.put_in-requires-then-size-le-MORE_BYTES
put_in-requires-then-size-le-MORE_BYTES c = room_few _ _ 3900 refl (λ e. omega arith) (λ e. omega arith)

pub put_in-requires-2 : goal.put_in-requires-2
put_in-requires-2 c =
    let few : c.if-size-le-FEW_BYTES.left.notes ≡ c.args.text.notes = elim c.if-size-le-FEW_BYTES.branch [
      | then-size-le-FEW_BYTES+in-Err w ↦ rw w.left-is w.in-Err.ensures.0
      | else-size-le-FEW_BYTES w ↦ rw w.left-is
    ] in
    let more : c.if-size-le-MORE_BYTES.left.notes ≡ c.args.text.notes = elim c.if-size-le-MORE_BYTES.branch [
      | then-size-le-MORE_BYTES+in-Err-put_in w ↦ rw w.left-is (w.in-Err-put_in.ensures.0 ∙ few)
      | else-size-le-MORE_BYTES w ↦ rw w.left-is few
    ] in
    let q = ap (λ (n : Notes). n.options.quick) more ∙ c.requires in
    room_few _ _ 15360 refl (λ e. absurd (true≢false (sym e ∙ q))) (λ e. omega arith)

pub returns-in_err-put_in : goal.returns-in_err-put_in
returns-in_err-put_in c =
    let few : Gone c.args.text c.args.out.now c.if-size-le-FEW_BYTES.left c.if-size-le-FEW_BYTES.out = elim c.if-size-le-FEW_BYTES.branch [
      | then-size-le-FEW_BYTES+in-Err w ↦ rw (w.left-is, w.out-is) (gone_short (gone_first _ _) _ w.in-Err.ensures)
      | else-size-le-FEW_BYTES w ↦ rw (w.left-is, w.out-is) (gone_first _ _)
    ] in
    let g : Gone c.args.text c.args.out.now c.if-size-le-MORE_BYTES.left c.if-size-le-MORE_BYTES.out = elim c.if-size-le-MORE_BYTES.branch [
      | then-size-le-MORE_BYTES+in-Err-put_in w ↦ rw (w.left-is, w.out-is) (gone_short few _ w.in-Err-put_in.ensures)
      | else-size-le-MORE_BYTES w ↦ rw (w.left-is, w.out-is) few
    ] in
    let q = ap (λ (n : Notes). n.options.quick) g.same ∙ c.requires in
    gone_stopped g (room_for c.if-size-le-MORE_BYTES.left.notes.options.quick 15360) (omega (arith, room_full _ 15360 (λ e. absurd (true≢false (sym e ∙ q))) (λ e. refl))) c.in_err-put_in.field-0.0 c.in_err-put_in.ensures c.from_residual.result c.from_residual.ensures.1

pub returns : goal.returns
returns c =
    let few : Gone c.args.text c.args.out.now c.if-size-le-FEW_BYTES.left c.if-size-le-FEW_BYTES.out = elim c.if-size-le-FEW_BYTES.branch [
      | then-size-le-FEW_BYTES+in-Err w ↦ rw (w.left-is, w.out-is) (gone_short (gone_first _ _) _ w.in-Err.ensures)
      | else-size-le-FEW_BYTES w ↦ rw (w.left-is, w.out-is) (gone_first _ _)
    ] in
    let g : Gone c.args.text c.args.out.now c.if-size-le-MORE_BYTES.left c.if-size-le-MORE_BYTES.out = elim c.if-size-le-MORE_BYTES.branch [
      | then-size-le-MORE_BYTES+in-Err-put_in w ↦ rw (w.left-is, w.out-is) (gone_short few _ w.in-Err-put_in.ensures)
      | else-size-le-MORE_BYTES w ↦ rw (w.left-is, w.out-is) few
    ] in
    gone_ended g _ _ c.in_ok-put_in.ensures
