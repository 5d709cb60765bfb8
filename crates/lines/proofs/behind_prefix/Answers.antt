-- `lines::behind_prefix` meets its contract: the prefix is looked for, and what stands behind it decides.
use mathlib.Core.Path.{sym, ◌∙◌}
use Prim.Native.Nat.{◌+◌, ◌≤◌}
use native.Mathlib.Omega.{arith}
use lib.ListN.{length}
use Rattle.lines.proofs.Prefixes.{search_within}
use Rattle.lines.proofs.Classes.{class_ended, class_shaped}
use Rattle.lines.proofs.behind_prefix.Goals as goal

pub overflow_add-end : goal.overflow_add-end
overflow_add-end c =
    let within : c.in-Some.place + length c.args.p.now ≤ length c.args.line.now = omega (arith, search_within _ _ _ _ _ _ (sym (c.find.ensures c.args.glue) ∙ c.in-Some.is)) in
    omega (arith, within)

pub measure_to-margin-requires : goal.measure_to-margin-requires
measure_to-margin-requires c =
    let within : c.in-Some.place + length c.args.p.now ≤ length c.args.line.now = omega (arith, search_within _ _ _ _ _ _ (sym (c.find.ensures c.args.glue) ∙ c.in-Some.is)) in
    let p = c.requires in (within, p.1, p.2, p.3)

pub behind_margin-indent-requires : goal.behind_margin-indent-requires
behind_margin-indent-requires c =
    let within : c.in-Some.place + length c.args.p.now ≤ length c.args.line.now = omega (arith, search_within _ _ _ _ _ _ (sym (c.find.ensures c.args.glue) ∙ c.in-Some.is)) in
    let p = c.requires in
    (within, c.measure_to-margin.ensures.0, p.1, p.2, p.3)

pub returns-then-at-line : goal.returns-then-at-line
returns-then-at-line c =
    let k = c in
    class_ended _ _ _ _ _ _ _ _ (sym (k.find.ensures _) ∙ k.in-Some.is) c.measure_to-margin.ensures.1 c.behind_margin-indent.ensures c.if-at-line.true

pub returns : goal.returns
returns c =
    let k = c in
    class_shaped _ _ _ _ _ _ _ _ (sym (k.find.ensures _) ∙ k.in-Some.is) c.measure_to-margin.ensures.1 c.behind_margin-indent.ensures c.if-at-line.false
