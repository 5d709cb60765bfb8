-- `paragraphs::put_paragraph` meets its contract.
use mathlib.Core.Path.{sym, ◌∙◌}
use mathlib.Core.List.{[]}
use native.Mathlib.Omega.{arith}
use Rattle.options.specs.Opts.{meant}
use Rattle.paragraphs.specs.Breaks.{setting_of}
use Rattle.paragraphs.proofs.Streaming.{is_quick, by_bytes, fair, spaced, streamed}
use Rattle.paragraphs.proofs.put_paragraph.Goals as goal

pub put_quick-end-requires : goal.put_quick-end-requires
unfolding setting_of meant
put_quick-end-requires c =
    let q = c.requires in
    let l = q.0 in
    let e = c.setting_of.ensures [] in
    (l.order, l.within, omega (arith, l.short), l.tab_least, l.tab_most, l.begins, spaced _ _ _ _ l _ e, fair _ _ _ _ l _ e, l.first, l.indent, q.1, rw e l.first_small, rw e l.indent_small, rw e (omega (arith, l.width)))

pub returns : goal.returns
returns c =
    λ block.
    let q = c.requires in
    let e = sym c.if-not-is_streamed.false ∙ c.is_streamed.ensures in
    (by_bytes _ _ e, streamed _ _ _ _ q.0 (is_quick _ _ e) _ c.setting_of.ensures c.args.out.now c.args.written _ _ c.put_quick-end.ensures block)
