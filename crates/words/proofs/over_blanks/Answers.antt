-- `words::over_blanks` meets its contract. Invariant: what is left of the blanks.
use mathlib.Core.Path.{sym, ◌∙◌}
use mathlib.Core.Bool.{true, false}
use Prim.Native.Nat.{◌+◌}
use native.Mathlib.Omega.{arith}
use borrow.Author.Rules.{rules}
use Rattle.text.proofs.Glyphs.{Here, blank_here}
use Rattle.words.proofs.BlankRuns.{blanks_first, blanks_more, blanks_done, blanks_one, no_blank, no_blank_begins}
use Rattle.lines.proofs.UsualBlanks.{tab_here}
use Rattle.words.proofs.over_blanks.Goals as goal

pub returns-then-is_one_space : goal.returns-then-is_one_space
returns-then-is_one_space c = λ glue. blanks_one (c.is_one_space.ensures c.if-is_one_space.true) (search rules)

pub loop-b-init : goal.loop-b-init
loop-b-init c = λ glue. blanks_first (search rules)

pub behind_blank-b-requires : goal.behind_blank-b-requires
behind_blank-b-requires c = let i = c.loop-b.invariant false in omega arith

pub loop-b-preserved-then-is_tab : goal.loop-b-preserved-then-is_tab
loop-b-preserved-then-is_tab c =
    let tab : Here true c.args.s.now c.loop-b.b.end 9 (c.loop-b.b.end + 1) = let t = c.is_tab.ensures c.if-is_tab.true in tab_here _ _ t.0 t.1 in
    λ glue. blanks_more _ _ (c.loop-b.invariant glue) (search rules) (tab) c.behind_blank-b.ensures.0 c.behind_blank-b.ensures.1

pub starts_ink-requires : goal.starts_ink-requires
starts_ink-requires c = let i = c.loop-b.invariant false in (i.within, search rules)

pub returns-then-starts_ink : goal.returns-then-starts_ink
returns-then-starts_ink c = λ glue. blanks_done _ (c.loop-b.invariant glue) (no_blank_begins _ _ _ (c.starts_ink.ensures c.if-starts_ink.true))

pub returns-in_default : goal.returns-in_default
returns-in_default c = λ glue. blanks_done _ (c.loop-b.invariant glue) (no_blank _ _ _ _ c.glyph_at.ensures (search rules))

pub behind_blank-b-requires-else-starts_ink : goal.behind_blank-b-requires-else-starts_ink
behind_blank-b-requires-else-starts_ink c = let i = c.loop-b.invariant false in omega arith

pub loop-b-smaller : goal.loop-b-smaller
loop-b-smaller c =
    let read : Here true c.args.s.now c.loop-b.b.end c.in-Blank.code c.in-Blank.next = blank_here _ _ _ _ (sym c.glyph_at.ensures ∙ c.in-Blank.is) in
    let h = read in omega (arith, c.behind_blank-b-else-starts_ink.ensures.0)

pub loop-b-preserved : goal.loop-b-preserved
loop-b-preserved c =
    let read : Here true c.args.s.now c.loop-b.b.end c.in-Blank.code c.in-Blank.next = blank_here _ _ _ _ (sym c.glyph_at.ensures ∙ c.in-Blank.is) in
    let h = read in λ glue. blanks_more _ _ (c.loop-b.invariant glue) (search rules) h c.behind_blank-b-else-starts_ink.ensures.0 c.behind_blank-b-else-starts_ink.ensures.1
