-- `lines::over_blanks` meets its contract. Invariant: going on over what blanks are left leads where going over them all does.
use mathlib.Core.Path.{sym, ◌∙◌}
use mathlib.Core.Bool.{Bool, true, false}
use native.Mathlib.Omega.{arith}
use borrow.Enum.Refused.{opened}
use Rattle.text.proofs.Glyphs.{Here, blank_here, not_blank}
use Rattle.lines.specs.declared.Spot.{Spot}
use Rattle.lines.proofs.Measures.{behind_char}
use Rattle.lines.proofs.Turns.{no_blank, blanks_tabs, blanks_last}
use Rattle.lines.proofs.over_blanks.Goals as goal

pub returns-in_default : goal.returns-in_default
returns-in_default c = λ glue.
    let i = c.loop-code.invariant in
    blanks_last i.0 (no_blank glue _ _ i.0.place (not_blank _ _ _ c.glyph_at.ensures (opened c.in_default.in_default-own.keys2))) (i.1 glue)

pub behind_tabs-end-requires : goal.behind_tabs-end-requires
behind_tabs-end-requires c =
    let read : Here true c.args.line.now c.loop-code.spot.at c.in-Blank.code c.in-Blank.next = blank_here _ _ _ _ (sym c.glyph_at.ensures ∙ c.in-Blank.is) in
    (read).within

pub loop-code-smaller : goal.loop-code-smaller
loop-code-smaller c =
    let read : Here true c.args.line.now c.loop-code.spot.at c.in-Blank.code c.in-Blank.next = blank_here _ _ _ _ (sym c.glyph_at.ensures ∙ c.in-Blank.is) in
    let h = read in let t = c.behind_tabs-end.ensures.run in omega (arith, h.on, t.on, t.within)

pub loop-code-preserved : goal.loop-code-preserved
loop-code-preserved c =
    let h : Here true c.args.line.now c.loop-code.spot.at c.in-Blank.code c.in-Blank.next = blank_here _ _ _ _ (sym c.glyph_at.ensures ∙ c.in-Blank.is) in
    let p = c.requires in
    let i = c.loop-code.invariant in
    let r : Spot = record { at = c.in-Blank.next; column = c.column_behind.result } in
    let spot = λ (glue : Bool). blanks_tabs {r = r} _ p.2 p.3 (behind_char _ _ _ r i.0 h c.column_behind.ensures.0 c.column_behind.ensures.1) h c.column_behind.ensures.0 c.behind_tabs-end.ensures (i.1 glue) in
    ((spot false).0, λ glue. (spot glue).1)
