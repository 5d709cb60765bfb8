-- `lines::look_for` meets its contract. Invariant: looking from the place reached on finds what looking from the start does.
use mathlib.Core.Path.{◌≡◌, sym, ◌∙◌}
use mathlib.Core.Bool.{true}
use native.Mathlib.Omega.{arith}
use lib.ListN.{drop}
use borrow.Enum.Refused.{opened}
use Rattle.lists.specs.Runs.{begins}
use Rattle.lists.proofs.Fronts.{part_to_end}
use Rattle.text.proofs.Glyphs.{Here, blank_here, not_blank}
use Rattle.lines.proofs.Turns.{no_blank}
use Rattle.lines.proofs.Prefixes.{search_found, search_exact, search_stop, search_on}
use Rattle.lines.proofs.look_for.Goals as goal

pub returns-then-exact : goal.returns-then-exact
returns-then-exact c =
    let here : begins c.args.p.now (drop c.loop-exact.i c.args.line.now) ≡ c.begins.result = sym (rw part_to_end at c.begins.ensures) in
    λ glue.
    let b = here ∙ c.loop-exact-test.true in
    sym (search_exact _ _ _ _ _ b c.if-exact.true) ∙ c.loop-exact.invariant.1 glue

pub returns-in_default : goal.returns-in_default
returns-in_default c =
    let here : begins c.args.p.now (drop c.loop-exact.i c.args.line.now) ≡ c.begins.result = sym (rw part_to_end at c.begins.ensures) in
    λ glue.
    let i = c.loop-exact.invariant in
    let b = here ∙ c.loop-exact-test.true in
    let n = no_blank glue _ _ i.0 (not_blank _ _ _ c.glyph_at.ensures (opened c.in_default.in_default-own.keys2)) in
    sym (search_stop _ _ _ _ _ b n.none) ∙ i.1 glue

pub loop-exact-smaller : goal.loop-exact-smaller
loop-exact-smaller c =
    let read : Here true c.args.line.now c.loop-exact.i c.in-Blank.code c.in-Blank.next = blank_here _ _ _ _ (sym c.glyph_at.ensures ∙ c.in-Blank.is) in
    let h = read in omega (arith, h.on, h.within)

pub loop-exact-preserved : goal.loop-exact-preserved
loop-exact-preserved c =
    let read : Here true c.args.line.now c.loop-exact.i c.in-Blank.code c.in-Blank.next = blank_here _ _ _ _ (sym c.glyph_at.ensures ∙ c.in-Blank.is) in
    let here : begins c.args.p.now (drop c.loop-exact.i c.args.line.now) ≡ c.begins.result = sym (rw part_to_end at c.begins.ensures) in
    let b = here ∙ c.loop-exact-test.true in
    (read.within, λ glue. sym (search_on _ glue _ _ _ _ _ read b c.if-exact.false) ∙ c.loop-exact.invariant.1 glue)

pub returns : goal.returns
returns c =
    let here : begins c.args.p.now (drop c.loop-exact.i c.args.line.now) ≡ c.begins.result = sym (rw part_to_end at c.begins.ensures) in
    λ glue. sym (search_found _ _ _ _ _ (here ∙ c.loop-exact-test.false)) ∙ c.loop-exact.invariant.1 glue
