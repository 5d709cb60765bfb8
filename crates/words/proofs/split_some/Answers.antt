-- `words::split_some` meets its contract. Invariant: the words in the table, with those of what is left of the line, are all the words.
use mathlib.Core.Path.{refl, sym, ◌∙◌}
use mathlib.Core.Bool.{false≢true, true≢false}
use mathlib.Core.List.{[]}
use native.Mathlib.Omega.{arith}
use lib.ListN.{take}
use lib.Seq.{length-take-le}
use borrow.Author.Rules.{rules}
use Rattle.options.specs.Opts.{meant}
use Rattle.words.specs.Cited.Scan.{NextWord}
use Rattle.words.proofs.Filling.{filling_more}
use Rattle.words.proofs.split_some.Goals as goal

pub returns : goal.returns
unfolding meant
returns c =
    let e = rw c.in_default.is at c.next_word.ensures in
    let i = c.loop-w.invariant in
    let f = i.1 in
    let l = length-take-le c.args.end c.args.notes.now c.requires.1 in
    record { on = i.3; to = omega (arith, l, i.0); gained = i.4; kept = f.kept; words = f.words; places = f.places; ink = i.2; done = λ m. (e.0, e.1); left = λ m. absurd (false≢true (sym i.5 ∙ m)) }

pub returns-then-most-r : goal.returns-then-most-r
unfolding meant
returns-then-most-r c =
    let w : NextWord (meant [] c.args.o) c.args.mail c.loop-w.r.first c.loop-w.r.punct (take c.args.end c.args.notes.now) c.loop-w.r.at c.in-Some.w = rw c.in-Some.is at c.next_word.ensures in
    let i = c.loop-w.invariant in
    let f = i.1 in
    let l = length-take-le c.args.end c.args.notes.now c.requires.1 in
    record { on = i.3; to = omega (arith, l, i.0); gained = i.4; kept = f.kept; words = f.words; places = f.places; ink = i.2; done = λ m. absurd (true≢false m); left = λ m. (c.if-most-r.true, rw w.first (omega arith)) }

pub loop-w-preserved : goal.loop-w-preserved
loop-w-preserved c =
    let w : NextWord (meant [] c.args.o) c.args.mail c.loop-w.r.first c.loop-w.r.punct (take c.args.end c.args.notes.now) c.loop-w.r.at c.in-Some.w = rw c.in-Some.is at c.next_word.ensures in
    let i = c.loop-w.invariant in
    (w.within.end, rw c.store.ensures (filling_more i.1 c.args.end _ w.first w.place (search rules) w.within w.narrow), λ e. absurd (false≢true e), omega (arith, w.on, i.3), omega (arith, w.on, i.4), refl)
