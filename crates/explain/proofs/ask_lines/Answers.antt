-- `explain::ask_lines` meets its contract.
use mathlib.Core.Path.{sym, ◌∙◌}
use mathlib.Core.List.{[]}
use native.Mathlib.Omega.{arith}
use Rattle.records.specs.Cited.Table.{words_in}
use Rattle.records.proofs.Table.{words_length}
use Rattle.records.proofs.Marks.{words_same}
use Rattle.explain.proofs.Asking.{asked_last, asked_behind, asked_before, before_some, before_within}
use Rattle.explain.proofs.Counting.{lines_within}
use Rattle.explain.proofs.ask_lines.Goals as goal

pub ending_before-requires : goal.ending_before-requires
ending_before-requires c =
    let p = c.requires in
    let a = c.args in
    let b = c.mark_breaks.ensures in
    let h = sym c.in-Before.is ∙ c.find_line.ensures in (
      p.0,
      p.1,
      p.2,
      record { held = omega (arith, p.3.held, b.sized); breaks = λ f. omega (arith, p.3.breaks f, b.sized) },
      λ i k. rw (b.words i k) (p.4 i k),
      before_some a.fast a.g a.line (words_in [] a.n a.work.now) _ (b.breaks []) _ h,
      omega (arith, words_length [] a.n a.work.now, lines_within a.fast a.g (words_in [] a.n a.work.now) _ (omega (arith, words_length [] a.n a.work.now, p.1)) (before_within a.fast a.g a.line (words_in [] a.n a.work.now) _ (b.breaks []) _ h)),
    )

pub returns-in-Last : goal.returns-in-Last
returns-in-Last c =
    let a = c.args in λ notes. asked_last a.fast a.g a.line (words_in notes a.n a.work.now) _ (c.mark_breaks.ensures.breaks notes) (sym c.in-Last.is ∙ c.find_line.ensures)

pub returns-in-Behind : goal.returns-in-Behind
returns-in-Behind c =
    let a = c.args in λ notes. asked_behind a.fast a.g a.line (words_in notes a.n a.work.now) _ (c.mark_breaks.ensures.breaks notes) _ (sym c.in-Behind.is ∙ c.find_line.ensures)

pub returns-in-Before : goal.returns-in-Before
returns-in-Before c =
    let a = c.args in
    let b = c.mark_breaks.ensures in
    λ notes. asked_before a.fast a.g a.line (words_in notes a.n a.work.now) _ (b.breaks notes) _ _ (sym c.in-Before.is ∙ c.find_line.ensures) (rw (words_same notes _ _ _ b.words) at (c.ending_before.ensures notes))
