-- `lines::classify` meets its contract, test by test.
use mathlib.Core.Path.{◌≡◌, sym, ◌∙◌}
use mathlib.Core.Bool.{true, false}
use borrow.Author.Tests.{not-true, not-false}
use Rattle.lists.specs.Runs.{every}
use Rattle.lists.proofs.Fronts.{part_between}
use Rattle.text.specs.Characters.{glyphs, is_blank, is_good}
use Rattle.options.specs.Opts.{meant}
use Rattle.lines.proofs.Classes.{class_blank, class_damaged, class_skipped, class_bare, class_given}
use Rattle.lines.proofs.Spaces.{spaces_blank}
use Rattle.lines.proofs.classify.Goals as goal

pub returns-then-is_all_blank : goal.returns-then-is_all_blank
unfolding meant
returns-then-is_all_blank c =
    let blank : every is_blank (glyphs c.args.o.glue c.args.line.now) ≡ c.is_all_blank.result = sym (spaces_blank _ _ c.run_end-from.ensures _) ∙ sym (c.is_all_blank.ensures _) in
    class_blank _ _ (blank ∙ c.if-is_all_blank.true)

pub returns-then-is_damaged : goal.returns-then-is_damaged
unfolding meant
returns-then-is_damaged c =
    let blank : every is_blank (glyphs c.args.o.glue c.args.line.now) ≡ c.is_all_blank.result = sym (spaces_blank _ _ c.run_end-from.ensures _) ∙ sym (c.is_all_blank.ensures _) in
    let ink : every is_blank (glyphs c.args.o.glue c.args.line.now) ≡ false = blank ∙ c.if-is_all_blank.false in
    class_damaged _ _ (ink) (not-true _ (sym (c.is_damaged.ensures _) ∙ c.if-is_damaged.true))

pub returns-then-is_skipped : goal.returns-then-is_skipped
unfolding meant
returns-then-is_skipped c =
    let blank : every is_blank (glyphs c.args.o.glue c.args.line.now) ≡ c.is_all_blank.result = sym (spaces_blank _ _ c.run_end-from.ensures _) ∙ sym (c.is_all_blank.ensures _) in
    let ink : every is_blank (glyphs c.args.o.glue c.args.line.now) ≡ false = blank ∙ c.if-is_all_blank.false in
    let good : every is_good (glyphs c.args.o.glue c.args.line.now) ≡ true = not-false _ (sym (c.is_damaged.ensures _) ∙ c.if-is_damaged.false) in
    class_skipped _ _ ink good (sym (c.is_skipped.ensures _) ∙ c.if-is_skipped.true)

pub returns-in_default : goal.returns-in_default
unfolding meant
returns-in_default c =
    let blank : every is_blank (glyphs c.args.o.glue c.args.line.now) ≡ c.is_all_blank.result = sym (spaces_blank _ _ c.run_end-from.ensures _) ∙ sym (c.is_all_blank.ensures _) in
    let ink : every is_blank (glyphs c.args.o.glue c.args.line.now) ≡ false = blank ∙ c.if-is_all_blank.false in
    let good : every is_good (glyphs c.args.o.glue c.args.line.now) ≡ true = not-false _ (sym (c.is_damaged.ensures _) ∙ c.if-is_damaged.false) in
    class_bare _ _ ink good (sym (c.is_skipped.ensures _) ∙ c.if-is_skipped.false) _ (rw c.in_default.is) (c.lead_of-lead.ensures _)

pub returns : goal.returns
unfolding meant
returns c =
    let blank : every is_blank (glyphs c.args.o.glue c.args.line.now) ≡ c.is_all_blank.result = sym (spaces_blank _ _ c.run_end-from.ensures _) ∙ sym (c.is_all_blank.ensures _) in
    let ink : every is_blank (glyphs c.args.o.glue c.args.line.now) ≡ false = blank ∙ c.if-is_all_blank.false in
    let good : every is_good (glyphs c.args.o.glue c.args.line.now) ≡ true = not-false _ (sym (c.is_damaged.ensures _) ∙ c.if-is_damaged.false) in
    let lies = rw c.in-Some.is at c.requires.0.prefix in
    class_given _ _ ink good (sym (c.is_skipped.ensures _) ∙ c.if-is_skipped.false) _ _ (rw c.in-Some.is) (rw (part_between _ _ _ lies.0) at c.behind_prefix.ensures)
