-- `words::spaced_word` meets its contract: a word after one space, or any.
use Rattle.std.proofs.Common.{◌≡◌, ◌<◌, length, get_or}
use Rattle.std.proofs.lemmas.Grind.{common_steps}
use Rattle.std.proofs.lemmas.Option.{gets}
use mathlib.Core.List.{[]}
use native.Mathlib.Omega.{arith}
use Rattle.options.specs.Opts.{meant}
use Rattle.words.proofs.SpacedWords.{near_next}
use Rattle.words.proofs.spaced_word.Goals as goal

pub returns-in-Some : goal.returns-in-Some
unfolding meant
returns-in-Some c =
    let a = c.args in
    let here : a.at < length a.s.now = grind (arith, common_steps, gets) in
    let space : get_or a.s.now a.at 0 ≡ 32 = grind (arith, common_steps, gets) in
    near_next (meant [] a.o) a.first a.previous a.s.now a.at c.in-Some.end c.near_word.result c.if-not-first.true here space c.in-Some.ensures (c.near_word.ensures (meant [] a.o).by_characters a.previous)
