-- RULES 13: reasons worked out by the definition, of every line one after the other: the kind and five numbers.
use Rattle.std.specs.Prelude.{◌≡◌, refl, List, [], ◌∷◌, ◌++◌, ℕ, ◌+◌, ◌*◌, ◌^◌, Result, Ok, Err}
use Prim.Native.String.{String}
use Rattle.lists.specs.Runs.{joined}
use Rattle.lists.specs.Trials.Bytes.{bytes}
use Rattle.options.specs.Opts.{meant}
use Rattle.options.specs.OptionBlock.{read_block}
use Rattle.options.specs.declared.Options.{Options}
use Rattle.options.specs.declared.Fault.{Fault}
use Rattle.endings.specs.declared.Ending.{Ending}
use Rattle.endings.specs.Endings.{numbers_of, breaks, endings}
use Rattle.quick.specs.QuickLines.{quick_lines_from, quick_lines}
use Rattle.knuth_plass.specs.BestLines.{offering, chosen_of, maker, makers_from, makers_of, next_at, nexts_from, best_lines}
use Rattle.explain.specs.Reasons.{paragraph_endings, endings_of, line_endings}
use Rattle.lists.specs.Coded.{numbered}
use Rattle.formatter.specs.Format.{own_room}
use Rattle.explain.specs.Explain.{explaining, explain_coded}
use Rattle.rudignals.specs.Trials.Computing.{everything}
use Rattle.rudignals.specs.Trials.MarkedTexts.{none, flags, width10}

unfoldable reasons : Unit {0}
unfolding numbers_of breaks endings quick_lines_from quick_lines offering chosen_of maker makers_from makers_of next_at nexts_from best_lines paragraph_endings endings_of line_endings explaining numbered
reasons = tt

abbrev told_by : List ℕ → List ℕ → Result Options Fault → List ℕ
told_by block notes (Err f) = []
told_by block notes (Ok o) = joined (λ (e : Ending). numbers_of e) (line_endings (meant block o) notes)

abbrev told : List ℕ → String → List ℕ
told block notes = told_by block (bytes notes) (read_block block)

abbrev end : List ℕ
end = 0 ∷ 0 ∷ 0 ∷ 0 ∷ 0 ∷ 0 ∷ []

-- the example of RULES 13: width 8, uniform; line 1 is `ccc`, three columns, and t is 4
pub the_paper's_example : told (flags 0 16 ++ 2 ∷ 0 ∷ 2 ∷ 0 ∷ 8 ∷ []) "aaa bbb ccc ddd eee fff ggg\n"
    ≡ 4 ∷ 7 ∷ 29 ∷ 0 ∷ 22 ∷ 2704 ∷ 4 ∷ 4 ∷ 3 ∷ 0 ∷ 75 ∷ 6241 ∷ 4 ∷ 4 ∷ 3 ∷ 0 ∷ 0 ∷ 16 ∷ 4 ∷ 4 ∷ 3 ∷ 0 ∷ 0 ∷ 16 ∷ end
unfolding everything reasons
the_paper's_example = refl

pub would_not_fit : told (flags 0 32 ++ width10) "aaaa bbbbbb c\n\n" ≡ 3 ∷ 4 ∷ 1 ∷ 0 ∷ 6 ∷ 0 ∷ end ++ 2 ∷ 0 ∷ 0 ∷ 0 ∷ 0 ∷ 0 ∷ []
unfolding everything reasons
would_not_fit = refl

pub forced_before : told width10 "aaaa bbbbbbb c\n" ≡ 5 ∷ 0 ∷ 0 ∷ 0 ∷ 0 ∷ 0 ∷ end
unfolding everything reasons
forced_before = refl

pub forced_after : told width10 "aa bbbbbbbb c\n" ≡ 6 ∷ 0 ∷ 0 ∷ 0 ∷ 0 ∷ 0 ∷ end
unfolding everything reasons
forced_after = refl

pub no_line : numbered (explain_coded (explaining own_room none (bytes "a\n") 1)) ≡ 8 * 2 ^ 32 + 1
unfolding everything reasons
no_line = refl
