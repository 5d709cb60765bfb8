-- What a paragraph answers that is asked for a line.
use Rattle.std.specs.Prelude.{◌≡◌, Bool, true, false, cond, List, ℕ, ◌-◌, ltb, length, get_or}
use Rattle.records.specs.Word.{Word}
use Rattle.spacing.specs.declared.Setting.{Setting}
use Rattle.endings.specs.declared.Ending.{Ending}
use Rattle.endings.specs.declared.Ending.TheVariants.{Paragraph}
use Rattle.endings.specs.Endings.{endings}
use Rattle.quick.specs.QuickLines.{quick_lines}
use Rattle.knuth_plass.specs.Cited.Makers.{ending_before}
use Rattle.explain.specs.declared.Asked.{Asked}
use Rattle.explain.specs.declared.Asked.TheVariants.{Told, Behind}

-- by quick the line itself is asked for, by Knuth-Plass the word before which it ends
abbrev pub EndsSo : Bool → Setting → ℕ → ℕ → List Word → Ending → Type 0
EndsSo true g line e ws r = r ≡ get_or (endings (quick_lines g ws)) line Paragraph
EndsSo false g line e ws r = r ≡ ending_before g e ws

-- after lines that ended so: the line asked for was one of them, or it stands so many fewer lines after
unfoldable pub passed : List Ending → Asked → Asked
passed es (Told e) = Told e
passed es (Behind left) = cond (ltb left (length es)) (Told (get_or es left Paragraph)) (Behind (left - length es))
