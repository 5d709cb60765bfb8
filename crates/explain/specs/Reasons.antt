-- RULES 13: the lines of the digest, each with the way it ended.
use Rattle.std.specs.Prelude.{Bool, true, false, ◌||◌, List, [], ◌∷◌, ℕ}
use Rattle.lists.specs.Runs.{joined}
use Rattle.options.specs.Opts.{Opts}
use Rattle.pieces.specs.Pieces.{Piece, Kind, blank_line, plain_line, paragraph, Paragraph, pieces}
use Rattle.records.specs.Word.{Word}
use Rattle.words.specs.Words.{words_of}
use Rattle.spacing.specs.declared.Setting.{Setting}
use Rattle.endings.specs.declared.Ending.{Ending}
use Rattle.endings.specs.declared.Ending.TheVariants.{Plain, Blank}
use Rattle.endings.specs.Endings.{Next, endings}
use Rattle.quick.specs.QuickLines.{quick_lines}
use Rattle.knuth_plass.specs.BestLines.{best_lines}
use Rattle.paragraphs.specs.Breaks.{setting_of}

abbrev pub lines_by : Bool → Setting → List Word → List Next
lines_by quick g ws = elim quick [ true ↦ quick_lines g ws | false ↦ best_lines g ws ]

unfoldable pub paragraph_endings : Opts → Paragraph → List Ending
paragraph_endings o p =
    let g = setting_of o p.mail p.first.columns p.indent.columns in
    endings (lines_by (o.quick || p.mail) g (words_of o p))

unfoldable pub endings_of : Opts → Kind → List Ending
endings_of o blank_line = Blank ∷ []
endings_of o (plain_line line) = Plain ∷ []
endings_of o (paragraph p) = paragraph_endings o p

abbrev pub piece_endings : Opts → Piece → List Ending
piece_endings o piece = endings_of o piece.kind

unfoldable pub line_endings : Opts → List ℕ → List Ending
line_endings o notes = joined (piece_endings o) (pieces o notes)
