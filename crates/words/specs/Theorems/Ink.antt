-- The ink of a paragraph's line: the bytes of its non-blank glyphs, in order.
use Rattle.std.specs.Prelude.{Bool, cond, List, [], ℕ}
use Rattle.lists.specs.Runs.{joined}
use Rattle.text.specs.Characters.{Glyph, glyphs}
use Rattle.options.specs.Opts.{Opts}
use Rattle.lines.specs.Classes.{glyphs_from}
use Rattle.pieces.specs.Pieces.{Row}

abbrev pub ink_of : Glyph → List ℕ
ink_of g = cond g.blank [] g.bytes

-- at or after the indent's end; of a mail paragraph's line, anywhere
abbrev pub row_ink : Opts → Bool → Row → List ℕ
row_ink o mail row = let gs = glyphs o.glue row.text in joined ink_of (cond mail gs (glyphs_from row.start gs))
