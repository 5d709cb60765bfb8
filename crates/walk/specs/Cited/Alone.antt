-- What a value holds as a fact has one proof at most.
use Rattle.std.specs.Prelude.{Bool, List, [], ◌∷◌, ℕ}
use Rattle.std.specs.Coded.{×_prop, Unit-prop}
use Rattle.std.proofs.Props.{props}
use Rattle.options.specs.declared.Options.{Options}
use Rattle.lines.specs.Lines.{Line}
use Rattle.lines.specs.Cited.Places.{LinesSound}
use Rattle.pieces.specs.Cited.Bounds.{InkBegins, AllBegin}
use Rattle.pieces.specs.declared.Paragraph.{Paragraph}
use Rattle.paragraphs.specs.declared.Cursor.{Cursor}
use Rattle.walk.specs.Cited.Course.{CursorIn, TextAhead}

LinesSound-prop : (ls : List Line) → IsProp (LinesSound ls)
LinesSound-prop [] = Unit-prop
LinesSound-prop (l ∷ ls) = ×_prop (hlevel props) (LinesSound-prop ls)

InkBegins-prop : (glue : Bool) (start : ℕ) (text : List ℕ) → IsProp (InkBegins glue start text)
InkBegins-prop glue start text = hlevel props

AllBegin-prop : (glue : Bool) (start later : ℕ) (ls : List Line) → IsProp (AllBegin glue start later ls)
unfolding AllBegin
AllBegin-prop glue start later [] = Unit-prop
AllBegin-prop glue start later (l ∷ ls) = ×_prop (InkBegins-prop glue start l.text) (AllBegin-prop glue later later ls)

pub CursorIn-prop : (notes : List ℕ) (c : Cursor) → IsProp (CursorIn notes c)
CursorIn-prop notes c = hlevel (props, LinesSound-prop)

pub TextAhead-prop : (block : List ℕ) (o : Options) (notes : List ℕ) (c : Cursor) (p : Paragraph) → IsProp (TextAhead block o notes c p)
TextAhead-prop block o notes c p = hlevel (props, AllBegin-prop)
