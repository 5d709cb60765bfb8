-- RULES 5: the notes as a list of pieces: blank lines, plain lines and paragraphs.
use Rattle.std.specs.Prelude.{Bool, true, false, cond, not, ◌&&◌, ◌||◌, List, [], ◌∷◌, ◌++◌, map, ℕ, suc, ◌+◌, leb, ltb, eqb, length, take, drop, replicate}
use Rattle.lists.specs.Walk.{Stride, walk}
use Rattle.lists.specs.Runs.{while, every, begins}
use Rattle.options.specs.Opts.{Opts, Text, absent, given}
use Rattle.lines.specs.Lines.{Line, lines_of}
use Rattle.lines.specs.Classes.{classify}
use Rattle.lines.specs.declared.Shape.{Shape}
use Rattle.lines.specs.declared.Class.{Class}
use Rattle.lines.specs.declared.Class.TheVariants.{Blank, Plain, Formatted}

-- an indent: its bytes and its columns
pub record Indent : Type 0 where
  pub bytes : List ℕ
  pub columns : ℕ

-- a paragraph's line: its text and where its words begin, the indent's end
pub record Row : Type 0 where
  pub text : List ℕ
  pub start : ℕ

pub record Paragraph : Type 0 where
  pub mail : Bool
  pub first : Indent
  pub indent : Indent
  pub rows : List Row

pub data Kind : Type 0 where
  blank_line : Kind
  plain_line : List ℕ → Kind
  paragraph : Paragraph → Kind

-- a piece: what it is, and the lines of the notes that it takes
pub record Piece : Type 0 where
  pub kind : Kind
  pub lines : List Line

-- ---- mail

unfoldable pub from_word : List ℕ
from_word = 70 ∷ 114 ∷ 111 ∷ 109 ∷ 32 ∷ []

abbrev pub no_colon : ℕ → Bool
no_colon b = not (eqb b 58)

abbrev pub printable : ℕ → Bool
printable b = leb 33 b && leb b 126

-- a line starts `From `, or its first colon is not its first byte and has only bytes 33 to 126 before it
unfoldable pub header_text : List ℕ → Bool
header_text line =
    let name = while no_colon line in
    begins from_word line || (ltb (length name) (length line) && ltb 0 (length name) && every printable name)

-- a mail paragraph starts here: flag set, next-mail true, indent end 0
unfoldable pub starts_mail : Bool → Bool → Shape → List ℕ → Bool
starts_mail mail nextMail s line = mail && nextMail && eqb s.indent_end 0 && header_text line

abbrev pub not_at_start : Text → Shape → Bool
not_at_start absent s = true
not_at_start (given p) s = ltb 0 s.prefix_place

-- it continues with lines whose indent end is above 0 and, if a prefix is given, whose prefix place is above 0
unfoldable pub continues : Opts → Shape → Bool
continues o s = ltb 0 s.indent_end && not_at_start o.prefix s

-- ---- plain, crown and tagged

-- plain: further lines agree in indent end, prefix place, indent length and prefix length
unfoldable pub agrees : Shape → Shape → Bool
agrees a b = eqb a.indent_end b.indent_end && eqb a.prefix_place b.prefix_place && eqb a.indent_length b.indent_length && eqb a.prefix_length b.prefix_length

-- crown: the second line must agree in prefix place and prefix length; tagged: and have another indent end or indent length
unfoldable pub second_rule : Bool → Shape → Shape → Bool
second_rule tagged a b = eqb a.prefix_place b.prefix_place && eqb a.prefix_length b.prefix_length && not (tagged && eqb a.indent_end b.indent_end && eqb a.indent_length b.indent_length)

-- ---- how far a paragraph reaches

-- A paragraph takes only lines of the formatted kind; any other ends it. How many of the lines that follow are of that kind and pass a test.
unfoldable pub follow : Opts → (Shape → Bool) → List Line → ℕ
follow o test [] = 0
follow o test (l ∷ ls) =
    elim (classify o l.text) [ Blank ↦ 0 | Plain ↦ 0 | Formatted s ↦ elim (test s) [ true ↦ suc (follow o test ls) | false ↦ 0 ] ]

-- the second line of a crown or tagged paragraph, if there is one
pub data Second : Type 0 where
  alone : Second
  joins : List ℕ → Shape → Second

abbrev pub second_as : Opts → Shape → List ℕ → Class → Second
second_as o a text Blank = alone
second_as o a text Plain = alone
second_as o a text (Formatted b) = cond (second_rule o.tagged a b) (joins text b) alone

unfoldable pub second_of : Opts → Shape → List Line → Second
second_of o a [] = alone
second_of o a (l ∷ ls) = second_as o a l.text (classify o l.text)

-- later lines follow the plain rule, with the second line
abbrev pub follow_second : Opts → List Line → Second → ℕ
follow_second o ls alone = 0
follow_second o ls (joins text b) = suc (follow o (agrees b) (drop 1 ls))

-- the count of lines after the first. Split: one line each
unfoldable pub further : Opts → Bool → Shape → List Line → ℕ
further o mail a ls =
    elim o.split [
      | true ↦ 0
      | false ↦ elim mail [
        | true ↦ follow o (continues o) ls
        | false ↦ elim (o.crown || o.tagged) [ true ↦ follow_second o ls (second_of o a ls) | false ↦ follow o (agrees a) ls ]
      ]
    ]

-- ---- indents

unfoldable pub indent_of : List ℕ → Shape → Indent
indent_of text s = record { bytes = take s.indent_end text; columns = s.indent_length }

abbrev pub widened : Indent → ℕ → Indent
widened i n = record { bytes = i.bytes ++ replicate n 32; columns = i.columns + n }

abbrev pub no_indent : Indent
no_indent = record { bytes = []; columns = 0 }

-- the second line sets the indent; with one line it is the first's, in tagged mode with four spaces more
abbrev pub later_indent : Opts → Indent → Second → Indent
later_indent o first alone = widened first (cond o.tagged 4 0)
later_indent o first (joins text b) = indent_of text b

-- mail: no first indent, and two spaces
unfoldable pub first_indent : Bool → List ℕ → Shape → Indent
first_indent mail text s = cond mail no_indent (indent_of text s)

unfoldable pub indent_for : Opts → Bool → List ℕ → Shape → List Line → Indent
indent_for o mail text s ls =
    elim mail [
      | true ↦ widened no_indent 2
      | false ↦ elim (o.crown || o.tagged) [ true ↦ later_indent o (indent_of text s) (second_of o s ls) | false ↦ indent_of text s ]
    ]

-- ---- pieces

-- the indent end of a formatted line; a paragraph has lines of no other class, so the other two are not reached
abbrev pub start_as : Class → ℕ
start_as Blank = 0
start_as Plain = 0
start_as (Formatted s) = s.indent_end

unfoldable pub row_of : Opts → Line → Row
row_of o l = record { text = l.text; start = start_as (classify o l.text) }

unfoldable pub paragraph_at : Opts → Bool → Shape → Line → List Line → Stride Piece Bool
paragraph_at o nextMail s l ls =
    let mail = starts_mail o.mail nextMail s l.text in
    let n = further o mail s ls in
    let taken = l ∷ take n ls in
    let p : Paragraph = record {
      mail = mail;
      first = first_indent mail l.text s;
      indent = indent_for o mail l.text s ls;
      rows = map (row_of o) taken;
    } in
    record { item = record { kind = paragraph p; lines = taken }; besides = n; state = mail }

-- a blank line sets next-mail true, a plain line false; next-mail after a paragraph tells whether it was mail
abbrev pub piece_as : Opts → Bool → Line → List Line → Class → Stride Piece Bool
piece_as o nextMail l ls Blank = record { item = record { kind = blank_line; lines = l ∷ [] }; besides = 0; state = true }
piece_as o nextMail l ls Plain = record { item = record { kind = plain_line l.text; lines = l ∷ [] }; besides = 0; state = false }
piece_as o nextMail l ls (Formatted s) = paragraph_at o nextMail s l ls

-- (a stride is asked of a list that has an element, so [] is not reached)
unfoldable pub next_piece : Opts → Bool → List Line → Stride Piece Bool
next_piece o nextMail [] = record { item = record { kind = blank_line; lines = [] }; besides = 0; state = nextMail }
next_piece o nextMail (l ∷ ls) = piece_as o nextMail l ls (classify o l.text)

-- next-mail starts true
unfoldable pub pieces : Opts → List ℕ → List Piece
pieces o notes = walk (next_piece o) true (lines_of notes)
