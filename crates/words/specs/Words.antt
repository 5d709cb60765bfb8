-- RULES 6.1 to 6.3: the word records of a paragraph.
use Rattle.std.specs.Prelude.{Bool, true, false, cond, not, ◌&&◌, ◌||◌, List, [], ◌∷◌, ℕ, ◌+◌, ◌-◌, ltb, eqb, length, Option, Some, None}
use Rattle.lists.specs.Walk.{each}
use Rattle.lists.specs.Runs.{while, behind, joined}
use Rattle.text.specs.Characters.{Glyph, glyphs, is_blank, is_tab}
use Rattle.options.specs.Opts.{Opts}
use Rattle.lines.specs.Classes.{glyphs_from, next_stop}
use Rattle.pieces.specs.Pieces.{Row, Paragraph}
use Rattle.records.specs.Word.{Word}

-- ---- a line split at blanks

-- blanks, and the word after them; blanks at a line's end have none
pub record Run : Type 0 where
  pub blanks : List Glyph
  pub text : List Glyph

abbrev pub is_ink : Glyph → Bool
is_ink g = not g.blank

unfoldable pub run_of : List Glyph → Run
run_of gs = record { blanks = while is_blank gs; text = while is_ink (behind is_blank gs) }

unfoldable pub runs : List Glyph → List Run
runs = each (λ gs. let r = run_of gs in length r.blanks + length r.text - 1) run_of

abbrev pub glyph_bytes : Glyph → List ℕ
glyph_bytes g = g.bytes

unfoldable pub bytes_of : List Glyph → List ℕ
bytes_of = joined glyph_bytes

unfoldable pub width_sum : List Glyph → ℕ
width_sum [] = 0
width_sum (g ∷ gs) = g.width + width_sum gs

-- ---- the counts of a gap

pub record Gap : Type 0 where
  pub before : Option ℕ
  pub after : ℕ

-- blanks count 1; the first tab parts the counts; a second or later tab rounds the after count up to the next stop
abbrev pub gap_tab : ℕ → Option ℕ → ℕ → Gap
gap_tab tab None after = record { before = Some after; after = 0 }
gap_tab tab (Some n) after = record { before = Some n; after = next_stop tab after }

unfoldable pub gap_from : ℕ → Gap → List Glyph → Gap
gap_from tab g [] = g
gap_from tab g (b ∷ bs) = gap_from tab (cond (is_tab b) (gap_tab tab g.before g.after) (record { before = g.before; after = g.after + 1 })) bs

abbrev pub no_gap : Gap
no_gap = record { before = None; after = 0 }

unfoldable pub gap_of : ℕ → List Glyph → Gap
gap_of tab bs = gap_from tab no_gap bs

abbrev pub has_tab : Option ℕ → Bool
has_tab None = false
has_tab (Some n) = true

-- ---- the marks

-- `!`, `.` and `?`
abbrev pub is_punct : Glyph → Bool
is_punct g = eqb g.code 33 || eqb g.code 46 || eqb g.code 63

-- ends-punct: by the last character
unfoldable pub punct_at_end : List Glyph → Bool
punct_at_end [] = false
punct_at_end (g ∷ []) = is_punct g
punct_at_end (g ∷ h ∷ gs) = punct_at_end (h ∷ gs)

-- the counting rule, by which blanks are counted where sentences part: by bytes, or by characters if the options say so (RULES 6.2)
unfoldable pub counting : Bool → List Glyph → ℕ
counting by_characters bs = cond by_characters (length bs) (length (bytes_of bs))

-- a gap that can part two sentences: a tab, or more than one blank by the counting rule
unfoldable pub wide_gap : (List Glyph → ℕ) → ℕ → List Glyph → Bool
wide_gap count tab bs = has_tab (gap_of tab bs).before || ltb 1 (count bs)

-- the record of a word; uniform drops blanks and tab counts
unfoldable pub word_of : (List Glyph → ℕ) → Opts → Bool → Bool → Run → Word
word_of count o new_line previousPunct r =
    let gap = cond o.uniform no_gap (gap_of o.tab r.blanks) in
    record {
      blanks = cond o.uniform [] (bytes_of r.blanks);
      text = bytes_of r.text;
      width = width_sum r.text;
      before = gap.before;
      after = gap.after;
      new_line = new_line;
      ends_punct = punct_at_end r.text;
      sentence_start = previousPunct && wide_gap count o.tab r.blanks;
    }

-- the words of a line: the first is marked new-line; a word may start a sentence if the one before it on its line ends in punctuation
unfoldable pub line_words : (List Glyph → ℕ) → Opts → Bool → Bool → List Run → List Word
line_words count o new_line previousPunct [] = []
line_words count o new_line previousPunct (r ∷ rs) =
    elim r.text as (λ t. List Word) [ [] ↦ [] | g ∷ (gs → h) ↦ word_of count o new_line previousPunct r ∷ line_words count o false (punct_at_end r.text) rs ]

-- mail: length in bytes, no other marks
unfoldable pub mail_word : Run → Word
mail_word r = record {
  blanks = [];
  text = bytes_of r.text;
  width = length (bytes_of r.text);
  before = None;
  after = 0;
  new_line = false;
  ends_punct = false;
  sentence_start = false;
}

unfoldable pub mail_words : List Run → List Word
mail_words [] = []
mail_words (r ∷ rs) = elim r.text as (λ t. List Word) [ [] ↦ [] | g ∷ (gs → h) ↦ mail_word r ∷ mail_words rs ]

-- a line is split from its indent end; a mail paragraph's lines whole
unfoldable pub row_words : Opts → Bool → Row → List Word
row_words o mail row =
    let gs = glyphs o.glue row.text in
    elim mail [ true ↦ mail_words (runs gs) | false ↦ line_words (counting o.by_characters) o true false (runs (glyphs_from row.start gs)) ]

unfoldable pub words_of : Opts → Paragraph → List Word
words_of o p = joined (row_words o p.mail) p.rows
