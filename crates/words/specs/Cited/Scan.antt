-- How the code's answers at a place of a text mean what the definitions say of the glyphs from there on.
use Rattle.std.specs.Prelude.{◌≡◌, Bool, true, false, cond, ◌&&◌, ◌||◌, List, [], ◌∷◌, ℕ, ◌+◌, ◌-◌, ◌*◌, ◌≤◌, ◌<◌, ltb, eqb, length, get_or, drop, Some, None, Option}
use Rattle.lists.specs.Runs.{while, behind}
use Rattle.text.specs.Characters.{Glyph, glyph, glyphs, is_blank, extent}
use Rattle.text.specs.Cited.Places.{ink_glyphs, glued_extent}
use Rattle.options.specs.Opts.{Opts}
use Rattle.records.specs.Word.{Word, meaning}
use Rattle.records.specs.Cited.Table.{before_number, Within}
use Rattle.records.specs.declared.Word.{Word as Record}
use Rattle.words.specs.Words.{is_ink, runs, width_sum, Gap, gap_tab, gap_of, has_tab, punct_at_end, counting, line_words, mail_words}
use Rattle.words.specs.Places.{places_from}
use Rattle.words.specs.declared.Blanks.{Blanks}
use Rattle.words.specs.declared.Ink.{Ink}

-- the glyphs of a line's rest, that is after ink or not
abbrev pub glyphs_behind : Bool → Bool → List ℕ → List Glyph
glyphs_behind glue true xs = ink_glyphs glue xs
glyphs_behind glue false xs = glyphs glue xs

-- the counts that the code found
abbrev pub gap_in : Blanks → Gap
gap_in b = record { before = b.before; after = b.after }

-- the counts with one blank more, by its code
abbrev pub gap_behind : ℕ → ℕ → Gap → Gap
gap_behind tab code g = cond (eqb code 9) (gap_tab tab g.before g.after) (record { before = g.before; after = g.after + 1 })

-- no blank is at a place
abbrev pub no_blanks : ℕ → Blanks
no_blanks at = record { end = at; before = None; after = 0 }

-- r is what stands of blanks at a place, after ink or not; after it a word may begin
pub record OverBlanks (glue : Bool) (tab : ℕ) (ink : Bool) (s : List ℕ) (at : ℕ) (r : Blanks) : Type 0 where
  pub end : r.end ≡ at + extent (while is_blank (glyphs_behind glue ink (drop at s)))
  pub gap : gap_in r ≡ gap_of tab (while is_blank (glyphs_behind glue ink (drop at s)))
  pub rest : ink_glyphs glue (drop r.end s) ≡ behind is_blank (glyphs_behind glue ink (drop at s))
  pub within : r.end ≤ length s
  pub before : before_number r.before ≤ 100 * length s
  pub after : r.after ≤ 100 * length s

abbrev pub punct_code : ℕ → Bool
punct_code code = eqb code 33 || eqb code 46 || eqb code 63

-- how many bytes of U+00A0 go on with a word
abbrev pub glued_bytes : Bool → List Glyph → ℕ
glued_bytes glue gs = cond glue (glued_extent gs) 0

-- r is what stands of ink at a place, where a word begins or goes on; a damaged byte is ink
pub record OverInk (glue : Bool) (s : List ℕ) (at : ℕ) (r : Ink) : Type 0 where
  pub end : r.end ≡ at + extent (while is_ink (ink_glyphs glue (drop at s)))
  pub width : r.width ≡ width_sum (while is_ink (ink_glyphs glue (drop at s)))
  pub punct : r.punct ≡ punct_at_end (while is_ink (ink_glyphs glue (drop at s)))
  pub rest : glyphs glue (drop r.end s) ≡ behind is_ink (ink_glyphs glue (drop at s))
  pub within : r.end ≤ length s
  pub narrow : r.width ≤ r.end

-- plain characters, ASCII from `!` on, stand from a place up to another
pub record Plain (s : List ℕ) (from to : ℕ) : Type 0 where
  pub on : from ≤ to
  pub within : to ≤ length s
  pub least : (i : ℕ) → from ≤ i → i < to → 33 ≤ get_or s i 0
  pub most : (i : ℕ) → from ≤ i → i < to → get_or s i 0 < 128

-- a character that is no blank, or a damaged byte, is at a place
pub record InkBegins (s : List ℕ) (at : ℕ) : Type 0 where
  pub within : at < length s
  pub ink : (glyph (drop at s)).blank ≡ false

-- a space is at a place, and no blank after it
pub record OneSpace (s : List ℕ) (at : ℕ) : Type 0 where
  pub space : get_or s at 0 ≡ 32
  pub behind : InkBegins s (at + 1)

-- r is the ink w with plain characters after it
pub record OverPlain (s : List ℕ) (w r : Ink) : Type 0 where
  pub run : Plain s w.end r.end
  pub on : w.end < r.end
  pub width : r.width ≡ w.width + (r.end - w.end)
  pub punct : r.punct ≡ punct_code (get_or s (r.end - 1) 0)

-- the record of a word after blanks that begin at a place; uniform drops them and their counts. Without a tab the after count has every blank
abbrev pub word_at : Bool → Bool → Bool → Bool → ℕ → Blanks → Ink → Record
word_at uniform characters first previous at b w = record {
  from = cond uniform b.end at;
  start = b.end;
  end = w.end;
  width = w.width;
  before = cond uniform None b.before;
  after = cond uniform 0 b.after;
  first = first;
  punct = w.punct;
  sentence = previous && (has_tab b.before || ltb 1 (cond characters b.after (b.end - at)));
}

-- mail: the width in bytes, no blanks and no marks
abbrev pub mail_at : ℕ → ℕ → Record
mail_at start end = record { from = start; start = start; end = end; width = end - start; before = None; after = 0; first = false; punct = false; sentence = false }

-- the words of the glyphs that are left of a line: whether the next is its first, and whether the one before it ends in punctuation
unfoldable pub words_from : Opts → Bool → Bool → Bool → List Glyph → List Word
words_from o true new_line previousPunct gs = mail_words (runs gs)
words_from o false new_line previousPunct gs = line_words (counting o.by_characters) o new_line previousPunct (runs gs)

-- w is the next word at a place; the first of its line begins there, and after others there are blanks
pub record NextWord (o : Opts) (mail new_line previousPunct : Bool) (s : List ℕ) (at : ℕ) (w : Record) : Type 0 where
  pub first : words_from o mail new_line previousPunct (glyphs_behind o.glue new_line (drop at s)) ≡ meaning s w ∷ words_from o mail false w.punct (glyphs o.glue (drop w.end s))
  pub place : places_from at (runs (glyphs_behind o.glue new_line (drop at s))) ≡ w.start ∷ places_from w.end (runs (glyphs o.glue (drop w.end s)))
  pub within : Within (length s) w
  pub on : at < w.end
  pub narrow : w.width ≤ length s
  pub before : before_number w.before ≤ 100 * length s
  pub after : w.after ≤ 100 * length s

abbrev pub NextIs : Opts → Bool → Bool → Bool → List ℕ → ℕ → Option Record → Type 0
NextIs o mail new_line previousPunct s at None =
    (words_from o mail new_line previousPunct (glyphs_behind o.glue new_line (drop at s)) ≡ []) × (places_from at (runs (glyphs_behind o.glue new_line (drop at s))) ≡ [])
NextIs o mail new_line previousPunct s at (Some w) = NextWord o mail new_line previousPunct s at w
