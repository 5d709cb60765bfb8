-- Regular bytes: ASCII from the space on; and letters of two bytes, each of one column. On a line of them the columns are the bytes that
-- begin a character.
use Rattle.std.specs.Prelude.{Bool, true, false, cond, not, ◌&&◌, ◌||◌, List, [], ◌∷◌, ◌++◌, ℕ, ◌+◌, ◌-◌, ◌*◌, ◌/◌, ltb, leb, eqb, length, None}
use Rattle.lists.specs.Runs.{every}
use Rattle.text.specs.Characters.{Glyph}
use Rattle.text.specs.Cited.Joins.{goes_on}
use Rattle.options.specs.Opts.{Opts}
use Rattle.records.specs.Word.{Word}
use Rattle.spacing.specs.declared.Setting.{Setting}
use Rattle.words.specs.Words.{runs, counting, line_words}
use Rattle.words.specs.Cited.Scan.{punct_code}
use Rattle.output.specs.Emission.{line_feed, emit_rest}
use Rattle.quick.specs.Quick.{quick_from}

abbrev pub is_space : ℕ → Bool
is_space b = eqb b 32

abbrev pub not_space : ℕ → Bool
not_space b = not (eqb b 32)

abbrev pub is_regular : ℕ → Bool
is_regular b = leb 32 b && ltb b 128

-- the first byte of a letter of two, as text's letter_at has it
abbrev pub begins_letter : ℕ → Bool
begins_letter b = leb 0xC3 b && (leb b 0xD1 && not (eqb (b / 2) 0x66))

-- regular bytes and letters of two; `within`: a letter's second byte is still to come
unfoldable pub spelled : Bool → List ℕ → Bool
spelled within [] = not within
spelled true (b ∷ bs) = goes_on b && spelled false bs
spelled false (b ∷ bs) = cond (is_regular b) (spelled false bs) (begins_letter b && spelled true bs)

-- a byte that begins a character is a column
abbrev pub column_of : ℕ → ℕ
column_of b = cond (goes_on b) 0 1

unfoldable pub columns : List ℕ → ℕ
columns [] = 0
columns (b ∷ bs) = column_of b + columns bs

-- whether the first byte goes on with a character
unfoldable pub carries_on : List ℕ → Bool
carries_on [] = false
carries_on (b ∷ bs) = goes_on b

-- a byte by itself: of one column if it begins a character, blank if it is the space
abbrev pub byte_glyph : ℕ → Glyph
byte_glyph b = record { bytes = b ∷ []; code = b; damaged = false; blank = eqb b 32; width = column_of b }

-- a byte before the bytes of its character
abbrev pub with_byte : ℕ → Glyph → Glyph
with_byte b g = record { bytes = b ∷ g.bytes; code = 128 + ((b - 194) * 64 + (g.code - 128)); damaged = false; blank = false; width = column_of b + g.width }

unfoldable pub with_first : ℕ → List Glyph → List Glyph
with_first b [] = byte_glyph b ∷ []
with_first b (g ∷ gs) = with_byte b g ∷ gs

-- the characters of spelled bytes; of any others, something with the same bytes and as many columns as bytes begin a character
unfoldable pub spelling : List ℕ → List Glyph
spelling [] = []
spelling (b ∷ bs) = cond (not_space b && carries_on bs) (with_first b (spelling bs)) (byte_glyph b ∷ spelling bs)

-- the words of spelled bytes: whether the next is the first of its line, and whether the one before it ends in punctuation
unfoldable pub stretch_words : Opts → Bool → Bool → List ℕ → List Word
stretch_words o new_line previous xs = line_words (counting o.by_characters) o new_line previous (runs (spelling xs))

-- whether the last byte is punctuation; of none, what was so before
unfoldable pub lastly : Bool → List ℕ → Bool
lastly before [] = before
lastly before (b ∷ bs) = lastly (punct_code b) bs

-- whether the last byte is no space; of none, what was so before
unfoldable pub closed : Bool → List ℕ → Bool
closed before [] = before
closed before (b ∷ bs) = closed (not_space b) bs

-- whether the first byte is a space, or there is none
unfoldable pub opens : List ℕ → Bool
opens [] = true
opens (b ∷ bs) = is_space b

-- the punctuation that counts after bytes that begin a line of output: of a paragraph's first word it does not
unfoldable pub fresh_punct : Bool → List ℕ → Bool
fresh_punct counts a = (counts || not (every not_space a)) && lastly false a

-- after the bytes p and q a byte is no second space, unless p ends a sentence
abbrev pub is_even : ℕ → ℕ → ℕ → Bool
is_even p q b = not (is_space q && is_space b) || punct_code p

-- gaps as uniform has them: one space, or two after the end of a sentence
unfoldable pub evenly : ℕ → ℕ → List ℕ → Bool
evenly p q [] = true
evenly p q (b ∷ bs) = is_even p q b && evenly q b bs

-- the word of spaces and the bytes after them; uniform drops the spaces
abbrev pub plain_word : Bool → Bool → Bool → List ℕ → List ℕ → Word
plain_word uniform new_line previous spaces ink = record {
  blanks = cond uniform [] spaces;
  text = ink;
  width = columns ink;
  before = None;
  after = cond uniform 0 (length spaces);
  new_line = new_line;
  ends_punct = lastly false ink;
  sentence_start = previous && ltb 1 (length spaces);
}

-- the spaces between a line's last word and the next line's first, on one line of output
abbrev pub added : Bool → ℕ
added punct = cond punct 2 1

-- ---- quick's output, decided and emitted word by word

-- of the words after one that stands on the line: column is where the line stands
unfoldable pub quick_rest : Setting → List ℕ → ℕ → Bool → List Word → List ℕ
quick_rest g indent column punct ws = emit_rest g.uniform indent punct (quick_from g column punct ws) ws

-- of words on a fresh line, that is at a column: the first goes there bare, whatever its width. `counts`: its punctuation counts, which
-- that of a paragraph's first word does not
unfoldable pub quick_fresh : Setting → List ℕ → Bool → ℕ → List Word → List ℕ
quick_fresh g indent counts column [] = line_feed
quick_fresh g indent counts column (w ∷ ws) = w.text ++ quick_rest g indent (column + w.width) (counts && w.ends_punct) ws

-- of a paragraph that stands at a column; `begins`: its first word is still to come
unfoldable pub quick_on : Setting → List ℕ → Bool → ℕ → Bool → List Word → List ℕ
quick_on g indent true column punct ws = quick_fresh g indent false column ws
quick_on g indent false column punct ws = quick_rest g indent column punct ws
