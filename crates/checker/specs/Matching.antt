-- How a digest is matched against the pieces of the notes, from its front. proofs/Theorems shows that this accepts exactly the acceptable
-- digests (Acceptable) and names the right line of every other (Named).
use Rattle.std.specs.Prelude.{Bool, cond, not, ◌&&◌, ◌||◌, List, [], ◌∷◌, ◌++◌, ℕ, suc, ◌+◌, ◌-◌, eqb, ltb, leb, length, drop}
use Rattle.lists.specs.Runs.{while, begins}
use Rattle.text.specs.Characters.{Glyph, characters, no_break, extent}
use Rattle.text.specs.Theorems.Blanks.{space_code}
use Rattle.options.specs.Opts.{Opts}
use Rattle.pieces.specs.Pieces.{Kind, Piece, blank_line, plain_line, paragraph, pieces}
use Rattle.records.specs.Word.{Word}
use Rattle.words.specs.Words.{words_of}
use Rattle.output.specs.Emission.{line_feed}

pub data Match : Type 0 where
  -- what is left of the digest, and the line in which it begins
  on : List ℕ → ℕ → Match
  -- no acceptable digest begins with the lines up to this one
  fault : ℕ → Match

abbrev pub and_then : Match → (List ℕ → ℕ → Match) → Match
and_then (on xs n) f = f xs n
and_then (fault n) f = fault n

-- bytes that have to stand there, no line feed among them; and a line feed, after which the next line begins
unfoldable pub match_text : List ℕ → List ℕ → ℕ → Match
match_text text xs n = cond (begins text xs) (on (drop (length text) xs) n) (fault n)

unfoldable pub match_feed : List ℕ → ℕ → Match
match_feed xs n = cond (begins line_feed xs) (on (drop 1 xs) (suc n)) (fault n)

unfoldable pub match_line : List ℕ → List ℕ → ℕ → Match
match_line text xs n = and_then (match_text text xs n) match_feed

-- ---- a gap and the word after it

-- a blank character of a digest's line
abbrev pub is_space : Glyph → Bool
is_space g = space_code g.code

-- the blank characters at the front
unfoldable pub spaces : List ℕ → List Glyph
spaces xs = while is_space (characters xs)

-- with glue on, U+00A0 parts words only beside another blank (RULES 4.4)
abbrev pub soft : Bool → ℕ → Bool
soft glue c = glue && eqb c 0xA0

-- how many of their bytes a gap has at least: up to the last that parts words by itself
unfoldable pub parting : Bool → List Glyph → ℕ
parting glue [] = 0
parting glue (g ∷ gs) = cond (ltb 0 (parting glue gs) || not (soft glue g.code)) (length g.bytes + parting glue gs) 0

-- the bytes of U+00A0 that a word begins with, which are the word's
unfoldable pub lead : List ℕ → ℕ
lead w = extent (while no_break (characters w))

-- the word after a gap: it begins where the blanks end, or so much earlier as it has U+00A0 of its own in front
unfoldable pub match_spaced : Bool → List ℕ → List ℕ → ℕ → Match
match_spaced glue w xs n =
    let gs = spaces xs in
    let start = extent gs - lead w in
    cond (ltb 0 (parting glue gs) && leb (parting glue gs + lead w) (extent gs)) (match_text w (drop start xs) n) (fault n)

-- the next word of a paragraph: on a line of its own after the indent, or after a gap
unfoldable pub match_next : Bool → List ℕ → List ℕ → List ℕ → ℕ → Match
match_next glue indent w xs n = cond (begins line_feed xs) (and_then (match_feed xs n) (match_text (indent ++ w))) (match_spaced glue w xs n)

-- ---- pieces

-- the words after the first, and the line feed
unfoldable pub match_rest : Bool → List ℕ → List Word → List ℕ → ℕ → Match
match_rest glue indent [] xs n = match_feed xs n
match_rest glue indent (w ∷ ws) xs n = and_then (match_next glue indent w.text xs n) (match_rest glue indent ws)

-- (A paragraph has a word: the first line is not reached.)
unfoldable pub match_words : Bool → List ℕ → List ℕ → List Word → List ℕ → ℕ → Match
match_words glue first indent [] xs n = match_feed xs n
match_words glue first indent (w ∷ ws) xs n = and_then (match_text (first ++ w.text) xs n) (match_rest glue indent ws)

unfoldable pub match_piece : Opts → Kind → List ℕ → ℕ → Match
match_piece o blank_line = match_line []
match_piece o (plain_line line) = match_line line
match_piece o (paragraph p) = match_words o.glue p.first.bytes p.indent.bytes (words_of o p)

unfoldable pub match_pieces : Opts → List Piece → List ℕ → ℕ → Match
match_pieces o [] xs n = on xs n
match_pieces o (q ∷ qs) xs n = and_then (match_piece o q.kind xs n) (match_pieces o qs)

-- ---- the verdict: accepted, or the line that is named

pub data Verdict : Type 0 where
  accepted : Verdict
  at : ℕ → Verdict

-- nothing may be left
abbrev pub verdict_of : Match → Verdict
verdict_of (on [] n) = accepted
verdict_of (on (x ∷ xs) n) = at n
verdict_of (fault n) = at n

unfoldable pub verdict : Opts → List ℕ → List ℕ → Verdict
verdict o notes digest = verdict_of (match_pieces o (pieces o notes) digest 0)
