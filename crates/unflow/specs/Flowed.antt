-- RFC 3676, section 4, with DelSp=no: what a line of format=flowed is. Writer and reader share it.
use Rattle.std.specs.Prelude.{Bool, false, cond, not, ◌&&◌, ◌||◌, List, [], ◌∷◌, ℕ, ◌-◌, eqb, length, get_or}
use Rattle.lists.specs.Runs.{while, behind, begins}
use Rattle.pieces.specs.Pieces.{from_word}

abbrev pub space : ℕ
space = 0x20

abbrev pub quote_mark : ℕ
quote_mark = 0x3E

abbrev pub cr_lf : List ℕ
cr_lf = 13 ∷ 10 ∷ []

-- ---- 4.5: quote marks at the front of a line, which are counted and deleted before anything else

abbrev pub is_mark : ℕ → Bool
is_mark b = eqb b quote_mark

unfoldable pub quote_depth : List ℕ → ℕ
quote_depth line = length (while is_mark line)

-- ---- 4.4: a space before a line that starts with a space, `>` or `From `; on reading, a space at the front is deleted

unfoldable pub needs_space : List ℕ → Bool
needs_space [] = false
needs_space (x ∷ xs) = eqb x space || eqb x quote_mark || begins from_word (x ∷ xs)

unfoldable pub stuffing : List ℕ → List ℕ
stuffing content = cond (needs_space content) (space ∷ []) []

unfoldable pub unstuffed : List ℕ → List ℕ
unstuffed [] = []
unstuffed (x ∷ xs) = cond (eqb x space) xs (x ∷ xs)

-- what a line says, after its quote marks and its stuffing
unfoldable pub content_of : List ℕ → List ℕ
content_of line = unstuffed (behind is_mark line)

-- ---- 4.3: `-- `, the signature separator: a line as it is, or quoted, or quoted and stuffed

abbrev pub dashes : List ℕ
dashes = 0x2D ∷ 0x2D ∷ space ∷ []

unfoldable pub is_dashes : List ℕ → Bool
is_dashes xs = begins dashes xs && eqb (length xs) 3

unfoldable pub is_separator : List ℕ → Bool
is_separator line = is_dashes (cond (eqb (quote_depth line) 0) line (content_of line))

-- ---- 4.1: a line that ends in a space is soft (the RFC: flowed); a separator is not

unfoldable pub ends_in_space : List ℕ → Bool
ends_in_space xs = eqb (get_or xs (length xs - 1) 0) space

unfoldable pub is_soft : List ℕ → Bool
is_soft line = ends_in_space (content_of line) && not (is_separator line)
