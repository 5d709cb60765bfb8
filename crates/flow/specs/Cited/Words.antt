-- What is sent of a paragraph, word by word: so the code writes it. How a line ends, and whether it is stuffed, is known where it begins.
use Rattle.std.specs.Prelude.{Bool, true, false, cond, ◌&&◌, List, [], ◌∷◌, ◌++◌, ℕ, ◌+◌, ◌*◌, length}
use Rattle.records.specs.Word.{Word}
use Rattle.spacing.specs.Spacing.{added_space}
use Rattle.output.specs.Cited.Bound.{bulk}
use Rattle.output.specs.Cited.Writers.{placed}
use Rattle.unflow.specs.Flowed.{space, cr_lf, stuffing}
use Rattle.flow.specs.Flow.{is_dashed}

-- the end of a line where its paragraph goes on: a line `--` is fixed, any other soft
unfoldable pub line_end : Bool → List ℕ
line_end dashed = cond dashed cr_lf (space ∷ cr_lf)

-- after a line's first word stands a space, of this line or at its end, if there are more words
abbrev pub space_if : Bool → List ℕ
space_if more = cond more (space ∷ []) []

abbrev pub some : List Word → Bool
some [] = false
some (w ∷ ws) = true

-- a line's beginning: its first word after an indent, stuffed where the line is to be
unfoldable pub opened : Bool → List ℕ → List ℕ
opened more line = stuffing (line ++ space_if more) ++ line

-- a word with what is before it; `dashed` tells whether the line before it is `--`, if it begins a line
unfoldable pub next_sent : Bool → ℕ → Bool → List ℕ → Bool → Word → List ℕ
next_sent fresh added dashed indent more w =
    elim fresh as (λ x. List ℕ) [ true ↦ line_end dashed ++ opened more (indent ++ w.text) | false ↦ placed false added indent w ]

-- whether the line is `--` so far
unfoldable pub next_dashed : Bool → List ℕ → Word → Bool
next_dashed fresh indent w = fresh && is_dashed (indent ++ w.text)

-- the words after a line that has begun
unfoldable pub rest_sent : List ℕ → Bool → Bool → List Bool → List Word → List ℕ
rest_sent indent dashed punct breaks [] = cr_lf
rest_sent indent dashed punct [] (w ∷ ws) =
    next_sent false (added_space true w.new_line w.sentence_start punct) dashed indent (some ws) w ++ rest_sent indent false w.ends_punct [] ws
rest_sent indent dashed punct (b ∷ bs) (w ∷ ws) =
    next_sent b (added_space true w.new_line w.sentence_start punct) dashed indent (some ws) w ++ rest_sent indent (next_dashed b indent w) w.ends_punct bs ws

-- the lines `--` that they end
unfoldable pub rest_dashes : List ℕ → Bool → List Bool → List Word → ℕ
rest_dashes indent dashed breaks [] = 0
rest_dashes indent dashed [] (w ∷ ws) = rest_dashes indent false [] ws
rest_dashes indent dashed (b ∷ bs) (w ∷ ws) = cond (b && dashed) 1 0 + rest_dashes indent (next_dashed b indent w) bs ws

-- all words of a paragraph
unfoldable pub words_sent : List ℕ → List ℕ → List Bool → List Word → List ℕ
words_sent first indent breaks [] = []
words_sent first indent breaks (w ∷ ws) = opened (some ws) (first ++ w.text) ++ rest_sent indent (is_dashed (first ++ w.text)) false breaks ws

unfoldable pub words_dashes : List ℕ → List ℕ → List Bool → List Word → ℕ
words_dashes first indent breaks [] = 0
words_dashes first indent breaks (w ∷ ws) = rest_dashes indent (is_dashed (first ++ w.text)) breaks ws

-- no more than the first indent, the words with their blanks, for each word an indent and four bytes, and three
abbrev pub most_sent : List ℕ → List ℕ → List Word → ℕ
most_sent first indent ws = length first + bulk ws + length ws * (length indent + 4) + 3
