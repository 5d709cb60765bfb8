-- Words of the round trip: what a reader makes of lines that were sent, and which words a text spells.
use Rattle.std.specs.Prelude.{◌≡◌, Bool, true, false, not, ◌&&◌, List, [], ◌∷◌, ◌++◌, ◌⊎◌, ℕ, suc, length}
use Rattle.lists.specs.Theorems.All.{All}
use Rattle.text.specs.Theorems.Blanks.{Gap}
use Rattle.pieces.specs.Pieces.{Kind, blank_line, plain_line, paragraph}
use Rattle.options.specs.Opts.{Opts}
use Rattle.records.specs.Word.{Word}
use Rattle.unflow.specs.Flowed.{space, is_dashes, ends_in_space}
use Rattle.unflow.specs.Unflow.{FlowedParagraph}
use Rattle.flow.specs.Flow.{paragraph_lines, is_dashed, plain_sent}

-- ---- lines that were sent, as they are read: one that ends in a space goes on in the next, unless either is `-- `

unfoldable pub flows : List ℕ → Bool
flows line = ends_in_space line && not (is_dashes line)

unfoldable pub read_from : List ℕ → List ℕ → List (List ℕ) → List (List ℕ)
read_from text line [] = text ∷ []
read_from text line (next ∷ lines) =
    elim (flows line && not (is_dashes next)) [ true ↦ read_from (text ++ next) next lines | false ↦ text ∷ read_from next next lines ]

unfoldable pub read : List (List ℕ) → List (List ℕ)
read [] = []
read (line ∷ lines) = read_from line line lines

-- a paragraph of the mail that is not quoted
abbrev pub unquoted : List ℕ → FlowedParagraph
unquoted text = record { depth = 0; content = text }

-- ---- a piece of the notes as it comes back: a paragraph is one text, its lines with a space between them, but it ends after a line `--`

unfoldable pub back_from : List ℕ → List ℕ → List (List ℕ) → List (List ℕ)
back_from text line [] = text ∷ []
back_from text line (next ∷ lines) =
    elim (is_dashed line) [ true ↦ text ∷ back_from next next lines | false ↦ back_from (text ++ space ∷ next) next lines ]

unfoldable pub back : List (List ℕ) → List (List ℕ)
back [] = []
back (line ∷ lines) = back_from line line lines

abbrev pub came_back : Opts → Kind → List (List ℕ)
came_back o blank_line = [] ∷ []
came_back o (plain_line line) = plain_sent line ∷ []
came_back o (paragraph p) = back (paragraph_lines o p)

-- ---- texts that spell words, each once and in order

-- something before each word, and the word's own bytes
unfoldable pub spelt : List (List ℕ) → List Word → List ℕ
spelt befores [] = []
spelt [] (w ∷ ws) = w.text ++ spelt [] ws
spelt (s ∷ befores) (w ∷ ws) = s ++ (w.text ++ spelt befores ws)

-- between two words stand blanks that part words of a line, at least one, or a space and the paragraph's indent
abbrev pub Between : Bool → List ℕ → List ℕ → Type 0
Between glue indent s = Gap glue s ⊎ (s ≡ space ∷ indent)

-- a text: the words that it spells, after an indent of the paragraph
pub record Spells (glue : Bool) (first indent : List ℕ) (ws : List Word) (text : List ℕ) : Type 0 where
  pub front : List ℕ
  pub between : List (List ℕ)
  pub indented : (front ≡ first) ⊎ (front ≡ indent)
  pub one_less : length ws ≡ suc (length between)
  pub each : All (Between glue indent) between
  pub is : text ≡ spelt (front ∷ between) ws

-- texts one after the other spell words: the first of them these, and the texts after it the others
abbrev pub Carry : Bool → List ℕ → List ℕ → List Word → List (List ℕ) → Type 0
Carry glue first indent ws [] = ws ≡ []
Carry glue first indent ws (text ∷ texts) =
    (here : List Word) × (later : List Word) × (ws ≡ here ++ later) × Spells glue first indent here text × Carry glue first indent later texts
