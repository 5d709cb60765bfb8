-- RULES 17.2, and RFC 3676, section 4: mail read. Soft lines are joined to paragraphs, and each paragraph is written as one line.
use Rattle.std.specs.Prelude.{Bool, true, false, cond, not, ◌&&◌, List, [], ◌∷◌, ◌++◌, map, ℕ, ltb, leb, eqb, length, drop, replicate}
use Rattle.lists.specs.Runs.{joined}
use Rattle.lists.specs.Coded.{Coded, coded}
use Rattle.lines.specs.Lines.{Line, lines_of}
use Rattle.unflow.specs.Flowed.{quote_mark, cr_lf, quote_depth, stuffing, content_of, is_separator, is_soft}

-- ---- 4.1 and 4.5: paragraphs

-- A soft line goes on in the next one, if that has the same quote depth and is no separator.
unfoldable pub goes_on_in : List ℕ → List ℕ → Bool
goes_on_in line next = is_soft line && eqb (quote_depth line) (quote_depth next) && not (is_separator next)

pub record FlowedParagraph : Type 0 where
  pub depth : ℕ
  pub content : List ℕ

abbrev pub begun_with : List ℕ → FlowedParagraph
begun_with line = record { depth = quote_depth line; content = content_of line }

-- the trailing space of a soft line stays, since DelSp is no; its line end goes
abbrev pub longer : List ℕ → FlowedParagraph → FlowedParagraph
longer next p = record { depth = p.depth; content = p.content ++ content_of next }

-- the paragraphs of lines, the first of which has come to p with the line before them
unfoldable pub paragraphs_from : FlowedParagraph → List ℕ → List (List ℕ) → List FlowedParagraph
paragraphs_from p line [] = p ∷ []
paragraphs_from p line (next ∷ lines) =
    elim (goes_on_in line next) [ true ↦ paragraphs_from (longer next p) next lines | false ↦ p ∷ paragraphs_from (begun_with next) next lines ]

unfoldable pub paragraphs : List (List ℕ) → List FlowedParagraph
paragraphs [] = []
paragraphs (line ∷ lines) = paragraphs_from (begun_with line) line lines

-- ---- each as one line, with quote marks and stuffing

unfoldable pub as_line : FlowedParagraph → List ℕ
as_line p = replicate p.depth quote_mark ++ (stuffing p.content ++ (p.content ++ cr_lf))

-- the texts of a text's lines, which are read as in RULES 4.5
unfoldable pub mail_lines : List ℕ → List (List ℕ)
mail_lines text = map (λ (l : Line). l.text) (lines_of text)

unfoldable pub unflowed : List ℕ → List ℕ
unflowed text = joined as_line (paragraphs (mail_lines text))

-- ---- the answers

pub data UnflowAnswer : Type 0 where
  -- what was read
  done : List ℕ → UnflowAnswer
  -- a text of over 65,536 bytes
  long : UnflowAnswer
  -- no room: the length needed
  room : ℕ → UnflowAnswer

-- the answer to a text, with room for so many bytes: the first refusal that applies
unfoldable pub unflow : List ℕ → ℕ → UnflowAnswer
unflow text bytes =
    cond (ltb 65536 (length text)) long (cond (leb (length (unflowed text)) bytes) (done (unflowed text)) (room (length (unflowed text))))

-- the table: code and N
abbrev pub unflow_coded : UnflowAnswer → Coded
unflow_coded (done read) = coded 0 (length read)
unflow_coded long = coded 2 0
unflow_coded (room needed) = coded 5 needed

-- the output afterwards: what was read and the rest unchanged; unchanged; all zero
unfoldable pub unflow_output_after : UnflowAnswer → List ℕ → List ℕ
unflow_output_after (done read) output = read ++ drop (length read) output
unflow_output_after long output = output
unflow_output_after (room needed) output = replicate (length output) 0
