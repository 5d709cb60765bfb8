-- What is emitted of a paragraph is its lines, each with a line feed after it.
use mathlib.Core.Path.{◌≡◌, sym, ap, ◌∙◌}
use mathlib.Core.Bool.{Bool, true, false}
use mathlib.Core.List.{List, [], ◌∷◌, ◌++◌, append-nil, append_assoc}
use Prim.Native.Nat.{ℕ}
use Rattle.lists.specs.Runs.{joined}
use Rattle.records.specs.Word.{Word}
use Rattle.output.specs.Emission.{line_feed, space_before, emit_rest, emit}
use Rattle.output.specs.EmittedLines.{lines_from}

abbrev fed : List (List ℕ) → List ℕ
fed lines = joined (λ (l : List ℕ). l ++ line_feed) lines

-- the output after a line that stands so far
rest_is_lines : (uniform : Bool) (indent line : List ℕ) (punct : Bool) (bs : List Bool) (ws : List Word)
    → line ++ emit_rest uniform indent punct bs ws ≡ fed (lines_from uniform indent line punct bs ws)
unfolding emit_rest lines_from joined
rest_is_lines uniform indent line punct bs [] = sym (append-nil (line ++ line_feed))
rest_is_lines uniform indent line punct [] (w ∷ ws) =
    ap (λ (x : List ℕ). line ++ x) (sym (append_assoc (space_before uniform punct w) w.text (emit_rest uniform indent w.ends_punct [] ws)))
    ∙ sym (append_assoc line (space_before uniform punct w ++ w.text) (emit_rest uniform indent w.ends_punct [] ws))
    ∙ rest_is_lines uniform indent (line ++ (space_before uniform punct w ++ w.text)) w.ends_punct [] ws
rest_is_lines uniform indent line punct (false ∷ bs) (w ∷ ws) =
    ap (λ (x : List ℕ). line ++ x) (sym (append_assoc (space_before uniform punct w) w.text (emit_rest uniform indent w.ends_punct bs ws)))
    ∙ sym (append_assoc line (space_before uniform punct w ++ w.text) (emit_rest uniform indent w.ends_punct bs ws))
    ∙ rest_is_lines uniform indent (line ++ (space_before uniform punct w ++ w.text)) w.ends_punct bs ws
rest_is_lines uniform indent line punct (true ∷ bs) (w ∷ ws) =
    ap (λ (x : List ℕ). line ++ x) (append_assoc line_feed indent (w.text ++ emit_rest uniform indent w.ends_punct bs ws))
    ∙ sym (append_assoc line line_feed (indent ++ (w.text ++ emit_rest uniform indent w.ends_punct bs ws)))
    ∙ ap (λ (x : List ℕ). (line ++ line_feed) ++ x) (sym (append_assoc indent w.text (emit_rest uniform indent w.ends_punct bs ws)) ∙ rest_is_lines uniform indent (indent ++ w.text) w.ends_punct bs ws)

-- a whole paragraph's
pub output_is_lines : (uniform : Bool) (first indent : List ℕ) (bs : List Bool) (w : Word) (ws : List Word)
    → emit uniform first indent bs (w ∷ ws) ≡ fed (lines_from uniform indent (first ++ w.text) false bs ws)
unfolding emit
output_is_lines uniform first indent bs w ws = sym (append_assoc first w.text (emit_rest uniform indent false bs ws)) ∙ rest_is_lines uniform indent (first ++ w.text) false bs ws
