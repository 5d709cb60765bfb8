-- RULES 6.4 and 6.5: gap width and added space.
use Rattle.std.specs.Prelude.{Bool, cond, ◌&&◌, ◌||◌, ℕ, ◌+◌, ◌-◌, Option, Some, None}
use Rattle.lines.specs.Classes.{next_stop}
use Rattle.records.specs.Word.{Word}

-- gap width at column p: no tab, the after count; else after + ((before + p)/tab + 1) × tab − p
unfoldable pub gap_width : ℕ → ℕ → Option ℕ → ℕ → ℕ
gap_width tab p None after = after
gap_width tab p (Some before) after = after + next_stop tab (before + p) - p

abbrev pub gap_at : ℕ → ℕ → Word → ℕ
gap_at tab p w = gap_width tab p w.before w.after

-- added space S: if uniform or new-line, 2 when sentence-start or (new-line and previous punct), else 1; otherwise 0
unfoldable pub added_space : Bool → Bool → Bool → Bool → ℕ
added_space uniform new_line sentence_start previousPunct =
    cond (uniform || new_line) (cond (sentence_start || new_line && previousPunct) 2 1) 0
