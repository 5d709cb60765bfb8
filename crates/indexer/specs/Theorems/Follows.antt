-- Records that follow each other without a gap; and records moved on.
use Rattle.std.specs.Prelude.{◌≡◌, List, [], ◌∷◌, ℕ, ◌+◌}
use Rattle.index.specs.declared.Record.{Record}

-- from a place of the notes and an output line on, up to an end and a last line: each record begins where the one before it ends
abbrev pub Follows : ℕ → ℕ → List Record → ℕ → ℕ → Type 0
Follows place line [] end last = (place ≡ end) × (line ≡ last)
Follows place line (r ∷ rs) end last = (r.place ≡ place) × (r.first ≡ line) × Follows (place + r.length) (line + r.count) rs end last

-- a record so many bytes and lines further on
abbrev pub shifted : ℕ → ℕ → Record → Record
shifted bytes lines r = record { place = bytes + r.place; length = r.length; first = lines + r.first; count = r.count }
