-- RULES 14: lines end at line feeds only, and a line is well formed by RFC 3629, in full.
use Rattle.std.specs.Prelude.{Bool, true, false, not, List, ◌++◌, ℕ, ◌-◌, eqb, length, take}
use Rattle.lists.specs.Walk.{each}
use Rattle.lists.specs.Runs.{while, behind, every}
use Rattle.text.specs.Rfc3629.{Front, front, nothing, decode}

abbrev pub no_feed : ℕ → Bool
no_feed b = not (eqb b 10)

-- the first line of a text: the bytes before its first line feed, and the line feed, if there is one
unfoldable pub first_whole_line : List ℕ → List ℕ
first_whole_line xs = while no_feed xs ++ take 1 (behind no_feed xs)

unfoldable pub whole_lines : List ℕ → List (List ℕ)
whole_lines = each (λ xs. length (while no_feed xs)) first_whole_line

-- the characters of a text, read from the front; a byte at which none begins is passed by itself
abbrev pub octets_behind : Front → ℕ
octets_behind (front c n) = n - 1
octets_behind nothing = 0

unfoldable pub fronts : List ℕ → List Front
fronts = each (λ xs. octets_behind (decode xs)) decode

abbrev pub is_character : Front → Bool
is_character (front c n) = true
is_character nothing = false

-- nothing but characters, up to the end
unfoldable pub is_utf8 : List ℕ → Bool
is_utf8 xs = every is_character (fronts xs)
