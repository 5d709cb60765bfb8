-- RULES 12.3: asked with the count filled and an output line number, the index hands back the notes part of the first record that
-- holds that line, or none. The list may have any content, so sums are those of whole numbers.
use Rattle.std.specs.Prelude.{Bool, true, false, cond, ◌&&◌, List, [], ◌∷◌, ℕ, ◌+◌, leb, ltb, length, take, Option, Some, None}
use Rattle.index.specs.declared.Record.{Record}
use Rattle.index.specs.declared.Part.{Part}

-- a record holds the lines from its first on, as many as it counts
unfoldable pub holds : ℕ → Record → Bool
holds line r = leb r.first line && ltb line (r.first + r.count)

-- its part of notes of so many bytes; none if it runs past them
unfoldable pub part_in : ℕ → Record → Option Part
part_in size r = cond (leb (r.place + r.length) size) (Some (record { place = r.place; length = r.length })) None

-- the part of the first record that holds the line: no later one is tried
unfoldable pub part_under : ℕ → ℕ → List Record → Option Part
part_under size line [] = None
part_under size line (r ∷ rs) = elim (holds line r) [ true ↦ part_in size r | false ↦ part_under size line rs ]

-- a count that runs past the list finds none, whatever the line
unfoldable pub lookup : List Record → ℕ → ℕ → ℕ → Option Part
lookup index filled size line = cond (leb filled (length index)) (part_under size line (take filled index)) None

-- ---- what the host gets: 1 and the part's place and length, or 0 and nothing written

abbrev pub answered : Option Part → ℕ
answered None = 0
answered (Some p) = 1

abbrev pub part_after : Option Part → List ℕ → List ℕ
part_after None part = part
part_after (Some p) part = p.place ∷ p.length ∷ []
