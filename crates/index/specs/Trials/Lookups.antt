-- Lookups worked out by the definition, in notes of five bytes: `a\r\n\nb` has the records (0, 3, 0, 1) (3, 1, 1, 1) (4, 1, 2, 1).
use Rattle.std.specs.Prelude.{◌≡◌, refl, List, [], ◌∷◌, ℕ, Option, Some, None}
use Rattle.index.specs.declared.Record.{Record}
use Rattle.index.specs.declared.Part.{Part}
use Rattle.index.specs.Lookup.{holds, part_in, part_under, lookup}

abbrev pub entry : ℕ → ℕ → ℕ → ℕ → Record
entry p l f c = record { place = p; length = l; first = f; count = c }

abbrev pub part : ℕ → ℕ → Option Part
part p l = Some (record { place = p; length = l })

abbrev three : List Record
three = entry 0 3 0 1 ∷ entry 3 1 1 1 ∷ entry 4 1 2 1 ∷ []

first_line : lookup three 3 5 0 ≡ part 0 3
unfolding lookup part_under holds part_in
first_line = refl

last_line : lookup three 3 5 2 ≡ part 4 1
unfolding lookup part_under holds part_in
last_line = refl

no_such_line : lookup three 3 5 3 ≡ None
unfolding lookup part_under holds part_in
no_such_line = refl

-- not among the filled
not_filled : lookup three 2 5 2 ≡ None
unfolding lookup part_under holds part_in
not_filled = refl

-- the count runs past the list
past_the_list : lookup three 4 5 0 ≡ None
unfolding lookup part_under holds part_in
past_the_list = refl

-- the last number a line can have: nothing wraps
last_number : lookup (entry 0 1 18446744073709551615 1 ∷ []) 1 5 18446744073709551615 ≡ part 0 1
unfolding lookup part_under holds part_in
last_number = refl

-- a record of count 0 holds nothing; a part of length 0 is found where the notes end
empty_part : lookup (entry 0 1 7 0 ∷ entry 5 0 7 1 ∷ []) 2 5 7 ≡ part 5 0
unfolding lookup part_under holds part_in
empty_part = refl

-- the first that holds the line runs past the notes: no later one is tried
no_later_one : lookup (entry 5 1 0 1 ∷ entry 0 1 0 1 ∷ []) 2 5 0 ≡ None
unfolding lookup part_under holds part_in
no_later_one = refl
