-- What the code's small functions answer: a field is a place of the block, with the tag of the field before it; a number within
-- bounds, and a prefix, as values of a field.
use Rattle.std.specs.Prelude.{Bool, cond, ◌&&◌, List, ℕ, leb, eqb, length, drop, Some}
use Rattle.lists.specs.Runs.{every}
use Rattle.text.specs.Characters.{characters, is_good}
use Rattle.options.specs.OptionBlock.{Field, number, part_of}
use Rattle.options.specs.declared.Part.{Part}
use Rattle.options.specs.declared.Parts.{Parts}

abbrev pub field_at : List ℕ → ℕ → ℕ → Field
field_at block at previous = record { place = at; previous = previous; bytes = drop at block }

unfoldable pub number_text : ℕ → ℕ → List ℕ → Bool
number_text least most v = eqb (length v) 2 && leb least (number v) && leb (number v) most

unfoldable pub prefix_text : List ℕ → Bool
prefix_text v = leb (length v) 255 && every is_good (characters v)

-- the parts of the block's six fields
abbrev pub parts_of : List Field → Parts
parts_of fs = record {
  flags = part_of 1 fs;
  width = part_of 2 fs;
  goal = part_of 3 fs;
  tab = part_of 4 fs;
  prefix = part_of 5 fs;
  skip = part_of 6 fs;
}

-- parts, and one more under its tag
unfoldable pub parts_with : ℕ → Part → Parts → Parts
parts_with tag part p = record {
  flags = cond (eqb tag 1) (Some part) p.flags;
  width = cond (eqb tag 2) (Some part) p.width;
  goal = cond (eqb tag 3) (Some part) p.goal;
  tab = cond (eqb tag 4) (Some part) p.tab;
  prefix = cond (eqb tag 5) (Some part) p.prefix;
  skip = cond (eqb tag 6) (Some part) p.skip;
}
