-- The worked examples of RULES 3, by computation.
use Rattle.std.proofs.Common.{Option, None, Result, Ok, Err}
use mathlib.Core.Path.{◌≡◌, refl}
use mathlib.Core.Bool.{Bool, true, false}
use mathlib.Core.List.{List, [], ◌∷◌}
use Prim.Native.Nat.{ℕ}
use Rattle.lists.specs.Walk.{walk, walk_up_to, piece, each}
use Rattle.lists.specs.Runs.{every, begins}
use Rattle.text.specs.Rfc3629.{scalar, encode, spelled, decode}
use Rattle.widths.specs.WhiteSpace.{white_space}
use Rattle.text.specs.Characters.{glyph, characters}
use Rattle.options.specs.declared.Part.{Part}
use Rattle.options.specs.declared.Options.{Options}
use Rattle.options.specs.declared.Fault.{Fault}
use Rattle.options.specs.OptionBlock.{number, tag_of, size_of, value_of, next_field, fields, allowed, well_formed, first_fault, part_of, fits, options_of, read_block, between}

-- accepted with these and no other options
abbrev with_these : Bool → Bool → ℕ → ℕ → ℕ → Option Part → Result Options Fault
with_these mail split width goal tab prefix =
    Ok (record {
      crown = false;
      tagged = false;
      mail = mail;
      split = split;
      uniform = false;
      quick = false;
      exact_prefix = false;
      exact_skip = false;
      keep = false;
      glue = false;
      by_characters = false;
      width = width;
      goal = goal;
      tab = tab;
      prefix = prefix;
      skip = None;
    })

abbrev sized : ℕ → ℕ → Result Options Fault
sized width goal = with_these false false width goal 8 None

abbrev fault : ℕ → Result Options Fault
fault place = Err (record { at = place })

-- one field with a number of two bytes
abbrev field : ℕ → ℕ → ℕ → List ℕ
field tag high low = tag ∷ 0 ∷ 2 ∷ high ∷ low ∷ []

record Worked : Type 0 where
  defaults : read_block [] ≡ sized 79 74
  -- width alone, goal alone; the width and goal rule fails at the block's length
  width5 : read_block (field 2 0 5) ≡ fault 5
  width6 : read_block (field 2 0 6) ≡ sized 6 3
  goal2 : read_block (field 3 0 2) ≡ fault 5
  goal3 : read_block (field 3 0 3) ≡ sized 6 3
  goal940 : read_block (field 3 3 172) ≡ sized 1000 940
  goal941 : read_block (field 3 3 173) ≡ fault 5
  -- an unknown tag, a tag again, a cut field
  unknown : read_block (7 ∷ 0 ∷ 0 ∷ []) ≡ fault 0
  again : read_block (2 ∷ 0 ∷ 2 ∷ 0 ∷ 70 ∷ field 2 0 70) ≡ fault 5
  cut : read_block (2 ∷ 0 ∷ 2 ∷ 0 ∷ 70 ∷ 3 ∷ 0 ∷ 2 ∷ 0 ∷ []) ≡ fault 5
  -- flags: bits 0 to 3 together leave mail and split; bit 11 is none
  cleared : read_block (field 1 0 15) ≡ with_these true true 79 74 8 None
  other : read_block (field 1 8 0) ≡ fault 0
  -- tab width 0 acts as 1; a prefix may be empty, and may not be damaged
  tab : read_block (field 4 0 0) ≡ with_these false false 79 74 1 None
  prefix : read_block (5 ∷ 0 ∷ 0 ∷ []) ≡ with_these false false 79 74 8 (between 3 3)
  damaged : read_block (6 ∷ 0 ∷ 2 ∷ 62 ∷ 0xC2 ∷ []) ≡ fault 0

worked : Worked
unfolding number tag_of size_of value_of next_field fields allowed well_formed first_fault part_of fits options_of read_block walk walk_up_to piece each every begins scalar encode spelled decode white_space glyph characters
worked = record {
  defaults = refl;
  width5 = refl;
  width6 = refl;
  goal2 = refl;
  goal3 = refl;
  goal940 = refl;
  goal941 = refl;
  unknown = refl;
  again = refl;
  cut = refl;
  cleared = refl;
  other = refl;
  tab = refl;
  prefix = refl;
  damaged = refl;
}
