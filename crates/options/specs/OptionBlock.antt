-- RULES 3: tagged fields, each a one-byte tag, a two-byte length and a value; the faults; width and goal.
-- A value that is given is kept as the places in the block between which it stands, a `Part`: so the code hands it on. A number
-- is read there by `number (drop start block)`, and a prefix's bytes by `meant` in Opts, whose options all later sections read.
use Rattle.std.specs.Prelude.{Bool, true, false, cond, not, ◌&&◌, ◌||◌, List, [], ◌∷◌, ℕ, ◌+◌, ◌-◌, ◌*◌, ◌/◌, ◌%◌, ◌^◌, min, max, leb, ltb, eqb, length, get_or, take, drop, Option, Some, None, Ok, Err, Result}
use Rattle.lists.specs.Walk.{Stride, walk}
use Rattle.lists.specs.Runs.{every}
use Rattle.text.specs.Characters.{characters, is_good}
use Rattle.options.specs.declared.Part.{Part}
use Rattle.options.specs.declared.Options.{Options}
use Rattle.options.specs.declared.Fault.{Fault}

-- numbers are two bytes, most significant byte first
unfoldable pub number : List ℕ → ℕ
number v = get_or v 0 0 * 256 + get_or v 1 0

-- a field: where it starts, the tag of the field before it (0 for none), and the block's bytes from its tag on
pub record Field : Type 0 where
  pub place : ℕ
  pub previous : ℕ
  pub bytes : List ℕ

unfoldable pub tag_of : Field → ℕ
tag_of f = get_or f.bytes 0 0

unfoldable pub size_of : Field → ℕ
size_of f = number (drop 1 f.bytes)

unfoldable pub value_of : Field → List ℕ
value_of f = take (size_of f) (drop 3 f.bytes)

-- The fields in order: each begins after the one before it, and takes its tag and, besides, two bytes of length and its value. (The walk
-- goes on after a faulty field too, but only the first fault counts.)
pub record Start : Type 0 where
  pub place : ℕ
  pub previous : ℕ

unfoldable pub next_field : Start → List ℕ → Stride Field Start
next_field s xs =
    let f : Field = record { place = s.place; previous = s.previous; bytes = xs } in
    record { item = f; besides = 2 + size_of f; state = record { place = s.place + 3 + size_of f; previous = tag_of f } }

unfoldable pub fields : List ℕ → List Field
fields block = walk next_field (record { place = 0; previous = 0 }) block

-- the flags: bit 0, the lowest, to bit 10 (RULES 3.2); others zero
abbrev pub flag_bits : ℕ
flag_bits = 11

-- what each tag's value may be: flags; width and goal 1 to 1,000; tab width 0 to 100; prefixes 0 to 255 bytes of undamaged characters
unfoldable pub allowed : ℕ → ℕ → List ℕ → Bool
allowed tag size v =
    cond (eqb tag 1) (eqb size 2 && ltb (number v) (2 ^ flag_bits))
    (cond (eqb tag 2 || eqb tag 3) (eqb size 2 && leb 1 (number v) && leb (number v) 1000)
    (cond (eqb tag 4) (eqb size 2 && leb (number v) 100)
    (cond (eqb tag 5 || eqb tag 6) (leb size 255 && every is_good (characters v))
    false)))

-- a well-formed field: its tag is above the one before it, the block does not end inside it, and its value is allowed
unfoldable pub well_formed : Field → Bool
well_formed f = ltb f.previous (tag_of f) && leb (3 + size_of f) (length f.bytes) && allowed (tag_of f) (size_of f) (value_of f)

-- the start of the first faulty field
unfoldable pub first_fault : List Field → Option ℕ
first_fault [] = None
first_fault (f ∷ fs) = elim (well_formed f) [ true ↦ first_fault fs | false ↦ Some f.place ]

-- the part of the block that is the value of a tag's field; a missing field means not given
abbrev pub between : ℕ → ℕ → Option Part
between start end = Some (record { start = start; end = end })

unfoldable pub part_of : ℕ → List Field → Option Part
part_of tag [] = None
part_of tag (f ∷ fs) = elim (eqb (tag_of f) tag) [ true ↦ between (f.place + 3) (f.place + 3 + size_of f) | false ↦ part_of tag fs ]

-- the number of a tag's field, or what stands for it where it is not given
abbrev pub number_at : List ℕ → ℕ → Option Part → ℕ
number_at block other None = other
number_at block other (Some part) = number (drop part.start block)

-- width and goal, quotients rounded down
abbrev pub width_from : List ℕ → Option Part → Option Part → ℕ
width_from block None None = 79
width_from block None (Some goal) = let g = number (drop goal.start block) in max (g * 100 / 94) (g + 3)
width_from block (Some width) goal = number (drop width.start block)

abbrev pub goal_from : List ℕ → Option Part → Option Part → ℕ
goal_from block None None = 74
goal_from block (Some width) None = let w = number (drop width.start block) in min (w * 94 / 100) (w - 3)
goal_from block None (Some goal) = number (drop goal.start block)
goal_from block (Some width) (Some goal) = number (drop goal.start block)

-- the least width: width alone must be at least 6; else 1, which every width is
abbrev pub least_width : Option Part → Option Part → ℕ
least_width None goal = 1
least_width (Some width) None = 6
least_width (Some width) (Some goal) = 1

-- the width and goal rule
unfoldable pub fits : ℕ → ℕ → ℕ → Bool
fits least width goal = leb least width && leb goal width && leb width (2 * goal) && leb width 1000

abbrev pub bit : ℕ → ℕ → Bool
bit k flags = eqb (flags / 2 ^ k % 2) 1

-- crown clears tagged; split clears both; tab width 0 acts as 1
unfoldable pub options_of : List ℕ → List Field → Options
options_of block fs =
    let flags = number_at block 0 (part_of 1 fs) in
    let width = part_of 2 fs in
    let goal = part_of 3 fs in
    record {
      crown = bit 0 flags && not (bit 3 flags);
      tagged = bit 1 flags && not (bit 0 flags) && not (bit 3 flags);
      mail = bit 2 flags;
      split = bit 3 flags;
      uniform = bit 4 flags;
      quick = bit 5 flags;
      exact_prefix = bit 6 flags;
      exact_skip = bit 7 flags;
      keep = bit 8 flags;
      glue = bit 9 flags;
      by_characters = bit 10 flags;
      width = width_from block width goal;
      goal = goal_from block width goal;
      tab = max 1 (number_at block 8 (part_of 4 fs));
      prefix = part_of 5 fs;
      skip = part_of 6 fs;
    }

-- a fault in a field goes before the width and goal rule
abbrev pub judged : List ℕ → List Field → Option ℕ → Result Options Fault
judged block fs (Some place) = Err (record { at = place })
judged block fs None =
    let o = options_of block fs in
    cond (fits (least_width (part_of 2 fs) (part_of 3 fs)) o.width o.goal) (Ok o) (Err (record { at = length block }))

-- the accepted options, or the fault's place: the first faulty field's start, or the block's length where the width and goal rule fails
unfoldable pub read_block : List ℕ → Result Options Fault
read_block block = let fs = fields block in judged block fs (first_fault fs)
