-- The examples of RULES 14 and its edges, computed.
use mathlib.Core.Path.{◌≡◌, refl}
use mathlib.Core.List.{[], ◌∷◌}
use Rattle.lists.specs.Walk.{walk_up_to, walk, piece, each}
use Rattle.lists.specs.Runs.{while, behind, every, begins, joined}
use Rattle.text.specs.Rfc3629.{scalar, encode, spelled, decode}
use Rattle.salvage.specs.Lines.{first_whole_line, whole_lines, fronts, is_utf8}
use Rattle.salvage.specs.Mending.{mended_line, mended, high_bytes, line_changes, changes_from, changes, done, mend}

-- lines end at line feeds only: two broken lines
two_broken_lines : mend (0xE2 ∷ 0x82 ∷ 10 ∷ 0xAC ∷ []) 7 3
    ≡ done (0xC3 ∷ 0xA2 ∷ 0xC2 ∷ 0x82 ∷ 10 ∷ 0xC2 ∷ 0xAC ∷ [])
    (record { place = 0; byte = 0xE2 } ∷ record { place = 1; byte = 0x82 } ∷ record { place = 3; byte = 0xAC } ∷ [])
unfolding walk_up_to walk piece each while behind every begins joined scalar encode spelled decode first_whole_line whole_lines fronts is_utf8 mended_line mended high_bytes line_changes changes_from changes mend
two_broken_lines = refl

-- one bad byte mends its whole line
one_bad_byte : mended (0xC3 ∷ 0xA9 ∷ 0xE9 ∷ []) ≡ 0xC3 ∷ 0x83 ∷ 0xC2 ∷ 0xA9 ∷ 0xC3 ∷ 0xA9 ∷ []
unfolding walk_up_to walk piece each while behind every begins joined scalar encode spelled decode first_whole_line whole_lines fronts is_utf8 mended_line mended
one_bad_byte = refl

-- a well-formed line beside a broken one is left as found; byte 7F is below 80
beside : mended (0xC3 ∷ 0xA9 ∷ 10 ∷ 0x7F ∷ 0xE9 ∷ []) ≡ 0xC3 ∷ 0xA9 ∷ 10 ∷ 0x7F ∷ 0xC3 ∷ 0xA9 ∷ []
unfolding walk_up_to walk piece each while behind every begins joined scalar encode spelled decode first_whole_line whole_lines fronts is_utf8 mended_line mended
beside = refl
