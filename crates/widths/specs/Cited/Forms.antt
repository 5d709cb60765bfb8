-- The forms in which the code holds the widths. They serve contracts alone.
use Rattle.std.specs.Prelude.{◌≡◌, cond, ℕ, ◌+◌, ◌*◌, drop, Option, Some, None}
use Rattle.widths.specs.Ranges.{Range, span, width_in}
use Rattle.widths.specs.Table.{table}
use Rattle.widths.specs.Widths.{width_of}
use Rattle.widths.specs.WhiteSpace.{white_space}

-- what the code reads after the table's last range: no character is past it
abbrev pub beyond : Range
beyond = span 0xFFFFFF 0xFFFFFF 1

-- a range as one number
abbrev pub row_number : Range → ℕ
row_number (span a b w) = a * 0x100000000 + b * 256 + w

-- the first range that does not end before U+20000
abbrev pub behind : ℕ
behind = 474

-- the ranges before k may be left out for the character c
abbrev pub LeftOut : ℕ → ℕ → Type 0
LeftOut k c = width_in (drop k table) c ≡ width_of c

-- the width of a character that is no white space
unfoldable pub ink_width : ℕ → Option ℕ
ink_width c = cond (white_space c) None (Some (width_of c))
