-- The bounds that the contracts of `demerits` promise.
use Rattle.std.specs.Prelude.{Bool, true, false, cond, ℕ, ◌-◌, ◌*◌, leb, ltb, Float}
use Rattle.std.specs.Float.{nan, inf, fin}
use Rattle.std.specs.Float.Ieee.{up, down, neg}
use Rattle.demerits.specs.Demerits.{float}

-- the greatest W, 300 × 2³: of a word of width 0 at stretch 2
abbrev pub most_word : ℕ
most_word = 2400

-- the greatest value that is ever truncated is that of W
abbrev pub most_truncated : ℕ
most_truncated = most_word

-- the greatest cost: (1 + 100 + 2,400 + 600)²
abbrev pub most_cost : ℕ
most_cost = 9616201

-- x is finite and |x| ≤ n
abbrev pub within : ℕ → Float → Bool
within n nan = false
within n (inf s) = false
within n (fin s m e) = leb (m * up e) (n * down e)

-- x is finite, has no sign, and x ≤ n
abbrev pub at_most : ℕ → Float → Bool
at_most n nan = false
at_most n (inf s) = false
at_most n (fin true m e) = false
at_most n (fin false m e) = leb (m * up e) (n * down e)

-- how many of the 24 digits of an f32 stand after the point, by its exponent as it is written
abbrev pub places : ℕ → ℕ
places e = cond (ltb e 127) 24 (150 - e)

-- goal − t as a float, but −0 where they are equal
abbrev pub apart : ℕ → ℕ → Float
apart goal t = cond (ltb t goal) (float (goal - t)) (neg (float (t - goal)))
