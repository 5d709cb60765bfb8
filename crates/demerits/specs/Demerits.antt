-- RULES 8.4: ratio, the three terms and the cost of a break, in f32 with each operation rounded.
-- A float of the kit is `nan`, `inf s` or `fin s m e`: the number m × 2^e, below zero if s. `up e` is 2^e where e is at least 0 and else 1;
-- `down e` is 2^-e where e is below 0 and else 1. `mul binary32`, `sub`, `div` and `of_int` round once, to the nearest f32.
use Rattle.std.specs.Prelude.{false, cond, ◌||◌, ℕ, ◌+◌, ◌-◌, ◌*◌, ◌/◌, pos, leb, eqb, Float}
use Rattle.std.specs.Float.{nan, inf, fin, binary32}
use Rattle.std.specs.Float.Ieee.{up, down, minus, mul, sub, div, of_int}

-- a whole number as an f32
abbrev pub float : ℕ → Float
float n = of_int binary32 (pos n)

-- 0
abbrev pub no_ratio : Float
no_ratio = fin false 0 (pos 0)

-- x without its sign (nan and inf are not reached: all operands are finite and small, see Cited/Bounds)
abbrev pub abs : Float → Float
abs nan = nan
abs (inf s) = inf false
abs (fin s m e) = fin false m e

-- truncating: the greatest whole number up to |x|, m × 2^e rounded down (nan and inf are not reached)
abbrev pub whole : Float → ℕ
whole nan = 0
whole (inf s) = 0
whole (fin s m e) = m * up e / down e

-- cube(x) = (x × x) × x
abbrev pub cube : Float → Float
cube x = mul binary32 (mul binary32 x x) x

-- k × |cube(x)|, truncated
unfoldable pub term : ℕ → Float → ℕ
term k x = whole (mul binary32 (float k) (abs (cube x)))

-- r = 0 if t = goal, else (goal − t)/stretch; `minus goal t` is the difference with its sign
unfoldable pub ratio : ℕ → ℕ → ℕ → Float
ratio goal t stretch = cond (eqb t goal) no_ratio (div binary32 (of_int binary32 (minus goal t)) (float stretch))

-- L = 100 × |cube(r)|
abbrev pub line_term : Float → ℕ
line_term r = term 100 r

-- W = 0 if word ≥ stretch, and at stretch 1 (RULES 8.4: a word may have width 0); else 300 × |cube((stretch − word)/(stretch − 1))|
unfoldable pub word_term : ℕ → ℕ → ℕ
word_term stretch word = cond (leb stretch word || leb stretch 1) 0 (term 300 (div binary32 (float (stretch - word)) (float (stretch - 1))))

-- D = 600 × |cube((r − old ratio)/2)|
abbrev pub ratio_term : Float → Float → ℕ
ratio_term r old = term 600 (div binary32 (sub binary32 r old) (float 2))

-- cost = (1 + L + W + D)², at most 9,616,201 by a law (proofs/Terms, `square_le_most`): with W given, and with W as above
abbrev pub cost_with : Float → Float → ℕ → ℕ
cost_with r old w = let c = 1 + line_term r + w + ratio_term r old in c * c

unfoldable pub cost : Float → Float → ℕ → ℕ → ℕ
cost r old stretch word = cost_with r old (word_term stretch word)
