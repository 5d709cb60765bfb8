-- The worked example of RULES 8.4, and two values that f32 gives and exact arithmetic does not (49 and 298).
use Rattle.std.specs.Prelude.{◌≡◌, refl, true, pos}
use Rattle.std.specs.Float.{fin}
use Rattle.std.specs.Float.Ieee.{sub, div, mul, of_int}
use Rattle.demerits.specs.Cited.Bounds.{most_word, most_cost}
use Rattle.demerits.specs.Demerits.{no_ratio, ratio, term, line_term, word_term, ratio_term, cost}

-- goal 74, stretch 5, t 70, word 3, old ratio 0: 51, 37, 38, cost 16,129
example_line : line_term (ratio 74 70 5) ≡ 51
unfolding ratio term of_int div mul
example_line = refl

example_word : word_term 5 3 ≡ 37
unfolding word_term term of_int div mul
example_word = refl

example_ratio : ratio_term (ratio 74 70 5) no_ratio ≡ 38
unfolding ratio term of_int sub div mul
example_ratio = refl

example_cost : cost (ratio 74 70 5) no_ratio 5 3 ≡ 16129
unfolding ratio cost word_term term of_int sub div mul
example_cost = refl

rounded_up : word_term 468 211 ≡ 50
unfolding word_term term of_int div mul
rounded_up = refl

rounded_down : word_term 450 2 ≡ 297
unfolding word_term term of_int div mul
rounded_down = refl

-- the greatest cost of a word that is a column wide: a line as short as may be, after one as long as may be
greatest_wide : cost (ratio 74 69 5) (fin true 1 (pos 0)) 5 1 ≡ 1002001
unfolding ratio cost word_term term of_int sub div mul
greatest_wide = refl

-- ---- words of width 0

-- at stretch 1 the division would be by 0: W is 0; a stretch of 0 is no more than any word
tight : word_term 1 0 ≡ 0
unfolding word_term
tight = refl

none_left : word_term 0 0 ≡ 0
unfolding word_term
none_left = refl

-- at stretch 2, 300 × (2/1)³, the greatest W; at stretch 3, 300 × (3/2)³ = 1012.5; and so down to 300 × (1000/999)³
greatest_word : word_term 2 0 ≡ most_word
unfolding word_term term of_int div mul
greatest_word = refl

third : word_term 3 0 ≡ 1012
unfolding word_term term of_int div mul
third = refl

widest : word_term 1000 0 ≡ 300
unfolding word_term term of_int div mul
widest = refl

-- the greatest cost is reached, by a word of width 0 at stretch 2
greatest : cost (ratio 74 72 2) (fin true 1 (pos 0)) 2 0 ≡ most_cost
unfolding ratio cost word_term term of_int sub div mul
greatest = refl
