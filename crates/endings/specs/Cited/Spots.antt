-- Where a line stands among the breaks of a paragraph's words.
use Rattle.std.specs.Prelude.{Bool, cond, ◌&&◌, List, [], ◌∷◌, ℕ, ◌+◌, ◌-◌, eqb}
use Rattle.endings.specs.declared.Spot.{Spot}
use Rattle.endings.specs.declared.Spot.TheVariants.{Before, Last, Behind}

-- from word i on, so many lines after the one that it may start
unfoldable pub spot_of : List Bool → ℕ → ℕ → Spot
spot_of [] i left = cond (eqb left 0) Last (Behind (left - 1))
spot_of (b ∷ bs) i left = cond (b && eqb left 0) (Before i) (spot_of bs (i + 1) (cond b (left - 1) left))
