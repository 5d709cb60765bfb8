-- A ratio as bits: what is known to be small is no NaN, and it is read back as it was.
use mathlib.Core.Bool.{not}
use lib.Dec.{T}
use lib.Ieee.{Float, nan, inf, fin, is_nan}
use Rattle.demerits.specs.Cited.Bounds.{within}

pub no_nan : (x : Float) → T (within 1 x) → T (not (is_nan x))
unfolding is_nan
no_nan nan h = absurd h
no_nan (inf s) h = tt
no_nan (fin s m e) h = tt
