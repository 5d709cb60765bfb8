-- The room that a paragraph's work is lent: how many words it is for.
use mathlib.Core.Path.{◌≡◌}
use mathlib.Core.Bool.{Bool, true, false, true≢false, ◌||◌}
use mathlib.Core.List.{List}
use Prim.Native.Nat.{ℕ, ◌*◌, ◌≤◌}
use native.Mathlib.Omega.{arith}
use lib.ListN.{length}
use Rattle.paragraphs.specs.Cited.Steps.{room_for, Roomy}

-- it holds the words that it is for
pub room_holds : (quick : Bool) (size m : ℕ) → m ≡ room_for quick size → m * 7 ≤ size
unfolding room_for
room_holds true size m e = omega arith
room_holds false size m e = omega arith

-- and their breaks, unless they are broken quick
pub roomy : (quick mail : Bool) {size : ℕ} {work : List ℕ} {n m : ℕ} {fast : Bool} → length work ≡ size → m ≡ room_for quick size → n ≤ m → fast ≡ (quick || mail) → Roomy fast n work
unfolding room_for
roomy true mail s e h f = record { held = omega arith; breaks = λ k. absurd (let z : true ≡ false = cc in true≢false z) }
roomy false mail s e h f = record { held = omega arith; breaks = λ k. omega arith }
