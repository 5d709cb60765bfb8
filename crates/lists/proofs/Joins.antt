-- Lists one after the other: two parts that lie side by side, and another order of joining.
use mathlib.Core.Path.{◌≡◌, sym, ap, ◌∙◌}
use mathlib.Core.List.{List, ◌++◌, append_assoc}
use Prim.Native.Nat.{ℕ, ◌≤◌}
use native.Mathlib.Omega.{arith}
use lib.ListN.{take, drop, length, take-append-drop, length-take}
use lib.Seq.{slice, take-take, drop-append-le}

pub slice_join : {A : Type 0} (a b c : ℕ) (s : List A) → a ≤ b → b ≤ c → c ≤ length s → slice a b s ++ slice b c s ≡ slice a c s
slice_join a b c s h k l =
    sym (drop-append-le a (take b s) (slice b c s) (simp length-take (omega arith)))
    ∙ ap (drop a) (rw (← take-take b c s k) (take-append-drop b (take c s)))

pub append_inner : {A : Type 0} (a b c d : List A) → (a ++ (b ++ c)) ++ d ≡ a ++ (b ++ (c ++ d))
append_inner a b c d = simp append_assoc
