-- A refusal's code and N, where it is known which refusal it is: what `Refusing.number` asks for holds of its code and N.
use mathlib.Core.Path.{◌≡◌}
use Prim.Native.Nat.{◌+◌, ◌*◌, ◌^◌, ◌<◌}
use Rattle.lists.specs.Coded.{Coded, numbered}

pub refusal_fits : {E : Type 0} (refused : E → Coded) {e d : E} → e ≡ d → numbered (refused e) < 2 ^ 64 → (refused d).code * 2 ^ 32 + (refused d).value < 2 ^ 64
unfolding numbered
refusal_fits refused e h = rw (← e) h
