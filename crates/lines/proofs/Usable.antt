-- For callers: options that a block was accepted as can be used.
use Rattle.std.proofs.Common.{Option, Some, None}
use mathlib.Core.Path.{◌≡◌, refl}
use mathlib.Core.List.{List}
use Prim.Native.Nat.{ℕ}
use Rattle.options.specs.declared.Part.{Part}
use Rattle.options.specs.declared.Options.{Options}
use Rattle.options.proofs.Accepted.{Prefix, Kept}
use Rattle.lines.specs.Cited.Places.{Lies, Usable}
use Rattle.options.specs.OptionBlock.{between}

lies : (block : List ℕ) (p : Option Part) → ((start end : ℕ) → p ≡ between start end → Prefix block start end) → Lies block p
lies block None h = tt
lies block (Some part) h = let k = h part.start part.end refl in (k.ordered, k.inside)

pub usable : (block : List ℕ) (o : Options) → Kept block o → Usable block o
usable block o k = record {
  prefix = lies block o.prefix k.prefix_given;
  skip = lies block o.skip k.skip_given;
  least = k.tab_least;
  most = k.tab_most;
}
