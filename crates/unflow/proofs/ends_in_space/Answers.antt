-- `unflow::ends_in_space` meets its contract.
use borrow.Author.Rules.{rules}
use mathlib.Core.Path.{◌≡◌}
use Prim.Native.Nat.{◌-◌}
use lib.ListN.{get_or, length}
use Rattle.unflow.specs.Flowed.{ends_in_space}
use Rattle.unflow.proofs.ends_in_space.Goals as goal

pub returns : goal.returns
unfolding ends_in_space
returns c =
    let e : c.unwrap_or.result ≡ get_or c.args.s.now (length c.args.s.now - 1) 0 = search rules in
    rw e
