-- `demerits::trunc` meets its contract: each need is a fact of `proofs/Pattern.antt`.
use mathlib.Core.Path.{ap, ◌∙◌}
use Prim.Native.Nat.{ℕ, ◌/◌, ◌^◌}
use native.Mathlib.Nat.{lt_of_le_of_lt}
use lib.Dec.{lit<}
use lib.Ieee.{binary32, to_bits}
use Rattle.demerits.specs.Cited.Bounds.{most_truncated}
use Rattle.demerits.proofs.Pattern.{digits, cut_whole, shift_fits, no_nan}
use Rattle.demerits.proofs.Whole.{whole_le}
use Rattle.demerits.proofs.trunc.Goals as goal

pub float_to_bits-bits : goal.float_to_bits-bits
float_to_bits-bits c = no_nan most_truncated c.args.x c.requires

pub places-behind-requires : goal.places-behind-requires
places-behind-requires c = shift_fits most_truncated (lit< tt) c.args.x c.requires

pub overflow_cast-result : goal.overflow_cast-result
overflow_cast-result c =
    let x = c.args.x in
    record { fits = rw (c.places-behind.ensures, cut_whole most_truncated (lit< tt) x c.requires) (lt_of_le_of_lt (whole_le most_truncated x c.requires) (lit< tt)) }

pub returns : goal.returns
returns c =
    let x = c.args.x in
    ap (λ (n : ℕ). digits (to_bits binary32 x) / 2 ^ n) c.places-behind.ensures ∙ cut_whole most_truncated (lit< tt) x c.requires
