-- `knuth_plass::store::bits_of` meets its contract: the bits of a value are read as that value.
use mathlib.Core.Path.{sym, subst}
use lib.Dec.{T}
use lib.Ieee.{binary32}
use lib.Ieee.Bits.{of_bits-to_bits}
use Rattle.knuth_plass.proofs.Ratios.{no_nan}
use Rattle.knuth_plass.proofs.store.bits_of.Goals as goal

pub float_to_bits-result : goal.float_to_bits-result
float_to_bits-result c = no_nan c.args.ratio c.requires

pub returns : goal.returns
returns c = of_bits-to_bits binary32 c.args.ratio (subst T (sym c.well_formed.0.1) tt)
