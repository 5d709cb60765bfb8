-- `knuth_plass::store::ratio_of` meets its contract: the bits are no NaN's.
use lib.Ieee.{binary32, of_bits}
use lib.Ieee.Bits.{nan_bits_is}
use Rattle.knuth_plass.proofs.Ratios.{no_nan}
use Rattle.knuth_plass.proofs.store.ratio_of.Goals as goal

pub float_from_bits-result : goal.float_from_bits-result
float_from_bits-result c = rw (nan_bits_is binary32 c.args.bits) (no_nan (of_bits binary32 c.args.bits) c.requires)
