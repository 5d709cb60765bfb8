-- When a digest is looked at: the block is accepted, none of 1 to 4 is due for the notes, and the digest is within the limit. Then something
-- holds of the digest, under the options that the block means.
use Rattle.std.specs.Prelude.{◌≡◌, List, ℕ, ◌≤◌, length, Ok}
use Rattle.options.specs.Opts.{Opts, meant}
use Rattle.options.specs.OptionBlock.{read_block}
use Rattle.options.specs.declared.Options.{Options}
use Rattle.formatter.specs.Format.{Limits, found, finding}

pub record Looked (l : Limits) (block notes digest : List ℕ) (Holds : Opts → Type 0) : Type 0 where
  pub options : Options
  pub accepted : read_block block ≡ Ok options
  pub bytes : List ℕ
  pub passed : finding l block notes ≡ found bytes
  pub short : length digest ≤ l.bytes
  pub holds : Holds (meant block options)
