-- What formatting is done with: the accepted options, the prefixes as bytes. All later sections read these.
use Rattle.std.specs.Prelude.{Bool, List, ℕ, Option, Some, None}
use Rattle.std.proofs.Math.Seq.{slice}
use Rattle.options.specs.declared.Part.{Part}
use Rattle.options.specs.declared.Options.{Options}

-- a prefix may be absent; present and empty differs from absent
pub data Text : Type 0 where
  absent : Text
  given : List ℕ → Text

pub record Opts : Type 0 where
  pub crown : Bool
  pub tagged : Bool
  pub mail : Bool
  pub split : Bool
  pub uniform : Bool
  pub quick : Bool
  pub exact_prefix : Bool
  pub exact_skip : Bool
  pub keep : Bool
  pub glue : Bool
  -- sentence-start counts blanks by characters, not by bytes (RULES 3.2)
  pub by_characters : Bool
  pub width : ℕ
  pub goal : ℕ
  pub tab : ℕ
  pub prefix : Text
  pub skip : Text

-- the options as read (OptionBlock) hold the prefixes as places in the block; their bytes are what stands there
abbrev pub text_of : List ℕ → Option Part → Text
text_of block None = absent
text_of block (Some part) = given (slice part.start part.end block)

unfoldable pub meant : List ℕ → Options → Opts
meant block o = record {
  crown = o.crown;
  tagged = o.tagged;
  mail = o.mail;
  split = o.split;
  uniform = o.uniform;
  quick = o.quick;
  exact_prefix = o.exact_prefix;
  exact_skip = o.exact_skip;
  keep = o.keep;
  glue = o.glue;
  by_characters = o.by_characters;
  width = o.width;
  goal = o.goal;
  tab = o.tab;
  prefix = text_of block o.prefix;
  skip = text_of block o.skip;
}
