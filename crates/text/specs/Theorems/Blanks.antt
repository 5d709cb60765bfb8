-- Bytes that spell blank characters and nothing else, none of them a line feed; and those between two words.
use Rattle.std.specs.Prelude.{◌≡◌, Bool, true, false, not, ◌&&◌, List, ℕ, ◌<◌, eqb, length}
use Rattle.lists.specs.Runs.{every, joined}
use Rattle.text.specs.Rfc3629.{encode}
use Rattle.widths.specs.WhiteSpace.{white_space}

abbrev pub space_code : ℕ → Bool
space_code c = white_space c && not (eqb c 10)

-- bytes that spell these characters
pub record Blanks (codes bytes : List ℕ) : Type 0 where
  pub blank : every space_code codes ≡ true
  pub octets : bytes ≡ joined encode codes

-- What parts two words of a line: such bytes, and some. With glue on, one of the characters at least is no U+00A0; so by RULES 4.4
-- none of them is ordinary, whatever is before and after them (`gap_stays` in proofs/Gaps.antt).
pub record Gap (glue : Bool) (bytes : List ℕ) : Type 0 where
  pub codes : List ℕ
  pub blanks : Blanks codes bytes
  pub some : 0 < length bytes
  pub other : glue ≡ true → every (λ c. eqb c 0xA0) codes ≡ false
