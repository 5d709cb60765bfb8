-- How the code's places in a digest mean a match.
use Rattle.std.specs.Prelude.{◌≡◌, Bool, List, ℕ, ◌+◌, ◌≤◌, length, drop, Result, Ok, Err}
use Rattle.text.specs.Characters.{extent}
use Rattle.pieces.specs.declared.Margin.{Margin}
use Rattle.records.specs.Cited.Table.{Holds, AllWithin}
use Rattle.checker.specs.Matching.{Match, on, fault, spaces, parting}
use Rattle.checker.specs.declared.Spot.{Spot}
use Rattle.checker.specs.declared.Fault.{Fault}
use Rattle.checker.specs.declared.Gap.{Gap}

-- a place in a digest, before which no more lines end than bytes stand
pub record SpotIn (digest : List ℕ) (p : Spot) : Type 0 where
  pub within : p.at ≤ length digest
  pub line : p.line ≤ p.at

abbrev pub matched : List ℕ → Result Spot Fault → Match
matched digest (Ok p) = on (drop p.at digest) p.line
matched digest (Err f) = fault f.line

abbrev pub MatchedIn : List ℕ → Result Spot Fault → Type 0
MatchedIn digest (Ok p) = SpotIn digest p
MatchedIn digest (Err f) = f.line ≤ length digest

-- what a matching function answers
pub record Matches (digest : List ℕ) (m : Match) (r : Result Spot Fault) : Type 0 where
  pub is : matched digest r ≡ m
  pub inside : MatchedIn digest r

-- blanks at a place
pub record GapAt (glue : Bool) (s : List ℕ) (at : ℕ) (g : Gap) : Type 0 where
  pub end : g.end ≡ at + extent (spaces (drop at s))
  pub hard : g.hard ≡ at + parting glue (spaces (drop at s))
  pub order : g.hard ≤ g.end
  pub within : g.end ≤ length s

-- an indent of the notes, with at most four spaces after it
pub record MarginFits (notes : List ℕ) (m : Margin) : Type 0 where
  pub order : m.start ≤ m.end
  pub end : m.end ≤ length notes
  pub more : m.more ≤ 4

-- a table of n words of the notes, and the indent of their lines
pub record Matchable (notes table : List ℕ) (n : ℕ) (indent : Margin) : Type 0 where
  pub some : 1 ≤ n
  pub words : AllWithin (length notes) n table
  pub held : Holds n table
  pub fits : MarginFits notes indent
