-- How far a paragraph reaches, as a place of the notes: the lines that follow, one by one.
use mathlib.Core.Path.{◌≡◌, refl, sym, ap, ◌∙◌}
use mathlib.Core.Bool.{Bool, true, false}
use mathlib.Core.List.{List, [], ◌∷◌}
use Prim.Native.Nat.{ℕ, suc, ◌+◌, ◌≤◌}
use native.Mathlib.Omega.{arith}
use lib.ListN.{length, drop, length-append}
use types.Run.{OneOf}
use mathlib.Core.Logic.{⊎_elim}
use denote.Enum.Declared.{tag_of}
use Rattle.lines.specs.contracts.Class.{the_type}
use Rattle.lists.specs.Runs.{joined}
use Rattle.options.specs.Opts.{Opts}
use Rattle.lines.specs.Lines.{Line, first_line, lines_of}
use Rattle.lines.specs.Classes.{classify}
use Rattle.lines.specs.declared.Shape.{Shape}
use Rattle.lines.specs.declared.Class.{Class}
use Rattle.lines.specs.declared.Class.TheVariants.{Blank, Plain, Formatted}
use Rattle.lines.proofs.Lines.{lines_past}
use Rattle.pieces.specs.Pieces.{follow}
use Rattle.pieces.specs.Cited.Places.{taken, raw_bytes, reach, LineIs}
use Rattle.pieces.specs.declared.Classed.{Classed}

pub taken_none : taken [] ≡ 0
unfolding taken joined
taken_none = refl

pub taken_more : (l : Line) (ls : List Line) → taken (l ∷ ls) ≡ length l.raw + taken ls
unfolding taken joined
taken_more l ls = length-append l.raw (joined raw_bytes ls)

-- a class that is no formatted one
abbrev pub Other : Class → Type 0
Other Blank = Unit {0}
Other Plain = Unit {0}
Other (Formatted s) = ⊥

pub other_keys : (k : Class) → OneOf (0 ∷ 1 ∷ []) (tag_of the_type k) → Other k
other_keys Blank h = tt
other_keys Plain h = tt
other_keys (Formatted s) h = absurd (⊎_elim (λ z. omega arith) (λ z. omega arith) h)

module _ (o : Opts) (test : Shape → Bool) where
  follow_other : (l : Line) (ls : List Line) (k : Class) → classify o l.text ≡ k → Other k → follow o test (l ∷ ls) ≡ 0
  unfolding follow
  follow_other l ls Blank h n = rw (h, follow)
  follow_other l ls Plain h n = rw (h, follow)
  follow_other l ls (Formatted s) h n = absurd n

  module _ (l : Line) (ls : List Line) (s : Shape) (shape : classify o l.text ≡ Formatted s) where
    follow_fails : test s ≡ false → follow o test (l ∷ ls) ≡ 0
    unfolding follow
    follow_fails h = rw (shape, h, follow)

    follow_joins : test s ≡ true → follow o test (l ∷ ls) ≡ suc (follow o test ls)
    unfolding follow
    follow_joins h = rw (shape, h, follow)

  module _ (notes : List ℕ) (i : ℕ) where
    pub reach_past : length notes ≤ i → i ≡ reach o test notes i
    unfolding reach follow
    reach_past h = rw (lines_past notes i h, taken_none) (omega arith)

    module _ (line : Classed) (here : LineIs o notes i line) where
      reach_none : follow o test (lines_of (drop i notes)) ≡ 0 → i ≡ reach o test notes i
      unfolding reach
      reach_none h = rw (h, taken_none) (omega arith)

      pub reach_other : (k : Class) → line.class ≡ k → Other k → i ≡ reach o test notes i
      reach_other k h n = reach_none (ap (follow o test) here.first ∙ follow_other _ _ k (sym here.class ∙ h) n)

      module _ (s : Shape) (shape : line.class ≡ Formatted s) where
        pub reach_fails : test s ≡ false → i ≡ reach o test notes i
        reach_fails h = reach_none (ap (follow o test) here.first ∙ follow_fails _ _ s (sym here.class ∙ shape) h)

        pub reach_joins : test s ≡ true → reach o test notes line.next ≡ reach o test notes i
        unfolding reach
        reach_joins h =
            let w = here.next in
            rw (here.first, follow_joins (first_line (drop i notes)) (lines_of (drop line.next notes)) s (sym here.class ∙ shape) h, taken_more) (omega arith)
