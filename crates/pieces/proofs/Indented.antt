-- The indents of a paragraph whose first line begins at a place: what they are, and that they lie in it.
use mathlib.Core.Path.{◌≡◌, refl, sym, ap, ◌∙◌}
use mathlib.Core.Bool.{Bool, true, false, cond, ◌||◌, true≢false}
use mathlib.Core.List.{List, ◌∷◌}
use Prim.Native.Nat.{ℕ, suc, ◌+◌, ◌≤◌, ◌<◌}
use native.Mathlib.Omega.{arith}
use lib.Dec.{ltb}
use lib.ListN.{length, take, drop}
use lib.Seq.{slice}
use borrow.Author.Tests.{ltb-true, ltb-false}
use Rattle.options.specs.Opts.{Opts}
use Rattle.lines.specs.Lines.{Line, first_line, lines_of}
use Rattle.lines.specs.Cited.Places.{most_large, lengths_of}
use Rattle.lines.specs.Classes.{classify}
use Rattle.lines.specs.declared.Shape.{Shape}
use Rattle.lines.specs.declared.Class.TheVariants.{Formatted}
use Rattle.lines.proofs.Lines.{lines_past, line_here}
use Rattle.lines.proofs.Shapes.{known}
use Rattle.pieces.specs.Pieces.{Indent, agrees, follow, Second, alone, joins, second_of, follow_second, further, indent_of, later_indent, first_indent, indent_for}
use Rattle.pieces.specs.Cited.Places.{taken, margin_at, spaces_at, later_at, indent_at}
use Rattle.pieces.specs.declared.Margin.{Margin}
use Rattle.pieces.proofs.Following.{taken_more}
use Rattle.pieces.proofs.Reach.{further_is}
use Rattle.pieces.proofs.Indents.{MarginFound, margin_at_law, margin_bare, margin_spaces, second_is}
use Rattle.pieces.proofs.Taken.{line_at, behind_at, rest_at, here}

-- the place after a paragraph whose first line, of a shape, begins at a place
abbrev pub end_of : Opts → Bool → Shape → List ℕ → ℕ → ℕ
end_of o mail s notes at = behind_at notes at + taken (take (further o mail s (rest_at notes at)) (rest_at notes at))

module _ (o : Opts) (notes : List ℕ) (at : ℕ) (inside : at < length notes) where
  abbrev line : Line
  line = line_at notes at

  abbrev behind : ℕ
  behind = behind_at notes at

  abbrev rest : List Line
  rest = rest_at notes at

  module _ (least : 1 ≤ o.tab) (most : o.tab ≤ 100) (short : length notes ≤ most_large) (cleared : o.split ≡ true → (o.crown || o.tagged) ≡ false)
      (s : Shape) (formed : classify o line.text ≡ Formatted s) where
    pub first_is : (mail : Bool) → MarginFound notes at (end_of o mail s notes at) (cond mail (spaces_at at 0) (margin_at at 0 s)) (first_indent mail line.text s)
    unfolding first_indent behind_at line_at
    first_is true = let h = here notes at inside in margin_spaces notes at (end_of o true s notes at) 0 (omega arith) (omega arith)
    first_is false =
        let h = here notes at inside in
        let k = known o line.text s least most formed in
        margin_bare notes at (end_of o false s notes at) at line.text s h.text (omega (arith, k.indent)) (omega (arith, k.columns, h.shorter, h.within)) (omega arith) (omega (arith, h.shorter))

    -- with a second line that joins, it is one of the lines taken
    further_second : (text : List ℕ) (b : Shape) → second_of o s rest ≡ joins text b → (o.crown || o.tagged) ≡ true → further o false s rest ≡ suc (follow o (agrees b) (drop 1 rest))
    further_second text b e two = further_is o false s rest ∙ go o.split refl
      where
        go : (t : Bool) → o.split ≡ t → cond t 0 (cond (o.crown || o.tagged) (follow_second o rest (second_of o s rest)) (follow o (agrees s) rest)) ≡ suc (follow o (agrees b) (drop 1 rest))
        go true h = absurd (true≢false (sym two ∙ cleared h))
        go false h = rw (two, e)

    joins_is : (text : List ℕ) (b : Shape) → second_of o s rest ≡ joins text b → (o.crown || o.tagged) ≡ true → MarginFound notes at (end_of o false s notes at) (margin_at behind 0 b) (indent_of text b)
    unfolding rest_at lengths_of behind_at
    joins_is text b e two = go (ltb behind (length notes)) refl
      where
        same : {x y : Line} {xs ys : List Line} → x ∷ xs ≡ y ∷ ys → x ≡ y
        same q = cc

        go : (t : Bool) → ltb behind (length notes) ≡ t → MarginFound notes at (end_of o false s notes at) (margin_at behind 0 b) (indent_of text b)
        go false h =
            let n = second_is o s rest text b e in
            let p = lines_past notes behind (ltb-false behind (length notes) h) in
            absurd (omega (arith, ap length (sym p ∙ n.are)))
        go true h =
            let n = second_is o s rest text b e in
            let l = line_here notes behind (lengths_of (first_line (drop behind notes))) (ltb-true behind (length notes) h) refl in
            let x : (first_line (drop behind notes)).text ≡ text = ap (λ (y : Line). y.text) (same (sym l.first ∙ n.are)) ∙ n.is in
            let k = known o text b least most n.formatted in
            let size : length (first_line (drop behind notes)).text ≡ length text = ap length x in
            let part : text ≡ slice behind (behind + length text) notes = sym x ∙ l.text ∙ ap (λ (j : ℕ). slice behind (behind + j) notes) size in
            let count : taken (take (further o false s rest) rest) ≡ length (first_line (drop behind notes)).raw + taken (take (follow o (agrees b) (drop 1 rest)) (lines_of (drop (behind + length (first_line (drop behind notes)).raw) notes))) =
            ap (λ (j : ℕ). taken (take j rest)) (further_second text b e two) ∙ ap (λ (ys : List Line). taken (take (suc (follow o (agrees b) (drop 1 rest))) ys)) l.first ∙ taken_more (first_line (drop behind notes)) _ in
            margin_bare notes at (end_of o false s notes at) behind text b part (omega (arith, k.indent)) (omega (arith, k.columns, l.shorter, l.within)) (omega (arith, (here notes at inside).on)) (omega (arith, l.shorter))

    pub indent_is : (mail : Bool) → MarginFound notes at (end_of o mail s notes at) (indent_at o mail at behind s rest) (indent_for o mail line.text s rest)
    unfolding indent_at indent_for first_indent behind_at line_at
    indent_is true = let h = here notes at inside in margin_spaces notes at (end_of o true s notes at) 2 (omega arith) (omega arith)
    indent_is false = two (o.crown || o.tagged) refl
      where
        four : (t : Bool) → cond t 4 0 ≤ 4
        four true = omega arith
        four false = omega arith

        later : (x : Second) → second_of o s rest ≡ x → (o.crown || o.tagged) ≡ true → MarginFound notes at (end_of o false s notes at) (later_at o at behind s x) (later_indent o (indent_of line.text s) x)
        later alone e t =
            let h = here notes at inside in
            let k = known o line.text s least most formed in
            margin_at_law notes at (end_of o false s notes at) at (cond o.tagged 4 0) line.text s h.text (omega (arith, k.indent)) (omega (arith, k.columns, h.shorter, h.within)) (omega arith) (omega (arith, h.shorter)) (four o.tagged)
        later (joins text b) e t = joins_is text b e t

        two : (t : Bool) → (o.crown || o.tagged) ≡ t
            → MarginFound notes at (end_of o false s notes at) (elim t as (λ x. Margin) [ true ↦ later_at o at behind s (second_of o s rest) | false ↦ margin_at at 0 s ])
            (elim t as (λ x. Indent) [ true ↦ later_indent o (indent_of line.text s) (second_of o s rest) | false ↦ indent_of line.text s ])
        two true t = later (second_of o s rest) refl t
        two false t = first_is false
