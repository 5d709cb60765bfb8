-- The next piece, from the line that begins at its place.
use mathlib.Core.Path.{◌≡◌, sym, ap, ◌∙◌}
use mathlib.Core.Bool.{Bool}
use mathlib.Core.List.{List}
use Prim.Native.Nat.{ℕ, ◌-◌}
use native.Mathlib.Omega.{arith}
use lib.ListN.{length, take, drop}
use lib.Seq.{slice}
use Rattle.lists.proofs.Slices.{slice_is}
use Rattle.options.specs.Opts.{Opts, meant}
use Rattle.options.specs.declared.Options.{Options}
use Rattle.lines.specs.Lines.{first_line, lines_of}
use Rattle.lines.specs.declared.Shape.{Shape}
use Rattle.lines.specs.declared.Class.{Class}
use Rattle.lines.specs.declared.Class.TheVariants.{Blank, Plain, Formatted}
use Rattle.pieces.specs.Pieces.{starts_mail}
use Rattle.pieces.specs.Cited.Places.{LineIs, piece_from, piece_at, paragraph_with}
use Rattle.pieces.specs.declared.Classed.{Classed}
use Rattle.pieces.specs.declared.Paragraph.{Paragraph}
use Rattle.pieces.specs.declared.Piece.TheVariants.{Blank as BlankAt, Plain as PlainAt, Text}

module _ (o : Opts) (nextMail : Bool) (notes : List ℕ) (at : ℕ) (line : Classed) (here : LineIs o notes at line) where
  piece_is : piece_from o nextMail at (first_line (drop at notes)) (lines_of (drop line.next notes)) line.class ≡ piece_at o nextMail notes at
  unfolding piece_at
  piece_is = rw (here.first, here.class)

  of_class : (k : Class) → line.class ≡ k → piece_from o nextMail at (first_line (drop at notes)) (lines_of (drop line.next notes)) k ≡ piece_at o nextMail notes at
  of_class k e = ap (piece_from o nextMail at (first_line (drop at notes)) (lines_of (drop line.next notes))) (sym e) ∙ piece_is

  pub piece_blank : line.class ≡ Blank → BlankAt line.next ≡ piece_at o nextMail notes at
  piece_blank e = ap BlankAt here.next ∙ of_class Blank e

  pub piece_plain : line.class ≡ Plain → PlainAt line.end line.next ≡ piece_at o nextMail notes at
  piece_plain e = rw (here.end, here.next) (of_class Plain e)

-- of the code's options: mail or not as the code found on the line's part of the notes
module _ (block notes : List ℕ) (o : Options) (nextMail : Bool) (at : ℕ) (line : Classed) (here : LineIs (meant block o) notes at line)
    (s : Shape) (shape : line.class ≡ Formatted s) (mail : Bool) (starts : mail ≡ starts_mail o.mail nextMail s (take (line.end - at) (drop at notes))) where
  text_part : take (line.end - at) (drop at notes) ≡ (first_line (drop at notes)).text
  text_part =
      let e = here.end in
      let n : line.end - at ≡ length (first_line (drop at notes)).text = omega arith in
      ap (λ (k : ℕ). take k (drop at notes)) n ∙ sym (slice_is at (length (first_line (drop at notes)).text) notes) ∙ ap (λ (k : ℕ). slice at k notes) (sym e) ∙ sym here.text

  header : mail ≡ starts_mail (meant block o).mail nextMail s (first_line (drop at notes)).text
  unfolding meant
  header = starts ∙ ap (starts_mail o.mail nextMail s) text_part

  pub piece_text : (p : Paragraph) → p ≡ paragraph_with (meant block o) mail at line.next s (lines_of (drop line.next notes)) → Text p ≡ piece_at (meant block o) nextMail notes at
  piece_text p e =
      ap Text (e ∙ ap (λ (m : Bool). paragraph_with (meant block o) m at line.next s (lines_of (drop line.next notes))) header
      ∙ ap (λ (n : ℕ). paragraph_with (meant block o) (starts_mail (meant block o).mail nextMail s (first_line (drop at notes)).text) at n s (lines_of (drop line.next notes))) here.next)
      ∙ of_class (meant block o) nextMail notes at line here (Formatted s) shape
