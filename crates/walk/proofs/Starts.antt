-- Notes cut where a piece begins: the two parts are the notes, each has its own pieces, and the digest is the first's and then the second's.
use mathlib.Core.Path.{◌≡◌, sym, ap, ap₂, ◌∙◌}
use mathlib.Core.Bool.{true, false, ◌||◌}
use mathlib.Core.List.{List, ◌++◌}
use Prim.Native.Nat.{ℕ}
use Rattle.lists.specs.Runs.{joined}
use Rattle.lists.proofs.Parts.{joined_joined, joined_append}
use Rattle.options.specs.Opts.{Opts}
use Rattle.lines.specs.Lines.{Line}
use Rattle.pieces.specs.Pieces.{Piece, pieces}
use Rattle.pieces.specs.Theorems.NextMail.{next_mail_behind}
use Rattle.pieces.proofs.Extents.{lines_in}
use Rattle.pieces.proofs.Starts.{bytes_in, pieces_part}
use Rattle.walk.specs.Digest.{piece_output, digest, extent_of}
use Rattle.walk.proofs.Extents.{extents_are_notes}

pub bytes_are : (qs : List Piece) → bytes_in qs ≡ joined extent_of qs
unfolding extent_of
bytes_are qs = joined_joined (λ (l : Line). l.raw) lines_in qs

-- Split clears crown and tagged; with mail, next-mail is true where the second part begins.
module _ (o : Opts) (cleared : o.split ≡ true → (o.crown || o.tagged) ≡ false) (notes : List ℕ) (ps qs : List Piece) (are : pieces o notes ≡ ps ++ qs)
    (mail : o.mail ≡ true → next_mail_behind true ps ≡ true) where
  pub parts_are_notes : notes ≡ joined extent_of ps ++ joined extent_of qs
  parts_are_notes = sym (extents_are_notes o notes) ∙ ap (joined extent_of) are ∙ joined_append extent_of ps qs

  pub first_pieces : pieces o (joined extent_of ps) ≡ ps
  first_pieces = ap (pieces o) (sym (bytes_are ps)) ∙ (pieces_part o cleared notes ps qs are mail).0

  pub second_pieces : pieces o (joined extent_of qs) ≡ qs
  second_pieces = ap (pieces o) (sym (bytes_are qs)) ∙ (pieces_part o cleared notes ps qs are mail).1

  pub pieces_of_parts : pieces o notes ≡ pieces o (joined extent_of ps) ++ pieces o (joined extent_of qs)
  pieces_of_parts = are ∙ ap₂ (λ (x y : List Piece). x ++ y) (sym first_pieces) (sym second_pieces)

  pub digest_of_parts : digest o notes ≡ digest o (joined extent_of ps) ++ digest o (joined extent_of qs)
  unfolding digest
  digest_of_parts = ap (joined (piece_output o)) pieces_of_parts ∙ joined_append (piece_output o) (pieces o (joined extent_of ps)) (pieces o (joined extent_of qs))
