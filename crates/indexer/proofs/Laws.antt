-- Piece by piece: written; and no more of them than bytes.
use Rattle.std.proofs.Common.{Result, Ok, Err}
use mathlib.Core.Path.{◌≡◌, refl, ap, ◌∙◌}
use mathlib.Core.List.{List, [], ◌∷◌}
use Prim.Native.Nat.{ℕ, ◌+◌, ◌-◌, ◌≤◌, ◌<◌}
use native.Mathlib.Omega.{arith}
use lib.ListN.{length, length-append}
use Rattle.lists.specs.Runs.{joined}
use Rattle.lists.specs.Theorems.All.{All}
use Rattle.lists.proofs.Parts.{joined_cons}
use Rattle.options.specs.Opts.{Opts, meant}
use Rattle.options.specs.declared.Options.{Options}
use Rattle.pieces.specs.Pieces.{Piece, pieces}
use Rattle.pieces.specs.declared.Paragraph.{Paragraph}
use Rattle.paragraphs.specs.Cited.Steps.{words_for, takes, TextStepped}
use Rattle.paragraphs.specs.declared.Cursor.{Cursor}
use Rattle.words.specs.declared.TooMany.{TooMany}
use Rattle.walk.specs.Digest.{extent_of}
use Rattle.walk.specs.Cited.Course.{Admitted, CursorIn, TextAhead}
use Rattle.walk.proofs.Extents.{extents_are_notes, extents_some}
use Rattle.walk.proofs.Loop.{going_first}
use Rattle.walk.proofs.Steps.{begins_stepped, begins_over, begins_long}
use Rattle.indexer.specs.Index.{line_count, records_from, index_of}
use Rattle.indexer.specs.Cited.Noting.{PieceStepped}

-- ---- a piece

module _ (o : Options) (room : ℕ) where
  pub text_stepped : (block notes : List ℕ) (c : Cursor) (p : Paragraph) → Admitted block notes o → CursorIn notes c → TextAhead block o notes c p → (out out' : List ℕ) (r : Result Cursor TooMany)
      → TextStepped (takes o.quick (p.next - c.at) room room (length (words_for block notes c.at o p))) notes c.at o p out c.written out' r block → PieceStepped room (meant block o) notes out c out' r
  text_stepped block notes c p ready s b out out' (Ok d) w = begins_stepped block notes o c p ready b room room room out out' (Ok d) d (omega arith) (omega arith) w refl
  text_stepped block notes c p ready s b out out' (Err many) w =
      let v = begins_over block notes o c p ready b room room out out' (Err many) w refl in
      ((begins_long block notes o c p ready b room c out out (going_first room (meant block o) notes c out s) v.0).0, v.1)

-- ---- the number of records

pub length_records : (o : Opts) (place line : ℕ) (qs : List Piece) → length (records_from o place line qs) ≡ length qs
unfolding records_from
length_records o place line [] = refl
length_records o place line (q ∷ qs) = let e = length_records o (place + length (extent_of q)) (line + line_count o q) qs in omega (arith, e)

few_pieces : (qs : List Piece) → All (λ (q : Piece). 0 < length (extent_of q)) qs → length qs ≤ length (joined extent_of qs)
few_pieces [] a = omega arith
few_pieces (q ∷ qs) a =
    let r = few_pieces qs a.1 in
    let h = a.0 in
    let e = ap length (joined_cons extent_of q qs) ∙ length-append (extent_of q) (joined extent_of qs) in
    omega (arith, r, h, e)

-- no more than bytes
pub few_records : (o : Opts) (notes : List ℕ) → length (index_of o notes) ≤ length notes
unfolding index_of
few_records o notes =
    let l = length_records o 0 0 (pieces o notes) in
    let f = few_pieces (pieces o notes) (extents_some o notes) in
    let e = ap length (extents_are_notes o notes) in
    omega (arith, l, f, e)
