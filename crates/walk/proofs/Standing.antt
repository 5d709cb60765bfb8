-- The words of the notes stand at their places, all of them, in order.
use mathlib.Core.Path.{◌≡◌, refl, sym, ap, ap₂, ◌∙◌}
use mathlib.Core.List.{List, [], ◌∷◌, ◌++◌, map, map-append, append_assoc}
use Prim.Native.Nat.{ℕ, ◌+◌, ◌≤◌}
use native.Mathlib.Nat.{zero-add}
use native.Mathlib.Omega.{arith}
use lib.ListN.{length, length-append}
use Rattle.lists.specs.Runs.{joined}
use Rattle.lists.specs.Theorems.All.{All}
use Rattle.lists.proofs.All.{all_append, all_back}
use Rattle.lists.proofs.Parts.{joined_nil, joined_append, joined_joined}
use Rattle.options.specs.Opts.{Opts}
use Rattle.lines.specs.Lines.{Line, lines_of}
use Rattle.pieces.specs.Pieces.{Paragraph, Piece, Kind, blank_line, plain_line, paragraph, pieces}
use Rattle.pieces.specs.Cited.Places.{raw_bytes}
use Rattle.pieces.proofs.Extents.{lines_in, pieces_lines, OfKind, OfPiece, pieces_rows}
use Rattle.records.specs.Word.{Word}
use Rattle.words.specs.Places.{Standing, words_standing}
use Rattle.words.specs.Theorems.Standing.{Ascends, Stands, WordsStand}
use Rattle.words.proofs.Places.{paragraph_stands}
use Rattle.walk.specs.Digest.{extent_of}
use Rattle.walk.specs.Standing.{words_under, standing_under, standing_from, standing_words}
use Rattle.walk.proofs.Extents.{extents_are_notes, joined_at}

abbrev word_in : Standing → Word
word_in s = s.word

-- ---- one list of words after the other

ascends_sooner : (from next end : ℕ) (ss : List Standing) → from ≤ next → Ascends next ss end → Ascends from ss end
ascends_sooner from next end [] h a = omega arith
ascends_sooner from next end (s ∷ ss) h a = (omega (arith, a.0), a.1)

ascends_append : (from middle end : ℕ) (ss rs : List Standing) → Ascends from ss middle → Ascends middle rs end → Ascends from (ss ++ rs) end
ascends_append from middle end [] rs a b = ascends_sooner from middle end rs a b
ascends_append from middle end (s ∷ ss) rs a b = (a.0, ascends_append (s.place + length s.word.text) middle end ss rs a.1 b)

-- what stands from a place on up to an end, and which words these are
pub record AllStand (o : Opts) (notes : List ℕ) (from end : ℕ) (ss : List Standing) (ws : List Word) : Type 0 where
  pub words : map word_in ss ≡ ws
  pub each : All (λ (s : Standing). Stands o.glue notes s.place s.word.text) ss
  pub ascend : Ascends from ss end

module _ (o : Opts) (notes : List ℕ) where
  stand_append : (from middle end : ℕ) (ss rs : List Standing) (ws vs : List Word) → AllStand o notes from middle ss ws → AllStand o notes middle end rs vs → AllStand o notes from end (ss ++ rs) (ws ++ vs)
  stand_append from middle end ss rs ws vs a b = record {
    words = map-append word_in ss rs ∙ ap₂ (λ (x y : List Word). x ++ y) a.words b.words;
    each = all_append _ ss rs a.each b.each;
    ascend = ascends_append from middle end ss rs a.ascend b.ascend;
  }

  -- the words of a piece
  piece_stands : (above ls below : List Line) (k : Kind) → lines_of notes ≡ above ++ (ls ++ below) → OfKind o ls k
      → AllStand o notes (length (joined raw_bytes above)) (length (joined raw_bytes above) + length (joined raw_bytes ls)) (standing_under o (length (joined raw_bytes above)) ls k) (words_under o k)
  piece_stands above ls below blank_line e r = record { words = refl; each = tt; ascend = omega arith }
  piece_stands above ls below (plain_line text) e r = record { words = refl; each = tt; ascend = omega arith }
  piece_stands above ls below (paragraph p) e r =
      let s = paragraph_stands o notes above ls below p e r.rows in
      record { words = s.words; each = s.each; ascend = s.ascend }

  pieces_stand : (above : List Line) (qs : List Piece) (at : ℕ) → at ≡ length (joined raw_bytes above) → lines_of notes ≡ above ++ joined lines_in qs → All (OfPiece o) qs
      → AllStand o notes at (at + length (joined extent_of qs)) (standing_from o at qs) (joined (λ (q : Piece). words_under o q.kind) qs)
  unfolding standing_from joined extent_of
  pieces_stand above [] at q e r = record { words = refl; each = tt; ascend = omega arith }
  pieces_stand above (p ∷ qs) at q e r =
      let n = length (joined raw_bytes p.lines) in
      let m : at + n ≡ length (joined raw_bytes (above ++ p.lines)) = omega (arith, q, simp length-append at (ap length (joined_append raw_bytes above p.lines))) in
      let z : at + (n + length (joined extent_of qs)) ≡ at + n + length (joined extent_of qs) = omega arith in
      let here = rw (← q) at (piece_stands above p.lines (joined lines_in qs) p.kind e r.0) in
      let later = pieces_stand (above ++ p.lines) qs (at + n) m (e ∙ sym (append_assoc above p.lines (joined lines_in qs))) r.1 in
      rw (length-append (joined raw_bytes p.lines) (joined extent_of qs), z)
      (stand_append at (at + n) (at + n + length (joined extent_of qs)) (standing_under o at p.lines p.kind) (standing_from o (at + n) qs) (words_under o p.kind) _ here later)

pub words_stand : (o : Opts) (notes : List ℕ) → AllStand o notes 0 (length notes) (standing_words o notes) (joined (λ (q : Piece). words_under o q.kind) (pieces o notes))
unfolding standing_words
words_stand o notes =
    let n : 0 + length (joined extent_of (pieces o notes)) ≡ length notes = omega (arith, ap length (extents_are_notes o notes)) in
    rw n at (pieces_stand o notes [] (pieces o notes) 0 (sym (ap length (joined_nil raw_bytes))) (sym (pieces_lines o notes)) (pieces_rows o notes))

-- ---- at one of the pieces

standing_append : (o : Opts) (at : ℕ) (ps qs : List Piece) → standing_from o at (ps ++ qs) ≡ standing_from o at ps ++ standing_from o (at + length (joined extent_of ps)) qs
unfolding standing_from joined
standing_append o at [] qs = let z : at + 0 ≡ at = omega arith in rw z
standing_append o at (p ∷ ps) qs =
    let n : at + length (extent_of p) + length (joined extent_of ps) ≡ at + length (joined extent_of (p ∷ ps)) = omega (arith, length-append (extent_of p) (joined extent_of ps)) in
    let here = standing_under o at p.lines p.kind in
    ap (λ (l : List Standing). here ++ l) (standing_append o (at + length (extent_of p)) ps qs ∙ ap (λ (k : ℕ). standing_from o (at + length (extent_of p)) ps ++ standing_from o k qs) n)
    ∙ sym (append_assoc here (standing_from o (at + length (extent_of p)) ps) (standing_from o (at + length (joined extent_of (p ∷ ps))) qs))

module _ (o : Opts) (notes : List ℕ) (before : List Piece) (q : Piece) (after : List Piece) (p : Paragraph) (e : pieces o notes ≡ before ++ q ∷ after) (k : q.kind ≡ paragraph p) where
  abbrev place : ℕ
  place = length (joined extent_of before)

  pub paragraph_stands_there : WordsStand o notes place q.lines p
  unfolding extent_of
  paragraph_stands_there =
      let lines = sym (pieces_lines o notes) ∙ joined_at lines_in before q after (pieces o notes) e in
      let rows = rw k at (all_back (OfPiece o) before (q ∷ after) (rw e at (pieces_rows o notes))).0 in
      rw (joined_joined raw_bytes lines_in before) at (paragraph_stands o notes (joined lines_in before) q.lines (joined lines_in after) p lines rows.rows)

  pub standing_there : standing_words o notes ≡ standing_from o 0 before ++ (words_standing o place q.lines p ++ standing_from o (place + length (extent_of q)) after)
  unfolding standing_words standing_from
  standing_there =
      ap (standing_from o 0) e ∙ standing_append o 0 before (q ∷ after)
      ∙ ap (λ (n : ℕ). standing_from o 0 before ++ (standing_under o n q.lines q.kind ++ standing_from o (n + length (extent_of q)) after)) (zero-add place)
      ∙ ap (λ (t : Kind). standing_from o 0 before ++ (standing_under o place q.lines t ++ standing_from o (place + length (extent_of q)) after)) k
