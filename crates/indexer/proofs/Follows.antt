-- The records follow each other without a gap from the notes' first byte to their end and from the digest's first line to its last; and
-- the index of notes that have a piece of their own between two parts.
use mathlib.Core.Path.{◌≡◌, refl, ap, subst, ◌∙◌}
use mathlib.Core.Bool.{Bool, true, false}
use mathlib.Core.List.{List, [], ◌∷◌, ◌++◌, map}
use Prim.Native.Nat.{ℕ, ◌+◌, ◌<◌}
use native.Mathlib.Omega.{arith}
use lib.ListN.{length, length-append}
use Rattle.lists.specs.Runs.{joined}
use Rattle.lists.proofs.Parts.{joined_nil, joined_cons}
use Rattle.options.specs.Opts.{Opts}
use Rattle.lines.specs.Lines.{lines_of}
use Rattle.lines.specs.Theorems.Closed.{Closed}
use Rattle.lines.proofs.Boundary.{lines_append}
use Rattle.lines.proofs.Lines.{lines_past}
use Rattle.pieces.specs.Pieces.{Piece, Kind, blank_line, plain_line, paragraph, pieces}
use Rattle.records.specs.Word.{Word}
use Rattle.words.specs.Words.{words_of}
use Rattle.output.specs.Emission.{line_feed, space_before, emit_rest, emit}
use Rattle.walk.specs.Digest.{formatted, output_of, piece_output, digest, extent_of}
use Rattle.walk.proofs.Extents.{extents_are_notes}
use Rattle.index.specs.declared.Record.{Record}
use Rattle.indexer.specs.Index.{line_count, records_from, index_of}
use Rattle.indexer.specs.Theorems.Follows.{Follows, shifted}

-- ---- a piece's output ends in a line feed

record Ended (bytes : List ℕ) : Type 0 where
  some : 0 < length bytes
  closed : Closed bytes

closed_behind : (a : List ℕ) (y : ℕ) (b : List ℕ) → Closed (y ∷ b) → Closed (a ++ y ∷ b)
closed_behind [] y b c = c
closed_behind (x ∷ []) y b c = c
closed_behind (x ∷ z ∷ a) y b c = closed_behind (z ∷ a) y b c

ended_behind : (a b : List ℕ) → Ended b → Ended (a ++ b)
ended_behind a [] e = absurd (let h = e.some in omega arith)
ended_behind a (y ∷ b) e = record { some = rw length-append (omega arith); closed = closed_behind a y b e.closed }

feed_ended : Ended line_feed
feed_ended = record { some = omega arith; closed = refl }

rest_ended : (uniform : Bool) (indent : List ℕ) (punct : Bool) (breaks : List Bool) (ws : List Word) → Ended (emit_rest uniform indent punct breaks ws)
unfolding emit_rest
rest_ended uniform indent punct breaks [] = feed_ended
rest_ended uniform indent punct [] (w ∷ ws) = ended_behind (space_before uniform punct w) _ (ended_behind w.text _ (rest_ended uniform indent w.ends_punct [] ws))
rest_ended uniform indent punct (b ∷ breaks) (w ∷ ws) =
    ended_behind (elim b as (λ x. List ℕ) [ true ↦ line_feed ++ indent | false ↦ space_before uniform punct w ]) _ (ended_behind w.text _ (rest_ended uniform indent w.ends_punct breaks ws))

emit_ended : (uniform : Bool) (first indent : List ℕ) (breaks : List Bool) (ws : List Word) → Ended (emit uniform first indent breaks ws)
unfolding emit
emit_ended uniform first indent breaks [] = feed_ended
emit_ended uniform first indent breaks (w ∷ ws) = ended_behind first _ (ended_behind w.text _ (rest_ended uniform indent false breaks ws))

kind_ended : (o : Opts) (k : Kind) → Ended (output_of o k)
unfolding output_of formatted
kind_ended o blank_line = feed_ended
kind_ended o (plain_line line) = ended_behind line line_feed feed_ended
kind_ended o (paragraph p) = emit_ended _ p.first.bytes p.indent.bytes _ (words_of o p)

-- ---- without a gap

module _ (o : Opts) where
  -- so far the pieces reach in the notes, and so many lines they have
  abbrev bytes_in : List Piece → ℕ
  bytes_in qs = length (joined extent_of qs)

  abbrev lines_in : List Piece → ℕ
  lines_in qs = length (lines_of (joined (piece_output o) qs))

  bytes_more : (q : Piece) (qs : List Piece) → bytes_in (q ∷ qs) ≡ length (extent_of q) + bytes_in qs
  bytes_more q qs = ap length (joined_cons extent_of q qs) ∙ length-append (extent_of q) (joined extent_of qs)

  lines_more : (q : Piece) (qs : List Piece) → lines_in (q ∷ qs) ≡ line_count o q + lines_in qs
  unfolding line_count
  lines_more q qs =
      ap (λ (xs : List ℕ). length (lines_of xs)) (joined_cons (piece_output o) q qs)
      ∙ ap length (lines_append (piece_output o q) (joined (piece_output o) qs) (kind_ended o q.kind).closed)
      ∙ length-append (lines_of (piece_output o q)) (lines_of (joined (piece_output o) qs))

  bytes_none : bytes_in [] ≡ 0
  bytes_none = ap length (joined_nil extent_of)

  lines_none : lines_in [] ≡ 0
  lines_none = ap (λ (xs : List ℕ). length (lines_of xs)) (joined_nil (piece_output o)) ∙ ap length (lines_past [] 0 (omega arith))

  records_follow : (place line : ℕ) (qs : List Piece) → Follows place line (records_from o place line qs) (place + bytes_in qs) (line + lines_in qs)
  unfolding records_from
  records_follow place line [] = let b = bytes_none in let l = lines_none in (omega (arith, b), omega (arith, l))
  records_follow place line (q ∷ qs) =
      let b = bytes_more q qs in
      let l = lines_more q qs in
      let e : (place + length (extent_of q)) + bytes_in qs ≡ place + bytes_in (q ∷ qs) = omega (arith, b) in
      let f : (line + line_count o q) + lines_in qs ≡ line + lines_in (q ∷ qs) = omega (arith, l) in
      let rs : List Record = records_from o (place + length (extent_of q)) (line + line_count o q) qs in (
        refl,
        refl,
        subst (λ (x : ℕ). Follows (place + length (extent_of q)) (line + line_count o q) rs x (line + lines_in (q ∷ qs))) e
            (subst (λ (x : ℕ). Follows (place + length (extent_of q)) (line + line_count o q) rs ((place + length (extent_of q)) + bytes_in qs) x) f (records_follow (place + length (extent_of q)) (line + line_count o q) qs)),
      )

  -- from place 0 to the notes' end, and from line 0 to the digest's last
  pub the_records_follow_without_a_gap : (notes : List ℕ) → Follows 0 0 (index_of o notes) (length notes) (length (lines_of (digest o notes)))
  unfolding index_of digest
  the_records_follow_without_a_gap notes =
      let e : 0 + bytes_in (pieces o notes) ≡ length notes = let x = ap length (extents_are_notes o notes) in omega (arith, x) in
      let f : 0 + lines_in (pieces o notes) ≡ lines_in (pieces o notes) = omega arith in
      subst (λ (x : ℕ). Follows 0 0 (records_from o 0 0 (pieces o notes)) x (lines_in (pieces o notes))) e
      (subst (λ (x : ℕ). Follows 0 0 (records_from o 0 0 (pieces o notes)) (0 + bytes_in (pieces o notes)) x) f (records_follow 0 0 (pieces o notes)))

  -- ---- two parts, and a piece of its own between them

  records_append : (place line : ℕ) (qs rs : List Piece) → records_from o place line (qs ++ rs) ≡ records_from o place line qs ++ records_from o (place + bytes_in qs) (line + lines_in qs) rs
  unfolding records_from
  records_append place line [] rs =
      let b = bytes_none in
      let l = lines_none in
      let e : place ≡ place + bytes_in [] = omega (arith, b) in
      let f : line ≡ line + lines_in [] = omega (arith, l) in
      ap (λ (x : ℕ). records_from o x line rs) e ∙ ap (λ (x : ℕ). records_from o (place + bytes_in []) x rs) f
  records_append place line (q ∷ qs) rs =
      let b = bytes_more q qs in
      let l = lines_more q qs in
      let e : (place + length (extent_of q)) + bytes_in qs ≡ place + bytes_in (q ∷ qs) = omega (arith, b) in
      let f : (line + line_count o q) + lines_in qs ≡ line + lines_in (q ∷ qs) = omega (arith, l) in
      let r : Record = record { place = place; length = length (extent_of q); first = line; count = line_count o q } in
      let xs : List Record = records_from o (place + length (extent_of q)) (line + line_count o q) qs in
      ap (λ (ys : List Record). r ∷ ys) (records_append (place + length (extent_of q)) (line + line_count o q) qs rs
      ∙ ap (λ (x : ℕ). xs ++ records_from o x ((line + line_count o q) + lines_in qs) rs) e ∙ ap (λ (x : ℕ). xs ++ records_from o (place + bytes_in (q ∷ qs)) x rs) f)

  records_shift : (bytes lines place line : ℕ) (qs : List Piece) → records_from o (bytes + place) (lines + line) qs ≡ map (shifted bytes lines) (records_from o place line qs)
  unfolding records_from
  records_shift bytes lines place line [] = refl
  records_shift bytes lines place line (q ∷ qs) =
      let e : (bytes + place) + length (extent_of q) ≡ bytes + (place + length (extent_of q)) = omega arith in
      let f : (lines + line) + line_count o q ≡ lines + (line + line_count o q) = omega arith in
      let r : Record = record { place = bytes + place; length = length (extent_of q); first = lines + line; count = line_count o q } in
      ap (λ (ys : List Record). r ∷ ys) (ap (λ (x : ℕ). records_from o x ((lines + line) + line_count o q) qs) e ∙ ap (λ (x : ℕ). records_from o (bytes + (place + length (extent_of q))) x qs) f
      ∙ records_shift bytes lines (place + length (extent_of q)) (line + line_count o q) qs)

  -- notes whose pieces are those of a first part and those of a second
  pub index_append : (first second whole : List ℕ) → pieces o whole ≡ pieces o first ++ pieces o second
      → index_of o whole ≡ index_of o first ++ map (shifted (length first) (length (lines_of (digest o first)))) (index_of o second)
  unfolding index_of digest
  index_append first second whole e =
      let n : ℕ = length first in
      let l : ℕ = lines_in (pieces o first) in
      let a : 0 + bytes_in (pieces o first) ≡ n + 0 = let x = ap length (extents_are_notes o first) in omega (arith, x) in
      let b : 0 + lines_in (pieces o first) ≡ l + 0 = omega arith in
      let xs : List Record = records_from o 0 0 (pieces o first) in
      ap (records_from o 0 0) e ∙ records_append 0 0 (pieces o first) (pieces o second)
      ∙ ap (λ (x : ℕ). xs ++ records_from o x (0 + lines_in (pieces o first)) (pieces o second)) a ∙ ap (λ (x : ℕ). xs ++ records_from o (n + 0) x (pieces o second)) b
      ∙ ap (λ (ys : List Record). xs ++ ys) (records_shift n l 0 0 (pieces o second))

  -- notes whose pieces are those of a first part, one between, and those of a second part
  pub index_between : (first second whole : List ℕ) (q : Piece) → pieces o whole ≡ pieces o first ++ q ∷ pieces o second
      → index_of o whole
      ≡ index_of o first ++ record { place = length first; length = length (extent_of q); first = length (lines_of (digest o first)); count = line_count o q }
      ∷ map (shifted (length first + length (extent_of q)) (length (lines_of (digest o first)) + line_count o q)) (index_of o second)
  unfolding index_of digest records_from
  index_between first second whole q e =
      let a : 0 + bytes_in (pieces o first) ≡ length first = let x = ap length (extents_are_notes o first) in omega (arith, x) in
      let b : 0 + lines_in (pieces o first) ≡ lines_in (pieces o first) = omega arith in
      let p : ℕ = length first + length (extent_of q) in
      let l : ℕ = lines_in (pieces o first) + line_count o q in
      let c : p ≡ p + 0 = omega arith in
      let d : l ≡ l + 0 = omega arith in
      let r : Record = record { place = length first; length = length (extent_of q); first = lines_in (pieces o first); count = line_count o q } in
      let xs : List Record = records_from o 0 0 (pieces o first) in
      ap (records_from o 0 0) e ∙ records_append 0 0 (pieces o first) (q ∷ pieces o second)
      ∙ ap (λ (x : ℕ). xs ++ records_from o x (0 + lines_in (pieces o first)) (q ∷ pieces o second)) a ∙ ap (λ (x : ℕ). xs ++ records_from o (length first) x (q ∷ pieces o second)) b
      ∙ ap (λ (x : ℕ). xs ++ r ∷ records_from o x l (pieces o second)) c ∙ ap (λ (x : ℕ). xs ++ r ∷ records_from o (p + 0) x (pieces o second)) d
      ∙ ap (λ (ys : List Record). xs ++ r ∷ ys) (records_shift p l 0 0 (pieces o second))
