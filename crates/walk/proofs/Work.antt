-- The working room that is needed: enough for the pieces is enough for each, and never more than 8 numbers for each byte of the notes and one.
use mathlib.Core.Path.{◌≡◌, refl, sym, ap, ◌∙◌}
use mathlib.Core.Bool.{Bool, true, false, cond}
use mathlib.Core.List.{List, [], ◌∷◌, ◌++◌, map}
use Prim.Native.Nat.{ℕ, zero, suc, ◌+◌, ◌*◌, ◌/◌, ◌≤◌, ◌<◌, min, max}
use native.Mathlib.Nat.{le-max_left, le-max_right, max-le, zero-max, mul-le-mul}
use native.Mathlib.Omega.{arith}
use lib.ListN.{length, drop, length-append, length-take, length-drop}
use Rattle.lists.specs.Runs.{joined}
use Rattle.lists.specs.Theorems.All.{All}
use Rattle.lists.proofs.All.{all_weaken}
use Rattle.lists.proofs.Parts.{joined_nil, joined_cons}
use Rattle.lists.proofs.Walk.{each_nil, each_step}
use Rattle.options.specs.Opts.{Opts}
use Rattle.lines.specs.Lines.{Line, body, first_line, lines_of}
use Rattle.lines.specs.Cited.Places.{lengths_of}
use Rattle.lines.proofs.Lines.{text_in_body, lengths}
use Rattle.pieces.specs.Pieces.{Piece, Kind, blank_line, plain_line, paragraph, Paragraph, row_of, pieces}
use Rattle.pieces.proofs.Extents.{Rows, OfKind, OfPiece, lines_in, pieces_lines, pieces_rows}
use Rattle.words.specs.Words.{row_words, words_of}
use Rattle.words.proofs.Halves.{row_half}
use Rattle.walk.specs.Digest.{extent_of}
use Rattle.walk.specs.Standing.{words_under}
use Rattle.walk.specs.Work.{work_of, most_work, work_for}
use Rattle.walk.proofs.Bound.{Shorter}
use Rattle.walk.proofs.Extents.{extents_are_notes, extents_some}

-- ---- lines: each but the last of the notes ends in a line feed, which is none of its text

unfoldable pub Trails : List Line → Type 0
Trails [] = Unit {0}
Trails (l ∷ ls) = Shorter l × (0 < length ls → length l.text < length l.raw) × Trails ls

trails_front : (front back : List Line) → Trails (front ++ back) → Trails front
unfolding Trails
trails_front [] back t = tt
trails_front (l ∷ front) back t = (t.0, λ h. t.1 (let n = length-append front back in omega (arith, h, n)), trails_front front back t.2)

trails_back : (front back : List Line) → Trails (front ++ back) → Trails back
unfolding Trails
trails_back [] back t = t
trails_back (l ∷ front) back t = trails_back front back t.2

-- the first line of a text that goes on after it
first_shorter : (xs : List ℕ) → Shorter (first_line xs)
unfolding lengths_of
first_shorter xs = (lengths xs (lengths_of (first_line xs)) refl).shorter

first_ended : (xs : List ℕ) → 0 < length (drop (suc (length (body xs))) xs) → length (first_line xs).text < length (first_line xs).raw
unfolding lengths_of first_line
first_ended xs h =
    let d = length-drop (suc (length (body xs))) xs in
    let r : length (first_line xs).raw ≡ min (suc (length (body xs))) (length xs) = first_raw in
    omega (arith, d, h, r, first_text)
  where
    first_text : length (first_line xs).text ≤ length (body xs)
    first_text = text_in_body xs (lengths_of (first_line xs)) refl

    first_raw : length (first_line xs).raw ≡ min (suc (length (body xs))) (length xs)
    first_raw = length-take (suc (length (body xs))) xs

lines_need : (xs : List ℕ) → 0 < length (lines_of xs) → 0 < length xs
unfolding lines_of
lines_need [] h = absurd (let n = ap length (each_nil (λ ys. length (body ys)) first_line) in omega (arith, n, h))
lines_need (x ∷ xs) h = omega arith

pub trail_upto : (k : ℕ) (xs : List ℕ) → length xs ≤ k → Trails (lines_of xs)
unfolding Trails lines_of
trail_upto zero [] h = rw (each_nil (λ ys. length (body ys)) first_line) tt
trail_upto zero (x ∷ xs) h = absurd (omega arith)
trail_upto (suc k) [] h = rw (each_nil (λ ys. length (body ys)) first_line) tt
trail_upto (suc k) (x ∷ xs) h =
    let n = suc (length (body (x ∷ xs))) in
    let d = length-drop n (x ∷ xs) in
    rw (each_step (λ ys. length (body ys)) first_line (x ∷ xs) (omega arith))
    (first_shorter (x ∷ xs), λ z. first_ended (x ∷ xs) (lines_need (drop n (x ∷ xs)) z), trail_upto k (drop n (x ∷ xs)) (omega (arith, d, h)))

-- so lines have, but for one, two bytes for each word
rows_half : (o : Opts) (mail : Bool) (ls : List Line) → Trails ls → 2 * length (joined (row_words o mail) (map (row_of o) ls)) ≤ length (joined (λ (l : Line). l.raw) ls) + 1
unfolding Trails row_of
rows_half o mail [] t = rw joined_nil (omega arith)
rows_half o mail (l ∷ []) t =
    let k = row_half o mail (row_of o l) in
    let s = t.0 in
    rw (joined_cons, joined_cons, length-append, length-append, joined_nil, joined_nil) (omega arith)
rows_half o mail (l ∷ m ∷ ls) t =
    let k = row_half o mail (row_of o l) in
    let r = rows_half o mail (m ∷ ls) t.2 in
    let s = t.1 (omega arith) in
    rw (joined_cons (row_words o mail) (row_of o l) (map (row_of o) (m ∷ ls)), joined_cons (λ (x : Line). x.raw) l (m ∷ ls), length-append, length-append) (omega arith)

-- ---- the pieces

module _ (o : Opts) where
  pub paragraph_half : (ls : List Line) (p : Paragraph) → Rows o ls p → Trails ls → 2 * length (words_of o p) ≤ length (joined (λ (l : Line). l.raw) ls) + 1
  unfolding words_of
  paragraph_half ls p r t = rw r.rows (rows_half o p.mail ls t)

  -- words that are no more than half of the bytes and one
  each_work : (quick : Bool) (words bytes : ℕ) → 2 * words ≤ bytes + 1 → cond quick 7 15 * words ≤ cond quick 7 15 * ((bytes + 1) / 2)
  each_work true words bytes h = omega arith
  each_work false words bytes h = omega arith

  more_bytes : (quick : Bool) (n bytes more : ℕ) → n ≤ cond quick 7 15 * ((bytes + 1) / 2) → bytes ≤ more → n ≤ cond quick 7 15 * ((more + 1) / 2)
  more_bytes true n bytes more h k = omega arith
  more_bytes false n bytes more h k = omega arith

  kind_work : (q : Piece) (k : Kind) → OfKind o q.lines k → Trails q.lines → work_of o k ≤ cond o.quick 7 15 * ((length (extent_of q) + 1) / 2)
  unfolding extent_of
  kind_work q blank_line r t = omega arith
  kind_work q (plain_line line) r t = omega arith
  kind_work q (paragraph p) r t = each_work o.quick (length (words_of o p)) (length (joined (λ (l : Line). l.raw) q.lines)) (paragraph_half q.lines p r t)

  pieces_work : (qs : List Piece) → All (OfPiece o) qs → Trails (joined lines_in qs) → most_work o qs ≤ cond o.quick 7 15 * ((length (joined extent_of qs) + 1) / 2)
  unfolding most_work
  pieces_work [] a t = omega arith
  pieces_work (q ∷ qs) a t =
      let c : Trails (q.lines ++ joined lines_in qs) = rw (joined_cons lines_in q qs) at t in
      let k = kind_work q q.kind a.0 (trails_front q.lines (joined lines_in qs) c) in
      let r = pieces_work qs a.1 (trails_back q.lines (joined lines_in qs) c) in
      let n = length (extent_of q) + length (joined extent_of qs) in
      rw (joined_cons extent_of q qs, length-append) (max-le (more_bytes o.quick _ (length (extent_of q)) n k (omega arith)) (more_bytes o.quick _ (length (joined extent_of qs)) n r (omega arith)))

  -- a piece has no more words than bytes
  pieces_few : (qs : List Piece) → All (OfPiece o) qs → All (λ (q : Piece). 0 < length (extent_of q)) qs → Trails (joined lines_in qs) → All (λ (q : Piece). length (words_under o q.kind) ≤ length (extent_of q)) qs
  unfolding extent_of
  pieces_few [] a b t = tt
  pieces_few (q ∷ qs) a b t =
      let c : Trails (q.lines ++ joined lines_in qs) = rw (joined_cons lines_in q qs) at t in
      (few q.kind a.0, pieces_few qs a.1 b.1 (trails_back q.lines (joined lines_in qs) c))
    where
      few : (k : Kind) → OfKind o q.lines k → length (words_under o k) ≤ length (extent_of q)
      few blank_line r = omega arith
      few (plain_line line) r = omega arith
      few (paragraph p) r =
          let c : Trails (q.lines ++ joined lines_in qs) = rw (joined_cons lines_in q qs) at t in
          let h = paragraph_half q.lines p r (trails_front q.lines (joined lines_in qs) c) in
          let s = b.0 in
          omega (arith, h, s)

  pub words_are_few : (notes : List ℕ) → All (λ (q : Piece). length (words_under o q.kind) ≤ length (extent_of q)) (pieces o notes)
  words_are_few notes = pieces_few (pieces o notes) (pieces_rows o notes) (extents_some o notes) (rw (pieces_lines o notes) (trail_upto (length notes) notes (omega arith)))

  -- Never more than the words take that so many bytes can have ..
  pub work_half : (notes : List ℕ) → work_for o notes ≤ cond o.quick 7 15 * ((length notes + 1) / 2)
  unfolding work_for
  work_half notes =
      let t : Trails (joined lines_in (pieces o notes)) = rw (pieces_lines o notes) (trail_upto (length notes) notes (omega arith)) in
      rw (extents_are_notes o notes) at (pieces_work (pieces o notes) (pieces_rows o notes) t)

  -- .. nor than 8 numbers for each byte of the notes and one.
  pub work_most : (notes : List ℕ) → work_for o notes ≤ 8 * (length notes + 1)
  work_most notes = go o.quick (work_half notes)
    where
      go : (quick : Bool) → work_for o notes ≤ cond quick 7 15 * ((length notes + 1) / 2) → work_for o notes ≤ 8 * (length notes + 1)
      go true h = omega arith
      go false h = omega arith

  -- No paragraph needs more than the notes ..
  pub work_of_each : (qs : List Piece) → All (λ (q : Piece). work_of o q.kind ≤ most_work o qs) qs
  unfolding most_work
  work_of_each [] = tt
  work_of_each (q ∷ qs) = (le-max_left (work_of o q.kind) (most_work o qs), all_weaken _ _ (λ r h. omega (arith, h, le-max_right (work_of o q.kind) (most_work o qs))) qs (work_of_each qs))

  -- .. and of more words it needs no less.
  pub more_words_need_no_less : (p r : Paragraph) → length (words_of o p) ≤ length (words_of o r) → work_of o (paragraph p) ≤ work_of o (paragraph r)
  more_words_need_no_less p r h = mul-le-mul {n₁ = cond o.quick 7 15} {n₂ = cond o.quick 7 15} (omega arith) h

  -- What is needed for two lists of pieces is the greater of the two.
  pub work_append : (front back : List Piece) → most_work o (front ++ back) ≡ max (most_work o front) (most_work o back)
  unfolding most_work
  work_append [] back = sym (zero-max (most_work o back))
  work_append (q ∷ front) back = ap (max (work_of o q.kind)) (work_append front back) ∙ omega arith
