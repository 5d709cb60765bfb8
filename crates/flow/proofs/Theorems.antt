-- The round trip of mail (RULES 17), in plain sentences. Each statement is about the definitions of specs/ alone, no code, and is proved with
-- nothing assumed. Its words: `flowed` and `paragraph_lines` (specs/Flow), `paragraphs`, `mail_lines` and `unflow` (unflow/specs/Unflow),
-- `came_back`, `back` and `Carry` (specs/Theorems/ReadBack), `All` and `∈` (lists/specs/Theorems/All), `joined` (lists/specs/Runs).
use mathlib.Core.Path.{◌≡◌, refl, sym, ap, ◌∙◌, subst}
use mathlib.Core.Bool.{Bool, true, false, ◌||◌}
use mathlib.Core.List.{List, [], ◌∷◌, ◌++◌, map}
use Prim.Native.Nat.{ℕ, suc, ◌+◌, ◌≤◌, ◌<◌}
use native.Mathlib.Omega.{arith}
use lib.ListN.{length, length-append}
use borrow.Author.Tests.{le-ltb, le-leb}
use Rattle.lists.specs.Runs.{joined}
use Rattle.lists.specs.Theorems.All.{All, ◌∈◌}
use Rattle.lists.proofs.Parts.{joined_nil, joined_cons, joined_joined}
use Rattle.lists.proofs.All.{all_at, all_weaken, all_joined}
use Rattle.options.specs.Opts.{Opts}
use Rattle.lines.specs.Lines.{Line}
use Rattle.pieces.specs.Pieces.{Kind, Piece, Paragraph, blank_line, plain_line, paragraph, pieces}
use Rattle.pieces.proofs.Extents.{Rows, OfKind, OfPiece, pieces_rows}
use Rattle.records.specs.Word.{Word}
use Rattle.words.specs.Words.{words_of}
use Rattle.words.proofs.Order.{Whole, paragraph_some, paragraph_whole}
use Rattle.output.specs.Emission.{line_feed, emit}
use Rattle.output.proofs.Indents.{Feedless as Feed}
use Rattle.paragraphs.specs.Breaks.{setting_of, breaks_by}
use Rattle.walk.specs.Digest.{formatted}
use Rattle.unflow.specs.Unflow.{FlowedParagraph as Read, paragraphs, as_line, mail_lines, unflowed, unflow, done}
use Rattle.flow.specs.Flow.{broken_into, paragraph_lines, dashes_among, sent_lines, sent, sent_piece, flowed, piece_dashes, dashes_in}
use Rattle.flow.specs.Theorems.ReadBack.{read, unquoted, back, came_back, Carry}
use Rattle.flow.proofs.Readings.{Ended, mail_sent, sent_read, read_pieces}
use Rattle.flow.proofs.Back.{back_count}
use Rattle.flow.proofs.Carries.{lines_some as from_some, words_carried}
use Rattle.flow.proofs.Solid.{paragraph_solid}
use Rattle.flow.proofs.SentLines.{Sound, Level, blank_sound, plain_sound, paragraph_sound, pieces_level}
use Rattle.flow.proofs.Digest.{lines_are_emitted}

joined_alike : {A B : Type 0} (f g : A → List B) (xs : List A) → All (λ x. f x ≡ g x) xs → joined f xs ≡ joined g xs
joined_alike f g [] a = joined_nil f ∙ sym (joined_nil g)
joined_alike f g (x ∷ xs) a = rw (joined_cons f x xs, joined_cons g x xs, a.0, joined_alike f g xs a.1)

kind_sound : (o : Opts) (lines : List Line) (k : Kind) → OfKind o lines k → Level k → Sound o k
kind_sound o lines blank_line r l = blank_sound o
kind_sound o lines (plain_line t) r l = plain_sound o t l
kind_sound o lines (paragraph p) r l = paragraph_sound o p l.0 l.1 (paragraph_some o lines p r) (paragraph_solid o lines p r)

abbrev SoundPiece : Opts → Piece → Type 0
SoundPiece o q = Sound o q.kind

all_sound : (o : Opts) (qs : List Piece) → All (OfPiece o) qs → All (λ (q : Piece). Level q.kind) qs → All (SoundPiece o) qs
all_sound o [] r l = tt
all_sound o (q ∷ qs) r l = (kind_sound o q.lines q.kind r.0 l.0, all_sound o qs r.1 l.1)

-- ---- the mail comes back

module _ (o : Opts) (notes : List ℕ) where
  sound : All (SoundPiece o) (pieces o notes)
  sound = all_sound o (pieces o notes) (pieces_rows o notes) (pieces_level o notes)

  abbrev lines_of : Piece → List (List ℕ)
  lines_of q = sent_lines o q.kind

  all_sent : flowed o notes ≡ joined sent (joined lines_of (pieces o notes))
  unfolding flowed sent_piece
  all_sent = sym (joined_joined sent lines_of (pieces o notes))

  -- Reading what was written gives, piece by piece and in order, what each piece comes back as, and nothing is quoted.
  pub what_was_written_comes_back : paragraphs (mail_lines (flowed o notes)) ≡ map unquoted (joined (λ (q : Piece). came_back o q.kind) (pieces o notes))
  what_was_written_comes_back =
      let feed = all_joined lines_of Feed (pieces o notes) (all_weaken (SoundPiece o) (λ (q : Piece). All Feed (lines_of q)) (λ q s. s.feedless) (pieces o notes) sound) in
      let ended = all_weaken (SoundPiece o) (λ (q : Piece). Ended (lines_of q)) (λ q s. s.ended) (pieces o notes) sound in
      let alike = all_weaken (SoundPiece o) (λ (q : Piece). read (lines_of q) ≡ came_back o q.kind) (λ q s. s.back) (pieces o notes) sound in
      ap (λ (t : List ℕ). paragraphs (mail_lines t)) all_sent
      ∙ ap paragraphs (mail_sent (joined lines_of (pieces o notes)) feed)
      ∙ sent_read (joined lines_of (pieces o notes))
      ∙ ap (map unquoted) (read_pieces lines_of (pieces o notes) ended ∙ joined_alike (λ (q : Piece). read (lines_of q)) (λ (q : Piece). came_back o q.kind) (pieces o notes) alike)

  -- So does the reading call, where the mail is within its limit and there is room: each of these as one line.
  pub the_reader_gives_it_back : (space : ℕ) → length (flowed o notes) ≤ 65536 → length (unflowed (flowed o notes)) ≤ space
      → unflow (flowed o notes) space ≡ done (joined as_line (map unquoted (joined (λ (q : Piece). came_back o q.kind) (pieces o notes))))
  unfolding unflow unflowed
  the_reader_gives_it_back space short room =
      rw (le-ltb 65536 (length (flowed o notes)) short, le-leb (length (unflowed (flowed o notes))) space room) (ap (λ (ps : List Read). done (joined as_line ps)) what_was_written_comes_back)

-- ---- each paragraph's words in order

-- The texts that a paragraph comes back as spell its words, each once and in order: after its first indent, or its indent, and between
-- two words stand blanks only, at least one, or a space and its indent.
pub its_words_come_back_in_order : (o : Opts) (notes : List ℕ) (q : Piece) (p : Paragraph)
    → q ∈ pieces o notes
    → q.kind ≡ paragraph p
    → o.uniform ≡ true
    → Carry o.glue p.first.bytes p.indent.bytes (words_of o p) (back (paragraph_lines o p))
unfolding paragraph_lines
its_words_come_back_in_order o notes q p m e u =
    let r : Rows o q.lines p = rw e at (all_at (OfPiece o) (pieces_rows o notes) m) in
    words_carried o.glue p.first.bytes p.indent.bytes _ (words_of o p) (subst (λ (b : Bool). All (Whole o.glue (b || p.mail)) (words_of o p)) u (paragraph_whole o q.lines p r))

-- ---- and paragraph ends

-- A paragraph comes back as one text, and one more for each line `--` that was written for `-- `: it ends nowhere else.
pub it_ends_behind_such_lines_alone : (lines : List (List ℕ)) → 0 < length lines → length (back lines) ≡ suc (dashes_among lines)
it_ends_behind_such_lines_alone [] h = absurd (omega arith)
it_ends_behind_such_lines_alone (line ∷ lines) h = back_count line lines

lines_some : (o : Opts) (p : Paragraph) → 0 < length (words_of o p) → 0 < length (paragraph_lines o p)
unfolding paragraph_lines broken_into
lines_some o p h = go (words_of o p) h
  where
    go : (ws : List Word) → 0 < length ws → 0 < length (broken_into p.first.bytes p.indent.bytes (breaks_by (o.quick || p.mail) (setting_of o p.mail p.first.columns p.indent.columns) (words_of o p)) ws)
    go [] k = absurd (omega arith)
    go (w ∷ ws) k = from_some true p.first.bytes p.indent.bytes (p.first.bytes ++ w.text) false _ ws

kind_count : (o : Opts) (lines : List Line) (k : Kind) → OfKind o lines k → length (came_back o k) ≡ suc (piece_dashes o k)
kind_count o lines blank_line r = refl
kind_count o lines (plain_line t) r = refl
kind_count o lines (paragraph p) r = it_ends_behind_such_lines_alone (paragraph_lines o p) (lines_some o p (paragraph_some o lines p r))

counted : (o : Opts) (qs : List Piece) → All (OfPiece o) qs → length (joined (λ (q : Piece). came_back o q.kind) qs) ≡ length qs + dashes_in o qs
unfolding dashes_in
counted o [] a = ap length (joined_nil (λ (q : Piece). came_back o q.kind))
counted o (q ∷ qs) a =
    rw (joined_cons (λ (r : Piece). came_back o r.kind) q qs, length-append)
    (omega (arith, kind_count o q.lines q.kind a.0, counted o qs a.1))

-- So of all notes there come back as many texts as they have pieces, and one more for each such line.
pub each_piece_once_and_each_such_line : (o : Opts) (notes : List ℕ) → length (joined (λ (q : Piece). came_back o q.kind) (pieces o notes)) ≡ length (pieces o notes) + dashes_in o (pieces o notes)
each_piece_once_and_each_such_line o notes = counted o (pieces o notes) (pieces_rows o notes)

-- ---- the lines are the digest's

-- A paragraph's lines, each with a line feed after it, are its output by RULES 9, where uniform is on.
pub its_lines_are_the_digest's : (o : Opts) (notes : List ℕ) (q : Piece) (p : Paragraph)
    → q ∈ pieces o notes
    → q.kind ≡ paragraph p
    → o.uniform ≡ true
    → joined (λ (line : List ℕ). line ++ line_feed) (paragraph_lines o p) ≡ formatted o p
unfolding paragraph_lines formatted
its_lines_are_the_digest's o notes q p m e u =
    let r : Rows o q.lines p = rw e at (all_at (OfPiece o) (pieces_rows o notes) m) in
    let breaks = breaks_by (o.quick || p.mail) (setting_of o p.mail p.first.columns p.indent.columns) (words_of o p) in
    lines_are_emitted p.first.bytes p.indent.bytes breaks (words_of o p) (paragraph_some o q.lines p r)
    ∙ ap (λ (b : Bool). emit (b || p.mail) p.first.bytes p.indent.bytes breaks (words_of o p)) (sym u)
