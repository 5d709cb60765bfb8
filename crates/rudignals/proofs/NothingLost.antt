-- RULES 21, in plain sentences: nothing is lost, and nothing leaks from one part into another. Each statement is about the definitions of specs/ alone, no code, and is proved with nothing
-- assumed; where a proof is long it is in the file cited. The words of the statements: `own_room`, `answer`, `measuring`,
-- `writing` and `done` (specs/Format.antt and Answers.antt; `done bytes` is code 0 with those bytes), `LineEnd` and `LineIs` (specs/Theorems/LineEnds.antt), `Closed` (lines/specs),
-- `Gap` (text/specs/Theorems/Blanks.antt), `InOrder` (output/specs/Theorems/Order.antt), `row_ink` (words/specs/Theorems/Ink.antt), `All` and `∈`
-- (lists/specs/Theorems/All.antt), `joined` (lists/specs/Runs.antt).
use Rattle.std.proofs.Common.{Some, None, Ok}
use mathlib.Core.Path.{◌≡◌, refl, sym, ap, ap₂, ◌∙◌}
use mathlib.Core.Bool.{Bool, true, false, ◌||◌, false≢true}
use mathlib.Core.List.{List, [], ◌∷◌, ◌++◌, map}
use mathlib.Core.Logic.{◌⊎◌}
use Prim.Native.Nat.{ℕ, ◌+◌, ◌-◌, ◌≤◌, ◌<◌}
use native.Mathlib.Omega.{arith}
use lib.ListN.{length, take, drop, length-append}
use Rattle.lists.specs.Walk.{walk}
use Rattle.lists.specs.Runs.{every, joined}
use Rattle.lists.specs.Theorems.All.{All, ◌∈◌}
use Rattle.lists.proofs.All.{all_back, all_weaken}
use Rattle.lists.proofs.Parts.{every_nil}
use Rattle.text.specs.Characters.{damage}
use Rattle.text.specs.Theorems.Blanks.{Gap}
use Rattle.options.specs.Opts.{Opts, meant}
use Rattle.options.specs.OptionBlock.{read_block}
use Rattle.options.specs.declared.Options.{Options}
use Rattle.lines.specs.Lines.{Line, no_feed, lines_of}
use Rattle.lines.specs.Classes.{classify}
use Rattle.lines.specs.declared.Class.TheVariants.{Blank}
use Rattle.lines.specs.Theorems.Closed.{Closed}
use Rattle.lines.proofs.Ink.{empty_blank}
use Rattle.pieces.specs.Pieces.{Paragraph, Piece, Row, plain_line, paragraph, row_of, next_piece, pieces}
use Rattle.pieces.proofs.Extents.{walk_lines, pieces_lines}
use Rattle.records.specs.Word.{Word}
use Rattle.words.specs.Words.{row_words, words_of}
use Rattle.words.specs.Places.{Standing, words_standing}
use Rattle.words.specs.Theorems.Ink.{row_ink}
use Rattle.words.specs.Theorems.Standing.{Ascends, Stands, WordsStand}
use Rattle.words.proofs.Order.{Whole, row_ink_law, paragraph_whole}
use Rattle.output.specs.Theorems.Order.{InOrder}
use Rattle.lists.specs.Coded.{numbered}
use Rattle.formatter.specs.Answers.{done, answer_coded}
use Rattle.walk.specs.Digest.{piece_output, digest, most_words, extent_of}
use Rattle.formatter.specs.Format.{Limits, limited, most_bytes, own_room, found, answer, finding, is_told, measured, measuring, in_room, writing}
use Rattle.rudignals.specs.Theorems.LineEnds.{LineEnd, feed, LineIs}
use Rattle.rudignals.specs.Theorems.Parts.{up_to_piece, from_piece, MayCut, ByParts, both, behind_first, both_reasons}
use Rattle.formatter.proofs.Together.{together_they_do_what_the_old_call_did, measured_room_suffices}
use Rattle.formatter.proofs.Answers.{measured_done, written_measured, answer_measured}
use Rattle.rudignals.proofs.Boundary.{Joining, measuring_boundary}
use Rattle.rudignals.proofs.Gaps.{BlankThere, gap_stands}
use Rattle.rudignals.proofs.Order.{among, rows_of, paragraph_order}
use Rattle.walk.specs.Standing.{words_under, standing_from, standing_words}
use Rattle.walk.proofs.Standing.{words_stand, paragraph_stands_there, standing_there}
use Rattle.walk.proofs.Extents.{extents_are_notes, extents_some, joined_at, output_some, damaged_pieces, plain_digest}
use Rattle.index.specs.declared.Record.{Record}
use Rattle.indexer.specs.Index.{index_of}
use Rattle.indexer.specs.Answers.{done as indexed}
use Rattle.indexer.specs.Indexing.{indexing}
use Rattle.indexer.specs.Theorems.Follows.{Follows}
use Rattle.indexer.proofs.Follows.{the_records_follow_without_a_gap as without-a-gap}
use Rattle.rudignals.proofs.Indexed.{blank_record, behind_blank, indexed_boundary}
use Rattle.rudignals.proofs.LineEnds.{LineAt, line_of_bytes, line_at}
use Rattle.checker.specs.Named.{feeds}
use Rattle.explain.specs.Reasons.{line_endings}
use Rattle.explain.specs.Explain.{explaining}
use Rattle.rudignals.proofs.Windows.{pieces_front}
use Rattle.rudignals.proofs.PieceStarts.{parts_are, parts_pieces, digest_parts, index_parts, reasons_parts, measuring_parts, indexing_parts, explaining_parts}

-- What measuring has found, and what a call that is done has written, is the digest of its notes, of which 2 to 4 speak, under the
-- options that its block means. So with the limits of RULES 2.2 (`own_room`) and with any others.
pub what_is_measured_is_the_digest : (l : Limits) (block notes : List ℕ) (o : Options) (bytes : List ℕ)
    → read_block block ≡ Ok o
    → measuring l block notes ≡ done bytes
    → bytes ≡ digest (meant block o) notes
what_is_measured_is_the_digest l block notes o bytes b e = (measured_done l block notes o bytes b e).bytes_are

pub what_is_written_is_the_digest : (l : Limits) (block notes : List ℕ) (o : Options) (space : ℕ) (bytes : List ℕ)
    → read_block block ≡ Ok o
    → writing l block notes space ≡ done bytes
    → bytes ≡ digest (meant block o) notes
what_is_written_is_the_digest l block notes o space bytes b e = what_is_measured_is_the_digest l block notes o bytes b (written_measured l block notes space bytes e).0

-- (The call that measures and writes in one has limits such as those of RULES 2.2.)
pub what_is_done_is_the_digest : (most words : ℕ) (block notes : List ℕ) (o : Options) (space : ℕ) (bytes : List ℕ)
    → read_block block ≡ Ok o
    → answer (limited most words) block notes space ≡ done bytes
    → bytes ≡ digest (meant block o) notes
what_is_done_is_the_digest most words block notes o space bytes b e = what_is_measured_is_the_digest (limited most words) block notes o bytes b (answer_measured most words block notes space bytes e).0

-- ---- 1. an empty line is a full boundary

-- The option block is accepted. The first part is empty or ends in a line feed, and the second is any. Between them stands a blank line:
-- its text, in which no line feed stands and which is blank by the definition (lines/specs/Classes), and its line end, a line feed or a
-- carriage return and a line feed. The whole is within the input limit. Keep may be on or off.
-- The limits may be any. Where working room is lent, what is enough for the parts must be enough for the whole (`Joining`: proofs/Boundary), and the
-- whole's length must be one that can be told; both hold of themselves with limits such as those of RULES 2.2.
module _ (l : Limits) (joining : Joining l.words) (block first line end second : List ℕ) (o : Options) (digest₁ digest₂ : List ℕ)
    (block-accepted : read_block block ≡ Ok o)
    (first_ends : Closed first)
    (one_line : every no_feed line ≡ true)
    (line_ends : LineEnd line end)
    (blank : classify (meant block o) line ≡ Blank)
    (within-limit : length (first ++ (line ++ (end ++ second))) ≤ l.bytes)
    (can-be-told : is_told l.words (length (digest₁ ++ 10 ∷ digest₂)) ≡ true) where
  -- Each part by itself is measured as done.
  module _ (first-measured : measuring l block first ≡ done digest₁) (second-measured : measuring l block second ≡ done digest₂) where
    -- Measuring the first part, the blank line and the second part finds the first's output, one line feed, and the second's output.
    pub a_blank_line_is_a_full_boundary_for_measuring : measuring l block (first ++ (line ++ (end ++ second))) ≡ done (digest₁ ++ 10 ∷ digest₂)
    a_blank_line_is_a_full_boundary_for_measuring =
        measuring_boundary l joining block first line end second o digest₁ digest₂ block-accepted first_ends one_line line_ends blank within-limit first-measured second-measured can-be-told

    -- So the number that the host gets is the sum of the two parts' numbers and one.
    pub the_measured_counts_add_up : numbered (answer_coded (measuring l block (first ++ (line ++ (end ++ second))))) ≡ numbered (answer_coded (measuring l block first)) + 1 + numbered (answer_coded (measuring l block second))
    unfolding numbered
    the_measured_counts_add_up = rw (a_blank_line_is_a_full_boundary_for_measuring, first-measured, second-measured, length-append) (omega arith)

  -- Each part by itself is written, whatever room it had, and there is room for the whole: writing likewise.
  module _ (room₁ room₂ space : ℕ) (enough-room : length digest₁ + 1 + length digest₂ ≤ space)
      (first-written : writing l block first room₁ ≡ done digest₁) (second-written : writing l block second room₂ ≡ done digest₂) where
    pub a_blank_line_is_a_full_boundary_for_writing : writing l block (first ++ (line ++ (end ++ second))) space ≡ done (digest₁ ++ 10 ∷ digest₂)
    a_blank_line_is_a_full_boundary_for_writing =
        let m₁ = written_measured l block first room₁ digest₁ first-written in
        let m₂ = written_measured l block second room₂ digest₂ second-written in
        let n = length-append digest₁ (10 ∷ digest₂) in
        measured_room_suffices l block (first ++ (line ++ (end ++ second))) space (digest₁ ++ 10 ∷ digest₂) (a_blank_line_is_a_full_boundary_for_measuring m₁.0 m₂.0) (omega arith)

-- The call that does both in one, with limits such as those of RULES 2.2: nothing more is asked.
module _ (most words : ℕ) (block first line end second : List ℕ) (o : Options) (digest₁ digest₂ : List ℕ)
    (block-accepted : read_block block ≡ Ok o)
    (first_ends : Closed first)
    (one_line : every no_feed line ≡ true)
    (line_ends : LineEnd line end)
    (blank : classify (meant block o) line ≡ Blank)
    (within-limit : length (first ++ (line ++ (end ++ second))) ≤ most)
    (room₁ room₂ space : ℕ) (enough-room : length digest₁ + 1 + length digest₂ ≤ space)
    (first_done : answer (limited most words) block first room₁ ≡ done digest₁) (second-done : answer (limited most words) block second room₂ ≡ done digest₂) where
  -- Formatting the first part, the blank line and the second part gives the first's output, one line feed, and the second's output.
  pub a_blank_line_is_a_full_boundary : answer (limited most words) block (first ++ (line ++ (end ++ second))) space ≡ done (digest₁ ++ 10 ∷ digest₂)
  a_blank_line_is_a_full_boundary =
      sym (together_they_do_what_the_old_call_did most words block (first ++ (line ++ (end ++ second))) space)
      ∙ a_blank_line_is_a_full_boundary_for_writing (limited most words) tt block first line end second o digest₁ digest₂ block-accepted first_ends one_line line_ends blank within-limit refl room₁ room₂ space enough-room
      (together_they_do_what_the_old_call_did most words block first room₁ ∙ first_done) (together_they_do_what_the_old_call_did most words block second room₂ ∙ second-done)

  pub the_counts_of_the_parts_add_up : numbered (answer_coded (answer (limited most words) block (first ++ (line ++ (end ++ second))) space))
      ≡ numbered (answer_coded (answer (limited most words) block first room₁)) + 1 + numbered (answer_coded (answer (limited most words) block second room₂))
  unfolding numbered
  the_counts_of_the_parts_add_up = rw (a_blank_line_is_a_full_boundary, first_done, second-done, length-append) (omega arith)

-- The plainest case: the blank line is empty, a line feed alone, and the limits are those of RULES 2.2.
module _ (block first second : List ℕ) (o : Options) (digest₁ digest₂ : List ℕ)
    (block-accepted : read_block block ≡ Ok o)
    (first_ends : Closed first)
    (within-limit : length (first ++ 10 ∷ second) ≤ most_bytes) where
  module _ (first-measured : measuring own_room block first ≡ done digest₁) (second-measured : measuring own_room block second ≡ done digest₂) where
    pub an_empty_line_is_a_full_boundary_for_measuring : measuring own_room block (first ++ 10 ∷ second) ≡ done (digest₁ ++ 10 ∷ digest₂)
    an_empty_line_is_a_full_boundary_for_measuring =
        a_blank_line_is_a_full_boundary_for_measuring own_room tt block first [] (10 ∷ []) second o digest₁ digest₂ block-accepted first_ends (every_nil no_feed) (feed refl (λ z. z)) (empty_blank (meant block o)) within-limit refl first-measured second-measured

  module _ (room₁ room₂ space : ℕ) (enough-room : length digest₁ + 1 + length digest₂ ≤ space) where
    module _ (first_done : answer own_room block first room₁ ≡ done digest₁) (second-done : answer own_room block second room₂ ≡ done digest₂) where
      -- Formatting the first part, a line feed and the second part gives the first's output, one line feed, and the second's output.
      pub an_empty_line_is_a_full_boundary : answer own_room block (first ++ 10 ∷ second) space ≡ done (digest₁ ++ 10 ∷ digest₂)
      an_empty_line_is_a_full_boundary =
          a_blank_line_is_a_full_boundary most_bytes most_words block first [] (10 ∷ []) second o digest₁ digest₂ block-accepted first_ends (every_nil no_feed) (feed refl (λ z. z)) (empty_blank (meant block o)) within-limit room₁ room₂ space enough-room first_done second-done

      pub the_counts_add_up : numbered (answer_coded (answer own_room block (first ++ 10 ∷ second) space)) ≡ numbered (answer_coded (answer own_room block first room₁)) + 1 + numbered (answer_coded (answer own_room block second room₂))
      the_counts_add_up =
          the_counts_of_the_parts_add_up most_bytes most_words block first [] (10 ∷ []) second o digest₁ digest₂ block-accepted first_ends (every_nil no_feed) (feed refl (λ z. z)) (empty_blank (meant block o)) within-limit room₁ room₂ space enough-room first_done second-done

    module _ (first-written : writing own_room block first room₁ ≡ done digest₁) (second-written : writing own_room block second room₂ ≡ done digest₂) where
      pub an_empty_line_is_a_full_boundary_for_writing : writing own_room block (first ++ 10 ∷ second) space ≡ done (digest₁ ++ 10 ∷ digest₂)
      an_empty_line_is_a_full_boundary_for_writing =
          a_blank_line_is_a_full_boundary_for_writing own_room tt block first [] (10 ∷ []) second o digest₁ digest₂ block-accepted first_ends (every_nil no_feed) (feed refl (λ z. z)) (empty_blank (meant block o)) within-limit refl room₁ room₂ space enough-room first-written second-written

-- ---- 2. words stand once and in order

-- A paragraph's output is its first indent, then its words in order, each once, and a line feed at the end; between two neighbours
-- stands a gap, at least one blank character and nothing else, with glue on not U+00A0 alone; or a line feed and the paragraph's indent.
-- The breaks may be quick's, Knuth-Plass's or mail's.
pub words_stand_once_and_in_order : (o : Opts) (notes : List ℕ) (q : Piece) (p : Paragraph)
    → q ∈ pieces o notes
    → q.kind ≡ paragraph p
    → InOrder (λ s. Gap o.glue s ⊎ (s ≡ 10 ∷ p.indent.bytes)) p.first.bytes (words_of o p) (piece_output o q)
words_stand_once_and_in_order = paragraph_order

-- A gap is blank by the rule of RULES 4.4, read on the line that it stands on, whatever is before and after it there: the line's
-- glyphs are those of the undamaged text before the gap, those of the gap, each of them a blank, and the rest. (`BlankThere`: proofs/Gaps.)
pub a_gap_is_blank_where_it_stands : (glue : Bool) (before gap after : List ℕ)
    → damage before ≡ None
    → Gap glue gap
    → BlankThere glue before gap after
a_gap_is_blank_where_it_stands = gap_stands

-- Its words are those of its lines, line by line ..
pub words_come_from_the_lines : (o : Opts) (notes : List ℕ) (q : Piece) (p : Paragraph)
    → q ∈ pieces o notes
    → q.kind ≡ paragraph p
    → words_of o p ≡ joined (row_words o p.mail) (map (row_of o) q.lines)
unfolding words_of
words_come_from_the_lines o notes q p m e = rw (rows_of o notes q p m e).rows

-- .. and none of a line's bytes is left out: its words, joined, are the bytes of the non-blank characters at or after its indent's
-- end, of a mail paragraph's line those of the whole line.
pub no_byte_is_left_out : (o : Opts) (mail : Bool) (row : Row) → joined (λ (w : Word). w.text) (row_words o mail row) ≡ row_ink o mail row
no_byte_is_left_out = row_ink_law

-- No word is empty.
pub no_word_is_empty : (o : Opts) (notes : List ℕ) (q : Piece) (p : Paragraph)
    → q ∈ pieces o notes
    → q.kind ≡ paragraph p
    → All (λ (w : Word). 0 < length w.text) (words_of o p)
no_word_is_empty o notes q p m e = all_weaken (Whole o.glue (o.uniform || p.mail)) _ (λ w h. h.some) (words_of o p) (paragraph_whole o q.lines p (rows_of o notes q p m e))

-- Each word has its place in the notes (RULES 12; `standing_words`: walk/specs/Standing.antt, `Stands` and `Ascends`:
-- words/specs/Theorems/Standing.antt). The words that have one are the words of all paragraphs, each once and in order ..
pub each_word_has_its_place : (o : Opts) (notes : List ℕ) → map (λ (s : Standing). s.word) (standing_words o notes) ≡ joined (λ (q : Piece). words_under o q.kind) (pieces o notes)
each_word_has_its_place o notes = (words_stand o notes).words

-- .. a word's bytes are the notes' bytes at its place, and on its line the character that stands there is no blank ..
pub a_word_is_the_notes'_bytes_at_its_place : (o : Opts) (notes : List ℕ) → All (λ (s : Standing). Stands o.glue notes s.place s.word.text) (standing_words o notes)
a_word_is_the_notes'_bytes_at_its_place o notes = (words_stand o notes).each

-- .. and places ascend from the first word of the notes to the last: no word begins before the one before it has ended.
pub places_ascend : (o : Opts) (notes : List ℕ) → Ascends 0 (standing_words o notes) (length notes)
places_ascend o notes = (words_stand o notes).ascend

-- So of each paragraph the words that are in its output once and in order are known with their places: it takes the bytes of the notes
-- after those that the pieces before it take, and its words stand there, within its own lines; they are those words of the notes that
-- come after the words of the pieces before it.
pub record WordsPlaced (o : Opts) (notes : List ℕ) (before : List Piece) (q : Piece) (after : List Piece) (p : Paragraph) (place : ℕ) : Type 0 where
  pub in_order : InOrder (λ s. Gap o.glue s ⊎ (s ≡ 10 ∷ p.indent.bytes)) p.first.bytes (map (λ (s : Standing). s.word) (words_standing o place q.lines p)) (piece_output o q)
  pub in_the_notes : WordsStand o notes place q.lines p
  pub among_all : standing_words o notes ≡ standing_from o 0 before ++ (words_standing o place q.lines p ++ standing_from o (place + length (extent_of q)) after)

pub words_stand_where_the_notes_have_them : (o : Opts) (notes : List ℕ) (before : List Piece) (q : Piece) (after : List Piece) (p : Paragraph)
    → pieces o notes ≡ before ++ q ∷ after
    → q.kind ≡ paragraph p
    → WordsPlaced o notes before q after p (length (joined extent_of before))
words_stand_where_the_notes_have_them o notes before q after p e k =
    let s = paragraph_stands_there o notes before q after p e k in
    record {
      in_order = rw s.words (paragraph_order o notes q p (rw e (among before q after)) k);
      in_the_notes = s;
      among_all = standing_there o notes before q after p e k;
    }

-- ---- 3. a damaged line stands

-- Each line of the notes is its text, in which no line feed stands, followed by its end: a line feed, and then the text does not end in a
-- carriage return; or a carriage return and a line feed; or nothing, and then it is the last line. What is above it in the notes is
-- empty or ends in a line feed. (`LineAt`: proofs/LineEnds; `LineIs`: specs/Theorems/LineEnds.)
pub each_line_is_its_text_and_its_end : (notes : List ℕ) (before : List Line) (l : Line) (after : List Line)
    → lines_of notes ≡ before ++ l ∷ after
    → LineAt notes before l after
each_line_is_its_text_and_its_end notes before l after h = line_at before l after notes h

-- And what stands so in the notes is a line.
pub a_text_with_its_end_is_a_line : (above text end below : List ℕ)
    → Closed above
    → LineIs text end below
    → lines_of (above ++ (text ++ (end ++ below))) ≡ lines_of above ++ record { raw = text ++ end; text = text } ∷ lines_of below
a_text_with_its_end_is_a_line = line_of_bytes

-- A line of the notes comes out unaltered up to its line end: it is a piece of its own, after the pieces of what is above it; its output
-- is its bytes and a line feed; and the lines below it are all there, in pieces of their own.
pub record Unaltered (o : Opts) (above text end below : List ℕ) : Type 0 where
  pub after : List Piece
  pub piece : pieces o (above ++ (text ++ (end ++ below))) ≡ pieces o above ++ record { kind = plain_line text; lines = record { raw = text ++ end; text = text } ∷ [] } ∷ after
  pub lines_after : joined (λ (q : Piece). q.lines) after ≡ lines_of below
  pub output : digest o (above ++ (text ++ (end ++ below))) ≡ digest o above ++ (text ++ 10 ∷ joined (piece_output o) after)

-- A line of the notes that has a damaged character stands, and the notes go on after it.
pub a_damaged_line_stands : (o : Opts) (above text end below : List ℕ) (place : ℕ)
    → Closed above
    → LineIs text end below
    → damage text ≡ Some place
    → Unaltered o above text end below
unfolding digest pieces
a_damaged_line_stands o above text end below place c i d =
    let notes = above ++ (text ++ (end ++ below)) in
    let l : Line = record { raw = text ++ end; text = text } in
    let e = damaged_pieces o notes (lines_of above) l (lines_of below) place (line_of_bytes above text end below c i) d in
    record {
      after = walk (next_piece o) false (lines_of below);
      piece = e;
      lines_after = walk_lines o false (lines_of below);
      output = plain_digest o notes (pieces o above) l (walk (next_piece o) false (lines_of below)) e;
    }

-- ---- 4. no piece is without its place

-- The digest is the pieces' outputs, joined in order.
pub the_digest_is_the_outputs_in_order : (o : Opts) (notes : List ℕ) → digest o notes ≡ joined (piece_output o) (pieces o notes)
unfolding digest
the_digest_is_the_outputs_in_order o notes = refl

-- The pieces' lines, joined in order, are the lines of the notes.
pub the_lines_are_the_lines_of_the_notes : (o : Opts) (notes : List ℕ) → joined (λ (q : Piece). q.lines) (pieces o notes) ≡ lines_of notes
the_lines_are_the_lines_of_the_notes = pieces_lines

-- The bytes that the pieces take, joined in order, are the notes.
pub the_extents_are_the_notes : (o : Opts) (notes : List ℕ) → joined extent_of (pieces o notes) ≡ notes
the_extents_are_the_notes = extents_are_notes

-- A piece's place: it takes at least one byte of the notes, after those that the pieces before it take; its output is not empty, and
-- is in the digest after theirs.
pub record Place (o : Opts) (notes : List ℕ) (before : List Piece) (q : Piece) (after : List Piece) : Type 0 where
  pub takes : 0 < length (extent_of q)
  pub in_the_notes : notes ≡ joined extent_of before ++ (extent_of q ++ joined extent_of after)
  pub puts : 0 < length (piece_output o q)
  pub in_the_digest : digest o notes ≡ joined (piece_output o) before ++ (piece_output o q ++ joined (piece_output o) after)

pub each_piece_has_its_place : (o : Opts) (notes : List ℕ) (before : List Piece) (q : Piece) (after : List Piece)
    → pieces o notes ≡ before ++ q ∷ after
    → Place o notes before q after
each_piece_has_its_place o notes before q after e = record {
  takes = (all_back _ before (q ∷ after) (rw e at (extents_some o notes))).0;
  in_the_notes = sym (extents_are_notes o notes) ∙ joined_at extent_of before q after (pieces o notes) e;
  puts = output_some o q;
  in_the_digest = the_digest_is_the_outputs_in_order o notes ∙ joined_at (piece_output o) before q after (pieces o notes) e;
}

-- ---- 5. from a digest line back to the note (RULES 12)

-- The records of the index follow each other without a gap: in the notes from place 0 to the notes' end, in the digest from line 0 to its last line.
pub the_records_follow_without_a_gap : (o : Opts) (notes : List ℕ) → Follows 0 0 (index_of o notes) (length notes) (length (lines_of (digest o notes)))
the_records_follow_without_a_gap = without-a-gap

-- The parts are those of 1, a blank line between them, and so are the limits. Each part by itself is done with an index, whatever room it had; and
-- there is room for both outputs and a byte, and for both indexes and a record.
module _ (l : Limits) (joining : Joining l.words) (block first line end second : List ℕ) (o : Options) (digest₁ digest₂ : List ℕ) (index₁ index₂ : List Record)
    (block-accepted : read_block block ≡ Ok o)
    (first_ends : Closed first)
    (one_line : every no_feed line ≡ true)
    (line_ends : LineEnd line end)
    (blank : classify (meant block o) line ≡ Blank)
    (within-limit : length (first ++ (line ++ (end ++ second))) ≤ l.bytes)
    (can-be-told : is_told l.words (length (digest₁ ++ 10 ∷ digest₂)) ≡ true)
    (space₁ records₁ space₂ records₂ space records : ℕ)
    (first_done : indexing l block first space₁ records₁ ≡ indexed digest₁ index₁)
    (second-done : indexing l block second space₂ records₂ ≡ indexed digest₂ index₂)
    (enough-room : length digest₁ + 1 + length digest₂ ≤ space)
    (enough-records : length index₁ + 1 + length index₂ ≤ records) where
  -- The joined index is the first's records, one for the blank line, and the second's, moved on.
  pub the_indexes_join : indexing l block (first ++ (line ++ (end ++ second))) space records
      ≡ indexed (digest₁ ++ 10 ∷ digest₂) (index₁ ++ blank_record (meant block o) first (line ++ end) ∷ behind_blank (meant block o) first (line ++ end) index₂)
  the_indexes_join =
      indexed_boundary l joining block first line end second o digest₁ digest₂ index₁ index₂ space₁ records₁ space₂ records₂ space records block-accepted first_ends one_line line_ends blank within-limit first_done second-done can-be-told enough-room enough-records

-- ---- 6. where a piece begins, notes may be cut

-- Where a piece begins is seen without reading all of the notes: a front part of them, empty or ending in a line feed, has the notes' own
-- pieces, but for its last, which may go on in what is after it.
pub a_front_part_shows_where_pieces_begin : (o : Opts) (front behind : List ℕ) (k : ℕ)
    → Closed front
    → k < length (pieces o front)
    → take k (pieces o (front ++ behind)) ≡ take k (pieces o front)
a_front_part_shows_where_pieces_begin o front behind k = pieces_front o k front behind

-- The cuts: without mail, every start.
pub without_mail_every_start_is_a_cut : (o : Opts) (k : ℕ) (notes : List ℕ) → o.mail ≡ false → MayCut o k notes
without_mail_every_start_is_a_cut o k notes off on = absurd (false≢true (sym off ∙ on))

-- The option block is accepted. For any k the notes are cut after their first k pieces, where the next piece begins. Without mail nothing
-- else is asked; with mail, that next-mail is true there. (`up_to_piece`, `from_piece` and `MayCut`: specs/Theorems/Parts.antt.)
module _ (block notes : List ℕ) (o : Options) (k : ℕ)
    (block-accepted : read_block block ≡ Ok o)
    (may-cut : MayCut (meant block o) k notes) where
  abbrev first_part : List ℕ
  first_part = up_to_piece (meant block o) k notes

  abbrev second_part : List ℕ
  second_part = from_piece (meant block o) k notes

  -- The two parts are the notes ..
  pub the_parts_are_the_notes : notes ≡ first_part ++ second_part
  the_parts_are_the_notes = parts_are block notes o k block-accepted may-cut

  -- .. the pieces of the first part are the first k, those of the second part are the others ..
  pub each_part_has_its_pieces : (pieces (meant block o) first_part ≡ take k (pieces (meant block o) notes)) × (pieces (meant block o) second_part ≡ drop k (pieces (meant block o) notes))
  each_part_has_its_pieces = parts_pieces block notes o k block-accepted may-cut

  -- .. and the digest is the first part's digest followed by the second's.
  pub the_start_of_every_piece_is_a_full_boundary : digest (meant block o) notes ≡ digest (meant block o) first_part ++ digest (meant block o) second_part
  the_start_of_every_piece_is_a_full_boundary = digest_parts block notes o k block-accepted may-cut

  -- The index is the first part's records and the second's, moved on; the reasons are the first part's and the second's.
  pub the_index_is_that_of_the_parts : index_of (meant block o) notes ≡ index_of (meant block o) first_part ++ behind_first first_part (digest (meant block o) first_part) (index_of (meant block o) second_part)
  the_index_is_that_of_the_parts = index_parts block notes o k block-accepted may-cut

  pub the_reasons_are_those_of_the_parts : line_endings (meant block o) notes ≡ line_endings (meant block o) first_part ++ line_endings (meant block o) second_part
  the_reasons_are_those_of_the_parts = reasons_parts block notes o k block-accepted may-cut

  -- The notes are within the input limit. The limits may be any: where working room is lent, the notes must need the greater of what their parts need
  -- (`ByParts`), as they do (`lending_is_by_parts`: proofs/PieceStarts); with limits such as those of RULES 2.2 nothing is asked.
  module _ (l : Limits) (by_parts : ByParts l.words) (within-limit : length notes ≤ l.bytes) where
    -- What measuring finds is found by the part: if both are done, the first's output and then the second's, if their length can be told; else what a
    -- part is refused for. The lowest number wins, then the first place, and a place in the second part is counted from the notes' front; of working
    -- room, which comes in the place of words, the greater. (`both`: specs/Theorems/Parts.antt.)
    pub the_start_of_every_piece_is_a_full_boundary_for_measuring : measuring l block notes ≡ both (measured l.words) (length first_part) (measuring l block first_part) (measuring l block second_part)
    the_start_of_every_piece_is_a_full_boundary_for_measuring = measuring_parts block notes o k block-accepted may-cut l by_parts within-limit

    -- Writing asks for the room besides.
    pub the_start_of_every_piece_is_a_full_boundary_for_writing : (space : ℕ)
        → writing l block notes space ≡ in_room space (both (measured l.words) (length first_part) (measuring l block first_part) (measuring l block second_part))
    unfolding writing
    the_start_of_every_piece_is_a_full_boundary_for_writing space = ap (in_room space) the_start_of_every_piece_is_a_full_boundary_for_measuring

    -- Each part by itself is written, whatever room it had, and there is room for both, and their length can be told: writing the notes gives the
    -- first's output and then the second's.
    pub what_is_written_of_the_parts_joins : (digest₁ digest₂ : List ℕ) (room₁ room₂ space : ℕ)
        → writing l block first_part room₁ ≡ done digest₁
        → writing l block second_part room₂ ≡ done digest₂
        → is_told l.words (length (digest₁ ++ digest₂)) ≡ true
        → length digest₁ + length digest₂ ≤ space
        → writing l block notes space ≡ done (digest₁ ++ digest₂)
    what_is_written_of_the_parts_joins digest₁ digest₂ room₁ room₂ space first-written second-written can-be-told enough-room =
        let m₁ = written_measured l block first_part room₁ digest₁ first-written in
        let m₂ = written_measured l block second_part room₂ digest₂ second-written in
        let n = length-append digest₁ digest₂ in
        let w : measuring l block notes ≡ measured l.words (digest₁ ++ digest₂) = the_start_of_every_piece_is_a_full_boundary_for_measuring ∙ ap₂ (both (measured l.words) (length first_part)) m₁.0 m₂.0 in
        measured_room_suffices l block notes space (digest₁ ++ digest₂) (w ∙ rw can-be-told) (omega (arith, n, enough-room))

    -- Each part by itself is done with an index, whatever room it had, and there is room for both: the joined index is the first's records
    -- and the second's, moved on by the first part's bytes and the lines of its output.
    pub the_indexes_of_the_parts_join : (digest₁ digest₂ : List ℕ) (index₁ index₂ : List Record) (space₁ records₁ space₂ records₂ space records : ℕ)
        → indexing l block first_part space₁ records₁ ≡ indexed digest₁ index₁
        → indexing l block second_part space₂ records₂ ≡ indexed digest₂ index₂
        → is_told l.words (length (digest₁ ++ digest₂)) ≡ true
        → length digest₁ + length digest₂ ≤ space
        → length index₁ + length index₂ ≤ records
        → indexing l block notes space records ≡ indexed (digest₁ ++ digest₂) (index₁ ++ behind_first first_part digest₁ index₂)
    the_indexes_of_the_parts_join = indexing_parts block notes o k block-accepted may-cut l by_parts within-limit

    -- Nothing is refused of either part: a line of the first part's output has its reason there, and a line after them the reason that it has in the
    -- second part; after all lines their number is told. (`finding`: formatter/specs/Format.antt; `feeds` counts line feeds: checker/specs/Named.antt.)
    pub the_reasons_of_the_parts_join : (line : ℕ) (digest₁ digest₂ : List ℕ)
        → finding l block first_part ≡ found digest₁
        → finding l block second_part ≡ found digest₂
        → explaining l block notes line ≡ both_reasons (explaining l block first_part line) (explaining l block second_part (line - feeds digest₁))
    the_reasons_of_the_parts_join = explaining_parts block notes o k block-accepted may-cut l by_parts within-limit

  -- The call that measures and writes in one, with limits such as those of RULES 2.2.
  module _ (most words : ℕ) (within-limit : length notes ≤ most) where
    pub the_start_of_every_piece_is_a_full_boundary_for_formatting : (space : ℕ)
        → answer (limited most words) block notes space ≡ in_room space (both done (length first_part) (measuring (limited most words) block first_part) (measuring (limited most words) block second_part))
    the_start_of_every_piece_is_a_full_boundary_for_formatting space =
        sym (together_they_do_what_the_old_call_did most words block notes space) ∙ the_start_of_every_piece_is_a_full_boundary_for_writing (limited most words) tt within-limit space

    -- Each part by itself is done, whatever room it had, and there is room for both: formatting the notes gives the first's output and then
    -- the second's, and the number that the host gets is the sum of the two parts' numbers.
    module _ (digest₁ digest₂ : List ℕ) (room₁ room₂ space : ℕ)
        (first_done : answer (limited most words) block first_part room₁ ≡ done digest₁)
        (second-done : answer (limited most words) block second_part room₂ ≡ done digest₂)
        (enough-room : length digest₁ + length digest₂ ≤ space) where
      pub the_outputs_of_the_parts_join : answer (limited most words) block notes space ≡ done (digest₁ ++ digest₂)
      the_outputs_of_the_parts_join =
          sym (together_they_do_what_the_old_call_did most words block notes space)
          ∙ what_is_written_of_the_parts_joins (limited most words) tt within-limit digest₁ digest₂ room₁ room₂ space
          (together_they_do_what_the_old_call_did most words block first_part room₁ ∙ first_done) (together_they_do_what_the_old_call_did most words block second_part room₂ ∙ second-done) refl enough-room

      pub the_numbers_of_the_parts_add_up : numbered (answer_coded (answer (limited most words) block notes space)) ≡ numbered (answer_coded (answer (limited most words) block first_part room₁)) + numbered (answer_coded (answer (limited most words) block second_part room₂))
      unfolding numbered
      the_numbers_of_the_parts_add_up = rw (the_outputs_of_the_parts_join, first_done, second-done, length-append) (omega arith)
