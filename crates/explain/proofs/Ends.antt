-- The digest up to the end of a line ends where that line's reason says (RULES 13).
use mathlib.Core.Path.{◌≡◌, refl, sym, ap, subst⁻¹, ◌∙◌}
use mathlib.Core.Bool.{Bool, true, false, ◌||◌}
use mathlib.Core.List.{List, [], ◌∷◌, ◌++◌, append-nil, append_assoc}
use Prim.Native.Nat.{ℕ, zero, suc, ◌-◌, ◌≤◌, ◌<◌}
use native.Mathlib.Omega.{arith}
use lib.Dec.{ltb}
use lib.ListN.{length, get_or, take, length-append, get_or-append}
use lib.Seq.{take-append-le}
use borrow.Author.Tests.{ltb-true, ltb-false}
use Rattle.lists.specs.Runs.{joined}
use Rattle.lists.specs.Theorems.All.{All}
use Rattle.lists.proofs.Parts.{joined_nil, joined_cons, joined_append}
use Rattle.options.specs.Opts.{Opts}
use Rattle.lines.specs.Lines.{Line}
use Rattle.pieces.specs.Pieces.{Paragraph, Piece, Kind, blank_line, plain_line, paragraph, pieces}
use Rattle.pieces.proofs.Extents.{OfKind, OfPiece, pieces_rows}
use Rattle.records.specs.Word.{Word}
use Rattle.words.specs.Words.{words_of}
use Rattle.words.proofs.Order.{paragraph_some}
use Rattle.output.specs.Emission.{line_feed, space_before, emit_rest, emit}
use Rattle.endings.specs.declared.Ending.{Ending}
use Rattle.endings.specs.declared.Ending.TheVariants.{Paragraph as OfParagraph}
use Rattle.endings.specs.Endings.{Next, goes_on, ended, breaks, endings}
use Rattle.walk.specs.Digest.{piece_output}
use Rattle.explain.specs.Reasons.{lines_by, paragraph_endings, endings_of, piece_endings, line_endings}
use Rattle.explain.specs.Theorems.LineFeeds.{fed, text_lines, kind_lines, piece_lines, digest_lines}
use Rattle.output.specs.EmittedLines.{lines_from}
use Rattle.explain.specs.Theorems.Ends.{EndsSo, UpToWord, EndsIn, EndsThere}
use Rattle.explain.proofs.Counting.{lines_length}
use Rattle.explain.proofs.LineFeeds.{setting, kind_is_lines, kind_many}

abbrev reason_at : List Ending → ℕ → Ending
reason_at es i = get_or es i OfParagraph

fed_cons : (l : List ℕ) (ls : List (List ℕ)) → fed (l ∷ ls) ≡ (l ++ line_feed) ++ fed ls
fed_cons l ls = joined_cons (λ (x : List ℕ). x ++ line_feed) l ls

fed_nil : fed [] ≡ []
fed_nil = joined_nil (λ (x : List ℕ). x ++ line_feed)

-- a line after others
pub reason_behind : (es fs : List Ending) (i : ℕ) → length es ≤ i → reason_at (es ++ fs) i ≡ reason_at fs (i - length es)
reason_behind [] fs i h = let z : i ≡ i - 0 = omega arith in ap (λ (k : ℕ). reason_at fs k) z
reason_behind (e ∷ es) fs zero h = absurd (omega arith)
reason_behind (e ∷ es) fs (suc i) h = let z : i - length es ≡ suc i - suc (length es) = omega arith in reason_behind es fs i (omega arith) ∙ ap (λ (k : ℕ). reason_at fs k) z

take_behind : (ls ms : List (List ℕ)) (i : ℕ) → length ls ≤ i → take (suc i) (ls ++ ms) ≡ ls ++ take (suc (i - length ls)) ms
take_behind [] ms i h = let z : i ≡ i - 0 = omega arith in ap (λ (k : ℕ). take (suc k) ms) z
take_behind (l ∷ ls) ms zero h = absurd (omega arith)
take_behind (l ∷ ls) ms (suc i) h =
    let z : i - length ls ≡ suc i - suc (length ls) = omega arith in
    ap (λ (x : List (List ℕ)). l ∷ x) (take_behind ls ms i (omega arith) ∙ ap (λ (k : ℕ). ls ++ take (suc k) ms) z)

-- ---- within a paragraph

module _ (uniform : Bool) (indent : List ℕ) where
  -- the lines from one on that stands so far, up to the end of the i-th of them
  record UpTo (i : ℕ) (line : List ℕ) (punct : Bool) (ns : List Next) (ws : List Word) : Type 0 where
    here : List Word
    later : List Word
    broken : List Next
    rest : List Next
    words : ws ≡ here ++ later
    nexts : ns ≡ broken ++ rest
    as_many : length here ≡ length broken
    bytes : fed (take (suc i) (lines_from uniform indent line punct (breaks ns) ws)) ≡ line ++ emit_rest uniform indent punct (breaks broken) here
    ends : EndsSo rest (reason_at (endings ns) i)

  -- a word that goes on the line
  on_line : (i : ℕ) (line : List ℕ) (punct : Bool) (ns : List Next) (w : Word) (ws : List Word)
      → UpTo i (line ++ (space_before uniform punct w ++ w.text)) w.ends_punct ns ws → UpTo i line punct (goes_on ∷ ns) (w ∷ ws)
  unfolding lines_from emit_rest breaks endings
  on_line i line punct ns w ws u = record {
    here = w ∷ u.here;
    later = u.later;
    broken = goes_on ∷ u.broken;
    rest = u.rest;
    words = ap (λ (l : List Word). w ∷ l) u.words;
    nexts = ap (λ (l : List Next). goes_on ∷ l) u.nexts;
    as_many = ap suc u.as_many;
    bytes =
        let r = emit_rest uniform indent w.ends_punct (breaks u.broken) u.here in
        u.bytes ∙ append_assoc line (space_before uniform punct w ++ w.text) r ∙ ap (λ (l : List ℕ). line ++ l) (append_assoc (space_before uniform punct w) w.text r);
    ends = u.ends;
  }

  -- a word that starts a line: the line before it ends there ..
  ends_here : (line : List ℕ) (punct : Bool) (e : Ending) (ns : List Next) (w : Word) (ws : List Word) → UpTo 0 line punct (ended e ∷ ns) (w ∷ ws)
  unfolding lines_from emit_rest breaks endings
  ends_here line punct e ns w ws = record {
    here = [];
    later = w ∷ ws;
    broken = [];
    rest = ended e ∷ ns;
    words = refl;
    nexts = refl;
    as_many = refl;
    bytes = fed_cons line [] ∙ ap (λ (l : List ℕ). (line ++ line_feed) ++ l) fed_nil ∙ append-nil (line ++ line_feed);
    ends = refl;
  }

  -- .. or a later one does
  next_line : (i : ℕ) (line : List ℕ) (punct : Bool) (e : Ending) (ns : List Next) (w : Word) (ws : List Word)
      → UpTo i (indent ++ w.text) w.ends_punct ns ws → UpTo (suc i) line punct (ended e ∷ ns) (w ∷ ws)
  unfolding lines_from emit_rest breaks endings
  next_line i line punct e ns w ws u = record {
    here = w ∷ u.here;
    later = u.later;
    broken = ended e ∷ u.broken;
    rest = u.rest;
    words = ap (λ (l : List Word). w ∷ l) u.words;
    nexts = ap (λ (l : List Next). ended e ∷ l) u.nexts;
    as_many = ap suc u.as_many;
    bytes =
        let r = emit_rest uniform indent w.ends_punct (breaks u.broken) u.here in
        fed_cons line (take (suc i) (lines_from uniform indent (indent ++ w.text) w.ends_punct (breaks ns) ws))
        ∙ ap (λ (l : List ℕ). (line ++ line_feed) ++ l) (u.bytes ∙ append_assoc indent w.text r)
        ∙ append_assoc line line_feed (indent ++ (w.text ++ r))
        ∙ ap (λ (l : List ℕ). line ++ l) (sym (append_assoc line_feed indent (w.text ++ r)));
    ends = u.ends;
  }

  up_to : (i : ℕ) (line : List ℕ) (punct : Bool) (ns : List Next) (ws : List Word) → length ns ≡ length ws → i < length (endings ns) → UpTo i line punct ns ws
  unfolding lines_from emit_rest breaks endings
  up_to zero line punct [] [] h k = record {
    here = [];
    later = [];
    broken = [];
    rest = [];
    words = refl;
    nexts = refl;
    as_many = refl;
    bytes = fed_cons line [] ∙ ap (λ (l : List ℕ). (line ++ line_feed) ++ l) fed_nil ∙ append-nil (line ++ line_feed);
    ends = refl;
  }
  up_to (suc i) line punct [] [] h k = absurd (omega arith)
  up_to i line punct [] (w ∷ ws) h k = absurd (omega arith)
  up_to i line punct (n ∷ ns) [] h k = absurd (omega arith)
  up_to i line punct (goes_on ∷ ns) (w ∷ ws) h k = on_line i line punct ns w ws (up_to i (line ++ (space_before uniform punct w ++ w.text)) w.ends_punct ns ws (omega arith) k)
  up_to zero line punct (ended e ∷ ns) (w ∷ ws) h k = ends_here line punct e ns w ws
  up_to (suc i) line punct (ended e ∷ ns) (w ∷ ws) h k = next_line i line punct e ns w ws (up_to i (indent ++ w.text) w.ends_punct ns ws (omega arith) (omega arith))

-- ---- within a piece

module _ (o : Opts) where
  text_ends : (p : Paragraph) (i : ℕ) (w : Word) (ws : List Word) → words_of o p ≡ w ∷ ws → i < length (paragraph_endings o p)
      → UpToWord o p (reason_at (paragraph_endings o p) i) (fed (take (suc i) (kind_lines o (paragraph p))))
  unfolding paragraph_endings kind_lines text_lines emit
  text_ends p i w ws e h =
      let ns = lines_by (o.quick || p.mail) (setting o p) (words_of o p) in
      let k : ns ≡ lines_by (o.quick || p.mail) (setting o p) (w ∷ ws) = ap (lines_by (o.quick || p.mail) (setting o p)) e in
      let u = up_to (o.uniform || p.mail) p.indent.bytes i (p.first.bytes ++ w.text) false ns ws (ap length k ∙ lines_length (o.quick || p.mail) (setting o p) w ws) h in
      record {
        here = w ∷ u.here;
        later = u.later;
        broken = u.broken;
        rest = u.rest;
        words = e ∙ ap (λ (l : List Word). w ∷ l) u.words;
        lines = u.nexts;
        one_less = ap suc u.as_many;
        bytes =
            ap (λ (l : List Word). fed (take (suc i) (text_lines (o.uniform || p.mail) p.first.bytes p.indent.bytes ns l))) e
            ∙ u.bytes
            ∙ append_assoc p.first.bytes w.text (emit_rest (o.uniform || p.mail) p.indent.bytes false (breaks u.broken) u.here);
        ends = u.ends;
      }

  kind_ends : (k : Kind) (lines : List Line) (i : ℕ) → OfKind o lines k → i < length (endings_of o k) → EndsIn o k (reason_at (endings_of o k) i) (fed (take (suc i) (kind_lines o k)))
  unfolding endings_of kind_lines
  kind_ends blank_line lines zero r h = (refl, fed_cons [] [] ∙ ap (λ (l : List ℕ). line_feed ++ l) fed_nil)
  kind_ends blank_line lines (suc i) r h = absurd (omega arith)
  kind_ends (plain_line line) lines zero r h = (refl, fed_cons line [] ∙ ap (λ (l : List ℕ). (line ++ line_feed) ++ l) fed_nil ∙ append-nil (line ++ line_feed))
  kind_ends (plain_line line) lines (suc i) r h = absurd (omega arith)
  kind_ends (paragraph p) lines i r h = go (words_of o p) refl (paragraph_some o lines p r)
    where
      go : (ws : List Word) → words_of o p ≡ ws → 0 < length ws → UpToWord o p (reason_at (paragraph_endings o p) i) (fed (take (suc i) (kind_lines o (paragraph p))))
      go [] e k = absurd (omega arith)
      go (w ∷ ws) e k = text_ends p i w ws e h

  -- ---- among all pieces

  moved : (qs : List Piece) (e d : Ending) (x y : List ℕ) → e ≡ d → x ≡ y → EndsThere o qs d y → EndsThere o qs e x
  moved qs e d x y p r t = subst⁻¹ (λ (c : Ending). EndsThere o qs c x) p (subst⁻¹ (λ (z : List ℕ). EndsThere o qs d z) r t)

  -- a line of the first piece
  first_ends : (q : Piece) (qs : List Piece) (i : ℕ) → OfPiece o q → i < length (endings_of o q.kind) → EndsThere o (q ∷ qs) (reason_at (endings_of o q.kind) i) (fed (take (suc i) (kind_lines o q.kind)))
  first_ends q qs i r h = record {
    before = [];
    piece = q;
    after = qs;
    part = fed (take (suc i) (kind_lines o q.kind));
    are = refl;
    bytes = ap (λ (l : List ℕ). l ++ fed (take (suc i) (kind_lines o q.kind))) (sym (joined_nil (piece_output o)));
    ends = kind_ends q.kind q.lines i r h;
  }

  -- a line of those after it
  behind_ends : (q : Piece) (qs : List Piece) (e : Ending) (front : List ℕ) → EndsThere o qs e front → EndsThere o (q ∷ qs) e (piece_output o q ++ front)
  behind_ends q qs e front u = record {
    before = q ∷ u.before;
    piece = u.piece;
    after = u.after;
    part = u.part;
    are = ap (λ (l : List Piece). q ∷ l) u.are;
    bytes =
        ap (λ (l : List ℕ). piece_output o q ++ l) u.bytes
        ∙ sym (append_assoc (piece_output o q) (joined (piece_output o) u.before) u.part)
        ∙ ap (λ (l : List ℕ). l ++ u.part) (sym (joined_cons (piece_output o) q u.before));
    ends = u.ends;
  }

  -- the reason and the lines up to there, of one piece and those after it
  module _ (q : Piece) (qs : List Piece) (i : ℕ) where
    abbrev reasons : List Ending
    reasons = joined (piece_endings o) qs

    abbrev lines : List (List ℕ)
    lines = joined (piece_lines o) qs

    reason_first : i < length (endings_of o q.kind) → reason_at (joined (piece_endings o) (q ∷ qs)) i ≡ reason_at (endings_of o q.kind) i
    reason_first h = ap (λ (l : List Ending). reason_at l i) (joined_cons (piece_endings o) q qs) ∙ get_or-append (endings_of o q.kind) reasons OfParagraph i h

    lines_first : i < length (endings_of o q.kind) → fed (take (suc i) (joined (piece_lines o) (q ∷ qs))) ≡ fed (take (suc i) (kind_lines o q.kind))
    lines_first h =
        ap (λ (l : List (List ℕ)). fed (take (suc i) l)) (joined_cons (piece_lines o) q qs)
        ∙ ap fed (take-append-le (suc i) (kind_lines o q.kind) lines (omega (arith, kind_many o q.kind)))

    reason_later : length (endings_of o q.kind) ≤ i → reason_at (joined (piece_endings o) (q ∷ qs)) i ≡ reason_at reasons (i - length (endings_of o q.kind))
    reason_later h = ap (λ (l : List Ending). reason_at l i) (joined_cons (piece_endings o) q qs) ∙ reason_behind (endings_of o q.kind) reasons i h

    lines_later : length (endings_of o q.kind) ≤ i → fed (take (suc i) (joined (piece_lines o) (q ∷ qs))) ≡ piece_output o q ++ fed (take (suc (i - length (endings_of o q.kind))) lines)
    lines_later h =
        ap (λ (l : List (List ℕ)). fed (take (suc i) l)) (joined_cons (piece_lines o) q qs)
        ∙ ap fed (take_behind (kind_lines o q.kind) lines i (omega (arith, kind_many o q.kind)))
        ∙ ap (λ (n : ℕ). fed (kind_lines o q.kind ++ take (suc (i - n)) lines)) (kind_many o q.kind)
        ∙ joined_append (λ (l : List ℕ). l ++ line_feed) (kind_lines o q.kind) (take (suc (i - length (endings_of o q.kind))) lines)
        ∙ ap (λ (l : List ℕ). l ++ fed (take (suc (i - length (endings_of o q.kind))) lines)) (sym (kind_is_lines o q.kind))

    reasons_left : length (endings_of o q.kind) ≤ i → i < length (joined (piece_endings o) (q ∷ qs)) → i - length (endings_of o q.kind) < length reasons
    reasons_left k h = omega (arith, k, h, ap length (joined_cons (piece_endings o) q qs) ∙ length-append (endings_of o q.kind) reasons)

  pieces_end : (qs : List Piece) (i : ℕ) → All (OfPiece o) qs → i < length (joined (piece_endings o) qs)
      → EndsThere o qs (reason_at (joined (piece_endings o) qs) i) (fed (take (suc i) (joined (piece_lines o) qs)))
  pieces_end [] i r h = absurd (omega (arith, ap length (joined_nil (piece_endings o))))
  pieces_end (q ∷ qs) i r h = go (ltb i (length (endings_of o q.kind))) refl (λ k. pieces_end qs k r.1)
    where
      go : (t : Bool) → ltb i (length (endings_of o q.kind)) ≡ t
          → ((k : ℕ) → k < length (joined (piece_endings o) qs) → EndsThere o qs (reason_at (joined (piece_endings o) qs) k) (fed (take (suc k) (joined (piece_lines o) qs))))
          → EndsThere o (q ∷ qs) (reason_at (joined (piece_endings o) (q ∷ qs)) i) (fed (take (suc i) (joined (piece_lines o) (q ∷ qs))))
      go true t rest =
          let k = ltb-true i (length (endings_of o q.kind)) t in
          moved (q ∷ qs) _ _ _ _ (reason_first q qs i k) (lines_first q qs i k) (first_ends q qs i r.0 k)
      go false t rest =
          let k = ltb-false i (length (endings_of o q.kind)) t in
          moved (q ∷ qs) _ _ _ _ (reason_later q qs i k) (lines_later q qs i k) (behind_ends q qs _ _ (rest (i - length (endings_of o q.kind)) (reasons_left q qs i k h)))

-- the lines of the digest up to one, each with its line feed, end where that one's reason says
pub lines_end_there : (o : Opts) (notes : List ℕ) (line : ℕ) → line < length (line_endings o notes)
    → EndsThere o (pieces o notes) (reason_at (line_endings o notes) line) (fed (take (suc line) (digest_lines o notes)))
unfolding line_endings digest_lines
lines_end_there o notes line h = pieces_end o (pieces o notes) line (pieces_rows o notes) h
