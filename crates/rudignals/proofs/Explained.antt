-- The digest has as many line feeds as there are reasons (RULES 13), since no line of it has one inside; and up to the end of a line it ends
-- where that line's reason says.
use Rattle.std.proofs.Common.{Ok}
use mathlib.Core.Path.{◌≡◌, refl, sym, ap, ◌∙◌}
use mathlib.Core.Bool.{Bool, true, false, cond, ◌||◌}
use mathlib.Core.List.{List, [], ◌∷◌, ◌++◌, append_assoc}
use Prim.Native.Nat.{ℕ, zero, suc, ◌<◌}
use native.Mathlib.Omega.{arith}
use lib.Dec.{ltb}
use lib.ListN.{length, get_or, take}
use borrow.Author.Tests.{ltb-true}
use Rattle.lists.specs.Runs.{joined}
use Rattle.lists.specs.Theorems.All.{All}
use Rattle.lists.proofs.All.{all_append}
use Rattle.lists.proofs.Parts.{every_nil, joined_nil, joined_cons}
use Rattle.options.specs.Opts.{Opts, meant}
use Rattle.options.specs.OptionBlock.{read_block}
use Rattle.options.specs.declared.Options.{Options}
use Rattle.lines.specs.Lines.{Line, no_feed}
use Rattle.pieces.specs.Pieces.{Piece, Kind, blank_line, plain_line, paragraph, pieces}
use Rattle.pieces.proofs.Columns.{feedless_append}
use Rattle.pieces.proofs.Extents.{OfKind, OfPiece, pieces_rows}
use Rattle.records.specs.Word.{Word}
use Rattle.words.specs.Words.{words_of}
use Rattle.words.proofs.Order.{Whole, paragraph_whole}
use Rattle.output.specs.Emission.{line_feed, space_before}
use Rattle.walk.specs.Digest.{digest}
use Rattle.formatter.specs.Format.{Limits, Finding, found, stopped, finding}
use Rattle.checker.specs.Named.{feeds, first_lines}
use Rattle.checker.proofs.Pieces.{PieceFits, KindFits}
use Rattle.checker.proofs.Notes.{pieces_fit}
use Rattle.checker.proofs.Feeds.{feedless_cons, feeds_nil, feeds_feed, feeds_append, feedless_feeds}
use Rattle.endings.specs.declared.Ending.{Ending}
use Rattle.endings.specs.declared.Ending.TheVariants.{Paragraph as OfParagraph}
use Rattle.endings.specs.Endings.{Next, breaks}
use Rattle.output.proofs.Indents.{Feedless}
use Rattle.explain.specs.Reasons.{line_endings}
use Rattle.explain.specs.Explain.{because, no_line, look_up, after_measuring, explaining}
use Rattle.explain.specs.Theorems.Ends.{EndsThere}
use Rattle.explain.proofs.Ends.{lines_end_there}
use Rattle.explain.specs.Theorems.LineFeeds.{fed, text_lines, kind_lines, piece_lines, digest_lines}
use Rattle.output.specs.EmittedLines.{lines_from}
use Rattle.explain.proofs.LineFeeds.{the_digest_is_its_lines, each_line_has_its_reason}
use Rattle.indexer.proofs.Counts.{space_feed}

-- ---- no line has a line feed inside

module _ (glue uniform : Bool) (indent : List ℕ) (i : Feedless indent) where
  lines_feedless : (line : List ℕ) (punct : Bool) (bs : List Bool) (ws : List Word) → Feedless line → All (Whole glue uniform) ws → All Feedless (lines_from uniform indent line punct bs ws)
  unfolding lines_from
  lines_feedless line punct bs [] l a = (l, tt)
  lines_feedless line punct [] (w ∷ ws) l a = lines_feedless (line ++ (space_before uniform punct w ++ w.text)) w.ends_punct [] ws (feedless_append line (space_before uniform punct w ++ w.text) l (space_feed glue uniform punct w a.0)) a.1
  lines_feedless line punct (true ∷ bs) (w ∷ ws) l a = (l, lines_feedless (indent ++ w.text) w.ends_punct bs ws (feedless_append indent w.text i a.0.feedless) a.1)
  lines_feedless line punct (false ∷ bs) (w ∷ ws) l a = lines_feedless (line ++ (space_before uniform punct w ++ w.text)) w.ends_punct bs ws (feedless_append line (space_before uniform punct w ++ w.text) l (space_feed glue uniform punct w a.0)) a.1

  text_feedless : (first : List ℕ) (ns : List Next) (ws : List Word) → Feedless first → All (Whole glue uniform) ws → All Feedless (text_lines uniform first indent ns ws)
  unfolding text_lines
  text_feedless first ns [] f a = (every_nil no_feed, tt)
  text_feedless first ns (w ∷ ws) f a = lines_feedless (first ++ w.text) false (breaks ns) ws (feedless_append first w.text f a.0.feedless) a.1

module _ (o : Opts) where
  kind_feedless : (k : Kind) (lines : List Line) → KindFits o k → OfKind o lines k → All Feedless (kind_lines o k)
  unfolding kind_lines
  kind_feedless blank_line lines f r = (every_nil no_feed, tt)
  kind_feedless (plain_line line) lines f r = (f, tt)
  kind_feedless (paragraph p) lines f r = text_feedless o.glue (o.uniform || p.mail) p.indent.bytes f.indent p.first.bytes _ (words_of o p) f.first (paragraph_whole o lines p r)

  pieces_feedless : (qs : List Piece) → All (PieceFits o) qs → All (OfPiece o) qs → All Feedless (joined (piece_lines o) qs)
  pieces_feedless [] f r = rw (joined_nil (piece_lines o)) tt
  pieces_feedless (q ∷ qs) f r =
      rw (joined_cons (piece_lines o) q qs) (all_append Feedless (kind_lines o q.kind) (joined (piece_lines o) qs) (kind_feedless q.kind q.lines f.0 r.0) (pieces_feedless qs f.1 r.1))

-- ---- so there are as many

feeds_fed : (ls : List (List ℕ)) → All Feedless ls → feeds (fed ls) ≡ length ls
feeds_fed [] a = rw (joined_nil (λ (l : List ℕ). l ++ line_feed)) feeds_nil
feeds_fed (l ∷ ls) a =
    let r = feeds_fed ls a.1 in
    let z = feedless_feeds l a.0 in
    let n = feeds_feed in
    rw (joined_cons (λ (m : List ℕ). m ++ line_feed) l ls, feeds_append (l ++ line_feed) (fed ls), feeds_append l line_feed) (omega arith)

all_feedless : (o : Opts) (notes : List ℕ) → All Feedless (digest_lines o notes)
unfolding digest_lines
all_feedless o notes = pieces_feedless o (pieces o notes) (pieces_fit o notes) (pieces_rows o notes)

pub as_many_line_feeds_as_reasons : (o : Opts) (notes : List ℕ) → feeds (digest o notes) ≡ length (line_endings o notes)
as_many_line_feeds_as_reasons o notes =
    ap feeds (the_digest_is_its_lines o notes)
    ∙ feeds_fed (digest_lines o notes) (all_feedless o notes)
    ∙ each_line_has_its_reason o notes

-- ---- and each line ends where its reason says

first_fed : (k : ℕ) (l rest : List ℕ) → Feedless l → first_lines (suc k) (l ++ 10 ∷ rest) ≡ l ++ 10 ∷ first_lines k rest
unfolding first_lines
first_fed k [] rest f = refl
first_fed k (x ∷ l) rest f = let h = feedless_cons x l f in rw (first_lines, h.0) (ap (λ (t : List ℕ). x ∷ t) (first_fed k l rest h.1))

first_lines_fed : (k : ℕ) (ls : List (List ℕ)) → All Feedless ls → first_lines k (fed ls) ≡ fed (take k ls)
unfolding first_lines
first_lines_fed zero ls a = sym (joined_nil (λ (l : List ℕ). l ++ line_feed))
first_lines_fed (suc k) [] a = ap (first_lines (suc k)) (joined_nil (λ (l : List ℕ). l ++ line_feed)) ∙ sym (joined_nil (λ (l : List ℕ). l ++ line_feed))
first_lines_fed (suc k) (l ∷ ls) a =
    ap (first_lines (suc k)) (joined_cons (λ (m : List ℕ). m ++ line_feed) l ls ∙ append_assoc l line_feed (fed ls))
    ∙ first_fed k l (fed ls) a.0
    ∙ ap (λ (t : List ℕ). l ++ 10 ∷ t) (first_lines_fed k ls a.1)
    ∙ sym (append_assoc l line_feed (fed (take k ls)))
    ∙ sym (joined_cons (λ (m : List ℕ). m ++ line_feed) l (take k ls))

-- The digest up to the end of line i, counted from 0, ends where reason i says, whatever its kind. (`EndsThere`: explain/specs/Theorems/Ends;
-- `first_lines`: checker/specs/Named.)
pub the_digest_ends_where_the_reason_says : (o : Opts) (notes : List ℕ) (i : ℕ) → i < length (line_endings o notes)
    → EndsThere o (pieces o notes) (get_or (line_endings o notes) i OfParagraph) (first_lines (suc i) (digest o notes))
the_digest_ends_where_the_reason_says o notes i h = rw (the_digest_is_its_lines o notes, first_lines_fed (suc i) (digest_lines o notes) (all_feedless o notes)) (lines_end_there o notes i h)

-- So it does for the call: what it tells of a line is where that line ends.
pub a_line_ends_where_the_call_says : (l : Limits) (block notes : List ℕ) (o : Options) (i : ℕ) (e : Ending)
    → read_block block ≡ Ok o
    → explaining l block notes i ≡ because e
    → EndsThere (meant block o) (pieces (meant block o) notes) e (first_lines (suc i) (digest (meant block o) notes))
unfolding explaining
a_line_ends_where_the_call_says l block notes o i e b h = go (finding l block notes) (rw b at h)
  where
    es : List Ending
    es = line_endings (meant block o) notes

    told : (t : Bool) → ltb i (length es) ≡ t → cond t (because (get_or es i OfParagraph)) (no_line (length es)) ≡ because e
        → EndsThere (meant block o) (pieces (meant block o) notes) e (first_lines (suc i) (digest (meant block o) notes))
    told true t k = let q : get_or es i OfParagraph ≡ e = cc in rw (← q) (the_digest_ends_where_the_reason_says (meant block o) notes i (ltb-true i (length es) t))
    told false t k = absurd (let z : ◌≡◌ {A = ℕ} 0 1 = cc in omega arith)

    go : (f : Finding) → after_measuring (look_up i es) f ≡ because e → EndsThere (meant block o) (pieces (meant block o) notes) e (first_lines (suc i) (digest (meant block o) notes))
    go (found d) k = told (ltb i (length es)) refl k
    go (stopped r) k = absurd (let z : ◌≡◌ {A = ℕ} 0 1 = cc in omega arith)
