-- The digest is its lines, each with a line feed, and there are as many as ways in which they ended.
use mathlib.Core.Path.{◌≡◌, refl, sym, ap, ◌∙◌}
use mathlib.Core.Bool.{Bool, true, false, ◌||◌}
use mathlib.Core.List.{List, [], ◌∷◌, ◌++◌, append-nil}
use Prim.Native.Nat.{ℕ, suc}
use native.Mathlib.Omega.{arith}
use lib.ListN.{length, length-append}
use Rattle.lists.specs.Runs.{joined}
use Rattle.lists.proofs.Parts.{joined_nil, joined_cons, joined_append}
use Rattle.options.specs.Opts.{Opts}
use Rattle.pieces.specs.Pieces.{Piece, Kind, blank_line, plain_line, paragraph, Paragraph, pieces}
use Rattle.records.specs.Word.{Word}
use Rattle.words.specs.Words.{words_of}
use Rattle.spacing.specs.declared.Setting.{Setting}
use Rattle.output.specs.Emission.{line_feed, space_before, emit}
use Rattle.output.specs.EmittedLines.{lines_from}
use Rattle.output.proofs.EmittedLines.{output_is_lines}
use Rattle.endings.specs.Endings.{Next, goes_on, ended, breaks, endings}
use Rattle.quick.specs.QuickLines.{quick_lines}
use Rattle.knuth_plass.specs.BestLines.{best_lines}
use Rattle.paragraphs.specs.Breaks.{setting_of, breaks_by}
use Rattle.walk.specs.Digest.{formatted, output_of, piece_output, digest}
use Rattle.explain.specs.Reasons.{lines_by, paragraph_endings, endings_of, piece_endings, line_endings}
use Rattle.explain.specs.Theorems.LineFeeds.{fed, text_lines, kind_lines, piece_lines, digest_lines}
use Rattle.explain.proofs.Asking.{breaks_are}
use Rattle.explain.proofs.Counting.{lines_length}

-- as many lines as ways in which they ended
as_many_lines : (uniform : Bool) (indent line : List ℕ) (punct : Bool) (ns : List Next) (ws : List Word) → length ns ≡ length ws
    → length (lines_from uniform indent line punct (breaks ns) ws) ≡ length (endings ns)
unfolding lines_from breaks endings
as_many_lines uniform indent line punct [] [] h = refl
as_many_lines uniform indent line punct [] (w ∷ ws) h = absurd (omega arith)
as_many_lines uniform indent line punct (n ∷ ns) [] h = absurd (omega arith)
as_many_lines uniform indent line punct (goes_on ∷ ns) (w ∷ ws) h = as_many_lines uniform indent (line ++ (space_before uniform punct w ++ w.text)) w.ends_punct ns ws (omega arith)
as_many_lines uniform indent line punct (ended e ∷ ns) (w ∷ ws) h = ap suc (as_many_lines uniform indent (indent ++ w.text) w.ends_punct ns ws (omega arith))

-- ---- a paragraph

text_is_lines : (uniform fast : Bool) (first indent : List ℕ) (g : Setting) (ws : List Word) → emit uniform first indent (breaks_by fast g ws) ws ≡ fed (text_lines uniform first indent (lines_by fast g ws) ws)
unfolding emit text_lines joined
text_is_lines uniform fast first indent g [] = refl
text_is_lines uniform fast first indent g (w ∷ ws) = output_is_lines uniform first indent (breaks_by fast g (w ∷ ws)) w ws ∙ ap (λ (bs : List Bool). fed (lines_from uniform indent (first ++ w.text) false bs ws)) (sym (breaks_are fast g (w ∷ ws)))

text_many : (uniform fast : Bool) (first indent : List ℕ) (g : Setting) (ws : List Word) → length (text_lines uniform first indent (lines_by fast g ws) ws) ≡ length (endings (lines_by fast g ws))
unfolding text_lines endings quick_lines best_lines
text_many uniform true first indent g [] = refl
text_many uniform false first indent g [] = refl
text_many uniform fast first indent g (w ∷ ws) = as_many_lines uniform indent (first ++ w.text) false (lines_by fast g (w ∷ ws)) ws (lines_length fast g w ws)

-- ---- the digest

module _ (o : Opts) where
  abbrev pub setting : Paragraph → Setting
  setting p = setting_of o p.mail p.first.columns p.indent.columns

  pub kind_is_lines : (k : Kind) → output_of o k ≡ fed (kind_lines o k)
  unfolding output_of formatted kind_lines joined
  kind_is_lines blank_line = refl
  kind_is_lines (plain_line line) = sym (append-nil (line ++ line_feed))
  kind_is_lines (paragraph p) = text_is_lines (o.uniform || p.mail) (o.quick || p.mail) p.first.bytes p.indent.bytes (setting p) (words_of o p)

  pub kind_many : (k : Kind) → length (kind_lines o k) ≡ length (endings_of o k)
  unfolding kind_lines endings_of paragraph_endings
  kind_many blank_line = refl
  kind_many (plain_line line) = refl
  kind_many (paragraph p) = text_many (o.uniform || p.mail) (o.quick || p.mail) p.first.bytes p.indent.bytes (setting p) (words_of o p)

  pieces_are_lines : (qs : List Piece) → joined (piece_output o) qs ≡ fed (joined (piece_lines o) qs)
  pieces_are_lines [] = rw (joined_nil (piece_output o), joined_nil (piece_lines o)) (sym (joined_nil (λ (l : List ℕ). l ++ line_feed)))
  pieces_are_lines (q ∷ qs) =
      joined_cons (piece_output o) q qs
      ∙ ap (λ (xs : List ℕ). xs ++ joined (piece_output o) qs) (kind_is_lines q.kind)
      ∙ ap (λ (xs : List ℕ). fed (kind_lines o q.kind) ++ xs) (pieces_are_lines qs)
      ∙ sym (joined_append (λ (l : List ℕ). l ++ line_feed) (kind_lines o q.kind) (joined (piece_lines o) qs))
      ∙ ap fed (sym (joined_cons (piece_lines o) q qs))

  pieces_many : (qs : List Piece) → length (joined (piece_lines o) qs) ≡ length (joined (piece_endings o) qs)
  pieces_many [] = rw (joined_nil (piece_lines o), joined_nil (piece_endings o))
  pieces_many (q ∷ qs) =
      let k = kind_many q.kind in
      let r = pieces_many qs in
      rw (joined_cons (piece_lines o) q qs, joined_cons (piece_endings o) q qs, length-append, length-append) (omega arith)

  -- the line feeds stand where the definition of the reasons says
  pub the_digest_is_its_lines : (notes : List ℕ) → digest o notes ≡ fed (digest_lines o notes)
  unfolding digest digest_lines
  the_digest_is_its_lines notes = pieces_are_lines (pieces o notes)

  -- and there are as many lines as reasons
  pub each_line_has_its_reason : (notes : List ℕ) → length (digest_lines o notes) ≡ length (line_endings o notes)
  unfolding digest_lines line_endings
  each_line_has_its_reason notes = pieces_many (pieces o notes)
