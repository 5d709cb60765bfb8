-- How many lines there are: for each paragraph no more than it has words, and so for each piece no more than it has bytes.
use mathlib.Core.Path.{◌≡◌, refl, ap}
use mathlib.Core.Bool.{Bool, true, false, ◌||◌}
use mathlib.Core.List.{List, [], ◌∷◌}
use Prim.Native.Nat.{ℕ, suc, ◌+◌, ◌≤◌, ◌<◌}
use native.Mathlib.Omega.{arith}
use lib.Dec.{ltb}
use lib.ListN.{length, length-append}
use Rattle.lists.specs.Runs.{joined}
use Rattle.lists.specs.Theorems.All.{All}
use Rattle.lists.proofs.Parts.{joined_nil, joined_cons}
use Rattle.options.specs.Opts.{Opts}
use Rattle.pieces.specs.Pieces.{Piece, Kind, blank_line, plain_line, paragraph, pieces}
use Rattle.records.specs.Word.{Word}
use Rattle.words.specs.Words.{words_of}
use Rattle.spacing.specs.Spacing.{gap_at, added_space}
use Rattle.spacing.specs.declared.Setting.{Setting}
use Rattle.endings.specs.declared.Ending.{Ending}
use Rattle.endings.specs.declared.Ending.TheVariants.{Full}
use Rattle.endings.specs.Endings.{Next, goes_on, ended, endings}
use Rattle.quick.specs.QuickLines.{quick_lines_from, quick_lines}
use Rattle.quick.proofs.Laws.{reached}
use Rattle.knuth_plass.specs.BestLines.{best_lines}
use Rattle.paragraphs.specs.Breaks.{setting_of}
use Rattle.walk.specs.Digest.{extent_of}
use Rattle.walk.specs.Standing.{words_under}
use Rattle.walk.proofs.Extents.{extents_are_notes, extents_some}
use Rattle.walk.proofs.Work.{words_are_few}
use Rattle.explain.specs.Reasons.{lines_by, paragraph_endings, endings_of, piece_endings, line_endings}
use Rattle.explain.proofs.Asking.{nexts_length}

-- ---- a paragraph

either_length : (b : Bool) (e : Ending) (xs ys : List Next) (n : ℕ) → length xs ≡ n → length ys ≡ n → length {A = Next} (elim b as (λ x. List Next) [ true ↦ ended e ∷ xs | false ↦ goes_on ∷ ys ]) ≡ suc n
either_length true e xs ys n h k = ap suc h
either_length false e xs ys n h k = ap suc k

module _ (g : Setting) where
  quick_length : (column : ℕ) (punct : Bool) (ws : List Word) → length (quick_lines_from g column punct ws) ≡ length ws
  unfolding quick_lines_from
  quick_length column punct [] = refl
  quick_length column punct (w ∷ ws) =
      either_length (ltb g.width (reached g column punct w)) (Full column (gap_at g.tab column w) (added_space g.uniform w.new_line w.sentence_start punct) w.width)
      (quick_lines_from g (g.indent + w.width) w.ends_punct ws) (quick_lines_from g (reached g column punct w) w.ends_punct ws) (length ws)
      (quick_length (g.indent + w.width) w.ends_punct ws) (quick_length (reached g column punct w) w.ends_punct ws)

-- something becomes of each word after the first
pub lines_length : (fast : Bool) (g : Setting) (w : Word) (ws : List Word) → length (lines_by fast g (w ∷ ws)) ≡ length ws
unfolding quick_lines best_lines
lines_length true g w ws = quick_length g (g.first + w.width) false ws
lines_length false g w ws = nexts_length _ _ 1 ws

pub lines_within : (fast : Bool) (g : Setting) (ws : List Word) (e : ℕ) → 0 < length ws → e < 1 + length (lines_by fast g ws) → e < length ws
lines_within fast g [] e h k = absurd (omega arith)
lines_within fast g (w ∷ ws) e h k = let l = lines_length fast g w ws in omega arith

endings_most : (ns : List Next) → length (endings ns) ≤ suc (length ns)
unfolding endings
endings_most [] = omega arith
endings_most (goes_on ∷ ns) = let r = endings_most ns in omega arith
endings_most (ended e ∷ ns) = let r = endings_most ns in omega arith

lines_few : (fast : Bool) (g : Setting) (ws : List Word) (n : ℕ) → length ws ≤ n → 0 < n → length (endings (lines_by fast g ws)) ≤ n
unfolding endings quick_lines best_lines
lines_few true g [] n h k = omega arith
lines_few false g [] n h k = omega arith
lines_few fast g (w ∷ ws) n h k = let m = endings_most (lines_by fast g (w ∷ ws)) in let l = lines_length fast g w ws in omega arith

-- ---- the notes: a piece has no more lines than bytes

module _ (o : Opts) where
  piece_few : (k : Kind) (n : ℕ) → length (words_under o k) ≤ n → 0 < n → length (endings_of o k) ≤ n
  unfolding endings_of paragraph_endings
  piece_few blank_line n h s = omega arith
  piece_few (plain_line line) n h s = omega arith
  piece_few (paragraph p) n h s = lines_few (o.quick || p.mail) (setting_of o p.mail p.first.columns p.indent.columns) (words_of o p) n h s

  pieces_few : (qs : List Piece) → All (λ (q : Piece). length (words_under o q.kind) ≤ length (extent_of q)) qs → All (λ (q : Piece). 0 < length (extent_of q)) qs
      → length (joined (piece_endings o) qs) ≤ length (joined extent_of qs)
  pieces_few [] w a = rw (joined_nil (piece_endings o)) (omega arith)
  pieces_few (q ∷ qs) w a =
      let f = piece_few q.kind (length (extent_of q)) w.0 a.0 in
      let r = pieces_few qs w.1 a.1 in
      rw (joined_cons (piece_endings o) q qs, joined_cons extent_of q qs, length-append, length-append) (omega arith)

  pub lines_are_few : (notes : List ℕ) → length (line_endings o notes) ≤ length notes
  unfolding line_endings
  lines_are_few notes = rw (extents_are_notes o notes) at (pieces_few (pieces o notes) (words_are_few o notes) (extents_some o notes))
