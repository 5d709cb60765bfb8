-- A paragraph of the notes: its rows are its lines, it has a word, and its words are emitted in order and each once, whatever the breaks.
use mathlib.Core.Path.{◌≡◌, refl}
use mathlib.Core.Bool.{Bool, true, false, ◌||◌}
use mathlib.Core.List.Memᴰ
use mathlib.Core.List.{List, [], ◌∷◌, ◌++◌}
use mathlib.Core.Logic.{◌⊎◌, inl, inr}
use Prim.Native.Nat.{ℕ, zero, suc}
use native.Mathlib.Omega.{arith}
use lib.Dec.{eqb}
use lib.ListN.{replicate}
use Rattle.lists.specs.Runs.{every}
use Rattle.lists.specs.Theorems.All.{All, ◌∈◌}
use Rattle.lists.proofs.All.{all_at, all_weaken}
use Rattle.lists.proofs.Parts.{every_cons}
use Rattle.text.specs.Theorems.Blanks.{Gap}
use Rattle.text.proofs.Blanks.{blanks_spaces}
use Rattle.options.specs.Opts.{Opts}
use Rattle.lines.specs.Lines.{Line}
use Rattle.pieces.specs.Pieces.{Paragraph, Piece, paragraph, pieces}
use Rattle.pieces.proofs.Extents.{Rows, OfPiece, pieces_rows}
use Rattle.records.specs.Word.{Word}
use Rattle.words.specs.Words.{words_of}
use Rattle.words.proofs.Order.{Whole, paragraph_some, paragraph_whole}
use Rattle.spacing.specs.Spacing.{added_space}
use Rattle.spacing.proofs.Added.{added_some}
use Rattle.output.specs.Emission.{space_before}
use Rattle.output.specs.Theorems.Order.{InOrder}
use Rattle.output.proofs.Order.{space_some, emit_order}
use Rattle.paragraphs.specs.Breaks.{setting_of, breaks_by}
use Rattle.walk.specs.Digest.{formatted, output_of, piece_output}

-- an element that is between others is one of a list's
pub among : {A : Type 0} (before : List A) (x : A) (after : List A) → x ∈ (before ++ x ∷ after)
among [] x after = Memᴰ.head refl
among (y ∷ before) x after = Memᴰ.tail (among before x after)

-- what holds of each element of a list
pub members_all : {A : Type 0} (P : A → Type 0) (xs : List A) → ((x : A) → x ∈ xs → P x) → All P xs
members_all P [] f = tt
members_all P (x ∷ xs) f = (f x (Memᴰ.head refl), members_all P xs (λ y m. f y (Memᴰ.tail m)))

pub rows_of : (o : Opts) (notes : List ℕ) (q : Piece) (p : Paragraph) → q ∈ pieces o notes → q.kind ≡ paragraph p → Rows o q.lines p
rows_of o notes q p m e = rw e at (all_at (OfPiece o) (pieces_rows o notes) m)

-- a space among blanks is no U+00A0
spaces_other : (n : ℕ) (codes : List ℕ) → (n ≡ 0 → every (λ c. eqb c 0xA0) codes ≡ false) → every (λ c. eqb c 0xA0) (replicate n 32 ++ codes) ≡ false
spaces_other zero codes h = h refl
spaces_other (suc n) codes h = every_cons (λ c. eqb c 0xA0) 32 (replicate n 32 ++ codes)

-- what is before a word on its line parts it from the one before
pub space_separates : (glue uniform previousPunct : Bool) (w : Word) → Whole glue uniform w → Gap glue (space_before uniform previousPunct w)
unfolding space_before
space_separates glue uniform previousPunct w h = record {
  codes = replicate added 32 ++ h.codes;
  blanks = blanks_spaces added h.codes w.blanks h.blanks;
  some = space_some uniform previousPunct w h.gap;
  other = λ g. spaces_other added h.codes (λ z. other uniform w.new_line refl refl z g);
}
  where
    added : ℕ
    added = added_space uniform w.new_line w.sentence_start previousPunct

    -- where none is added, the word's own blanks do
    other : (u n : Bool) → uniform ≡ u → w.new_line ≡ n → added ≡ 0 → glue ≡ true → every (λ c. eqb c 0xA0) h.codes ≡ false
    other true n e f z g = absurd (let k = added_some uniform w.new_line w.sentence_start previousPunct (rw e) in omega arith)
    other false true e f z g = absurd (let k = added_some uniform w.new_line w.sentence_start previousPunct (rw (e, f)) in omega arith)
    other false false e f z g = h.other g e f

formatted_order : (o : Opts) (lines : List Line) (p : Paragraph) → Rows o lines p
    → InOrder (λ s. Gap o.glue s ⊎ (s ≡ 10 ∷ p.indent.bytes)) p.first.bytes (words_of o p) (formatted o p)
unfolding formatted
formatted_order o lines p r =
    emit_order _ (o.uniform || p.mail) p.indent.bytes (inr refl) p.first.bytes (breaks_by (o.quick || p.mail) (setting_of o p.mail p.first.columns p.indent.columns) (words_of o p)) (words_of o p) (paragraph_some o lines p r)
    (all_weaken (Whole o.glue (o.uniform || p.mail)) _ (λ w h punct. inl (space_separates o.glue (o.uniform || p.mail) punct w h)) (words_of o p) (paragraph_whole o lines p r))

pub paragraph_order : (o : Opts) (notes : List ℕ) (q : Piece) (p : Paragraph) → q ∈ pieces o notes → q.kind ≡ paragraph p
    → InOrder (λ s. Gap o.glue s ⊎ (s ≡ 10 ∷ p.indent.bytes)) p.first.bytes (words_of o p) (piece_output o q)
unfolding output_of
paragraph_order o notes q p m e = rw e (formatted_order o q.lines p (rows_of o notes q p m e))
