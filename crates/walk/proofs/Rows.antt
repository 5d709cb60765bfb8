-- A paragraph's words: those of its rows are those of the lines of its part of the notes, with their words' starts as the code was told.
use mathlib.Core.Path.{◌≡◌, refl, sym, ap, ap₂, ◌∙◌}
use mathlib.Core.Bool.{Bool, true, false}
use mathlib.Core.List.{List, [], ◌∷◌, ◌++◌, map}
use Prim.Native.Nat.{ℕ}
use lib.Seq.{slice}
use Rattle.lists.specs.Runs.{joined}
use Rattle.lists.specs.Theorems.All.{All}
use Rattle.lists.proofs.Parts.{joined_nil, joined_cons}
use Rattle.options.specs.Opts.{Opts}
use Rattle.lines.specs.Lines.{Line, lines_of}
use Rattle.pieces.specs.Pieces.{Row, Paragraph, row_of}
use Rattle.pieces.specs.declared.Paragraph.{Paragraph as ParagraphAt}
use Rattle.pieces.proofs.Starting.{Starts, AllStart}
use Rattle.pieces.proofs.Meaning.{TextIs}
use Rattle.records.specs.Word.{Word}
use Rattle.words.specs.Words.{row_words, words_of}
use Rattle.words.specs.Cited.Places.{rows_at, words_at}

module _ (o : Opts) where
  row_starts : (start : ℕ) (l : Line) → Starts o start l → row_of o l ≡ record { text = l.text; start = start }
  unfolding row_of
  row_starts start l s = rw (s.formatted, s.indent)

  rows_start : (start : ℕ) (ls : List Line) → All (Starts o start) ls → map (row_of o) ls ≡ rows_at start start ls
  unfolding rows_at
  rows_start start [] a = refl
  rows_start start (l ∷ ls) a = ap₂ (λ (r : Row) (rs : List Row). r ∷ rs) (row_starts start l a.0) (rows_start start ls a.1)

  plain_rows : (start later : ℕ) (ls : List Line) → AllStart o start later ls → joined (row_words o false) (map (row_of o) ls) ≡ words_at o false start later ls
  unfolding words_at rows_at
  plain_rows start later [] a = refl
  plain_rows start later (l ∷ ls) a = ap (joined (row_words o false)) (ap₂ (λ (r : Row) (rs : List Row). r ∷ rs) (row_starts start l a.0) (rows_start later ls a.1))

  -- mail's words do not depend on where they begin
  mail_row : (l : Line) (start : ℕ) → row_words o true (row_of o l) ≡ row_words o true (record { text = l.text; start = start })
  unfolding row_words row_of
  mail_row l start = refl

  mail_rows : (start later : ℕ) (ls : List Line) → joined (row_words o true) (map (row_of o) ls) ≡ words_at o true start later ls
  unfolding words_at rows_at
  mail_rows start later [] = rw joined_nil
  mail_rows start later (l ∷ ls) =
      joined_cons (row_words o true) (row_of o l) (map (row_of o) ls)
      ∙ ap₂ (λ (a b : List Word). a ++ b) (mail_row l start) (mail_rows later later ls)
      ∙ sym (joined_cons (row_words o true) (record { text = l.text; start = start }) (rows_at later later ls))

  rows_words : (mail : Bool) (start later : ℕ) (ls : List Line) → (mail ≡ false → AllStart o start later ls) → joined (row_words o mail) (map (row_of o) ls) ≡ words_at o mail start later ls
  rows_words true start later ls a = mail_rows start later ls
  rows_words false start later ls a = plain_rows start later ls (a refl)

  pub text_words : (notes : List ℕ) (at : ℕ) (p : ParagraphAt) (q : Paragraph) → TextIs o notes at p q → words_of o q ≡ words_at o p.mail p.start p.later (lines_of (slice at p.next notes))
  unfolding words_of
  text_words notes at p q t = rw (t.mail, t.rows.rows) (rows_words p.mail p.start p.later (lines_of (slice at p.next notes)) t.starts)
