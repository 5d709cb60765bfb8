-- The pieces of notes fit: no line feed is in a plain line or an indent, and a paragraph's words are those of undamaged lines.
use mathlib.Core.Path.{◌≡◌, refl, sym, ap, ◌∙◌, subst⁻¹}
use mathlib.Core.Bool.{Bool, true, false, ◌||◌}
use mathlib.Core.List.{List, [], ◌∷◌, map}
use Prim.Native.Nat.{ℕ, suc, ◌<◌}
use lib.ListN.{length, take, drop}
use Rattle.lists.specs.Runs.{every}
use Rattle.lists.specs.Theorems.All.{All}
use Rattle.lists.proofs.All.{all_drop, all_take, all_map, all_joined}
use Rattle.lists.proofs.Extents.{walk_all}
use Rattle.text.specs.Characters.{glyphs, is_good}
use Rattle.options.specs.Opts.{Opts}
use Rattle.lines.specs.Lines.{Line, lines_of}
use Rattle.lines.specs.Classes.{classify}
use Rattle.lines.specs.declared.Shape.{Shape}
use Rattle.lines.specs.declared.Class.{Class}
use Rattle.lines.specs.declared.Class.TheVariants.{Blank, Plain, Formatted}
use Rattle.lines.proofs.Ink.{damaged_plain}
use Rattle.lines.proofs.Extents.{lines_feedless}
use Rattle.pieces.specs.Pieces.{Paragraph, Second, alone, joins, starts_mail, continues, agrees, follow, second_of, follow_second, further, first_indent, indent_for, row_of, paragraph_at, piece_as, next_piece, pieces}
use Rattle.pieces.proofs.Indents.{second_is}
use Rattle.pieces.proofs.Extents.{Feedless as LineFeedless, Rows}
use Rattle.pieces.proofs.Columns.{first_feedless}
use Rattle.records.specs.Word.{Word}
use Rattle.words.specs.Words.{row_words, words_of}
use Rattle.words.proofs.Order.{paragraph_some}
use Rattle.output.proofs.Indents.{indent_for_feedless}
use Rattle.checker.proofs.Gaps.{Fits}
use Rattle.checker.proofs.Pieces.{PieceFits}
use Rattle.checker.proofs.Fitting.{row_fits}

-- ---- a paragraph's lines are formatted, and so undamaged

abbrev LineGood : Opts → Line → Type 0
LineGood o l = every is_good (glyphs o.glue l.text) ≡ true

formatted_good : (o : Opts) (text : List ℕ) (s : Shape) → classify o text ≡ Formatted s → every is_good (glyphs o.glue text) ≡ true
formatted_good o text s e = go (every is_good (glyphs o.glue text)) refl
  where
    go : (t : Bool) → every is_good (glyphs o.glue text) ≡ t → t ≡ true
    go true k = refl
    go false k = absurd (let q = sym (damaged_plain o text k) ∙ e in cc)

follow_good : (o : Opts) (test : Shape → Bool) (ls : List Line) → All (LineGood o) (take (follow o test ls) ls)
unfolding follow
follow_good o test [] = tt
follow_good o test (l ∷ ls) = go (classify o l.text) refl (follow_good o test ls)
  where
    go : (c : Class) → classify o l.text ≡ c → All (LineGood o) (take (follow o test ls) ls) → All (LineGood o) (take (follow o test (l ∷ ls)) (l ∷ ls))
    go Blank e ih = rw (follow, e) tt
    go Plain e ih = rw (follow, e) tt
    go (Formatted s) e ih = rw (follow, e) (pick (test s))
      where
        pick : (t : Bool) → All (LineGood o) (take (elim t as (λ x. ℕ) [ true ↦ suc (follow o test ls) | false ↦ 0 ]) (l ∷ ls))
        pick true = (formatted_good o l.text s e, ih)
        pick false = tt

second_good : (o : Opts) (a : Shape) (ls : List Line) (s : Second) → second_of o a ls ≡ s → All (LineGood o) (take (follow_second o ls s) ls)
second_good o a ls alone e = tt
second_good o a ls (joins text b) e =
    let s = second_is o a ls text b e in
    subst⁻¹ (λ (xs : List Line). All (LineGood o) (take (suc (follow o (agrees b) (drop 1 xs))) xs)) s.are (formatted_good o s.head.text b (ap (classify o) s.is ∙ s.formatted), follow_good o (agrees b) s.tail)

further_good : (o : Opts) (mail : Bool) (a : Shape) (ls : List Line) → All (LineGood o) (take (further o mail a ls) ls)
unfolding further
further_good o mail a ls = go o.split mail (o.crown || o.tagged)
  where
    go : (s m h : Bool)
        → All (LineGood o) (take (elim s as (λ x. ℕ) [ true ↦ 0 | false ↦ elim m as (λ x. ℕ) [ true ↦ follow o (continues o) ls | false ↦ elim h as (λ x. ℕ) [ true ↦ follow_second o ls (second_of o a ls) | false ↦ follow o (agrees a) ls ] ] ]) ls)
    go true m h = tt
    go false true h = follow_good o (continues o) ls
    go false false true = second_good o a ls (second_of o a ls) refl
    go false false false = follow_good o (agrees a) ls

-- ---- pieces

row_words_fit : (o : Opts) (mail : Bool) (ls : List Line) → All (LineGood o) ls → All LineFeedless ls → All (λ (l : Line). All (λ (w : Word). Fits o.glue w.text) (row_words o mail (row_of o l))) ls
unfolding row_of
row_words_fit o mail [] a b = tt
row_words_fit o mail (l ∷ ls) a b = (row_fits o mail (row_of o l) a.0 b.0, row_words_fit o mail ls a.1 b.1)

next_fits : (o : Opts) (nextMail : Bool) (ls : List Line) → 0 < length ls → All LineFeedless ls → PieceFits o (next_piece o nextMail ls).item
unfolding next_piece paragraph_at words_of
next_fits o nextMail [] h f = tt
next_fits o nextMail (l ∷ ls) h f = go (classify o l.text) refl
  where
    go : (c : Class) → classify o l.text ≡ c → PieceFits o (piece_as o nextMail l ls c).item
    go Blank e = tt
    go Plain e = f.0
    go (Formatted s) e =
        let mail = starts_mail o.mail nextMail s l.text in
        let n = further o mail s ls in
        let taken = l ∷ take n ls in
        let feedless : All LineFeedless taken = (f.0, all_take LineFeedless n ls f.1) in
        let p : Paragraph = record { mail = mail; first = first_indent mail l.text s; indent = indent_for o mail l.text s ls; rows = map (row_of o) taken } in
        let rows : Rows o taken p = record { rows = refl; feedless = feedless; head = l; tail = take n ls; begin = refl; shape = s; formatted = e } in
        record {
          first = first_feedless mail l.text s f.0;
          indent = indent_for_feedless o mail l.text s ls f.0 f.1;
          words = all_joined (row_words o mail) _ (map (row_of o) taken) (all_map _ (row_of o) taken (row_words_fit o mail taken (formatted_good o l.text s e, further_good o mail s ls) feedless));
          some = paragraph_some o taken p rows;
        }

pub pieces_fit : (o : Opts) (notes : List ℕ) → All (PieceFits o) (pieces o notes)
unfolding pieces
pieces_fit o notes = walk_all (next_piece o) (PieceFits o) (All LineFeedless) (all_drop LineFeedless) (next_fits o) true (lines_of notes) (lines_feedless notes)
