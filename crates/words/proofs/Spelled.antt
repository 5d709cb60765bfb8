-- Words spell glyphs: the glyphs are blanks, the first word, blanks, the second word, and so on, and blanks at the end. So do a line's words.
use mathlib.Core.Path.{◌≡◌, refl, sym, ap, ◌∙◌}
use mathlib.Core.Bool.{Bool, true, false, cond, not, ◌||◌, or-true, or-false, false≢true, true≢false}
use mathlib.Core.List.{List, [], ◌∷◌, ◌++◌, append_assoc, append-nil}
use Prim.Native.Nat.{ℕ, zero, suc, ◌+◌, ◌-◌, ◌≤◌, ◌<◌}
use native.Mathlib.Omega.{arith}
use lib.ListN.{length, drop, length-append}
use lib.Seq.{drop_at}
use Rattle.lists.specs.Runs.{while, behind, every}
use Rattle.lists.proofs.Runs.{while_more, behind_more, behind_end}
use Rattle.lists.proofs.Parts.{behind_nil, while_behind, every_nil, every_while}
use Rattle.lists.proofs.Walk.{each_step}
use Rattle.text.specs.Characters.{Glyph, no_break, glyphs, is_blank}
use Rattle.options.specs.Opts.{Opts}
use Rattle.lines.specs.Classes.{glyphs_from}
use Rattle.pieces.specs.Pieces.{Row}
use Rattle.records.specs.Word.{Word}
use Rattle.words.specs.Words.{Run, is_ink, run_of, runs, bytes_of, punct_at_end, counting, word_of, line_words, mail_word, mail_words, row_words}
use Rattle.words.proofs.WordRuns.{runs_nil}
use Rattle.words.proofs.Gaps.{Lined, line_lined, from_lined, behind_word, gap_other}

-- ---- a line's runs

-- if there is a glyph, the first is blank; with glue on, a blank before a word is no U+00A0
pub record Parted (glue : Bool) (gs : List Glyph) : Type 0 where
  pub first : 0 < length gs → 0 < length (while is_blank gs)
  pub other : glue ≡ true → 0 < length (behind is_blank gs) → every no_break (while is_blank gs) ≡ false

-- glyphs are a run's blanks, all that lead, its word, and the rest, which begins with a blank; after a run without a word is nothing
pub record First (glue : Bool) (r : Run) (gs rest : List Glyph) : Type 0 where
  pub parts : gs ≡ r.blanks ++ (r.text ++ rest)
  pub lead : r.blanks ≡ while is_blank gs
  pub ink : every is_ink r.text ≡ true
  pub next : Parted glue rest
  pub end : r.text ≡ [] → rest ≡ []

abbrev pub Splits : Bool → List Run → List Glyph → Type 0
Splits glue [] gs = gs ≡ []
Splits glue (r ∷ rs) gs = (rest : List Glyph) × First glue r gs rest × Splits glue rs rest

-- what is after the first run
rest_of : List Glyph → List Glyph
rest_of gs = behind is_ink (behind is_blank gs)

-- after leading blanks stands ink, or nothing
ink_next : (gs : List Glyph) → while is_ink (behind is_blank gs) ≡ [] → behind is_blank gs ≡ []
ink_next [] e = behind_nil is_blank
ink_next (g ∷ gs) e = go g.blank refl (ink_next gs)
  where
    go : (b : Bool) → g.blank ≡ b → (while is_ink (behind is_blank gs) ≡ [] → behind is_blank gs ≡ []) → behind is_blank (g ∷ gs) ≡ []
    go true h ih = rw (behind_more is_blank g gs h) (ih (rw (behind_more is_blank g gs h) at e))
    go false h ih = let k = while_more is_ink g gs (ap not h) in let z : ◌≡◌ {A = List Glyph} (g ∷ while is_ink gs) [] = sym k ∙ (rw (behind_end is_blank g gs h) at e) in cc

-- after leading ink stands a blank, or nothing
blank_next : (gs : List Glyph) → 0 < length (behind is_ink gs) → 0 < length (while is_blank (behind is_ink gs))
blank_next [] h = absurd (omega (arith, ap length (behind_nil is_ink)))
blank_next (g ∷ gs) h = go g.blank refl (blank_next gs)
  where
    go : (b : Bool) → g.blank ≡ b → (0 < length (behind is_ink gs) → 0 < length (while is_blank (behind is_ink gs))) → 0 < length (while is_blank (behind is_ink (g ∷ gs)))
    go true e ih = rw (behind_end is_ink g gs (ap not e), while_more is_blank g gs e) (omega arith)
    go false e ih = rw (behind_more is_ink g gs (ap not e)) (ih (omega (arith, ap length (behind_more is_ink g gs (ap not e)))))

-- after a word stands a gap
rest_parted : (glue : Bool) (gs : List Glyph) → Lined glue gs → Parted glue (rest_of gs)
unfolding rest_of
rest_parted glue gs l =
    let rest = behind is_ink (behind is_blank gs) in
    let n = simp length-append at (ap length (while_behind is_blank rest)) in
    record {
      first = blank_next (behind is_blank gs);
      other = λ e more. gap_other rest (behind_word gs (l e).1) (blank_next (behind is_blank gs) (omega arith)) more;
    }

rest_lined : (glue : Bool) (gs : List Glyph) → Lined glue gs → Lined glue (rest_of gs)
unfolding rest_of
rest_lined glue gs l e = (true, behind_word gs (l e).1)

first_run : (glue : Bool) (gs : List Glyph) → Lined glue gs → First glue (run_of gs) gs (rest_of gs)
unfolding run_of rest_of
first_run glue gs l = record {
  parts = rw (while_behind is_ink (behind is_blank gs), while_behind is_blank gs);
  lead = refl;
  ink = every_while is_ink (behind is_blank gs);
  next = rest_parted glue gs l;
  end = λ e. rw (ink_next gs e, behind_nil);
}

-- a run of some glyphs has a glyph, and they are its glyphs and what is after it
run_parts : (gs : List Glyph) → gs ≡ (run_of gs).blanks ++ ((run_of gs).text ++ rest_of gs)
run_parts gs = (first_run false gs (λ e. absurd (false≢true e))).parts

run_some : (g : Glyph) (gs : List Glyph) → 0 < length (run_of (g ∷ gs)).blanks + length (run_of (g ∷ gs)).text
run_some g gs = go (run_of (g ∷ gs)).text refl
  where
    f : First false (run_of (g ∷ gs)) (g ∷ gs) (rest_of (g ∷ gs))
    f = first_run false (g ∷ gs) (λ e. absurd (false≢true e))

    go : (t : List Glyph) → (run_of (g ∷ gs)).text ≡ t → 0 < length (run_of (g ∷ gs)).blanks + length t
    go [] e =
        let l = simp (e, f.end e, append-nil) at (ap length f.parts) in
        omega arith
    go (x ∷ xs) e = omega arith

runs_step : (g : Glyph) (gs : List Glyph) → runs (g ∷ gs) ≡ run_of (g ∷ gs) ∷ runs (rest_of (g ∷ gs))
unfolding runs
runs_step g gs =
    let r = run_of (g ∷ gs) in
    let h = run_some g gs in
    let a = length-append r.blanks r.text in
    let n : suc (length r.blanks + length r.text - 1) ≡ length (r.blanks ++ r.text) = omega arith in
    let p : g ∷ gs ≡ (r.blanks ++ r.text) ++ rest_of (g ∷ gs) = run_parts (g ∷ gs) ∙ sym (append_assoc r.blanks r.text (rest_of (g ∷ gs))) in
    each_step (λ gs. let r = run_of gs in length r.blanks + length r.text - 1) run_of (g ∷ gs) (omega arith)
    ∙ ap (λ (l : List Glyph). r ∷ runs l) (ap (drop (suc (length r.blanks + length r.text - 1))) p ∙ drop_at (r.blanks ++ r.text) (rest_of (g ∷ gs)) _ (sym n))

splits_upto : (glue : Bool) (k : ℕ) (gs : List Glyph) → length gs ≤ k → Lined glue gs → Splits glue (runs gs) gs
splits_upto glue zero [] h n = rw runs_nil refl
splits_upto glue zero (g ∷ gs) h n = absurd (omega arith)
splits_upto glue (suc k) [] h n = rw runs_nil refl
splits_upto glue (suc k) (g ∷ gs) h n =
    let r = run_of (g ∷ gs) in
    let s = run_some g gs in
    let l = simp length-append at (ap length (run_parts (g ∷ gs))) in
    rw runs_step (rest_of (g ∷ gs), first_run glue (g ∷ gs) n, splits_upto glue k (rest_of (g ∷ gs)) (omega arith) (rest_lined glue (g ∷ gs) n))

pub runs_split : (glue : Bool) (gs : List Glyph) → Lined glue gs → Splits glue (runs gs) gs
runs_split glue gs l = splits_upto glue (length gs) gs (omega arith) l

-- ---- words

-- Glyphs are blanks, the word w, and the rest. The record of w has those blanks, or none where spacing is uniform; where it is neither
-- uniform nor w the first of its line, there are some, with glue on not U+00A0 alone.
pub record Begins (glue uniform : Bool) (w : Word) (gs rest : List Glyph) : Type 0 where
  pub blanks : List Glyph
  pub ink : List Glyph
  pub parts : gs ≡ blanks ++ (ink ++ rest)
  pub blank : every is_blank blanks ≡ true
  pub inked : every is_ink ink ≡ true
  pub some : 0 < length ink
  pub text : w.text ≡ bytes_of ink
  pub before : w.blanks ≡ cond uniform [] (bytes_of blanks)
  pub gap : uniform ≡ false → w.new_line ≡ false → 0 < length blanks
  pub other : glue ≡ true → uniform ≡ false → w.new_line ≡ false → every no_break blanks ≡ false

abbrev pub Spelled : Bool → Bool → List Word → List Glyph → Type 0
Spelled glue uniform [] gs = every is_blank gs ≡ true
Spelled glue uniform (w ∷ ws) gs = (rest : List Glyph) × Begins glue uniform w gs rest × Spelled glue uniform ws rest

module _ (glue : Bool) where
  module _ (r : Run) (gs rest : List Glyph) (f : First glue r gs rest) where
    run_blank : every is_blank r.blanks ≡ true
    run_blank = rw f.lead (every_while is_blank gs)

    -- a run without a word is blanks alone
    last_run : r.text ≡ [] → every is_blank gs ≡ true
    last_run e = rw (f.parts, e, f.end e, append-nil) run_blank

    -- a run with a word is some glyphs, and so is what is after its blanks; w is the word's record
    word_some : 0 < length r.text → (0 < length gs) × (0 < length (behind is_blank gs))
    word_some h =
        let n = simp length-append at (ap length f.parts) in
        let m = simp length-append at (ap length (while_behind is_blank gs)) in
        (omega arith, omega (arith, ap length f.lead))

    word_run : (uniform : Bool) (w : Word) → 0 < length r.text → w.text ≡ bytes_of r.text → w.blanks ≡ cond uniform [] (bytes_of r.blanks)
        → (uniform ≡ false → w.new_line ≡ false → Parted glue gs) → Begins glue uniform w gs rest
    word_run uniform w h e b gap = record {
      blanks = r.blanks;
      ink = r.text;
      parts = f.parts;
      blank = run_blank;
      inked = f.ink;
      some = h;
      text = e;
      before = b;
      gap = λ u n. rw f.lead ((gap u n).first (word_some h).0);
      other = λ g u n. rw f.lead ((gap u n).other g (word_some h).1);
    }

  -- a line's words, by any counting rule
  line_spelled : (count : List Glyph → ℕ) (o : Opts) (new_line previousPunct : Bool) (rs : List Run) (gs : List Glyph) → Splits glue rs gs → (new_line ≡ false → Parted glue gs)
      → Spelled glue o.uniform (line_words count o new_line previousPunct rs) gs
  unfolding line_words word_of
  line_spelled count o new_line previousPunct [] gs s gap = rw s (every_nil is_blank)
  line_spelled count o new_line previousPunct (r ∷ rs) gs s gap = go r.text refl (line_spelled count o false (punct_at_end r.text) rs s.0 s.2 (λ e. s.1.next))
    where
      go : (t : List Glyph) → r.text ≡ t → Spelled glue o.uniform (line_words count o false (punct_at_end r.text) rs) s.0 → Spelled glue o.uniform (line_words count o new_line previousPunct (r ∷ rs)) gs
      go [] e ih = rw (line_words, e) (last_run r gs s.0 s.1 e)
      go (g ∷ t) e ih = rw (line_words, e) (s.0, word_run r gs s.0 s.1 o.uniform (word_of count o new_line previousPunct r) (rw e (omega arith)) refl refl (λ u n. gap n), ih)

  mail_spelled : (rs : List Run) (gs : List Glyph) → Splits glue rs gs → Spelled glue true (mail_words rs) gs
  unfolding mail_words mail_word
  mail_spelled [] gs s = rw s (every_nil is_blank)
  mail_spelled (r ∷ rs) gs s = go r.text refl (mail_spelled rs s.0 s.2)
    where
      go : (t : List Glyph) → r.text ≡ t → Spelled glue true (mail_words rs) s.0 → Spelled glue true (mail_words (r ∷ rs)) gs
      go [] e ih = rw (mail_words, e) (last_run r gs s.0 s.1 e)
      go (g ∷ t) e ih = rw (mail_words, e) (s.0, word_run r gs s.0 s.1 true (mail_word r) (rw e (omega arith)) refl refl (λ u. absurd (true≢false u)), ih)

-- the words of a paragraph's line spell the glyphs at or after its indent's end; of a mail paragraph's line, all its glyphs
pub row_spelled : (o : Opts) (mail : Bool) (row : Row) → Spelled o.glue (o.uniform || mail) (row_words o mail row) (let gs = glyphs o.glue row.text in cond mail gs (glyphs_from row.start gs))
unfolding row_words
row_spelled o true row = rw or-true (mail_spelled o.glue _ _ (runs_split o.glue (glyphs o.glue row.text) (line_lined o.glue row.text)))
row_spelled o false row =
    rw or-false
    (line_spelled o.glue (counting o.by_characters) o true false _ _ (runs_split o.glue (glyphs_from row.start (glyphs o.glue row.text)) (from_lined o.glue row.text row.start)) (λ e. absurd (true≢false e)))
