-- The words of a paragraph stand at their places: each has its bytes there, and begins after the one before it.
use mathlib.Core.Path.{◌≡◌, refl, sym, ap, ◌∙◌}
use mathlib.Core.Bool.{Bool, true, false}
use mathlib.Core.List.{List, [], ◌∷◌, ◌++◌, map, append_assoc, append-nil}
use Prim.Native.Nat.{ℕ, zero, suc, ◌+◌, ◌≤◌, ◌<◌}
use native.Mathlib.Omega.{arith}
use lib.ListN.{length, take, drop, length-append, take-append-drop}
use lib.Seq.{slice, take_at, drop_at, take-take}
use Rattle.lists.specs.Runs.{while, behind, joined}
use Rattle.lists.specs.Theorems.All.{All}
use Rattle.lists.proofs.All.{all_front, all_back}
use Rattle.lists.proofs.Parts.{behind_nil, while_behind, joined_cons, joined_append}
use Rattle.lists.proofs.RunParts.{behind_fails}
use Rattle.lists.proofs.Slices.{slice_is}
use Rattle.lists.proofs.Extents.{each_all}
use Rattle.text.specs.Characters.{Glyph, glyphs, is_blank, extent}
use Rattle.text.proofs.Extents.{Sound, glyphs_sound}
use Rattle.text.proofs.Edges.{glyphs_joined}
use Rattle.options.specs.Opts.{Opts}
use Rattle.lines.specs.Lines.{Line, body, first_line, lines_of}
use Rattle.lines.specs.Classes.{glyphs_before, glyphs_from}
use Rattle.lines.specs.Cited.Places.{lengths_of}
use Rattle.lines.proofs.Extents.{lines_extents}
use Rattle.lines.proofs.Ink.{up_to_from}
use Rattle.lines.proofs.Lines.{line_here}
use Rattle.pieces.specs.Pieces.{Row, Paragraph, row_of}
use Rattle.pieces.specs.Cited.Places.{raw_bytes}
use Rattle.records.specs.Word.{Word}
use Rattle.words.specs.Words.{is_ink, run_of, runs, glyph_bytes, bytes_of, punct_at_end, word_of, mail_word, row_words, words_of}
use Rattle.words.specs.Places.{Standing, standing, places_from, row_places, places_of, words_standing}
use Rattle.words.specs.Cited.Scan.{words_from}
use Rattle.words.specs.Theorems.Standing.{Ascends, Stands, WordsStand}
use Rattle.words.proofs.WordRuns.{extent_bytes, words_none, places_none, word_for, text_is, words_one, places_one}
use Rattle.words.proofs.Order.{bytes_some}

-- ---- words and places, one for one

-- words are at places as P has it, each after the one before it, from a place on up to an end
module _ (P : ℕ → List ℕ → Type 0) where
  unfoldable pub Stood : ℕ → List ℕ → List Word → ℕ → Type 0
  Stood from [] [] end = from ≤ end
  Stood from [] (w ∷ ws) end = ⊥
  Stood from (p ∷ ps) [] end = ⊥
  Stood from (p ∷ ps) (w ∷ ws) end = (from ≤ p) × P p w.text × Stood (p + length w.text) ps ws end

module _ (P : ℕ → List ℕ → Type 0) where
  stood_sooner : (from next end : ℕ) (qs : List ℕ) (vs : List Word) → from ≤ next → Stood P next qs vs end → Stood P from qs vs end
  unfolding Stood
  stood_sooner from next end [] [] h b = omega arith
  stood_sooner from next end [] (v ∷ vs) h b = b
  stood_sooner from next end (q ∷ qs) [] h b = b
  stood_sooner from next end (q ∷ qs) (v ∷ vs) h b = (omega (arith, b.0), b.1, b.2)

  stood_append : (from middle next end : ℕ) (ps qs : List ℕ) (ws vs : List Word) → Stood P from ps ws middle → middle ≤ next → Stood P next qs vs end → Stood P from (ps ++ qs) (ws ++ vs) end
  unfolding Stood
  stood_append from middle next end [] qs [] vs a h b = stood_sooner from next end qs vs (omega arith) b
  stood_append from middle next end [] qs (w ∷ ws) vs a h b = absurd a
  stood_append from middle next end (p ∷ ps) qs [] vs a h b = absurd a
  stood_append from middle next end (p ∷ ps) qs (w ∷ ws) vs a h b = (a.0, a.1, stood_append (p + length w.text) middle next end ps qs ws vs a.2 h b)

  stood_weaken : (Q : ℕ → List ℕ → Type 0) → ((p : ℕ) (t : List ℕ) → P p t → Q p t) → (from end : ℕ) (ps : List ℕ) (ws : List Word) → Stood P from ps ws end → Stood Q from ps ws end
  unfolding Stood
  stood_weaken Q f from end [] [] a = a
  stood_weaken Q f from end [] (w ∷ ws) a = a
  stood_weaken Q f from end (p ∷ ps) [] a = a
  stood_weaken Q f from end (p ∷ ps) (w ∷ ws) a = (a.0, f p w.text a.1, stood_weaken Q f (p + length w.text) end ps ws a.2)

  -- no word is without its place
  pub stood_words : (from end : ℕ) (ps : List ℕ) (ws : List Word) → Stood P from ps ws end → map (λ (s : Standing). s.word) (standing ps ws) ≡ ws
  unfolding Stood standing
  stood_words from end [] [] a = refl
  stood_words from end [] (w ∷ ws) a = absurd a
  stood_words from end (p ∷ ps) [] a = absurd a
  stood_words from end (p ∷ ps) (w ∷ ws) a = ap (λ (l : List Word). w ∷ l) (stood_words (p + length w.text) end ps ws a.2)

  pub stood_all : (from end : ℕ) (ps : List ℕ) (ws : List Word) → Stood P from ps ws end → All (λ (s : Standing). P s.place s.word.text) (standing ps ws)
  unfolding Stood standing
  stood_all from end [] ws a = tt
  stood_all from end (p ∷ ps) [] a = tt
  stood_all from end (p ∷ ps) (w ∷ ws) a = (a.1, stood_all (p + length w.text) end ps ws a.2)

  pub stood_ascends : (from end : ℕ) (ps : List ℕ) (ws : List Word) → Stood P from ps ws end → Ascends from (standing ps ws) end
  unfolding Stood standing
  stood_ascends from end [] [] a = a
  stood_ascends from end [] (w ∷ ws) a = absurd a
  stood_ascends from end (p ∷ ps) [] a = absurd a
  stood_ascends from end (p ∷ ps) (w ∷ ws) a = (a.0, stood_ascends (p + length w.text) end ps ws a.2)

-- ---- the words of a line

-- bytes that are some stand in a line, which begins at a place, as a word does: the glyph there is no blank
record InLine (glue : Bool) (text : List ℕ) (at place : ℕ) (bytes : List ℕ) : Type 0 where
  before : List Glyph
  first : Glyph
  after : List Glyph
  parts : glyphs glue text ≡ before ++ first ∷ after
  ink : first.blank ≡ false
  there : place ≡ at + extent before
  rest : List ℕ
  is : text ≡ bytes_of before ++ (bytes ++ rest)
  some : 0 < length bytes

extent_append : (xs ys : List Glyph) → extent (xs ++ ys) ≡ extent xs + extent ys
unfolding extent
extent_append [] ys = omega arith
extent_append (g ∷ xs) ys = let h = extent_append xs ys in omega arith

word_text : (o : Opts) (mail new_line previous : Bool) (gs : List Glyph) → (word_for o mail new_line previous (run_of gs)).text ≡ bytes_of (while is_ink (behind is_blank gs))
unfolding word_for mail_word word_of run_of
word_text o true new_line previous gs = refl
word_text o false new_line previous gs = refl

module _ (o : Opts) (mail : Bool) (text : List ℕ) (at : ℕ) where
  -- of the line's glyphs some are gone
  module _ (gone gs : List Glyph) (parts : glyphs o.glue text ≡ gone ++ gs) where
    gone_within : extent gone ≤ length text
    unfolding bytes_of
    gone_within =
        let whole = sym (joined_append glyph_bytes gone gs) ∙ ap (joined glyph_bytes) (sym parts) ∙ glyphs_joined o.glue text in
        omega (arith, extent_bytes gone, simp length-append at (ap length whole))

    -- the blanks of the next word, its own glyphs, and those after it
    module _ {g : Glyph} {rest : List Glyph} (some : behind is_blank gs ≡ g ∷ rest) where
      abbrev blanks : List Glyph
      blanks = while is_blank gs

      abbrev ink : List Glyph
      ink = while is_ink (behind is_blank gs)

      abbrev left : List Glyph
      left = behind is_ink (behind is_blank gs)

      split : gs ≡ blanks ++ (ink ++ left)
      split = sym (ap (λ (l : List Glyph). blanks ++ l) (while_behind is_ink (behind is_blank gs)) ∙ while_behind is_blank gs)

      further : glyphs o.glue text ≡ (gone ++ (blanks ++ ink)) ++ left
      further = parts ∙ ap (λ (l : List Glyph). gone ++ l) (split ∙ sym (append_assoc blanks ink left)) ∙ sym (append_assoc gone (blanks ++ ink) left)

      before : glyphs o.glue text ≡ (gone ++ blanks) ++ (ink ++ left)
      before = parts ∙ ap (λ (l : List Glyph). gone ++ l) split ∙ sym (append_assoc gone blanks (ink ++ left))

      sound : All Sound ink
      sound = all_front Sound ink left (all_back Sound (gone ++ blanks) (ink ++ left) (rw before at (glyphs_sound o.glue text)))

      here : InLine o.glue text at (at + extent gone + extent blanks) (bytes_of ink)
      unfolding bytes_of
      here = record {
        before = gone ++ blanks;
        first = g;
        after = while is_ink rest ++ left;
        parts = before ∙ ap (λ (l : List Glyph). (gone ++ blanks) ++ (l ++ left)) (text_is gs some);
        ink = behind_fails is_blank gs some;
        there = let e = extent_append gone blanks in omega arith;
        rest = joined glyph_bytes left;
        is =
            sym (glyphs_joined o.glue text) ∙ ap (joined glyph_bytes) before ∙ joined_append glyph_bytes (gone ++ blanks) (ink ++ left)
            ∙ ap (λ (l : List ℕ). joined glyph_bytes (gone ++ blanks) ++ l) (joined_append glyph_bytes ink left);
        some = bytes_some ink sound (omega (arith, ap length (text_is gs some)));
      }

  module _ (new_line previous : Bool) (gone gs : List Glyph) (from : ℕ) (parts : glyphs o.glue text ≡ gone ++ gs) (f : from ≡ at + extent gone) where
    stood_none : behind is_blank gs ≡ [] → Stood (InLine o.glue text at) from (places_from from (runs gs)) (words_from o mail new_line previous gs) (at + length text)
    unfolding Stood
    stood_none e = rw (places_none from gs e, words_none o mail new_line previous gs e) (omega (arith, gone_within gone gs parts))

    stood_one : {g : Glyph} {rest : List Glyph} → behind is_blank gs ≡ g ∷ rest
        → Stood (InLine o.glue text at) (from + extent (while is_blank gs) + extent (while is_ink (behind is_blank gs))) (places_from (from + extent (while is_blank gs) + extent (while is_ink (behind is_blank gs))) (runs (behind is_ink (behind is_blank gs)))) (words_from o mail false (punct_at_end (while is_ink (behind is_blank gs))) (behind is_ink (behind is_blank gs))) (at + length text)
        → Stood (InLine o.glue text at) from (places_from from (runs gs)) (words_from o mail new_line previous gs) (at + length text)
    unfolding Stood
    stood_one e later =
        let n = extent_bytes (while is_ink (behind is_blank gs)) in
        rw (places_one gs e from _ _ refl refl, words_one gs e o mail new_line previous)
        (omega arith, rw (word_text o mail new_line previous gs, f) (here gone gs parts e), rw (word_text o mail new_line previous gs, ← n) later)

  stood_upto : (k : ℕ) (new_line previous : Bool) (gone gs : List Glyph) (from : ℕ) → length gs ≤ k → glyphs o.glue text ≡ gone ++ gs → from ≡ at + extent gone
      → Stood (InLine o.glue text at) from (places_from from (runs gs)) (words_from o mail new_line previous gs) (at + length text)
  stood_upto zero new_line previous gone [] from h parts f = stood_none new_line previous gone [] from parts f (behind_nil is_blank)
  stood_upto zero new_line previous gone (g ∷ gs) from h parts f = absurd (omega arith)
  stood_upto (suc k) new_line previous gone gs from h parts f = go (behind is_blank gs) refl (stood_upto k false)
    where
      go : (b : List Glyph) → behind is_blank gs ≡ b
          → ((previous : Bool) (gone gs : List Glyph) (from : ℕ) → length gs ≤ k → glyphs o.glue text ≡ gone ++ gs → from ≡ at + extent gone
          → Stood (InLine o.glue text at) from (places_from from (runs gs)) (words_from o mail false previous gs) (at + length text))
          → Stood (InLine o.glue text at) from (places_from from (runs gs)) (words_from o mail new_line previous gs) (at + length text)
      go [] e later = stood_none new_line previous gone gs from parts f e
      go (g ∷ rest) e later =
          let b = while is_blank gs in
          let i = while is_ink (behind is_blank gs) in
          let n = simp (length-append, length-append) at (ap length (split gone gs parts e)) in
          stood_one new_line previous gone gs from parts f e
          (later _ (gone ++ (b ++ i)) _ _ (omega (arith, n, ap length (text_is gs e))) (further gone gs parts e) (omega (arith, f, extent_append gone (b ++ i), extent_append b i)))

row_stood : (o : Opts) (mail : Bool) (at : ℕ) (row : Row) → Stood (InLine o.glue row.text at) at (row_places o.glue mail at row) (row_words o mail row) (at + length row.text)
unfolding row_places row_words words_from extent
row_stood o true at row = stood_upto o true row.text at (length (glyphs o.glue row.text)) false false [] (glyphs o.glue row.text) at (omega arith) refl (omega arith)
row_stood o false at row =
    let gs = glyphs o.glue row.text in
    stood_sooner _ at (at + extent (glyphs_before row.start gs)) (at + length row.text) _ _ (omega arith)
    (stood_upto o false row.text at (length (glyphs_from row.start gs)) true false (glyphs_before row.start gs) (glyphs_from row.start gs) _ (omega arith) (sym (up_to_from row.start gs)) refl)

-- ---- the lines of the notes

-- after a line's text stands its end
abbrev Ended : Line → Type 0
Ended l = (end : List ℕ) × (l.raw ≡ l.text ++ end)

first_ended : (xs : List ℕ) → 0 < length xs → Ended (first_line xs)
first_ended xs h =
    let e = lengths_of (first_line xs) in
    let l = line_here xs 0 e h refl in
    let raw = (first_line xs).raw in
    let front : take e.text raw ≡ (first_line xs).text =
    ap (take e.text) (l.raw ∙ slice_is 0 e.whole xs) ∙ take-take e.text e.whole xs l.shorter ∙ sym (l.text ∙ slice_is 0 e.text xs) in
    (drop e.text raw, sym (take-append-drop e.text raw) ∙ ap (λ (t : List ℕ). t ++ drop e.text raw) front)

lines_ended : (notes : List ℕ) → All Ended (lines_of notes)
unfolding lines_of
lines_ended notes = each_all (λ ys. length (body ys)) first_line Ended first_ended notes

-- bytes with others before and after them
part_there : (a b c d : List ℕ) → slice (length a + length b) (length a + length b + length c) (a ++ (b ++ (c ++ d))) ≡ c
part_there a b c d =
    slice_is (length a + length b) (length c) (a ++ (b ++ (c ++ d)))
    ∙ ap (take (length c)) (ap (drop (length a + length b)) (sym (append_assoc a b (c ++ d))) ∙ drop_at (a ++ b) (c ++ d) (length a + length b) (length-append a b))
    ∙ take_at c d (length c) refl

regrouped : (t b c r e z : List ℕ) → t ≡ b ++ (c ++ r) → (t ++ e) ++ z ≡ b ++ (c ++ (r ++ (e ++ z)))
regrouped t b c r e z h = rw (h, append_assoc (b ++ (c ++ r)) e z, append_assoc b (c ++ r) (e ++ z), append_assoc c r (e ++ z))

module _ (glue : Bool) (notes : List ℕ) (above : List Line) (l : Line) (below : List Line) (lines : lines_of notes ≡ above ++ l ∷ below) (ended : Ended l) where
  line_stands : (place : ℕ) (bytes : List ℕ) → InLine glue l.text (length (joined raw_bytes above)) place bytes → Stands glue notes place bytes
  line_stands place bytes i =
      let a = joined raw_bytes above in
      let b = bytes_of i.before in
      let d = i.rest ++ (ended.0 ++ joined raw_bytes below) in
      let whole : notes ≡ a ++ (b ++ (bytes ++ d)) =
      sym (lines_extents notes) ∙ ap (joined raw_bytes) lines ∙ joined_append raw_bytes above (l ∷ below)
      ∙ ap (λ (t : List ℕ). a ++ t) (joined_cons raw_bytes l below ∙ ap (λ (t : List ℕ). t ++ joined raw_bytes below) ended.1 ∙ regrouped l.text b bytes i.rest ended.0 (joined raw_bytes below) i.is) in
      let p : place ≡ length a + length b = i.there ∙ ap (λ (n : ℕ). length a + n) (extent_bytes i.before) in
      record {
        is = rw (whole, p) (part_there a b bytes d);
        some = i.some;
        above = above;
        line = l;
        below = below;
        lines = lines;
        before = i.before;
        first = i.first;
        after = i.after;
        characters = i.parts;
        there = i.there;
        ink = i.ink;
      }

-- ---- the words of a paragraph, whose lines are lines of the notes

module _ (o : Opts) (mail : Bool) (notes : List ℕ) where
  lines_stood : (above ls below : List Line) (at : ℕ) → lines_of notes ≡ above ++ (ls ++ below) → at ≡ length (joined raw_bytes above) → All Ended ls
      → Stood (Stands o.glue notes) at (places_of o.glue mail at ls (map (row_of o) ls)) (joined (row_words o mail) (map (row_of o) ls)) (at + length (joined raw_bytes ls))
  unfolding places_of joined Stood row_of
  lines_stood above [] below at e q d = omega arith
  lines_stood above (l ∷ ls) below at e q d =
      let row = row_of o l in
      let here = stood_weaken (InLine o.glue l.text at) (Stands o.glue notes) (λ p t i. line_stands o.glue notes above l (ls ++ below) e d.0 p t (rw q at i)) at (at + length l.text) (row_places o.glue mail at row) (row_words o mail row) (row_stood o mail at row) in
      let m : at + length l.raw ≡ length (joined raw_bytes (above ++ (l ∷ []))) = omega (arith, q, simp (length-append, append-nil) at (ap length (joined_append raw_bytes above (l ∷ [])))) in
      let later = lines_stood (above ++ (l ∷ [])) ls below (at + length l.raw) (e ∙ sym (append_assoc above (l ∷ []) (ls ++ below))) m d.1 in
      let z : at + (length l.raw + length (joined raw_bytes ls)) ≡ at + length l.raw + length (joined raw_bytes ls) = omega arith in
      rw (length-append l.raw (joined raw_bytes ls), z)
      (stood_append (Stands o.glue notes) at (at + length l.text) (at + length l.raw) (at + length l.raw + length (joined raw_bytes ls)) (row_places o.glue mail at row) _ (row_words o mail row) _ here (omega (arith, simp length-append at (ap length d.0.1))) later)

-- a paragraph's rows are its lines
pub paragraph_stands : (o : Opts) (notes : List ℕ) (above ls below : List Line) (p : Paragraph) → lines_of notes ≡ above ++ (ls ++ below) → p.rows ≡ map (row_of o) ls
    → WordsStand o notes (length (joined raw_bytes above)) ls p
unfolding words_standing words_of
paragraph_stands o notes above ls below p e r =
    let at = length (joined raw_bytes above) in
    let ended = all_front Ended ls below (all_back Ended above (ls ++ below) (rw e at (lines_ended notes))) in
    let s = lines_stood o p.mail notes above ls below at e refl ended in
    record {
      words = rw r (stood_words _ at (at + length (joined raw_bytes ls)) _ _ s);
      each = rw r (stood_all _ at (at + length (joined raw_bytes ls)) _ _ s);
      ascend = rw r (stood_ascends _ at (at + length (joined raw_bytes ls)) _ _ s);
    }
