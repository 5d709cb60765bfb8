-- A paragraph's line, if it is of regular bytes and letters of two: its words are those of its stretch, without the spaces at its end.
use mathlib.Core.Path.{◌≡◌, refl, sym, ap, ◌∙◌}
use mathlib.Core.Bool.{Bool, true, false, not}
use mathlib.Core.Logic.{inl}
use mathlib.Core.List.{List, [], ◌∷◌, ◌++◌, append-nil}
use Prim.Native.Nat.{ℕ, zero, suc, ◌+◌, ◌-◌, ◌≤◌, ◌<◌}
use native.Mathlib.Omega.{arith}
use lib.Dec.{ltb, eqb}
use lib.ListN.{length, get_or, take, length-append}
use lib.Seq.{slice, length-slice, length-take-le, get_or-take}
use borrow.Author.Tests.{ltb-true, ltb-false, eq-eqb, le-leb, lt-leb}
use Rattle.lists.specs.Runs.{while, behind, every}
use Rattle.lists.proofs.Runs.{while_more}
use Rattle.lists.proofs.Parts.{behind_nil, every_cons}
use Rattle.lists.proofs.Joins.{slice_join, append_inner}
use Rattle.text.specs.Characters.{Glyph, is_blank}
use Rattle.options.specs.Opts.{Opts}
use Rattle.lines.specs.Lines.{first_line, lines_of}
use Rattle.lines.specs.Cited.Places.{lengths_of}
use Rattle.lines.specs.declared.Extent.{Extent}
use Rattle.pieces.specs.Cited.Bounds.{AllBegin}
use Rattle.records.specs.Word.{Word}
use Rattle.words.specs.Cited.Scan.{words_from}
use Rattle.words.specs.Cited.Places.{words_at}
use Rattle.words.proofs.WordRuns.{words_none}
use Rattle.words.proofs.LineEnds.{behind_end, LineEnds, line_ends, same_ends}
use Rattle.words.proofs.Rows.{LineAt, line_at}
use Rattle.regular.specs.Cited.Regular.{is_space, spelled, byte_glyph, spelling, stretch_words, lastly, closed, opens}
use Rattle.regular.specs.Cited.Places.{NoSpace, BeforeSpaces, Even, columns_in, RowIs}
use Rattle.regular.proofs.Stretch.{and_true, behind_all, space_first, word_first, blanks_are}
use Rattle.regular.proofs.Spelling.{spelled_front, spelled_least}
use Rattle.regular.proofs.Glyphs.{spelled_glyphs, spelled_words}
use Rattle.regular.proofs.Fronts.{front, closed_some, opens_append}
use Rattle.regular.proofs.Fresh.{no_words}
use Rattle.regular.proofs.Parts.{part_spaces, part_closed, part_at}

-- ---- spaces at a line's end

spaces_none : (o : Opts) (new_line previous : Bool) (sp : List ℕ) → every is_space sp ≡ true → stretch_words o new_line previous sp ≡ []
unfolding stretch_words words_from
spaces_none o new_line previous sp h = words_none o false new_line previous (spelling sp) (ap (behind is_blank) (sym (append-nil (spelling sp))) ∙ behind_all is_blank (spelling sp) [] (blanks_are sp h) ∙ behind_nil is_blank)

spaces_open : (sp : List ℕ) → every is_space sp ≡ true → opens sp ≡ true
unfolding opens
spaces_open [] h = refl
spaces_open (x ∷ sp) h = (and_true _ _ (sym (every_cons is_space x sp) ∙ h)).0

module _ (o : Opts) (sp : List ℕ) (spaced : every is_space sp ≡ true) where
  trail_step : (a sps ink rest : List ℕ) (new_line previous : Bool) → a ≡ sps ++ (ink ++ rest) → every is_space sps ≡ true → every (λ b. not (eqb b 32)) ink ≡ true → 0 < length ink → opens rest ≡ true
      → stretch_words o false (lastly false ink) (rest ++ sp) ≡ stretch_words o false (lastly false ink) rest
      → stretch_words o new_line previous (a ++ sp) ≡ stretch_words o new_line previous a
  trail_step a sps ink rest new_line previous is s i some n ih =
      rw (is, append_inner sps ink rest sp, word_first sps ink (rest ++ sp) s i some (opens_append rest sp n (spaces_open sp spaced)) o o.uniform new_line previous refl, word_first sps ink rest s i some n o o.uniform new_line previous refl, ih)

  trail_upto : (k : ℕ) (a : List ℕ) → length a ≤ k → closed true a ≡ true → (new_line previous : Bool) → stretch_words o new_line previous (a ++ sp) ≡ stretch_words o new_line previous a
  trail_upto zero [] l h new_line previous = spaces_none o new_line previous sp spaced ∙ sym (no_words o new_line previous)
  trail_upto (suc k) [] l h new_line previous = spaces_none o new_line previous sp spaced ∙ sym (no_words o new_line previous)
  trail_upto zero (b ∷ a) l h new_line previous = absurd (omega arith)
  trail_upto (suc k) (b ∷ a) l h new_line previous =
      let f = front (b ∷ a) (closed_some false true b a ∙ h) in
      let n : suc (length a) ≡ length f.spaces + (length f.ink + length f.rest) = ap length f.is ∙ simp length-append in
      let some = f.some in
      trail_step (b ∷ a) f.spaces f.ink f.rest new_line previous f.is f.spaced f.inked some f.next (trail_upto k f.rest (omega arith) f.end false (lastly false f.ink))

empty_closed : (xs : List ℕ) → length xs ≡ 0 → closed true xs ≡ true
unfolding closed
empty_closed [] q = refl
empty_closed (x ∷ xs) q = absurd (omega arith)

-- by places: the spaces that end at a place
trailing : (o : Opts) (new_line previous : Bool) (s : List ℕ) (from e end : ℕ) → end ≤ length s → BeforeSpaces s from end e
    → stretch_words o new_line previous (slice from end s) ≡ stretch_words o new_line previous (slice from e s)
trailing o new_line previous s from e end within before = pick (ltb from e) refl
  where
    spaced : every is_space (slice e end s) ≡ true
    spaced = part_spaces s e end within before.spaces

    pick : (t : Bool) → ltb from e ≡ t → stretch_words o new_line previous (slice from end s) ≡ stretch_words o new_line previous (slice from e s)
    pick true h =
        let m = before.most in
        rw (slice_join from e end s before.on m within) at
        (trail_upto o (slice e end s) spaced (length (slice from e s)) (slice from e s) (omega arith) (part_closed s from e (omega arith) (ltb-true from e h) (before.ink (ltb-true from e h))) new_line previous)
    pick false h =
        let m = before.most in
        let z : e ≡ from = omega (arith, ltb-false from e h, before.on) in
        rw (slice_join from e end s before.on m within) at
        (trail_upto o (slice e end s) spaced (length (slice from e s)) (slice from e s) (omega arith) (empty_closed (slice from e s) (length-slice from e s (omega arith) ∙ (let w : e - from ≡ 0 = omega arith in w))) new_line previous)

-- ---- a line of a paragraph

-- a line that begins with ink begins with no space
ink_first : (xs : List ℕ) → while is_blank (spelling xs) ≡ [] → 0 < length xs → NoSpace xs 0
ink_first [] h l = absurd (omega arith)
ink_first (x ∷ xs) h l = λ q.
    let e = eq-eqb x 32 q in
    let k = ap (while is_blank) (space_first x xs e) ∙ while_more is_blank (byte_glyph x) (spelling xs) e in
    let z : ◌≡◌ {A = List Glyph} (byte_glyph x ∷ while is_blank (spelling xs)) [] = sym k ∙ h in
    let n : ◌≡◌ {A = ℕ} 0 1 = cc in
    omega arith

module _ (o : Opts) (skip later : ℕ) (s : List ℕ) (next i : ℕ) (x : Extent) (more : i < next) (fits : next ≤ length s) (found : x ≡ lengths_of (first_line (slice i next s)))
    (begins : AllBegin o.glue skip later (lines_of (slice i next s))) where
  line : LineAt o false skip later s next i x
  line = line_at o false skip later s next i x more fits found (λ m. begins)

  pub row_begins : (i + skip ≤ i + x.text) × (i + x.text ≤ i + x.whole) × (i + x.whole ≤ next)
  row_begins = (omega (arith, line.starts refl), omega (arith, line.shorter), line.within)

  -- the stretch without the spaces at its end
  stretch_is : spelled false (slice (i + skip) (i + x.text) s) ≡ true → (e : ℕ) → BeforeSpaces s (i + skip) (i + x.text) e → (n : ℕ) → n ≡ columns_in s (i + skip) e → Even o.uniform s (i + skip) e
      → RowIs o skip later s next i (record { from = i + skip; end = e; columns = n; next = i + x.whole })
  stretch_is spelt e before n count even =
      let a = line.on in
      let b = line.within in
      let c = line.shorter in
      let m = before.most in
      record {
        on = omega arith;
        most = b;
        order = omega arith;
        some = before.on;
        within = omega arith;
        rest = line.rest refl;
        inked = λ l. record { on = l; within = omega arith; letters = letters; first = first l; last = before.ink l };
        even = even;
        counts = count;
        words = line.words ∙ ap (λ (ws : List Word). ws ++ words_at o false later later (lines_of (slice (i + x.whole) next s)))
            (spelled_words o true false true (slice (i + skip) (i + x.text) s) spelt ∙ trailing o true false s (i + skip) e (i + x.text) (omega arith) before);
      }
    where
      letters : spelled false (slice (i + skip) e s) ≡ true
      letters =
          let b = line.within in
          let c = line.shorter in
          let m = before.most in
          let fit : i + x.text ≤ length s = omega arith in
          spelled_front false (slice (i + skip) e s) (slice e (i + x.text) s) (part_spaces s e (i + x.text) fit before.spaces) (rw (slice_join (i + skip) e (i + x.text) s before.on m fit) spelt)

      first : i + skip < e → NoSpace s (i + skip)
      first l =
          let b = line.within in
          let c = line.shorter in
          let m = before.most in
          let n = length-slice (i + skip) (i + x.text) s (omega arith) in
          let z : i + skip + 0 ≡ i + skip = omega arith in
          rw (part_at s (i + skip) (i + x.text) (omega arith) 0 (omega arith), z) at
          (ink_first (slice (i + skip) (i + x.text) s) (rw (spelled_glyphs o.glue true (slice (i + skip) (i + x.text) s) spelt) at (line.ink refl)) (omega arith))

  -- the line ends where such bytes do, at a line feed or at the paragraph's end
  module _ (end : ℕ) (on : i + skip ≤ end) (most : end ≤ next) (spelt : spelled false (slice (i + skip) end s) ≡ true) (fed : end < next → get_or s end 0 ≡ 10) (behind : ℕ) (behinds : (end < next → behind ≡ end + 1) × (next ≤ end → behind ≡ end)) where
    abbrev text : List ℕ
    text = take next s

    size : length text ≡ next
    size = length-take-le next s fits

    behind_is : behind ≡ behind_end text end
    unfolding behind_end
    behind_is = pick (ltb end next) refl
      where
        pick : (t : Bool) → ltb end next ≡ t → behind ≡ behind_end text end
        pick true l = let h = ltb-true end next l in rw (lt-leb (length text) end (omega (arith, size, h)), eq-eqb (get_or text end 0) 10 (get_or-take next s end 0 h ∙ fed h)) (behinds.0 h)
        pick false l = let h = ltb-false end next l in rw (le-leb (length text) end (omega (arith, size, h))) (behinds.1 h)

    over : i + skip + (behind - (i + skip)) ≡ behind
    over = pick (ltb end next) refl
      where
        pick : (t : Bool) → ltb end next ≡ t → i + skip + (behind - (i + skip)) ≡ behind
        pick true l = omega (arith, on, behinds.0 (ltb-true end next l))
        pick false l = omega (arith, on, behinds.1 (ltb-false end next l))

    least : (j : ℕ) → i + skip ≤ j → j < end → 32 ≤ get_or s j 0
    least j a b =
        let fit : end ≤ length s = omega arith in
        let size = length-slice (i + skip) end s fit in
        let z : i + skip + (j - (i + skip)) ≡ j = omega arith in
        rw (part_at s (i + skip) end fit (j - (i + skip)) (omega arith), z) at (spelled_least false (slice (i + skip) end s) spelt (j - (i + skip)) (omega arith))

    ends : LineEnds text (i + skip) (record { text = end - (i + skip); whole = behind - (i + skip) })
    ends =
        let z : i + skip + (end - (i + skip)) ≡ end = omega (arith, on) in
        record {
          ends = rw z (record {
            on = on;
            within = omega (arith, most, size);
            feedless = λ j a b q. let l = least j a b in let g = get_or-take next s j 0 (omega (arith, most, b)) in omega arith;
            returnless = λ j a b q r. let l = least j a b in let g = get_or-take next s j 0 (omega (arith, most, b)) in omega arith;
            ends = λ l. let h : end < next = omega (arith, size, l) in inl (get_or-take next s end 0 h ∙ fed h);
          });
          whole = rw z (over ∙ behind_is);
        }

    pub row_is : (e : ℕ) → BeforeSpaces s (i + skip) end e → (n : ℕ) → n ≡ columns_in s (i + skip) e → Even o.uniform s (i + skip) e → RowIs o skip later s next i (record { from = i + skip; end = e; columns = n; next = behind })
    row_is e before n count even =
        let k = size in
        let m = same_ends (line_ends text i (omega (arith, k, more)) x found) ends (omega arith) row_begins.0 in
        let a : i + x.text ≡ end = omega (arith, m.0, on) in
        let b : i + x.whole ≡ behind = sym m.1 ∙ over in
        rw b at (stretch_is (rw a spelt) e (rw a before) n count even)
