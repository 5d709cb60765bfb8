-- The words of a stretch, one at a time.
use Rattle.std.proofs.Common.{None}
use mathlib.Core.Path.{◌≡◌, refl, sym, ap, ◌∙◌}
use mathlib.Core.Bool.{Bool, true, false, cond, not, ◌&&◌, false≢true}
use mathlib.Core.List.{List, [], ◌∷◌, ◌++◌, append_assoc}
use Prim.Native.Nat.{ℕ, suc, ◌+◌, ◌-◌, ◌/◌, ◌≤◌, ◌<◌}
use native.Mathlib.Omega.{arith}
use lib.Dec.{eqb, ltb}
use lib.ListN.{length, drop, length-append}
use lib.Seq.{drop_at}
use borrow.Author.Tests.{eqb-true, ne_eqb, not-true}
use Rattle.lists.specs.Runs.{while, behind, every, joined}
use Rattle.lists.proofs.Runs.{while_more, while_end, behind_more, behind_end}
use Rattle.lists.proofs.Parts.{while_nil, every_nil, every_cons}
use Rattle.lists.proofs.Walk.{each_step}
use Rattle.text.specs.Characters.{Glyph, is_blank}
use Rattle.options.specs.Opts.{Opts}
use Rattle.records.specs.Word.{Word}
use Rattle.words.specs.Words.{Run, is_ink, is_punct, run_of, runs, bytes_of, width_sum, gap_from, gap_of, no_gap, punct_at_end, counting, wide_gap, word_of, line_words}
use Rattle.words.specs.Cited.Scan.{punct_code}
use Rattle.text.specs.Cited.Joins.{goes_on}
use Rattle.regular.specs.Cited.Regular.{is_space, not_space, column_of, columns, carries_on, byte_glyph, with_byte, with_first, spelling, stretch_words, lastly, opens, plain_word}

-- ---- leading runs of a list that goes on

pub and_true : (a b : Bool) → (a && b) ≡ true → (a ≡ true) × (b ≡ true)
and_true true b h = (refl, h)
and_true false b h = absurd (false≢true h)

module _ {A : Type 0} (test : A → Bool) where
  pub while_all : (xs ys : List A) → every test xs ≡ true → while test (xs ++ ys) ≡ xs ++ while test ys
  while_all [] ys h = refl
  while_all (x ∷ xs) ys h =
      let t = and_true _ _ (sym (every_cons test x xs) ∙ h) in
      while_more test x (xs ++ ys) t.0 ∙ ap (λ (l : List A). x ∷ l) (while_all xs ys t.1)

  pub behind_all : (xs ys : List A) → every test xs ≡ true → behind test (xs ++ ys) ≡ behind test ys
  behind_all [] ys h = refl
  behind_all (x ∷ xs) ys h =
      let t = and_true _ _ (sym (every_cons test x xs) ∙ h) in
      behind_more test x (xs ++ ys) t.0 ∙ behind_all xs ys t.1

-- ---- the glyphs, one byte more

-- a byte is by itself, or before the bytes that go on with its character
module _ (x : ℕ) (xs : List ℕ) where
  pub alone : carries_on xs ≡ false → spelling (x ∷ xs) ≡ byte_glyph x ∷ spelling xs
  unfolding spelling
  alone h = pick (eqb x 32) refl
    where
      pick : (t : Bool) → eqb x 32 ≡ t → spelling (x ∷ xs) ≡ byte_glyph x ∷ spelling xs
      pick true e = rw (e, spelling)
      pick false e = rw (e, h, spelling)

  pub space_first : is_space x ≡ true → spelling (x ∷ xs) ≡ byte_glyph x ∷ spelling xs
  unfolding spelling
  space_first e = rw (e, spelling)

  pub before_more : not_space x ≡ true → carries_on xs ≡ true → spelling (x ∷ xs) ≡ with_first x (spelling xs)
  unfolding spelling
  before_more e h = rw (not-true (eqb x 32) e, h, spelling)

  by_first : (P : List Glyph → Type 0) → P (byte_glyph x ∷ spelling xs) → (not_space x ≡ true → carries_on xs ≡ true → P (with_first x (spelling xs))) → P (spelling (x ∷ xs))
  by_first P a b = pick (eqb x 32) (carries_on xs) refl refl
    where
      pick : (t u : Bool) → eqb x 32 ≡ t → carries_on xs ≡ u → P (spelling (x ∷ xs))
      pick true u e f = rw (space_first e) a
      pick false true e f = rw (before_more (ap not e) f) (b (ap not e) f)
      pick false false e f = rw (alone f) a

-- ---- what they have

spelling_bytes : (xs : List ℕ) → bytes_of (spelling xs) ≡ xs
unfolding bytes_of joined spelling with_first
spelling_bytes [] = refl
spelling_bytes (x ∷ xs) =
    let ih = ap (λ (l : List ℕ). x ∷ l) (spelling_bytes xs) in
    by_first x xs (λ gs. bytes_of gs ≡ x ∷ xs) ih (λ e f. first (spelling xs) ∙ ih)
  where
    first : (gs : List Glyph) → bytes_of (with_first x gs) ≡ x ∷ bytes_of gs
    first [] = refl
    first (g ∷ gs) = refl

spelling_width : (xs : List ℕ) → width_sum (spelling xs) ≡ columns xs
unfolding width_sum columns spelling with_first
spelling_width [] = refl
spelling_width (x ∷ xs) =
    let ih = ap (λ (n : ℕ). column_of x + n) (spelling_width xs) in
    by_first x xs (λ gs. width_sum gs ≡ column_of x + columns xs) ih (λ e f. first (spelling xs) ∙ ih)
  where
    first : (gs : List Glyph) → width_sum (with_first x gs) ≡ column_of x + width_sum gs
    first [] = refl
    first (g ∷ gs) = omega arith

spelling_some : (x : ℕ) (xs : List ℕ) → 0 < length (spelling (x ∷ xs))
unfolding with_first
spelling_some x xs = by_first x xs (λ gs. 0 < length gs) (omega arith) (λ e f. first (spelling xs))
  where
    first : (gs : List Glyph) → 0 < length (with_first x gs)
    first [] = omega arith
    first (g ∷ gs) = omega arith

some_glyphs : (xs : List ℕ) → 0 < length xs → 0 < length (spelling xs)
some_glyphs [] h = absurd (omega arith)
some_glyphs (x ∷ xs) h = spelling_some x xs

spelling_ink : (xs : List ℕ) → every not_space xs ≡ true → every is_ink (spelling xs) ≡ true
unfolding spelling with_first
spelling_ink [] h = every_nil is_ink
spelling_ink (x ∷ xs) h =
    let t = and_true _ _ (sym (every_cons not_space x xs) ∙ h) in
    let ih = spelling_ink xs t.1 in
    by_first x xs (λ gs. every is_ink gs ≡ true) (rw (every_cons is_ink (byte_glyph x) (spelling xs), t.0) ih) (λ e f. first t.0 (spelling xs) ih)
  where
    first : not_space x ≡ true → (gs : List Glyph) → every is_ink gs ≡ true → every is_ink (with_first x gs) ≡ true
    first t [] h = rw (every_cons is_ink (byte_glyph x) [], t) (every_nil is_ink)
    first t (g ∷ gs) h = rw (every_cons is_ink (with_byte x g) gs) (and_true (is_ink g) (every is_ink gs) (sym (every_cons is_ink g gs) ∙ h)).1

-- the last one's code: a character of several bytes has none below 128

abbrev high : List Glyph → Type 0
high [] = ⊥
high (g ∷ gs) = 128 ≤ g.code

spelling_high : (xs : List ℕ) → carries_on xs ≡ true → high (spelling xs)
unfolding carries_on with_first
spelling_high [] h = absurd (false≢true h)
spelling_high (x ∷ xs) h =
    let q = eqb-true (x / 64) 2 h in
    by_first x xs high (omega arith) (λ e f. first q (spelling xs))
  where
    first : x / 64 ≡ 2 → (gs : List Glyph) → high (with_first x gs)
    first q [] = omega arith
    first q (g ∷ gs) = omega arith

high_punct : (g : Glyph) → 128 ≤ g.code → is_punct g ≡ false
high_punct g h = rw (ne_eqb g.code 33 (λ e. omega arith), ne_eqb g.code 46 (λ e. omega arith), ne_eqb g.code 63 (λ e. omega arith))

spelling_punct : (b : Bool) (x : ℕ) (xs : List ℕ) → punct_at_end (spelling (x ∷ xs)) ≡ lastly b (x ∷ xs)
unfolding punct_at_end lastly spelling carries_on with_first
spelling_punct b x [] = rw (alone x [] refl)
spelling_punct b x (y ∷ xs) =
    let ih = spelling_punct (punct_code x) y xs in
    by_first x (y ∷ xs) (λ gs. punct_at_end gs ≡ lastly b (x ∷ y ∷ xs)) (alike (spelling (y ∷ xs)) (spelling_some y xs) ∙ ih) (λ e f. first (spelling (y ∷ xs)) (spelling_high (y ∷ xs) f) ∙ ih)
  where
    alike : (gs : List Glyph) → 0 < length gs → punct_at_end (byte_glyph x ∷ gs) ≡ punct_at_end gs
    alike [] h = absurd (omega arith)
    alike (g ∷ gs) h = refl

    first : (gs : List Glyph) → high gs → punct_at_end (with_first x gs) ≡ punct_at_end gs
    first [] h = absurd h
    first (g ∷ []) h = high_punct (with_byte x g) (omega arith) ∙ sym (high_punct g h)
    first (g ∷ k ∷ gs) h = refl

-- ---- spaces

spaces_append : (sp ys : List ℕ) → every is_space sp ≡ true → spelling (sp ++ ys) ≡ spelling sp ++ spelling ys
unfolding spelling
spaces_append [] ys h = refl
spaces_append (x ∷ sp) ys h =
    let t = and_true _ _ (sym (every_cons is_space x sp) ∙ h) in
    rw (space_first x (sp ++ ys) t.0, space_first x sp t.0, spaces_append sp ys t.1)

spaces_length : (sp : List ℕ) → every is_space sp ≡ true → length (spelling sp) ≡ length sp
unfolding spelling
spaces_length [] h = refl
spaces_length (x ∷ sp) h =
    let t = and_true _ _ (sym (every_cons is_space x sp) ∙ h) in
    rw (space_first x sp t.0) (ap suc (spaces_length sp t.1))

spaces_gap : (tab n : ℕ) (sp : List ℕ) → every is_space sp ≡ true → gap_from tab (record { before = None; after = n }) (spelling sp) ≡ record { before = None; after = n + length sp }
unfolding gap_from spelling
spaces_gap tab n [] h = let e : n + 0 ≡ n = omega arith in rw e
spaces_gap tab n (x ∷ sp) h =
    let t = and_true _ _ (sym (every_cons is_space x sp) ∙ h) in
    let e : n + 1 + length sp ≡ n + suc (length sp) = omega arith in
    rw (space_first x sp t.0, eqb-true x 32 t.0) (spaces_gap tab (n + 1) sp t.1 ∙ rw e)

pub blanks_are : (sp : List ℕ) → every is_space sp ≡ true → every is_blank (spelling sp) ≡ true
unfolding spelling
blanks_are [] h = every_nil is_blank
blanks_are (x ∷ sp) h =
    let t = and_true _ _ (sym (every_cons is_space x sp) ∙ h) in
    rw (space_first x sp t.0, every_cons is_blank (byte_glyph x) (spelling sp), t.0) (blanks_are sp t.1)

-- ---- what follows begins with a space

opens_ends : (ys : List ℕ) → opens ys ≡ true → carries_on ys ≡ false
unfolding opens carries_on
opens_ends [] h = refl
opens_ends (y ∷ ys) h = rw (eqb-true y 32 h)

ink_append : (ink rest : List ℕ) → opens rest ≡ true → spelling (ink ++ rest) ≡ spelling ink ++ spelling rest
unfolding spelling carries_on with_first
ink_append [] rest h = refl
ink_append (x ∷ []) rest h = rw (alone x rest (opens_ends rest h), alone x [] refl)
ink_append (x ∷ y ∷ ink) rest h =
    let ih = ink_append (y ∷ ink) rest h in
    pick (eqb x 32) (goes_on y) refl refl ih
  where
    first : (gs hs : List Glyph) → 0 < length gs → with_first x (gs ++ hs) ≡ with_first x gs ++ hs
    first [] hs l = absurd (omega arith)
    first (g ∷ gs) hs l = refl

    pick : (t u : Bool) → eqb x 32 ≡ t → goes_on y ≡ u → spelling (y ∷ ink ++ rest) ≡ spelling (y ∷ ink) ++ spelling rest → spelling (x ∷ y ∷ ink ++ rest) ≡ spelling (x ∷ y ∷ ink) ++ spelling rest
    pick true u e f ih = rw (space_first x (y ∷ ink ++ rest) e, space_first x (y ∷ ink) e, ih)
    pick false false e f ih = rw (alone x (y ∷ ink ++ rest) f, alone x (y ∷ ink) f, ih)
    pick false true e f ih =
        rw (before_more x (y ∷ ink ++ rest) (ap not e) f, before_more x (y ∷ ink) (ap not e) f, ih) (first (spelling (y ∷ ink)) (spelling rest) (spelling_some y ink))

-- ---- the first run

module _ (sp ink rest : List ℕ) (spaces : every is_space sp ≡ true) (inked : every not_space ink ≡ true) (some : 0 < length ink) (next : opens rest ≡ true) where
  parts : spelling (sp ++ (ink ++ rest)) ≡ spelling sp ++ (spelling ink ++ spelling rest)
  parts = spaces_append sp (ink ++ rest) spaces ∙ ap (λ (l : List Glyph). spelling sp ++ l) (ink_append ink rest next)

  ink_ends : while is_ink (spelling rest) ≡ []
  unfolding opens spelling
  ink_ends = go rest next
    where
      go : (ys : List ℕ) → opens ys ≡ true → while is_ink (spelling ys) ≡ []
      go [] h = while_nil is_ink
      go (y ∷ ys) h = rw (space_first y ys h) (while_end is_ink (byte_glyph y) (spelling ys) (ap not h))

  ink_all : every is_ink (spelling ink) ≡ true
  ink_all = spelling_ink ink inked

  ink_begins : (while is_blank (spelling ink ++ spelling rest) ≡ []) × (behind is_blank (spelling ink ++ spelling rest) ≡ spelling ink ++ spelling rest)
  ink_begins = go (spelling ink) ink_all (some_glyphs ink some)
    where
      go : (gs : List Glyph) → every is_ink gs ≡ true → 0 < length gs → (while is_blank (gs ++ spelling rest) ≡ []) × (behind is_blank (gs ++ spelling rest) ≡ gs ++ spelling rest)
      go [] h l = absurd (omega arith)
      go (g ∷ gs) h l =
          let t = not-true _ (and_true _ _ (sym (every_cons is_ink g gs) ∙ h)).0 in
          (while_end is_blank g (gs ++ spelling rest) t, behind_end is_blank g (gs ++ spelling rest) t)

  append_none : (xs : List Glyph) → xs ++ [] ≡ xs
  append_none [] = refl
  append_none (x ∷ xs) = ap (λ (l : List Glyph). x ∷ l) (append_none xs)

  abbrev first : Run
  first = record { blanks = spelling sp; text = spelling ink }

  run_is : run_of (spelling (sp ++ (ink ++ rest))) ≡ first
  unfolding run_of
  run_is =
      rw (parts, while_all is_blank (spelling sp) (spelling ink ++ spelling rest) (blanks_are sp spaces), behind_all is_blank (spelling sp) (spelling ink ++ spelling rest) (blanks_are sp spaces), ink_begins.0, ink_begins.1, while_all is_ink (spelling ink) (spelling rest) ink_all, ink_ends, append_none (spelling sp), append_none (spelling ink))

  runs_are : runs (spelling (sp ++ (ink ++ rest))) ≡ first ∷ runs (spelling rest)
  unfolding runs
  runs_are =
      let gs = spelling (sp ++ (ink ++ rest)) in
      let a = length-append (spelling sp) (spelling ink) in
      let b = some_glyphs ink some in
      let n : suc (length (spelling sp) + length (spelling ink) - 1) ≡ length (spelling sp ++ spelling ink) = omega arith in
      let l : length gs ≡ length (spelling sp) + (length (spelling ink) + length (spelling rest)) = ap length parts ∙ simp length-append in
      let p : gs ≡ (spelling sp ++ spelling ink) ++ spelling rest = parts ∙ sym (append_assoc (spelling sp) (spelling ink) (spelling rest)) in
      each_step (λ gs. let r = run_of gs in length r.blanks + length r.text - 1) run_of gs (omega arith)
      ∙ rw run_is (ap (λ (l : List Glyph). first ∷ runs l) (ap (drop (suc (length (spelling sp) + length (spelling ink) - 1))) p ∙ drop_at (spelling sp ++ spelling ink) (spelling rest) _ (sym n)))

  -- its record
  punct_is : punct_at_end (spelling ink) ≡ lastly false ink
  punct_is = go ink some
    where
      go : (t : List ℕ) → 0 < length t → punct_at_end (spelling t) ≡ lastly false t
      go [] l = absurd (omega arith)
      go (x ∷ t) l = spelling_punct false x t

  is_word : (o : Opts) (new_line previous : Bool) → word_of (counting o.by_characters) o new_line previous first ≡ plain_word o.uniform new_line previous sp ink
  unfolding word_of wide_gap gap_of counting
  is_word o new_line previous =
      rw (spaces_gap o.tab 0 sp spaces, spelling_bytes sp, spelling_bytes ink, spelling_width ink, spaces_length sp spaces, punct_is, same o.by_characters (length sp), none) (each o.uniform)
    where
      same : (c : Bool) (n : ℕ) → cond c n n ≡ n
      same true n = refl
      same false n = refl

      none : 0 + length sp ≡ length sp
      none = omega arith

      each : (u : Bool)
          → record {
            blanks = cond u [] sp;
            text = ink;
            width = columns ink;
            before = (cond u no_gap (record { before = None; after = length sp })).before;
            after = (cond u no_gap (record { before = None; after = length sp })).after;
            new_line = new_line;
            ends_punct = lastly false ink;
            sentence_start = previous && ltb 1 (length sp);
          }
          ≡ plain_word u new_line previous sp ink
      each true = refl
      each false = refl

  line_words_law : (o : Opts) (new_line previous : Bool)
      → line_words (counting o.by_characters) o new_line previous (first ∷ runs (spelling rest)) ≡ word_of (counting o.by_characters) o new_line previous first ∷ line_words (counting o.by_characters) o false (punct_at_end (spelling ink)) (runs (spelling rest))
  unfolding line_words
  line_words_law o new_line previous = pick (spelling ink) (some_glyphs ink some) _
    where
      pick : (t : List Glyph) → 0 < length t → (ws : List Word) → elim t as (λ t. List Word) [ [] ↦ [] | x ∷ (xs → y) ↦ ws ] ≡ ws
      pick [] l ws = absurd (omega arith)
      pick (x ∷ t) l ws = refl

  -- the first word, and the words after it
  pub word_first : (o : Opts) (u new_line previous : Bool) → o.uniform ≡ u
      → stretch_words o new_line previous (sp ++ (ink ++ rest)) ≡ plain_word u new_line previous sp ink ∷ stretch_words o false (lastly false ink) rest
  unfolding stretch_words
  word_first o u new_line previous e =
      ap (line_words (counting o.by_characters) o new_line previous) runs_are ∙ line_words_law o new_line previous ∙ rw (is_word o new_line previous, punct_is)
      (ap (λ (v : Bool). plain_word v new_line previous sp ink ∷ line_words (counting o.by_characters) o false (lastly false ink) (runs (spelling rest))) e)
