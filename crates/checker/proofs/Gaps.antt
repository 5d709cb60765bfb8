-- A word after a gap: what is matched is a gap and the word, wherever the word is one that notes can have.
use mathlib.Core.Path.{◌≡◌, refl, sym, ap, ap₂, ◌∙◌}
use mathlib.Core.Bool.{Bool, true, false, cond, not, ◌&&◌, ◌||◌, and-false, false≢true, true≢false, and-eq-true_iff}
use mathlib.Core.List.{List, [], ◌∷◌, ◌++◌, append_assoc, map}
use Prim.Native.Nat.{ℕ, zero, suc, ◌+◌, ◌-◌, ◌≤◌, ◌<◌}
use native.Mathlib.Omega.{arith}
use lib.Dec.{eqb, ltb, leb}
use lib.ListN.{length, drop, replicate, length-append}
use lib.Seq.{drop-append_seam, drop-append-le}
use borrow.Author.Tests.{eqb-true, ltb-true, ltb-false, lt-ltb, leb-true, le-leb}
use Rattle.lists.specs.Runs.{while, every, joined, begins}
use Rattle.lists.specs.Theorems.All.{All}
use Rattle.lists.proofs.Parts.{every_nil, every_cons, every_append, joined_nil, joined_cons, joined_append}
use Rattle.lists.proofs.All.{all_front}
use Rattle.widths.specs.WhiteSpace.{white_space}
use Rattle.text.specs.Rfc3629.{encode}
use Rattle.text.specs.Characters.{Glyph, characters, extent}
use Rattle.text.specs.Theorems.Blanks.{space_code, Gap}
use Rattle.records.specs.Word.{Word}
use Rattle.output.specs.Emission.{line_feed}
use Rattle.output.proofs.Indents.{Feedless}
use Rattle.checker.specs.Acceptable.{Then}
use Rattle.checker.specs.Named.{feeds}
use Rattle.checker.specs.Matching.{on, fault, match_text, is_space, spaces, soft, parting, lead, match_spaced}
use Rattle.checker.proofs.Feeds.{feedless_inside, feedless_first, feeds_nil, feeds_append, feedless_feeds, begins_feed}
use Rattle.checker.proofs.Decides.{Language, Took, Faults, Decides, Is, on_fault, decides_text, decides_same}
use Rattle.checker.proofs.Codes.{Character, encode_some, glyph_of, octets, extent_codes, Begins, begins_of, kind_glyphs, other_stops, octets_feedless, stops_before, space_characters, no_break_space, space_space, space_octets, feed_no_space, ink_no_break}

-- a word that notes can have: no line feed; after any U+00A0 of its own in front, which it has with glue on alone, a character that is no blank
pub record Fits (glue : Bool) (w : List ℕ) : Type 0 where
  pub feedless : Feedless w
  pub count : ℕ
  pub none : glue ≡ false → count ≡ 0
  pub ink : ℕ
  pub is_character : Character ink
  pub is_ink : white_space ink ≡ false
  pub tail : List ℕ
  pub is : w ≡ octets (replicate count 0xA0) ++ (encode ink ++ tail)

abbrev pub WordFits : Bool → Word → Type 0
WordFits glue w = Fits glue w.text

-- what parts two words of a line, by its characters' numbers
record Spaces (glue : Bool) (bytes : List ℕ) : Type 0 where
  codes : List ℕ
  blank : every space_code codes ≡ true
  parts : every (soft glue) codes ≡ false
  octets : bytes ≡ joined encode codes

gap_spaces : (glue : Bool) (bytes : List ℕ) → Gap glue bytes → Spaces glue bytes
gap_spaces glue bytes g = record { codes = g.codes; blank = g.blanks.blank; parts = go glue refl g.codes g.blanks.octets g.other; octets = g.blanks.octets }
  where
    go : (t : Bool) → glue ≡ t → (codes : List ℕ) → bytes ≡ joined encode codes → (glue ≡ true → every (λ c. eqb c 0xA0) codes ≡ false) → every (soft t) codes ≡ false
    go true e codes o h = h e
    go false e [] o h = absurd (let s = g.some in omega (arith, ap length (o ∙ joined_nil encode)))
    go false e (c ∷ codes) o h = every_cons (soft false) c codes

spaces_gap : (glue : Bool) (bytes : List ℕ) → Spaces glue bytes → Gap glue bytes
spaces_gap glue bytes s = record { codes = s.codes; blanks = record { blank = s.blank; octets = s.octets }; some = some s.codes s.blank s.parts s.octets; other = λ e. rw e at s.parts }
  where
    some : (codes : List ℕ) → every space_code codes ≡ true → every (soft glue) codes ≡ false → bytes ≡ joined encode codes → 0 < length bytes
    some [] b p o = absurd (true≢false (sym (every_nil (soft glue)) ∙ p))
    some (c ∷ codes) b p o =
        let k = encode_some c (space_characters (c ∷ codes) b).0 [] in
        let l = length-append (encode c) (octets codes) in
        omega (arith, ap length (o ∙ joined_cons encode c codes))

-- ---- the characters

spaces_damage : space_code 0xFFFD ≡ false
unfolding white_space
spaces_damage = refl

-- no-break spaces in a row
no_breaks : (k : ℕ) → (every space_code (replicate k 0xA0) ≡ true) × (every (λ c. eqb c 0xA0) (replicate k 0xA0) ≡ true)
no_breaks zero = (every_nil space_code, every_nil (λ c. eqb c 0xA0))
no_breaks (suc k) = let h = no_breaks k in (rw (every_cons, no_break_space, h.0), rw (every_cons, h.1))

replicate_add : (a b c : ℕ) → replicate (a + b) c ≡ replicate a c ++ replicate b c
replicate_add zero b c = let z : 0 + b ≡ b = omega arith in rw z
replicate_add (suc a) b c = let z : suc a + b ≡ suc (a + b) = omega arith in rw z (ap (λ (l : List ℕ). c ∷ l) (replicate_add a b c))

-- each has two octets
no_breaks_size : (k : ℕ) → length (octets (replicate k 0xA0)) ≡ k + k
unfolding encode
no_breaks_size zero = rw joined_nil
no_breaks_size (suc k) =
    let l = length-append (encode 0xA0) (octets (replicate k 0xA0)) in
    let h = no_breaks_size k in
    let z : length (encode 0xA0) ≡ 2 = refl in
    omega (arith, ap length (joined_cons encode 0xA0 (replicate k 0xA0)))

shorter : (k j : ℕ) → length (octets (replicate k 0xA0)) ≤ length (octets (replicate j 0xA0)) → k ≤ j
shorter k j h = omega (arith, no_breaks_size k, no_breaks_size j)

-- ---- what parts

parting_more : (glue : Bool) (g : Glyph) (gs : List Glyph) → parting glue (g ∷ gs) ≡ cond (ltb 0 (parting glue gs) || not (soft glue g.code)) (length g.bytes + parting glue gs) 0
unfolding parting
parting_more glue g gs = refl

parting_none : (glue : Bool) → parting glue [] ≡ 0
unfolding parting
parting_none glue = refl

-- the codes up to the last that parts, and U+00A0 after it
record Parts (glue : Bool) (codes : List ℕ) : Type 0 where
  front : List ℕ
  back : ℕ
  are : codes ≡ front ++ replicate back 0xA0
  none : glue ≡ false → back ≡ 0
  size : parting glue (map glyph_of codes) ≡ length (octets front)
  some : 0 < parting glue (map glyph_of codes) → every (soft glue) front ≡ false

octets_empty : (codes : List ℕ) → All Character codes → length (octets codes) ≡ 0 → codes ≡ []
octets_empty [] a h = refl
octets_empty (c ∷ codes) a h =
    let l = length-append (encode c) (octets codes) in
    let s = encode_some c a.0 [] in
    absurd (omega (arith, ap length (joined_cons encode c codes)))

parts_of : (glue : Bool) (codes : List ℕ) → All Character codes → Parts glue codes
parts_of glue [] a = record { front = []; back = 0; are = refl; none = λ e. refl; size = rw (parting_none, joined_nil); some = λ h. absurd (omega (arith, parting_none glue)) }
parts_of glue (c ∷ codes) a = go (ltb 0 (parting glue (map glyph_of codes))) (soft glue c) refl refl (parts_of glue codes a.1)
  where
    here : (t u : Bool) → ltb 0 (parting glue (map glyph_of codes)) ≡ t → soft glue c ≡ u → parting glue (map glyph_of (c ∷ codes)) ≡ cond (t || not u) (length (encode c) + parting glue (map glyph_of codes)) 0
    here t u et eu = parting_more glue (glyph_of c) (map glyph_of codes) ∙ rw (et, eu)

    -- with a part after it
    more : (u : Bool) → ltb 0 (parting glue (map glyph_of codes)) ≡ true → soft glue c ≡ u → Parts glue codes → Parts glue (c ∷ codes)
    more u t g p =
        let k = here true u t g in
        let l = length-append (encode c) (octets p.front) in
        record {
          front = c ∷ p.front;
          back = p.back;
          are = ap (λ (l : List ℕ). c ∷ l) p.are;
          none = p.none;
          size = rw (k, joined_cons encode c p.front, length-append (encode c) (octets p.front), p.size);
          some = λ h. rw (every_cons, p.some (ltb-true _ _ t)) (and-false (soft glue c));
        }

    go : (t u : Bool) → ltb 0 (parting glue (map glyph_of codes)) ≡ t → soft glue c ≡ u → Parts glue codes → Parts glue (c ∷ codes)
    go true u et eu p = more u et eu p
    go false false et eu p =
        let q : length (octets p.front) ≡ 0 = let z = ltb-false 0 (parting glue (map glyph_of codes)) et in omega (arith, p.size) in
        let e : p.front ≡ [] = octets_empty p.front (all_front Character p.front (replicate p.back 0xA0) (rw p.are at a.1)) q in
        let z : parting glue (map glyph_of codes) ≡ 0 = let y = ltb-false 0 (parting glue (map glyph_of codes)) et in omega arith in
        let k = here false false et eu in
        let l = length-append (encode c) (octets []) in
        record {
          front = c ∷ [];
          back = p.back;
          are = ap (λ (l : List ℕ). c ∷ l) (p.are ∙ ap (λ (l : List ℕ). l ++ replicate p.back 0xA0) e);
          none = p.none;
          size = rw (k, z, joined_cons encode c [], length-append (encode c) (octets []), joined_nil);
          some = λ h. rw (every_cons, eu);
        }
    go false true et eu p =
        let q : length (octets p.front) ≡ 0 = let z = ltb-false 0 (parting glue (map glyph_of codes)) et in omega (arith, p.size) in
        let e : p.front ≡ [] = octets_empty p.front (all_front Character p.front (replicate p.back 0xA0) (rw p.are at a.1)) q in
        let k = here false true et eu in
        let v = (and-eq-true_iff glue (eqb c 0xA0)).0 eu in
        record {
          front = [];
          back = suc p.back;
          are = ap₂ (λ (x : ℕ) (l : List ℕ). x ∷ l) (eqb-true c 0xA0 v.1) (p.are ∙ ap (λ (l : List ℕ). l ++ replicate p.back 0xA0) e);
          none = λ f. absurd (false≢true (sym f ∙ v.0));
          size = rw (k, joined_nil);
          some = λ h. absurd (omega (arith, k));
        }

-- a gap's blanks part, whatever is after them
parting_some : (glue : Bool) (codes : List ℕ) (gs : List Glyph) → All Character codes → every (soft glue) codes ≡ false → 0 < parting glue (map glyph_of codes ++ gs)
parting_some glue [] gs a e = absurd (true≢false (sym (every_nil (soft glue)) ∙ e))
parting_some glue (c ∷ codes) gs a e = rw (parting_more glue (glyph_of c) (map glyph_of codes ++ gs)) (go (soft glue c) refl (parting_some glue codes gs a.1))
  where
    go : (t : Bool) → soft glue c ≡ t → (every (soft glue) codes ≡ false → 0 < parting glue (map glyph_of codes ++ gs))
        → 0 < cond (ltb 0 (parting glue (map glyph_of codes ++ gs)) || not (soft glue c)) (length (encode c) + parting glue (map glyph_of codes ++ gs)) 0
    go true k ih =
        let h = ih (sym (ap (λ (b : Bool). b && every (soft glue) codes) k) ∙ sym (every_cons (soft glue) c codes) ∙ e) in
        rw (lt-ltb 0 _ h) (omega arith)
    go false k ih = let s = encode_some c a.0 [] in rw k (pick (ltb 0 (parting glue (map glyph_of codes ++ gs))))
      where
        pick : (b : Bool) → 0 < cond (b || true) (length (encode c) + parting glue (map glyph_of codes ++ gs)) 0
        pick true = let s = encode_some c a.0 [] in omega arith
        pick false = let s = encode_some c a.0 [] in omega arith

-- and no more than they are: U+00A0 after them does not
parting_least : (glue : Bool) (gs hs : List Glyph) → parting glue hs ≡ 0 → parting glue (gs ++ hs) ≤ extent gs
unfolding extent
parting_least glue [] hs h = omega arith
parting_least glue (g ∷ gs) hs h = rw (parting_more glue g (gs ++ hs)) (go (ltb 0 (parting glue (gs ++ hs)) || not (soft glue g.code)) (parting_least glue gs hs h))
  where
    go : (t : Bool) → parting glue (gs ++ hs) ≤ extent gs → cond t (length g.bytes + parting glue (gs ++ hs)) 0 ≤ length g.bytes + extent gs
    go true ih = omega arith
    go false ih = omega arith

no_breaks_part : (glue : Bool) (k : ℕ) → (glue ≡ false → k ≡ 0) → parting glue (map glyph_of (replicate k 0xA0)) ≡ 0
no_breaks_part glue zero h = parting_none glue
no_breaks_part false (suc k) h = absurd (omega (arith, h refl))
no_breaks_part true (suc k) h = parting_more true (glyph_of 0xA0) (map glyph_of (replicate k 0xA0)) ∙ rw (no_breaks_part true k (λ e. absurd (true≢false e)))

map_append : (a b : List ℕ) → map glyph_of (a ++ b) ≡ map glyph_of a ++ map glyph_of b
map_append [] b = refl
map_append (c ∷ a) b = ap (λ (l : List Glyph). glyph_of c ∷ l) (map_append a b)

-- ---- a gap and a word

module _ (glue : Bool) (w : List ℕ) (f : Fits glue w) where
  -- U+00A0 that the word begins with
  own : List ℕ
  own = octets (replicate f.count 0xA0)

  lead_is : lead w ≡ length own
  unfolding lead own
  lead_is =
      let s = other_stops (λ c. eqb c 0xA0) refl refl f.ink f.tail f.is_character (ink_no_break f.ink f.is_ink) in
      let k = no_breaks f.count in
      rw (f.is, kind_glyphs (λ c. eqb c 0xA0) refl refl (replicate f.count 0xA0) (encode f.ink ++ f.tail) (space_characters (replicate f.count 0xA0) k.0) k.1 s) (extent_codes (replicate f.count 0xA0))

  abbrev Behind : Language
  Behind = Then (Spaces glue) (Is w)

  -- what is matched, by what the blanks in front come to
  spaced_as : (xs : List ℕ) (n : ℕ) (gs : List Glyph) → spaces xs ≡ gs
      → match_spaced glue w xs n ≡ cond (ltb 0 (parting glue gs) && leb (parting glue gs + lead w) (extent gs)) (match_text w (drop (extent gs - lead w) xs) n) (fault n)
  unfolding match_spaced
  spaced_as xs n gs e = rw e

  spaces_of : (xs : List ℕ) → spaces xs ≡ while is_space (characters xs)
  unfolding spaces
  spaces_of xs = refl

  spaces_codes : (xs : List ℕ) → Begins space_code spaces_damage feed_no_space xs
  spaces_codes xs = begins_of space_code spaces_damage feed_no_space xs

  spaces_are : (xs : List ℕ) → spaces xs ≡ map glyph_of (spaces_codes xs).codes
  unfolding spaces
  spaces_are xs = (spaces_codes xs).glyphs_are

  -- the gap that is before the word, where the tests hold
  gap_before : (xs codes left : List ℕ) → All Character codes → every space_code codes ≡ true → xs ≡ octets codes ++ left
      → 0 < parting glue (map glyph_of codes) → parting glue (map glyph_of codes) + length own ≤ length (octets codes)
      → (gap : List ℕ) × Spaces glue gap × (xs ≡ gap ++ drop (length (octets codes) - length own) xs)
  unfolding own
  gap_before xs codes left a e x some fits =
      let p = parts_of glue codes a in
      let k = f.count in
      let j = p.back in
      let size : length (octets codes) ≡ length (octets p.front) + length (octets (replicate j 0xA0)) =
      ap (λ (l : List ℕ). length (octets l)) p.are ∙ ap length (joined_append encode p.front (replicate j 0xA0)) ∙ length-append (octets p.front) (octets (replicate j 0xA0)) in
      let few : k ≤ j = shorter k j (omega (arith, p.size)) in
      let cut : replicate {A = ℕ} j 0xA0 ≡ replicate (j - k) 0xA0 ++ replicate k 0xA0 = let z : j ≡ (j - k) + k = omega arith in ap (λ (i : ℕ). replicate {A = ℕ} i 0xA0) z ∙ replicate_add (j - k) k 0xA0 in
      let codes-are : codes ≡ (p.front ++ replicate (j - k) 0xA0) ++ replicate k 0xA0 =
      p.are ∙ ap (λ (l : List ℕ). p.front ++ l) cut ∙ sym (append_assoc p.front (replicate (j - k) 0xA0) (replicate k 0xA0)) in
      let gap = octets (p.front ++ replicate (j - k) 0xA0) in
      let bytes : octets codes ≡ gap ++ octets (replicate k 0xA0) = ap octets codes-are ∙ joined_append encode (p.front ++ replicate (j - k) 0xA0) (replicate k 0xA0) in
      let all : xs ≡ gap ++ (octets (replicate k 0xA0) ++ left) = x ∙ ap (λ (l : List ℕ). l ++ left) bytes ∙ append_assoc gap (octets (replicate k 0xA0)) left in
      let start : length (octets codes) - length (octets (replicate k 0xA0)) ≡ length gap = omega (arith, ap length bytes ∙ length-append gap (octets (replicate k 0xA0))) in
      let rest : drop (length (octets codes) - length (octets (replicate k 0xA0))) xs ≡ octets (replicate k 0xA0) ++ left = rw (start, all) (drop-append_seam gap (octets (replicate k 0xA0) ++ left)) in
      let spaced = (and-eq-true_iff (every space_code p.front) (every space_code (replicate j 0xA0))).0 (sym (every_append space_code p.front (replicate j 0xA0)) ∙ ap (every space_code) (sym p.are) ∙ e) in (
        gap,
        record {
          codes = p.front ++ replicate (j - k) 0xA0;
          blank = rw (every_append space_code p.front (replicate (j - k) 0xA0), spaced.0, (no_breaks (j - k)).0);
          parts = rw (every_append (soft glue) p.front (replicate (j - k) 0xA0), p.some some);
          octets = refl;
        },
        all ∙ ap (λ (l : List ℕ). gap ++ l) (sym rest),
      )

  spaced_found : (xs : List ℕ) (n : ℕ) (rest : List ℕ) (m : ℕ) → match_spaced glue w xs n ≡ on rest m → Took Behind xs n rest m
  spaced_found xs n rest m e = go (ltb 0 (parting glue (map glyph_of codes))) (leb (parting glue (map glyph_of codes) + lead w) (extent (map glyph_of codes))) refl refl (sym (spaced_as xs n (map glyph_of codes) (spaces_are xs)) ∙ e)
    where
      b : Begins space_code spaces_damage feed_no_space xs
      b = spaces_codes xs

      codes : List ℕ
      codes = b.codes

      go : (t u : Bool) → ltb 0 (parting glue (map glyph_of codes)) ≡ t → leb (parting glue (map glyph_of codes) + lead w) (extent (map glyph_of codes)) ≡ u
          → cond (t && u) (match_text w (drop (extent (map glyph_of codes) - lead w) xs) n) (fault n) ≡ on rest m → Took Behind xs n rest m
      go true true et eu k =
          let x = extent_codes codes in
          let fits : parting glue (map glyph_of codes) + length own ≤ length (octets codes) = rw (← lead_is, ← x) (leb-true _ _ eu) in
          let g = gap_before xs codes b.rest b.are b.each b.is (ltb-true _ _ et) fits in
          let start : extent (map glyph_of codes) - lead w ≡ length (octets codes) - length own = rw (x, lead_is) in
          let a = (decides_text w f.feedless).found (drop (length (octets codes) - length own) xs) n rest m (rw (← start) k) in
          let z : feeds g.0 ≡ 0 = rw g.1.octets (feedless_feeds _ (octets_feedless space_code spaces_damage feed_no_space g.1.codes g.1.blank)) in
          record {
            part = g.0 ++ w;
            is = g.2 ∙ ap (λ (l : List ℕ). g.0 ++ l) (a.is ∙ ap (λ (l : List ℕ). l ++ rest) a.takes) ∙ sym (append_assoc g.0 w rest);
            takes = record { part = g.0; rest = w; bytes_are = refl; first = g.1; second = refl };
            line = omega (arith, a.line, ap feeds a.takes, feeds_append g.0 w);
          }
      go true false et eu k = on_fault (sym k)
      go false u et eu k = on_fault (sym k)

  spaced_finds : (part rest : List ℕ) (n : ℕ) → Behind part → match_spaced glue w (part ++ rest) n ≡ on rest (n + feeds part)
  unfolding own
  spaced_finds part rest n t =
      let g = t.first in
      let k = f.count in
      let codes = g.codes ++ replicate k 0xA0 in
      let behind = encode f.ink ++ (f.tail ++ rest) in
      let w-rest : w ++ rest ≡ octets (replicate k 0xA0) ++ behind =
      ap (λ (l : List ℕ). l ++ rest) f.is ∙ append_assoc (octets (replicate k 0xA0)) (encode f.ink ++ f.tail) rest ∙ ap (λ (l : List ℕ). octets (replicate k 0xA0) ++ l) (append_assoc (encode f.ink) f.tail rest) in
      let xs-w : part ++ rest ≡ octets g.codes ++ (w ++ rest) =
      ap (λ (l : List ℕ). l ++ rest) (t.bytes_are ∙ ap₂ (λ (l r : List ℕ). l ++ r) g.octets t.second) ∙ append_assoc (octets g.codes) w rest in
      let xs-is : part ++ rest ≡ octets codes ++ behind =
      xs-w ∙ ap (λ (l : List ℕ). octets g.codes ++ l) w-rest ∙ sym (append_assoc (octets g.codes) (octets (replicate k 0xA0)) behind) ∙ ap (λ (l : List ℕ). l ++ behind) (sym (joined_append encode g.codes (replicate k 0xA0))) in
      let blank : every space_code codes ≡ true = rw (every_append space_code g.codes (replicate k 0xA0), g.blank, (no_breaks k).0) in
      let stop = other_stops space_code spaces_damage feed_no_space f.ink (f.tail ++ rest) f.is_character (rw f.is_ink) in
      let gs : spaces (part ++ rest) ≡ map glyph_of codes = found (part ++ rest) codes behind xs-is blank stop in
      let some : 0 < parting glue (map glyph_of codes) = rw (map_append g.codes (replicate k 0xA0)) (parting_some glue g.codes (map glyph_of (replicate k 0xA0)) (space_characters g.codes g.blank) g.parts) in
      let least : parting glue (map glyph_of codes) ≤ extent (map glyph_of g.codes) = rw (map_append g.codes (replicate k 0xA0)) (parting_least glue (map glyph_of g.codes) (map glyph_of (replicate k 0xA0)) (no_breaks_part glue k f.none)) in
      let size : extent (map glyph_of codes) ≡ extent (map glyph_of g.codes) + lead w =
      rw (extent_codes codes, joined_append encode g.codes (replicate k 0xA0), length-append (octets g.codes) (octets (replicate k 0xA0)), extent_codes g.codes, lead_is) in
      let start : extent (map glyph_of codes) - lead w ≡ length (octets g.codes) = let z = extent_codes g.codes in omega arith in
      let place : drop (extent (map glyph_of codes) - lead w) (part ++ rest) ≡ w ++ rest = rw (start, xs-w) (drop-append_seam (octets g.codes) (w ++ rest)) in
      let line : n + feeds w ≡ n + feeds part =
      let z = feedless_feeds (octets g.codes) (octets_feedless space_code spaces_damage feed_no_space g.codes g.blank) in
      omega (arith, ap feeds t.bytes_are ∙ feeds_append t.part t.rest, ap feeds g.octets, ap feeds t.second) in
      spaced_as (part ++ rest) n (map glyph_of codes) gs
      ∙ rw (lt-ltb 0 (parting glue (map glyph_of codes)) some, le-leb (parting glue (map glyph_of codes) + lead w) (extent (map glyph_of codes)) (omega arith), place) ((decides_text w f.feedless).finds w rest n refl)
      ∙ ap (on rest) line
    where
      found : (xs codes behind : List ℕ) → xs ≡ octets codes ++ behind → every space_code codes ≡ true → while is_space (characters behind) ≡ [] → spaces xs ≡ map glyph_of codes
      found xs codes behind x e s = spaces_of xs ∙ ap (λ (l : List ℕ). while is_space (characters l)) x ∙ kind_glyphs space_code spaces_damage feed_no_space codes behind (space_characters codes e) e s

  text_never : (left below others : List ℕ) (n k : ℕ) → match_text w (left ++ 10 ∷ below) n ≡ fault n → match_text w (left ++ 10 ∷ others) k ≡ fault k
  unfolding match_text
  text_never left below others n k e = go (begins w left) refl (rw (begins_feed w left below f.feedless) at e)
    where
      go : (t : Bool) → begins w left ≡ t → cond (begins w left) (on (drop (length w) (left ++ 10 ∷ below)) n) (fault n) ≡ fault n → match_text w (left ++ 10 ∷ others) k ≡ fault k
      go true b h = on_fault (rw b at h)
      go false b h = rw (begins_feed w left others f.feedless, b)

  -- the tests and the word's place are the same with anything else after the line
  spaced_never : (body below others : List ℕ) (n k : ℕ) → match_spaced glue w (body ++ 10 ∷ below) n ≡ fault n → match_spaced glue w (body ++ 10 ∷ others) k ≡ fault k
  spaced_never body below others n k e =
      let b = spaces_codes (body ++ 10 ∷ below) in
      let i = feedless_inside (octets b.codes) b.rest body below (octets_feedless space_code spaces_damage feed_no_space b.codes b.each) (sym b.is) in
      let stop = stops_before space_code spaces_damage feed_no_space i.left below others (rw i.rest_is at b.stops) in
      let x : body ++ 10 ∷ others ≡ octets b.codes ++ (i.left ++ 10 ∷ others) = ap (λ (l : List ℕ). l ++ 10 ∷ others) i.body_is ∙ append_assoc (octets b.codes) i.left (10 ∷ others) in
      let gs : spaces (body ++ 10 ∷ others) ≡ map glyph_of b.codes = spaces_of (body ++ 10 ∷ others) ∙ ap (λ (l : List ℕ). while is_space (characters l)) x ∙ kind_glyphs space_code spaces_damage feed_no_space b.codes (i.left ++ 10 ∷ others) b.are b.each stop in
      let few : extent (map glyph_of b.codes) - lead w ≤ length body = omega (arith, extent_codes b.codes, ap length i.body_is ∙ length-append (octets b.codes) i.left) in
      spaced_as (body ++ 10 ∷ others) k (map glyph_of b.codes) gs
      ∙ go (ltb 0 (parting glue (map glyph_of b.codes)) && leb (parting glue (map glyph_of b.codes) + lead w) (extent (map glyph_of b.codes))) (extent (map glyph_of b.codes) - lead w) few
      (sym (spaced_as (body ++ 10 ∷ below) n (map glyph_of b.codes) (spaces_are (body ++ 10 ∷ below))) ∙ e)
    where
      text : (start : ℕ) → start ≤ length body → match_text w (drop start (body ++ 10 ∷ below)) n ≡ fault n → match_text w (drop start (body ++ 10 ∷ others)) k ≡ fault k
      text start h e =
          let b : drop start (body ++ 10 ∷ below) ≡ drop start body ++ 10 ∷ below = drop-append-le start body (10 ∷ below) h in
          let o : drop start (body ++ 10 ∷ others) ≡ drop start body ++ 10 ∷ others = drop-append-le start body (10 ∷ others) h in
          rw o (text_never (drop start body) below others n k (rw b at e))

      go : (t : Bool) (start : ℕ) → start ≤ length body → cond t (match_text w (drop start (body ++ 10 ∷ below)) n) (fault n) ≡ fault n → cond t (match_text w (drop start (body ++ 10 ∷ others)) k) (fault k) ≡ fault k
      go true start h e = text start h e
      go false start h e = refl

  -- one space and the word
  by_a_space : Behind (32 ∷ w)
  by_a_space = record {
    part = 32 ∷ [];
    rest = w;
    bytes_are = refl;
    first = record {
      codes = 32 ∷ [];
      blank = rw (every_cons, space_space, every_nil);
      parts = rw every_cons (pick glue);
      octets = rw (joined_cons, joined_nil, space_octets);
    };
    second = refl;
  }
    where
      pick : (b : Bool) → (b && false && every (soft glue) []) ≡ false
      pick true = refl
      pick false = refl

  -- a fault is in the line that the word is looked for in
  text_line : (ys : List ℕ) (n m : ℕ) → match_text w ys n ≡ fault m → m ≡ n
  unfolding match_text
  text_line ys n m e = go (begins w ys) e
    where
      go : (t : Bool) → cond t (on (drop (length w) ys) n) (fault n) ≡ fault m → m ≡ n
      go true k = on_fault k
      go false k = cc

  spaced_line : (xs : List ℕ) (n m : ℕ) → match_spaced glue w xs n ≡ fault m → m ≡ n
  spaced_line xs n m e = go (ltb 0 (parting glue (spaces xs)) && leb (parting glue (spaces xs) + lead w) (extent (spaces xs))) (sym (spaced_as xs n (spaces xs) refl) ∙ e)
    where
      go : (t : Bool) → cond t (match_text w (drop (extent (spaces xs) - lead w) xs) n) (fault n) ≡ fault m → m ≡ n
      go true k = text_line (drop (extent (spaces xs) - lead w) xs) n m k
      go false k = cc

  spaced_faults : (xs : List ℕ) (n m : ℕ) → match_spaced glue w xs n ≡ fault m → Faults Behind (match_spaced glue w) xs n m
  spaced_faults xs n m e =
      let z : m ≡ n = spaced_line xs n m e in
      let q : (k : ℕ) → k ≡ k + feeds [] = λ k. omega (arith, feeds_nil) in
      record {
        up_to = [];
        rest = xs;
        is = refl;
        line = z ∙ q n;
        more = 32 ∷ w;
        goes_on = by_a_space;
        never = λ body below h x others k. spaced_never body below others n k (ap (λ (l : List ℕ). match_spaced glue w l n) (sym x) ∙ e ∙ ap fault z) ∙ ap fault (q k);
      }

  pub decides_spaced : Decides (Then (Gap glue) (Is w)) (match_spaced glue w)
  decides_spaced =
      decides_same Behind (Then (Gap glue) (Is w)) (match_spaced glue w)
      (λ part t. record { part = t.part; rest = t.rest; bytes_are = t.bytes_are; first = spaces_gap glue t.part t.first; second = t.second })
      (λ part t. record { part = t.part; rest = t.rest; bytes_are = t.bytes_are; first = gap_spaces glue t.part t.first; second = t.second })
      (record { found = spaced_found; finds = spaced_finds; example = 32 ∷ w; some = by_a_space; faults = spaced_faults })

-- a gap does not begin with a line feed
pub gap_no_feed : (glue : Bool) (gap rest : List ℕ) → Gap glue gap → begins line_feed (gap ++ rest) ≡ false
gap_no_feed glue gap rest p = let g = gap_spaces glue gap p in rw g.octets (go g.codes g.blank g.parts)
  where
    first : (xs : List ℕ) → 0 < length xs → Feedless xs → begins line_feed (xs ++ rest) ≡ false
    first xs h f = feedless_first xs rest h f

    go : (codes : List ℕ) → every space_code codes ≡ true → every (soft glue) codes ≡ false → begins line_feed (octets codes ++ rest) ≡ false
    go [] b p = absurd (true≢false (sym (every_nil (soft glue)) ∙ p))
    go (c ∷ codes) b p =
        let s = encode_some c (space_characters (c ∷ codes) b).0 [] in
        let l = length-append (encode c) (octets codes) in
        first (octets (c ∷ codes)) (omega (arith, ap length (joined_cons encode c codes))) (octets_feedless space_code spaces_damage feed_no_space (c ∷ codes) b)
