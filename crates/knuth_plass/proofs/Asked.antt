-- The break that starts a line with a word: whether it is before it, and what made it.
use mathlib.Core.Path.{◌≡◌, refl, sym, subst, ap, ◌∙◌}
use mathlib.Core.Bool.{Bool, true, false, cond, ◌||◌}
use mathlib.Core.List.{List, [], ◌∷◌}
use Prim.Native.Nat.{ℕ, zero, suc, ◌+◌, ◌-◌, ◌≤◌, ◌<◌}
use native.Mathlib.Numerals.{add-one}
use native.Mathlib.Omega.{arith}
use borrow.Author.Tests.{eqb-true, eqb-false, eq-eqb, ne_eqb}
use lib.Dec.{T, eqb}
use lib.ListN.{length, get_or, drop}
use Rattle.records.specs.Word.{Word, meaning}
use Rattle.records.specs.Cited.Table.{word_in, words_in}
use Rattle.records.proofs.Table.{words_drop}
use Rattle.spacing.specs.declared.Setting.{Setting}
use Rattle.endings.specs.declared.Ending.{Ending}
use Rattle.endings.specs.declared.Ending.TheVariants.{Paragraph}
use Rattle.endings.specs.Endings.{Next, ended, is_ended, breaks}
use Rattle.knuth_plass.specs.declared.Break.{Break as Record}
use Rattle.knuth_plass.specs.declared.AllTold.{AllTold}
use Rattle.knuth_plass.specs.KnuthPlass.{Place, Active, round, is_last, sentence_behind, starts_line, marks_from, path_of, best_breaks}
use Rattle.knuth_plass.specs.BestLines.{maker, makers_from, makers_of, start_of, next_at, nexts_from, best_lines}
use Rattle.knuth_plass.specs.Cited.Table as T
use Rattle.knuth_plass.specs.Cited.Table.{Tables, break_in, place_of, path_to, Leads}
use Rattle.knuth_plass.specs.Cited.Round.{begin, LeastIs}
use Rattle.knuth_plass.specs.Cited.Makers.{before_at, AllToldIs, ending_before}
use Rattle.knuth_plass.proofs.Path.{path_here, path_start}
use Rattle.knuth_plass.proofs.Paragraph.{last_is}
use Rattle.knuth_plass.proofs.Whole.{path_is}

-- ---- the path

same_start : (before : Bool) (word : ℕ) → cond before word (word + 1) ≡ cond before word (suc word)
same_start true word = refl
same_start false word = add-one word

module _ (t : Tables) (last at e : ℕ) (b : Record) (s : ℕ) (leads : Leads t last) (some : 0 < at) (within : at ≤ last)
    (is : b ≡ break_in t at) (begins : s ≡ T.start_of b) where
  starts_there : s ≡ start_of (place_of (break_in t at))
  starts_there = begins ∙ rw is (same_start (break_in t at).before (break_in t at).word)

  pub before_here : s ≡ e → b.before ≡ before_at e (path_to t at)
  unfolding before_at
  before_here q = rw (is, path_here t last at leads some within, eq-eqb (start_of (place_of (break_in t at))) e (sym starts_there ∙ q))

  pub before_on : (s ≡ e → ⊥) → before_at e (path_to t b.previous) ≡ before_at e (path_to t at)
  unfolding before_at
  before_on q = rw (is, path_here t last at leads some within, ne_eqb (start_of (place_of (break_in t at))) e (λ r. q (starts_there ∙ r)))

pub before_none : (t : Tables) (at e : ℕ) → at ≤ 0 → false ≡ before_at e (path_to t at)
unfolding before_at
before_none t at e h = rw (path_start t at h)

-- what made the break of the path is what its word's round tells
module _ (makers : List Ending) (e : ℕ) (some : 1 ≤ e) where
  abbrev told : Bool → Ending
  told before = cond before (get_or makers e Paragraph) (get_or makers (e - 1) Paragraph)

  abbrev Tells : List Place → Type 0
  Tells path = starts_line e path ≡ true → next_at makers e path ≡ ended (told (before_at e path))

  module _ (k : Place) (ks : List Place) where
    module _ (q : start_of k ≡ e) where
      next_here : next_at makers e (k ∷ ks) ≡ ended (get_or makers k.word Paragraph)
      unfolding next_at
      next_here = rw (next_at, eq-eqb (start_of k) e q)

      before_first : before_at e (k ∷ ks) ≡ k.before
      unfolding before_at
      before_first = rw (before_at, eq-eqb (start_of k) e q)

      told_word : (b : Bool) → cond b k.word (suc k.word) ≡ e → get_or makers k.word Paragraph ≡ told b
      told_word true r = ap (λ (j : ℕ). get_or makers j Paragraph) r
      told_word false r = ap (λ (j : ℕ). get_or makers j Paragraph) (omega arith)

      tells_here : next_at makers e (k ∷ ks) ≡ ended (told (before_at e (k ∷ ks)))
      tells_here = next_here ∙ ap ended (told_word k.before q) ∙ sym (ap (λ (b : Bool). ended (told b)) before_first)

    module _ (q : start_of k ≡ e → ⊥) where
      next_on : next_at makers e (k ∷ ks) ≡ next_at makers e ks
      unfolding next_at
      next_on = rw (next_at, ne_eqb (start_of k) e q)

      before_past : before_at e (k ∷ ks) ≡ before_at e ks
      unfolding before_at
      before_past = rw (before_at, ne_eqb (start_of k) e q)

      starts_on : (b : Bool) → (cond b k.word (suc k.word) ≡ e → ⊥) → (cond b (eqb k.word e) (eqb (suc k.word) e) || starts_line e ks) ≡ true → starts_line e ks ≡ true
      starts_on true r h = rw (ne_eqb k.word e r) at h
      starts_on false r h = rw (ne_eqb (suc k.word) e r) at h

      tells_on : Tells ks → Tells (k ∷ ks)
      unfolding starts_line
      tells_on rest h = next_on ∙ rest (starts_on k.before q h) ∙ sym (ap (λ (b : Bool). ended (told b)) before_past)

  pub path_tells : (path : List Place) → Tells path
  unfolding starts_line
  path_tells [] h = absurd (subst T (sym h) tt)
  path_tells (k ∷ ks) h = by (eqb (start_of k) e) refl (path_tells ks) h where
    by : (x : Bool) → eqb (start_of k) e ≡ x → Tells ks → Tells (k ∷ ks)
    by true q rest h = tells_here k ks (eqb-true (start_of k) e q)
    by false q rest h = tells_on k ks (eqb-false (start_of k) e q) rest h

-- ---- forgetting what made them, the lines are the formatter's

pub next_is : (makers : List Ending) (e : ℕ) (path : List Place) → is_ended (next_at makers e path) ≡ starts_line e path
unfolding next_at starts_line
next_is makers e [] = refl
next_is makers e (k ∷ ks) = by k.before (eqb (start_of k) e) refl refl (next_is makers e ks) where
  by : (b x : Bool) → k.before ≡ b → eqb (start_of k) e ≡ x → is_ended (next_at makers e ks) ≡ starts_line e ks
      → is_ended (elim x as (λ y. Next) [ true ↦ ended (get_or makers k.word Paragraph) | false ↦ next_at makers e ks ]) ≡ (cond b (eqb k.word e) (eqb (suc k.word) e) || starts_line e ks)
  by true true f q r = rw (rw f at q)
  by true false f q r = rw (rw f at q) r
  by false true f q r = rw (rw f at q)
  by false false f q r = rw (rw f at q) r

nexts_are : (makers : List Ending) (path : List Place) (i : ℕ) (ws : List Word) → breaks (nexts_from makers path i ws) ≡ marks_from path i ws
unfolding breaks nexts_from marks_from
nexts_are makers path i [] = refl
nexts_are makers path i (w ∷ ws) = rw (next_is makers i path, nexts_are makers path (suc i) ws)

pub breaks_are_the_best : (g : Setting) (ws : List Word) → breaks (best_lines g ws) ≡ best_breaks g ws
unfolding breaks best_lines best_breaks
breaks_are_the_best g [] = refl
breaks_are_the_best g (w ∷ ws) = nexts_are (makers_of g (w ∷ ws)) (path_of g (w ∷ ws)) 1 ws

-- ---- the rounds of two words are kept

at_drop : (makers : List Ending) (i : ℕ) (x : Ending) (xs : List Ending) → x ∷ xs ≡ drop i makers → (x ≡ get_or makers i Paragraph) × (xs ≡ drop (suc i) makers)
at_drop [] zero x xs h = let l = ap length h in absurd (omega arith)
at_drop [] (suc i) x xs h = let l = ap length h in absurd (omega arith)
at_drop (m ∷ makers) zero x xs h = (ap (λ (l : List Ending). get_or l 0 Paragraph) h, ap (drop 1) h)
at_drop (m ∷ makers) (suc i) x xs h = at_drop makers i x xs h

-- the rest to come before the round of word i, and what is kept of the words e - 1 and e
pub record SoFar (makers : List Ending) (e i : ℕ) (left : List Ending) (one two : Ending) : Type 0 where
  pub rest : left ≡ drop i makers
  pub first : e ≤ i → one ≡ get_or makers (e - 1) Paragraph
  pub second : e < i → two ≡ get_or makers e Paragraph

module _ (makers : List Ending) (e i : ℕ) (x : Ending) (rest : List Ending) (first second : Ending) (so : SoFar makers e i (x ∷ rest) first second) where
  first_by : (y : Bool) → eqb (i + 1) e ≡ y → e ≤ i + 1 → cond y x first ≡ get_or makers (e - 1) Paragraph
  first_by true q h =
      let r = eqb-true (i + 1) e q in
      (at_drop makers i x rest so.rest).0 ∙ ap (λ (j : ℕ). get_or makers j Paragraph) (omega arith)
  first_by false q h = so.first (let r = eqb-false (i + 1) e q in omega arith)

  second_by : (y : Bool) → eqb i e ≡ y → e < i + 1 → cond y x second ≡ get_or makers e Paragraph
  second_by true q h = (at_drop makers i x rest so.rest).0 ∙ ap (λ (j : ℕ). get_or makers j Paragraph) (eqb-true i e q)
  second_by false q h = so.second (let r = eqb-false i e q in omega arith)

  pub so_next : (first' second' : Ending) → first' ≡ cond (eqb (i + 1) e) x first → second' ≡ cond (eqb i e) x second → SoFar makers e (i + 1) rest first' second'
  so_next first' second' f s = record {
    rest = rw (add-one i) (at_drop makers i x rest so.rest).1;
    first = λ h. f ∙ first_by (eqb (i + 1) e) refl h;
    second = λ h. s ∙ second_by (eqb i e) refl h;
  }

module _ (g : Setting) (table : List ℕ) (n : ℕ) (notes : List ℕ) where
  pub so_first : (e : ℕ) (b : Active) → 1 ≤ n → 1 ≤ e → b ≡ begin g (meaning notes (word_in table 0))
      → SoFar (makers_of g (words_in notes n table)) e 1 (makers_from g false 1 b (drop 1 (words_in notes n table))) Paragraph Paragraph
  unfolding makers_of begin
  so_first e b h k is =
      let view : words_in notes n table ≡ meaning notes (word_in table 0) ∷ drop 1 (words_in notes n table) = words_drop notes n table 0 h in
      rw (is, view) (record {
        rest = refl;
        first = λ l. (let z : e - 1 ≡ 0 = omega arith in rw z);
        second = λ l. absurd (omega arith);
      })

  pub makers_next : (sentence : Bool) (i : ℕ) (b c : Active) (x : Ending) (next : Bool) → i < n → c ≡ round g (eqb (i + 1) n) sentence i (meaning notes (word_in table i)) b
      → x ≡ maker g (eqb (i + 1) n) sentence i (meaning notes (word_in table i)) b
      → next ≡ sentence_behind (meaning notes (word_in table i)) (drop (i + 1) (words_in notes n table))
      → makers_from g sentence i b (drop i (words_in notes n table)) ≡ x ∷ makers_from g next (i + 1) c (drop (i + 1) (words_in notes n table))
  unfolding makers_from
  makers_next sentence i b c x next h e k f =
      rw (words_drop notes n table i h, e, k, f, last_is table n i notes h)
      (ap (λ (m : ℕ). maker g (is_last (drop (i + 1) (words_in notes n table))) sentence i (meaning notes (word_in table i)) b
      ∷ makers_from g (sentence_behind (meaning notes (word_in table i)) (drop (i + 1) (words_in notes n table))) m (round g (is_last (drop (i + 1) (words_in notes n table))) sentence i (meaning notes (word_in table i)) b) (drop (i + 1) (words_in notes n table))) (sym (add-one i)))

  pub so_turn : (sentence : Bool) (i : ℕ) (b c : Active) (x : Ending) (next : Bool) (e : ℕ) (first second first' second' : Ending) → i < n
      → c ≡ round g (eqb (i + 1) n) sentence i (meaning notes (word_in table i)) b
      → x ≡ maker g (eqb (i + 1) n) sentence i (meaning notes (word_in table i)) b
      → next ≡ sentence_behind (meaning notes (word_in table i)) (drop (i + 1) (words_in notes n table))
      → SoFar (makers_of g (words_in notes n table)) e i (makers_from g sentence i b (drop i (words_in notes n table))) first second
      → first' ≡ cond (eqb (i + 1) e) x first → second' ≡ cond (eqb i e) x second
      → SoFar (makers_of g (words_in notes n table)) e (i + 1) (makers_from g next (i + 1) c (drop (i + 1) (words_in notes n table))) first' second'
  so_turn sentence i b c x next e first second first' second' h is makes behind so f s =
      so_next (makers_of g (words_in notes n table)) e i x (makers_from g next (i + 1) c (drop (i + 1) (words_in notes n table))) first second
      (rw (makers_next sentence i b c x next h is makes behind) at so)
      first' second' f s

-- ---- why the line before word e ends

module _ (g : Setting) (n e : ℕ) (table : List ℕ) (t : Tables) (a : List ℕ) (r : AllTold) (told : AllToldIs g n e table t a r) (last : ℕ) (found : LeastIs r.st t a last)
    (words : 1 ≤ n) (some : 1 ≤ e) where
  path_of_law : (notes : List ℕ) → path_to t last ≡ path_of g (words_in notes n table)
  unfolding path_of begin
  path_of_law notes = rw (words_drop notes n table 0 words) (path_is g n table t a r.st told.rounds last found notes)

  pub ends_before : (b : Bool) (x : Ending) → b ≡ before_at e (path_to t last) → x ≡ cond b r.second r.first → e < n → (notes : List ℕ) → x ≡ ending_before g e (words_in notes n table)
  ends_before b x before is h notes = is ∙ rw (before, path_of_law notes, told.second notes h, told.first notes (omega arith))
