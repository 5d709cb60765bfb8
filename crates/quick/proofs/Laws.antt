-- Laws of the greedy breaker: the first word, one word more, the end; how far a column goes; what is in the marks at last.
use mathlib.Core.Path.{◌≡◌, refl, sym, ap, ◌∙◌}
use mathlib.Core.Bool.{Bool, true, false, cond}
use mathlib.Core.List.{List, [], ◌∷◌}
use Prim.Native.Nat.{ℕ, suc, ◌+◌, ◌-◌, ◌≤◌, ◌<◌, ◌^◌}
use native.Mathlib.Omega.{arith}
use borrow.Author.Tests.{ltb-false}
use lib.Dec.{ltb}
use lib.ListN.{length, drop, length-drop}
use Rattle.records.specs.declared.Word.{Word as Record}
use Rattle.records.specs.Word.{Word, meaning}
use Rattle.records.specs.Cited.Table.{word_in, words_in}
use Rattle.records.specs.Cited.Marks.{with_mark, with_marks}
use Rattle.records.proofs.Table.{words_drop, words_end, words_length}
use Rattle.spacing.specs.Spacing.{gap_at, gap_width, added_space}
use Rattle.spacing.specs.declared.Setting.{Setting}
use Rattle.quick.specs.Quick.{quick_from, quick_breaks}

-- ---- the definition, one word at a time

module _ (g : Setting) where
  both : (b : Bool) (indent reached : ℕ) (punct : Bool) (ws : List Word)
      → elim b as (λ x. List Bool) [ true ↦ true ∷ quick_from g indent punct ws | false ↦ false ∷ quick_from g reached punct ws ]
      ≡ b ∷ quick_from g (cond b indent reached) punct ws
  both true indent reached punct ws = refl
  both false indent reached punct ws = refl

  abbrev pub reached : ℕ → Bool → Word → ℕ
  reached column punct w = column + gap_at g.tab column w + added_space g.uniform w.new_line w.sentence_start punct + w.width

  quick_cons : (column : ℕ) (punct : Bool) (w : Word) (ws : List Word) → quick_from g column punct (w ∷ ws)
      ≡ ltb g.width (reached column punct w)
      ∷ quick_from g (cond (ltb g.width (reached column punct w)) (g.indent + w.width) (reached column punct w)) w.ends_punct ws
  unfolding quick_from
  quick_cons column punct w ws = both (ltb g.width (reached column punct w)) (g.indent + w.width) (reached column punct w) w.ends_punct ws

  quick_length : (column : ℕ) (punct : Bool) (ws : List Word) → length (quick_from g column punct ws) ≡ length ws
  unfolding quick_from
  quick_length column punct [] = refl
  quick_length column punct (w ∷ ws) = ap length (quick_cons column punct w ws) ∙ ap suc (quick_length (cond (ltb g.width (reached column punct w)) (g.indent + w.width) (reached column punct w)) w.ends_punct ws)

-- ---- the words of a table

module _ (g : Setting) (notes table : List ℕ) (n : ℕ) where
  -- the breaks from word i on
  abbrev pub breaks_from : ℕ → Bool → ℕ → List Bool
  breaks_from column punct i = quick_from g column punct (drop i (words_in notes n table))

  pub breaks_first : (w : Record) → w ≡ word_in table 0 → 0 < n → quick_breaks g (words_in notes n table) ≡ breaks_from (g.first + w.width) false 1
  unfolding quick_breaks meaning
  breaks_first w e h =
      let view : words_in notes n table ≡ meaning notes (word_in table 0) ∷ drop 1 (words_in notes n table) = words_drop notes n table 0 h in
      rw (e, view)

  pub breaks_turn : (column : ℕ) (punct : Bool) (i : ℕ) (w : Record) (r : ℕ) → w ≡ word_in table i → i < n
      → r ≡ column + gap_width g.tab column w.before w.after + added_space g.uniform w.first w.sentence punct + w.width
      → breaks_from column punct i ≡ ltb g.width r ∷ breaks_from (cond (ltb g.width r) (g.indent + w.width) r) w.punct (i + 1)
  unfolding meaning
  breaks_turn column punct i w r e h is = rw (words_drop notes n table i h, ← e, is) (quick_cons g column punct (meaning notes w) _)

  breaks_end : (column : ℕ) (punct : Bool) (i : ℕ) → n ≤ i → breaks_from column punct i ≡ []
  unfolding quick_from
  breaks_end column punct i h = rw (words_end notes n table i h)

  pub breaks_length : 0 < n → length (quick_breaks g (words_in notes n table)) ≡ n - 1
  breaks_length h = ap length (breaks_first (word_in table 0) refl h) ∙ quick_length g _ false _ ∙ length-drop 1 (words_in notes n table) ∙ rw words_length

-- a word that fits ends within the width; one that does not starts a line
pub column_most : (fresh : Bool) (width start reached : ℕ) → fresh ≡ ltb width reached → width < 2 ^ 32 → start < 2 ^ 33 → cond fresh start reached < 2 ^ 34
column_most true width start reached e h k = omega arith
column_most false width start reached e h k = let l = ltb-false width reached (sym e) in omega arith

-- ---- the marks

-- a turn stores the first of the breaks that are left
module _ (g : Setting) (notes table : List ℕ) (n : ℕ) where
  pub turn : (column : ℕ) (punct : Bool) (i : ℕ) (w : Record) (r column' : ℕ) (now whole : List ℕ) → w ≡ word_in table i → i < n
      → r ≡ column + gap_width g.tab column w.before w.after + added_space g.uniform w.first w.sentence punct + w.width
      → column' ≡ cond (ltb g.width r) (g.indent + w.width) r
      → with_marks now i (breaks_from g notes table n column punct i) ≡ whole
      → with_marks (with_mark now i (ltb g.width r)) (i + 1) (breaks_from g notes table n column' w.punct (i + 1)) ≡ whole
  unfolding with_marks
  turn column punct i w r column' now whole e h is behind l =
      rw behind (rw (breaks_turn g notes table n column punct i w r e h is) at l)

  pub last : (column : ℕ) (punct : Bool) (i : ℕ) (now whole : List ℕ) → n ≤ i → with_marks now i (breaks_from g notes table n column punct i) ≡ whole → now ≡ whole
  unfolding with_marks
  last column punct i now whole h l = rw (breaks_end g notes table n column punct i h) at l
