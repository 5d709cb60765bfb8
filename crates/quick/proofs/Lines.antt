-- The lines of Quick with the way they ended: forgetting it gives Quick's breaks; one word at a time; the words of a table.
use mathlib.Core.Path.{◌≡◌, refl, sym, ap}
use mathlib.Core.Bool.{Bool, true, false, cond, ◌&&◌}
use mathlib.Core.List.{List, [], ◌∷◌}
use Prim.Native.Nat.{ℕ, zero, suc, ◌+◌, ◌-◌, ◌<◌, ◌≤◌}
use borrow.Author.Tests.{eqb-true, eqb-false, eq-eqb, ne_eqb, lt-ltb, le-ltb}
use lib.Dec.{ltb, eqb}
use lib.ListN.{get_or, drop}
use Rattle.lists.proofs.Views.{behind_first}
use Rattle.records.specs.declared.Word.{Word as Record}
use Rattle.records.specs.Word.{Word, meaning}
use Rattle.records.specs.Cited.Table.{word_in, words_in}
use Rattle.records.proofs.Table.{words_drop, words_end}
use Rattle.spacing.specs.Spacing.{gap_at, gap_width, added_space}
use Rattle.spacing.specs.declared.Setting.{Setting}
use Rattle.endings.specs.declared.Ending.{Ending}
use Rattle.endings.specs.declared.Ending.TheVariants.{Paragraph, Full}
use Rattle.endings.specs.Endings.{Next, goes_on, ended, breaks, endings}
use Rattle.quick.specs.Quick.{quick_from, quick_breaks}
use Rattle.quick.specs.QuickLines.{quick_lines_from, quick_lines}
use Rattle.quick.proofs.Laws.{reached}

module _ (g : Setting) where
  abbrev full_by : ℕ → Bool → Word → Ending
  full_by column punct w = Full column (gap_at g.tab column w) (added_space g.uniform w.new_line w.sentence_start punct) w.width

  -- ---- the breaks

  breaks_by : (b : Bool) (e : Ending) (xs ys : List Next) (us vs : List Bool) → breaks xs ≡ us → breaks ys ≡ vs
      → breaks (elim b as (λ x. List Next) [ true ↦ ended e ∷ xs | false ↦ goes_on ∷ ys ]) ≡ elim b as (λ x. List Bool) [ true ↦ true ∷ us | false ↦ false ∷ vs ]
  unfolding breaks
  breaks_by true e xs ys us vs h k = ap (λ (bs : List Bool). true ∷ bs) h
  breaks_by false e xs ys us vs h k = ap (λ (bs : List Bool). false ∷ bs) k

  breaks_from : (column : ℕ) (punct : Bool) (ws : List Word) → breaks (quick_lines_from g column punct ws) ≡ quick_from g column punct ws
  unfolding breaks quick_lines_from quick_from
  breaks_from column punct [] = refl
  breaks_from column punct (w ∷ ws) =
      breaks_by (ltb g.width (reached g column punct w)) (full_by column punct w) _ _ _ _ (breaks_from (g.indent + w.width) w.ends_punct ws) (breaks_from (reached g column punct w) w.ends_punct ws)

  pub breaks_are_quick's : (ws : List Word) → breaks (quick_lines g ws) ≡ quick_breaks g ws
  unfolding breaks quick_lines quick_breaks
  breaks_are_quick's [] = refl
  breaks_are_quick's (w ∷ ws) = breaks_from (g.first + w.width) false ws

  -- ---- why a line ends, one word at a time

  told_by : (b z : Bool) (left indent on : ℕ) (e : Ending) (punct : Bool) (ws : List Word) → eqb left 0 ≡ z
      → get_or (endings (elim b as (λ x. List Next) [ true ↦ ended e ∷ quick_lines_from g indent punct ws | false ↦ goes_on ∷ quick_lines_from g on punct ws ])) left Paragraph
      ≡ cond (b && z) e (get_or (endings (quick_lines_from g (cond b indent on) punct ws)) (cond b (left - 1) left) Paragraph)
  unfolding endings
  told_by true true left indent on e punct ws h = rw (eqb-true left 0 h)
  told_by true false left indent on e punct ws h = behind_first Paragraph e (endings (quick_lines_from g indent punct ws)) left (eqb-false left 0 h)
  told_by false true left indent on e punct ws h = refl
  told_by false false left indent on e punct ws h = refl

  told_cons : (left column : ℕ) (punct : Bool) (w : Word) (ws : List Word) → get_or (endings (quick_lines_from g column punct (w ∷ ws))) left Paragraph
      ≡ cond (ltb g.width (reached g column punct w) && eqb left 0) (full_by column punct w)
      (get_or (endings (quick_lines_from g (cond (ltb g.width (reached g column punct w)) (g.indent + w.width) (reached g column punct w)) w.ends_punct ws))
      (cond (ltb g.width (reached g column punct w)) (left - 1) left) Paragraph)
  unfolding quick_lines_from
  told_cons left column punct w ws = told_by (ltb g.width (reached g column punct w)) (eqb left 0) left (g.indent + w.width) (reached g column punct w) (full_by column punct w) w.ends_punct ws refl

  told_none : (left : ℕ) → get_or (Paragraph ∷ []) left Paragraph ≡ Paragraph
  told_none zero = refl
  told_none (suc left) = refl

-- ---- the words of a table

module _ (g : Setting) (notes table : List ℕ) (n : ℕ) where
  -- why the line ends that is so many lines after the one that is at a column before word i
  abbrev pub ending_from : ℕ → Bool → ℕ → ℕ → Ending
  ending_from column punct i left = get_or (endings (quick_lines_from g column punct (drop i (words_in notes n table)))) left Paragraph

  pub ending_first : (w : Record) (line : ℕ) → w ≡ word_in table 0 → 0 < n
      → ending_from (g.first + w.width) false 1 line ≡ get_or (endings (quick_lines g (words_in notes n table))) line Paragraph
  unfolding quick_lines meaning
  ending_first w line e h =
      let view : words_in notes n table ≡ meaning notes (word_in table 0) ∷ drop 1 (words_in notes n table) = words_drop notes n table 0 h in
      rw (e, view)

  pub ending_turn : (column : ℕ) (punct : Bool) (i left : ℕ) (w : Record) (r : ℕ) → w ≡ word_in table i → i < n
      → r ≡ column + gap_width g.tab column w.before w.after + added_space g.uniform w.first w.sentence punct + w.width
      → ending_from column punct i left
      ≡ cond (ltb g.width r && eqb left 0) (Full column (gap_width g.tab column w.before w.after) (added_space g.uniform w.first w.sentence punct) w.width)
      (ending_from (cond (ltb g.width r) (g.indent + w.width) r) w.punct (i + 1) (cond (ltb g.width r) (left - 1) left))
  unfolding meaning
  ending_turn column punct i left w r e h is = rw (words_drop notes n table i h, ← e, is) (told_cons g left column punct (meaning notes w) _)

  module _ (column : ℕ) (punct : Bool) (i left : ℕ) (w : Record) (r : ℕ) (e : w ≡ word_in table i) (h : i < n)
      (is : r ≡ column + gap_width g.tab column w.before w.after + added_space g.uniform w.first w.sentence punct + w.width) where
    -- it is the line that ends before this word
    pub ending_here : g.width < r → left ≡ 0 → Full column (gap_width g.tab column w.before w.after) (added_space g.uniform w.first w.sentence punct) w.width ≡ ending_from column punct i left
    ending_here over z = sym (rw (lt-ltb g.width r over, eq-eqb left 0 z) at (ending_turn column punct i left w r e h is))

    -- it is a line after that one
    pub ending_less : g.width < r → (left ≡ 0 → ⊥) → ending_from (g.indent + w.width) w.punct (i + 1) (left - 1) ≡ ending_from column punct i left
    ending_less over z = sym (rw (lt-ltb g.width r over, ne_eqb left 0 z) at (ending_turn column punct i left w r e h is))

    -- the line goes on
    pub ending_on : r ≤ g.width → ending_from r w.punct (i + 1) left ≡ ending_from column punct i left
    ending_on fits = sym (rw (le-ltb g.width r fits) at (ending_turn column punct i left w r e h is))

  pub ending_last : (column : ℕ) (punct : Bool) (i left : ℕ) → n ≤ i → Paragraph ≡ ending_from column punct i left
  unfolding quick_lines_from endings
  ending_last column punct i left h = rw (words_end notes n table i h) (sym (told_none g left))
