-- The marks of the path from the first least break are the definition's.
use mathlib.Core.Path.{◌≡◌, ap, ◌∙◌}
use mathlib.Core.Bool.{Bool, false}
use mathlib.Core.List.{List, [], ◌∷◌}
use Prim.Native.Nat.{ℕ, suc, ◌-◌, ◌≤◌, ◌<◌}
use native.Mathlib.Numerals.{add-one}
use native.Mathlib.Omega.{arith}
use lib.ListN.{length, get_or, drop, length-drop}
use lib.Seq.{slice}
use Rattle.lists.proofs.Remaining.{slice_here, slice_none}
use Rattle.records.specs.Word.{Word, meaning}
use Rattle.records.specs.Cited.Table.{word_in, words_in}
use Rattle.records.specs.Cited.Marks.{marks_in, MarkedUpTo}
use Rattle.records.proofs.Marks.{marks_length, marks_at}
use Rattle.records.proofs.Table.{words_drop, words_length}
use Rattle.spacing.specs.declared.Setting.{Setting}
use Rattle.knuth_plass.specs.declared.Standing.{Standing}
use Rattle.knuth_plass.specs.KnuthPlass.{Place, Break, Active, least, rounds_from, path_of, starts_line, marks_from, best_breaks}
use Rattle.knuth_plass.specs.Cited.Table.{Tables, path_to, seen, break_meant, Leads}
use Rattle.knuth_plass.specs.Cited.Round.{begin, RoundsAre, LeastIs, PathIs, Worked, BestAre}
use Rattle.knuth_plass.proofs.Filled.{filled_leads}
use Rattle.knuth_plass.proofs.Work.{worked_word, worked_beyond}

marks_are : (marks : List Bool) (n : ℕ) (path : List Place) (i : ℕ) (ws : List Word) → n ≤ length marks → length ws ≡ n - i
    → ((j : ℕ) → j < n → get_or marks j false ≡ starts_line j path) → slice i n marks ≡ marks_from path i ws
unfolding marks_from
marks_are marks n path i [] h l e = slice_none marks i n (omega arith)
marks_are marks n path i (w ∷ ws) h l e =
    rw (slice_here marks i n false (omega arith) h, e i (omega arith), add-one i) (ap (λ (bs : List Bool). starts_line i path ∷ bs) (marks_are marks n path (suc i) ws h (omega arith) e))

module _ (g : Setting) (n : ℕ) (table : List ℕ) (t : Tables) (a : List ℕ) (st : Standing) (rounds : RoundsAre g n table t a st) where
  module _ (last : ℕ) (found : LeastIs st t a last) where
    pub leads : Leads t last
    leads =
        let h = rounds.holds in
        let s = rounds.ready.filled.sized.few in
        filled_leads n st.size t rounds.ready.filled (omega arith) last found.within

    pub path_is : (notes : List ℕ) → path_to t last ≡ (least (rounds_from g false 1 (begin g (meaning notes (word_in table 0))) (drop 1 (words_in notes n table))).breaks).places
    unfolding break_meant seen
    path_is notes = ap (λ (b : Break). b.places) (found.is ∙ ap (λ (b : Active). least b.breaks) (rounds.is notes))

    pub path_least : 1 ≤ n → PathIs g n table t last
    unfolding path_of begin
    path_least some =
        let r = rounds.ready.few in
        let w = found.within in
        record { below = omega arith; leads = leads; is = λ notes. rw (words_drop notes n table 0 some) (path_is notes) }

pub best_are : (g : Setting) (n : ℕ) (table : List ℕ) (t : Tables) (last : ℕ) → PathIs g n table t last → (work new : List ℕ) → 1 ≤ n → Worked n table work
    → MarkedUpTo n work new (λ (j : ℕ). starts_line j (path_to t last)) → BestAre g n table new
unfolding best_breaks
best_are g n table t last path work new some worked m = record {
  breaks = λ notes.
      let l = words_length notes n table in
      let w = words_drop notes n table 0 some in
      rw w
      (rw (← w, ← path.is notes)
      (marks_are (marks_in n new) n (path_to t last) 1 (drop 1 (words_in notes n table)) (rw (marks_length new n) (omega arith)) (length-drop 1 (words_in notes n table) ∙ rw l)
      (λ j h. marks_at new n j false h ∙ m.marks j h)));
  first = λ notes. rw (← path.is notes) (m.marks 0 some);
  words = λ j h. m.words j h ∙ worked_word n table work worked j h;
  beyond = λ k h. m.beyond k (omega arith) ∙ worked_beyond n table work worked k h;
  sized = m.sized ∙ worked.sized;
}
