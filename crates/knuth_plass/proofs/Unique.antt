-- Two results that keep the promise of `best_breaks` have the same words and the same marks.
use mathlib.Core.Path.{◌≡◌, sym, ap, ◌∙◌}
use mathlib.Core.Bool.{Bool, false}
use mathlib.Core.List.{List, []}
use Prim.Native.Nat.{ℕ, zero, suc, ◌<◌}
use native.Mathlib.Omega.{arith}
use lib.ListN.{get_or, take}
use lib.Seq.{slice, get_or-take, get_or-drop}
use Rattle.records.specs.Cited.Table.{word_in}
use Rattle.records.specs.Cited.Marks.{mark_in, marks_in}
use Rattle.records.proofs.Marks.{marks_at}
use Rattle.spacing.specs.declared.Setting.{Setting}
use Rattle.knuth_plass.specs.Cited.Round.{BestAre}

-- an element of the part from word 1 on
behind_first : (n i : ℕ) (work : List ℕ) → suc i < n → get_or (slice 1 n (marks_in n work)) i false ≡ mark_in work (suc i)
behind_first n i work h =
    get_or-drop 1 (take n (marks_in n work)) i false ∙ ap (λ (k : ℕ). get_or (take n (marks_in n work)) k false) (omega arith) ∙ get_or-take n (marks_in n work) (suc i) false h ∙ marks_at work n (suc i) false h

module _ (g : Setting) (n : ℕ) (old new other : List ℕ) (h : BestAre g n old new) (k : BestAre g n old other) where
  pub best_unique : (j : ℕ) → j < n → mark_in new j ≡ mark_in other j
  best_unique zero l = h.first [] ∙ sym (k.first [])
  best_unique (suc i) l = sym (behind_first n i new l) ∙ ap (λ (m : List Bool). get_or m i false) (h.breaks [] ∙ sym (k.breaks [])) ∙ behind_first n i other l

  pub words_unique : (j : ℕ) → j < n → word_in new j ≡ word_in other j
  words_unique j l = h.words j l ∙ sym (k.words j l)
