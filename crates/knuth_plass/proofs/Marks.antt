-- The path as marks by word: a break sets the mark of the word that it starts a line with, and the rest of its path sets the others.
use mathlib.Core.Path.{◌≡◌, refl, sym, ap, ◌∙◌}
use mathlib.Core.Bool.{Bool, true, false, cond, ◌||◌, or-false, or-true, or_assoc}
use mathlib.Core.List.{List}
use Prim.Native.Nat.{ℕ, suc, ◌+◌, ◌≤◌, ◌<◌}
use native.Mathlib.Numerals.{add-one}
use native.Mathlib.Omega.{arith}
use borrow.Author.Tests.{eqb-false}
use lib.Dec.{eqb}
use Rattle.records.specs.Cited.Table.{Holds}
use Rattle.records.specs.Cited.Marks.{mark_in, with_mark, MarkedUpTo}
use Rattle.records.proofs.Marks.{up_to_none, up_to_set, up_to_as}
use Rattle.knuth_plass.specs.declared.Break.{Break as Record}
use Rattle.knuth_plass.specs.KnuthPlass.{Place, starts_line}
use Rattle.knuth_plass.specs.Cited.Table.{Tables, break_in, path_to, start_of, Leads}
use Rattle.knuth_plass.proofs.Path.{path_here, path_start}

-- ---- marks that are set one by one

-- the marks are what they are
abbrev pub Marking : ℕ → List ℕ → List ℕ → Type 0
Marking n old new = MarkedUpTo n old new (mark_in new)

module _ (n : ℕ) (old work new : List ℕ) (so_far : Marking n old work) where
  pub marking_next : (says : ℕ → Bool) → MarkedUpTo n work new says → Marking n old new
  marking_next says m = record {
    sized = m.sized ∙ so_far.sized;
    marks = λ j h. refl;
    words = λ j h. m.words j h ∙ so_far.words j h;
    beyond = λ k h. m.beyond k h ∙ so_far.beyond k h;
  }

  -- one mark more is clear
  pub cleared : (i : ℕ) → Holds n old → i < n → ((j : ℕ) → j < i → mark_in work j ≡ false) → new ≡ with_mark work i false → (j : ℕ) → j < i + 1 → mark_in new j ≡ false
  cleared i held here all put j h = rw put ((up_to_set so_far held i false here).marks j (omega arith) ∙ by (eqb i j) refl) where
    by : (x : Bool) → eqb i j ≡ x → cond x false (mark_in work j) ≡ false
    by true e = refl
    by false e = all j (let ne = eqb-false i j e in omega arith)

  pub marking_set : (i : ℕ) (b : Bool) → Holds n old → i < n → new ≡ with_mark work i b → Marking n old new
  marking_set i b held here put =
      let m : MarkedUpTo n old new (λ (j : ℕ). cond (eqb i j) b (mark_in work j)) = rw put (up_to_set so_far held i b here) in
      record { sized = m.sized; marks = λ j h. refl; words = m.words; beyond = m.beyond }

module _ (n at : ℕ) (work : List ℕ) where
  abbrev with : ℕ → Bool
  with j = mark_in work j || eqb at j

  or_cond : (x m : Bool) → cond x true m ≡ (m || x)
  or_cond true m = sym (or-true m)
  or_cond false m = sym (or-false m)

  pub marked : (new : List ℕ) → Holds n work → at < n → new ≡ with_mark work at true → MarkedUpTo n work new with
  marked new held h put = rw put (up_to_as (up_to_set (up_to_none n work) held at true h) held with (λ j k. or_cond (eqb at j) (mark_in work j)))

-- marks that were all clear, and then those of a path
pub marked_path : (n : ℕ) (work clear new : List ℕ) (path : List Place) → MarkedUpTo n work clear (λ (j : ℕ). false) → MarkedUpTo n clear new (λ (j : ℕ). mark_in clear j || starts_line j path)
    → MarkedUpTo n work new (λ (j : ℕ). starts_line j path)
marked_path n work clear new path k m = record {
  sized = m.sized ∙ k.sized;
  marks = λ j h. m.marks j h ∙ rw (k.marks j h);
  words = λ j h. m.words j h ∙ k.words j h;
  beyond = λ i h. m.beyond i h ∙ k.beyond i h;
}

-- ---- the path

start_is : (before : Bool) (word j : ℕ) → eqb (cond before word (word + 1)) j ≡ cond before (eqb word j) (eqb (suc word) j)
start_is true word j = refl
start_is false word j = rw add-one

module _ (t : Tables) (last at j : ℕ) (m : Bool) where
  -- what the marks and the rest of the path say of word j
  pub step_back : (m₁ : Bool) (b : Record) (s : ℕ) → Leads t last → 0 < at → at ≤ last → b ≡ break_in t at → s ≡ start_of b → m₁ ≡ (m || eqb s j)
      → (m₁ || starts_line j (path_to t b.previous)) ≡ (m || starts_line j (path_to t at))
  unfolding starts_line
  step_back m₁ b s leads some within e f g =
      rw (g, f, e, path_here t last at leads some within)
      (or_assoc m _ _ ∙ ap (λ (x : Bool). m || (x || starts_line j (path_to t (break_in t at).previous))) (start_is (break_in t at).before (break_in t at).word j))

  pub at_start : at ≤ 0 → (m || starts_line j (path_to t at)) ≡ m
  unfolding starts_line
  at_start h = rw (path_start t at h) (or-false m)
