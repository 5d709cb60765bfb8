-- The words of a paragraph, in what comes back of it: each once and in order.
use mathlib.Core.Path.{◌≡◌, refl, sym, ap, ◌∙◌}
use mathlib.Core.Bool.{Bool, true, false}
use mathlib.Core.List.{List, [], ◌∷◌, ◌++◌, append_assoc, append-nil}
use mathlib.Core.Logic.{◌⊎◌, inl, inr}
use Prim.Native.Nat.{ℕ, zero, suc, ◌<◌}
use native.Mathlib.Omega.{arith}
use lib.Dec.{eqb}
use lib.ListN.{length, replicate, length-append}
use Rattle.lists.specs.Runs.{every}
use Rattle.lists.specs.Theorems.All.{All}
use Rattle.lists.proofs.Parts.{every_cons}
use Rattle.lists.proofs.All.{all_append}
use Rattle.lists.proofs.Joins.{append_inner}
use Rattle.text.proofs.Blanks.{blanks_spaces}
use Rattle.records.specs.Word.{Word}
use Rattle.spacing.specs.Spacing.{added_space}
use Rattle.spacing.proofs.Added.{added_some}
use Rattle.words.proofs.Order.{Whole}
use Rattle.output.specs.Emission.{space_before}
use Rattle.output.proofs.Order.{space_some}
use Rattle.unflow.specs.Flowed.{space}
use Rattle.output.specs.EmittedLines.{lines_from}
use Rattle.flow.specs.Flow.{broken_into, is_dashed}
use Rattle.flow.specs.Theorems.ReadBack.{back_from, back, spelt, Between, Spells, Carry}

-- ---- a word more

spelt_more : (ss : List (List ℕ)) (ws : List Word) (s : List ℕ) (w : Word) → length ss ≡ length ws → spelt (ss ++ s ∷ []) (ws ++ w ∷ []) ≡ spelt ss ws ++ (s ++ w.text)
unfolding spelt
spelt_more [] [] s w h = ap (λ (l : List ℕ). s ++ l) (append-nil w.text)
spelt_more [] (v ∷ ws) s w h = absurd (omega arith)
spelt_more (r ∷ ss) [] s w h = absurd (omega arith)
spelt_more (r ∷ ss) (v ∷ ws) s w h = ap (λ (l : List ℕ). r ++ (v.text ++ l)) (spelt_more ss ws s w (omega arith)) ∙ sym (append_inner r v.text (spelt ss ws) (s ++ w.text))

module _ (glue : Bool) (first indent : List ℕ) where
  spells_one : (front : List ℕ) (w : Word) → (front ≡ first) ⊎ (front ≡ indent) → Spells glue first indent (w ∷ []) (front ++ w.text)
  unfolding spelt
  spells_one front w h = record { front = front; between = []; indented = h; one_less = refl; each = tt; is = ap (λ (l : List ℕ). front ++ l) (sym (append-nil w.text)) }

  spells_more : {ws : List Word} {text : List ℕ} (s : List ℕ) (w : Word) → Spells glue first indent ws text → Between glue indent s → Spells glue first indent (ws ++ w ∷ []) (text ++ (s ++ w.text))
  spells_more {ws} {text} s w p b = record {
    front = p.front;
    between = p.between ++ s ∷ [];
    indented = p.indented;
    one_less = omega (arith, p.one_less, length-append ws (w ∷ []), length-append p.between (s ∷ []));
    each = all_append (Between glue indent) p.between (s ∷ []) p.each (b, tt);
    is = rw p.is (sym (spelt_more (p.front ∷ p.between) ws s w (sym p.one_less)));
  }

  -- ---- what is before a word that goes on its line

  -- spaces among blanks are no U+00A0
  spaces_other : (n : ℕ) (codes : List ℕ) → 0 < n → every (λ c. eqb c 0xA0) (replicate n 32 ++ codes) ≡ false
  spaces_other zero codes h = absurd (omega arith)
  spaces_other (suc n) codes h = every_cons (λ c. eqb c 0xA0) 32 (replicate n 32 ++ codes)

  before_blank : (punct : Bool) (w : Word) → Whole glue true w → Between glue indent (space_before true punct w)
  unfolding space_before
  before_blank punct w h =
      let n = added_space true w.new_line w.sentence_start punct in
      inl (record {
        codes = replicate n 32 ++ h.codes;
        blanks = blanks_spaces n h.codes w.blanks h.blanks;
        some = space_some true punct w h.gap;
        other = λ g. spaces_other n h.codes (added_some true w.new_line w.sentence_start punct refl);
      })

  -- ---- line by line: after `pre` stands the line so far, and both spell the words so far

  abbrev back_as : List ℕ → List (List ℕ) → List (List ℕ)
  back_as pre [] = []
  back_as pre (line ∷ lines) = back_from (pre ++ line) line lines

  back_step : (pre line : List ℕ) (lines : List (List ℕ)) → 0 < length lines
      → back_as pre (line ∷ lines) ≡ elim (is_dashed line) as (λ z. List (List ℕ)) [ true ↦ (pre ++ line) ∷ back_as [] lines | false ↦ back_as ((pre ++ line) ++ space ∷ []) lines ]
  unfolding back_from
  back_step pre line [] h = absurd (omega arith)
  back_step pre line (next ∷ lines) h =
      ap (λ (t : List ℕ). elim (is_dashed line) as (λ z. List (List ℕ)) [ true ↦ (pre ++ line) ∷ back_from next next lines | false ↦ back_from t next lines ])
      (sym (append_assoc (pre ++ line) (space ∷ []) next))

  pub lines_some : (line : List ℕ) (punct : Bool) (breaks : List Bool) (ws : List Word) → 0 < length (lines_from true indent line punct breaks ws)
  unfolding lines_from
  lines_some line punct breaks [] = omega arith
  lines_some line punct [] (w ∷ ws) = lines_some (line ++ (space_before true punct w ++ w.text)) w.ends_punct [] ws
  lines_some line punct (true ∷ bs) (w ∷ ws) = omega arith
  lines_some line punct (false ∷ bs) (w ∷ ws) = lines_some (line ++ (space_before true punct w ++ w.text)) w.ends_punct bs ws

  carried : (pre line : List ℕ) (here : List Word) (punct : Bool) (breaks : List Bool) (ws : List Word) → All (Whole glue true) ws
      → Spells glue first indent here (pre ++ line) → Carry glue first indent (here ++ ws) (back_as pre (lines_from true indent line punct breaks ws))
  unfolding lines_from back_from
  carried pre line here punct breaks [] a s = (here, [], refl, s, refl)
  carried pre line here punct [] (w ∷ ws) a s =
      rw (append_assoc here (w ∷ []) ws) at
      (carried pre (line ++ (space_before true punct w ++ w.text)) (here ++ w ∷ []) w.ends_punct [] ws a.1
      (rw (append_assoc pre line (space_before true punct w ++ w.text)) at (spells_more (space_before true punct w) w s (before_blank punct w a.0))))
  carried pre line here punct (true ∷ bs) (w ∷ ws) a s =
      rw (back_step pre line (lines_from true indent (indent ++ w.text) w.ends_punct bs ws) (lines_some (indent ++ w.text) w.ends_punct bs ws))
      (go (is_dashed line)
      (carried [] (indent ++ w.text) (w ∷ []) w.ends_punct bs ws a.1 (spells_one indent w (inr refl)))
      (rw (append_assoc here (w ∷ []) ws) at
      (carried ((pre ++ line) ++ space ∷ []) (indent ++ w.text) (here ++ w ∷ []) w.ends_punct bs ws a.1
      (rw (append_assoc (pre ++ line) (space ∷ []) (indent ++ w.text)) (spells_more (space ∷ indent) w s (inr refl))))))
    where
      ls : List (List ℕ)
      ls = lines_from true indent (indent ++ w.text) w.ends_punct bs ws

      go : (b : Bool) → Carry glue first indent (w ∷ ws) (back_as [] ls) → Carry glue first indent (here ++ w ∷ ws) (back_as ((pre ++ line) ++ space ∷ []) ls)
          → Carry glue first indent (here ++ w ∷ ws) (elim b as (λ z. List (List ℕ)) [ true ↦ (pre ++ line) ∷ back_as [] ls | false ↦ back_as ((pre ++ line) ++ space ∷ []) ls ])
      go true off on = (here, w ∷ ws, refl, s, off)
      go false off on = on
  carried pre line here punct (false ∷ bs) (w ∷ ws) a s =
      rw (append_assoc here (w ∷ []) ws) at
      (carried pre (line ++ (space_before true punct w ++ w.text)) (here ++ w ∷ []) w.ends_punct bs ws a.1
      (rw (append_assoc pre line (space_before true punct w ++ w.text)) at (spells_more (space_before true punct w) w s (before_blank punct w a.0))))

  back_as_line : (ls : List (List ℕ)) → back ls ≡ back_as [] ls
  unfolding back
  back_as_line [] = refl
  back_as_line (l ∷ ls) = refl

  pub words_carried : (breaks : List Bool) (ws : List Word) → All (Whole glue true) ws → Carry glue first indent ws (back (broken_into first indent breaks ws))
  unfolding broken_into
  words_carried breaks [] a = rw (back_as_line []) refl
  words_carried breaks (w ∷ ws) a = rw back_as_line (carried [] (first ++ w.text) (w ∷ []) false breaks ws a.1 (spells_one first w (inl refl)))
