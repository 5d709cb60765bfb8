-- Word by word the same is sent as line by line, and as many lines `--` are made.
use mathlib.Core.Path.{◌≡◌, refl, sym, ap, ◌∙◌}
use mathlib.Core.Bool.{Bool, true, false, cond, ◌&&◌, and-false, false≢true}
use mathlib.Core.List.{List, [], ◌∷◌, ◌++◌, append_assoc, append-nil}
use Prim.Native.Nat.{ℕ, zero, suc, ◌+◌, ◌*◌, ◌≤◌, ◌<◌}
use native.Mathlib.Nat.{suc-mul}
use native.Mathlib.Omega.{arith}
use lib.Dec.{eqb}
use lib.ListN.{length, replicate, length-append, length-replicate}
use borrow.Author.Tests.{eqb-true, ne_eqb}
use Rattle.lists.specs.Runs.{joined, begins}
use Rattle.lists.proofs.Parts.{joined_nil, joined_cons}
use Rattle.lists.proofs.Joins.{append_inner}
use Rattle.records.specs.Word.{Word}
use Rattle.spacing.specs.Spacing.{added_space}
use Rattle.spacing.proofs.Added.{added_some}
use Rattle.spacing.proofs.Laws.{added_most}
use Rattle.output.specs.Emission.{space_before}
use Rattle.output.specs.Cited.Bound.{bulk}
use Rattle.output.specs.Cited.Writers.{placed}
use Rattle.pieces.specs.Pieces.{from_word}
use Rattle.unflow.specs.Flowed.{space, cr_lf, dashes, needs_space, stuffing, is_dashes, ends_in_space}
use Rattle.unflow.proofs.Lines.{stuffing_soft, ends_append}
use Rattle.unflow.proofs.Texts.{stuffing_most}
use Rattle.output.specs.EmittedLines.{lines_from}
use Rattle.flow.specs.Flow.{broken_into, is_dashed, softened, all_but_last, dashes_among, sent}
use Rattle.flow.specs.Cited.Words.{line_end, space_if, some, opened, next_sent, next_dashed, rest_sent, rest_dashes, words_sent, words_dashes, most_sent}
use Rattle.flow.proofs.Carries.{lines_some}

-- ---- a line that goes on after a space

pub not_three : (xs : List ℕ) → (length xs ≡ 3 → ⊥) → is_dashes xs ≡ false
unfolding is_dashes
not_three xs h = rw (ne_eqb (length xs) 3 h) (and-false (begins dashes xs))

-- it is not `--`
not_dashed : (line rest : List ℕ) → is_dashed (line ++ space ∷ rest) ≡ false
unfolding is_dashed is_dashes begins
not_dashed [] rest = refl
not_dashed (a ∷ []) rest = go (eqb 0x2D a)
  where
    go : (b : Bool) → (elim b as (λ z. Bool) [ true ↦ false | false ↦ false ] && eqb (length (a ∷ space ∷ (rest ++ space ∷ []))) 3) ≡ false
    go true = refl
    go false = refl
not_dashed (a ∷ b ∷ line) rest = not_three ((a ∷ b ∷ (line ++ space ∷ rest)) ++ space ∷ []) (λ e. omega (arith, e, length-append (line ++ space ∷ rest) (space ∷ []), length-append line (space ∷ rest)))

-- and it is stuffed or not, whatever is after the space
soft_stuffing : (line rest : List ℕ) → stuffing (line ++ space ∷ rest) ≡ stuffing (line ++ space ∷ [])
unfolding ends_in_space
soft_stuffing line rest =
    ap stuffing (sym (append_assoc line (space ∷ []) rest))
    ∙ stuffing_soft (line ++ space ∷ []) rest (ends_append line (space ∷ []) (omega arith))

-- what is before a word that goes on its line begins with a space
space_first : (punct : Bool) (w : Word) → (rest : List ℕ) × (space_before true punct w ≡ space ∷ rest)
unfolding space_before
space_first punct w = go _ (added_some true w.new_line w.sentence_start punct refl)
  where
    go : (n : ℕ) → 0 < n → (rest : List ℕ) × (replicate n 32 ++ w.blanks ≡ space ∷ rest)
    go zero h = absurd (omega arith)
    go (suc n) h = (replicate n 32 ++ w.blanks, refl)

-- ---- a line `--` needs no space

dashed_stuffing : (line : List ℕ) → is_dashed line ≡ true → stuffing line ≡ stuffing (line ++ space ∷ [])
unfolding is_dashed is_dashes begins stuffing needs_space from_word
dashed_stuffing [] h = absurd (false≢true h)
dashed_stuffing (a ∷ []) h = absurd (false≢true (sym (not_three (a ∷ space ∷ []) (λ e. omega (arith, e))) ∙ h))
dashed_stuffing (a ∷ b ∷ []) h = go (eqb 0x2D a) refl h
  where
    go : (t : Bool) → eqb 0x2D a ≡ t → (elim t as (λ z. Bool) [ true ↦ begins (0x2D ∷ space ∷ []) (b ∷ space ∷ []) | false ↦ false ] && eqb (length (a ∷ b ∷ space ∷ [])) 3) ≡ true → stuffing (a ∷ b ∷ []) ≡ stuffing (a ∷ b ∷ space ∷ [])
    go true e k = rw (← eqb-true 0x2D a e)
    go false e k = absurd (false≢true k)
dashed_stuffing (a ∷ b ∷ c ∷ line) h = absurd (false≢true (sym (not_three ((a ∷ b ∷ c ∷ line) ++ space ∷ []) (λ e. omega (arith, e, length-append line (space ∷ [])))) ∙ h))

pub one_most : (t : Bool) → cond {A = ℕ} t 1 0 ≤ 1
one_most true = omega arith
one_most false = omega arith

-- ---- a line but the last, as it is sent

soft_sent : (line rest : List ℕ) → sent (softened line) ++ rest ≡ stuffing (line ++ space ∷ []) ++ (line ++ (line_end (is_dashed line) ++ rest))
unfolding sent softened line_end
soft_sent line rest = go (is_dashed line) refl
  where
    go : (t : Bool) → is_dashed line ≡ t
        → (stuffing (cond t line (line ++ space ∷ [])) ++ (cond t line (line ++ space ∷ []) ++ cr_lf)) ++ rest ≡ stuffing (line ++ space ∷ []) ++ (line ++ (cond t cr_lf (space ∷ cr_lf) ++ rest))
    go true e = ap (λ (s : List ℕ). (s ++ (line ++ cr_lf)) ++ rest) (dashed_stuffing line e) ∙ append_inner (stuffing (line ++ space ∷ [])) line cr_lf rest
    go false e = ap (λ (x : List ℕ). (stuffing (line ++ space ∷ []) ++ x) ++ rest) (append_assoc line (space ∷ []) cr_lf) ∙ append_inner (stuffing (line ++ space ∷ [])) line (space ∷ cr_lf) rest

one_more : (line : List ℕ) (lines : List (List ℕ)) → 0 < length lines → all_but_last (line ∷ lines) ≡ softened line ∷ all_but_last lines
unfolding all_but_last
one_more line [] h = absurd (omega arith)
one_more line (next ∷ lines) h = refl

dashes_more : (line : List ℕ) (lines : List (List ℕ)) → 0 < length lines → dashes_among (line ∷ lines) ≡ cond (is_dashed line) 1 0 + dashes_among lines
unfolding dashes_among
dashes_more line [] h = absurd (omega arith)
dashes_more line (next ∷ lines) h = refl

-- ---- the last

last_sent : (line : List ℕ) → joined sent (all_but_last (line ∷ [])) ≡ stuffing (line ++ []) ++ (line ++ cr_lf)
unfolding all_but_last sent
last_sent line = rw (joined_cons sent line [], joined_nil sent, append-nil line) (append-nil (stuffing line ++ (line ++ cr_lf)))

last_dashes : (line : List ℕ) → dashes_among (line ∷ []) ≡ 0
unfolding dashes_among
last_dashes line = refl

-- ---- the words

module _ (indent : List ℕ) where
  -- a word that goes on the line
  on : (line : List ℕ) (punct dashed more : Bool) (w : Word) (tail rest : List ℕ)
      → stuffing ((line ++ (space_before true punct w ++ w.text)) ++ tail) ++ ((line ++ (space_before true punct w ++ w.text)) ++ rest)
      ≡ stuffing (line ++ space ∷ []) ++ (line ++ (next_sent false (added_space true w.new_line w.sentence_start punct) dashed indent more w ++ rest))
  unfolding next_sent placed space_before
  on line punct dashed more w tail rest =
      let f = space_first punct w in
      let a : (line ++ (space_before true punct w ++ w.text)) ++ tail ≡ line ++ space ∷ (f.0 ++ (w.text ++ tail)) = rw f.1 (simp append_assoc) in
      ap (λ (s : List ℕ). s ++ ((line ++ (space_before true punct w ++ w.text)) ++ rest)) (ap stuffing a ∙ soft_stuffing line (f.0 ++ (w.text ++ tail)))
      ∙ ap (λ (x : List ℕ). stuffing (line ++ space ∷ []) ++ x) (append_assoc line (space_before true punct w ++ w.text) rest)

  on_dashed : (line : List ℕ) (punct : Bool) (w : Word) → is_dashed (line ++ (space_before true punct w ++ w.text)) ≡ false
  on_dashed line punct w = let f = space_first punct w in rw f.1 (not_dashed line (f.0 ++ w.text))

  -- a word that begins a line
  off : (line : List ℕ) (added : ℕ) (more : Bool) (w : Word) (rest : List ℕ)
      → sent (softened line) ++ (stuffing ((indent ++ w.text) ++ space_if more) ++ ((indent ++ w.text) ++ rest))
      ≡ stuffing (line ++ space ∷ []) ++ (line ++ (next_sent true added (is_dashed line) indent more w ++ rest))
  unfolding next_sent opened
  off line added more w rest =
      soft_sent line _ ∙ ap (λ (x : List ℕ). stuffing (line ++ space ∷ []) ++ (line ++ x)) (sym (append_inner (line_end (is_dashed line)) (stuffing ((indent ++ w.text) ++ space_if more)) (indent ++ w.text) rest))

  from_sent : (line : List ℕ) (punct : Bool) (breaks : List Bool) (ws : List Word)
      → joined sent (all_but_last (lines_from true indent line punct breaks ws)) ≡ stuffing (line ++ space_if (some ws)) ++ (line ++ rest_sent indent (is_dashed line) punct breaks ws)
  unfolding lines_from rest_sent next_dashed
  from_sent line punct breaks [] = last_sent line
  from_sent line punct [] (w ∷ ws) =
      from_sent (line ++ (space_before true punct w ++ w.text)) w.ends_punct [] ws
      ∙ rw (on_dashed line punct w) (on line punct (is_dashed line) (some ws) w (space_if (some ws)) (rest_sent indent false w.ends_punct [] ws))
  from_sent line punct (true ∷ bs) (w ∷ ws) =
      ap (joined sent) (one_more line (lines_from true indent (indent ++ w.text) w.ends_punct bs ws) (lines_some true [] indent (indent ++ w.text) w.ends_punct bs ws))
      ∙ joined_cons sent (softened line) (all_but_last (lines_from true indent (indent ++ w.text) w.ends_punct bs ws))
      ∙ ap (λ (x : List ℕ). sent (softened line) ++ x) (from_sent (indent ++ w.text) w.ends_punct bs ws)
      ∙ off line (added_space true w.new_line w.sentence_start punct) (some ws) w (rest_sent indent (is_dashed (indent ++ w.text)) w.ends_punct bs ws)
  from_sent line punct (false ∷ bs) (w ∷ ws) =
      from_sent (line ++ (space_before true punct w ++ w.text)) w.ends_punct bs ws
      ∙ rw (on_dashed line punct w) (on line punct (is_dashed line) (some ws) w (space_if (some ws)) (rest_sent indent false w.ends_punct bs ws))

  from_dashes : (line : List ℕ) (punct : Bool) (breaks : List Bool) (ws : List Word) → dashes_among (lines_from true indent line punct breaks ws) ≡ rest_dashes indent (is_dashed line) breaks ws
  unfolding lines_from rest_dashes next_dashed
  from_dashes line punct breaks [] = last_dashes line
  from_dashes line punct [] (w ∷ ws) = from_dashes (line ++ (space_before true punct w ++ w.text)) w.ends_punct [] ws ∙ ap (λ (d : Bool). rest_dashes indent d [] ws) (on_dashed line punct w)
  from_dashes line punct (true ∷ bs) (w ∷ ws) =
      dashes_more line (lines_from true indent (indent ++ w.text) w.ends_punct bs ws) (lines_some true [] indent (indent ++ w.text) w.ends_punct bs ws)
      ∙ ap (λ (n : ℕ). cond (is_dashed line) 1 0 + n) (from_dashes (indent ++ w.text) w.ends_punct bs ws)
  from_dashes line punct (false ∷ bs) (w ∷ ws) = from_dashes (line ++ (space_before true punct w ++ w.text)) w.ends_punct bs ws ∙ rw (on_dashed line punct w) (omega arith)

  pub words_sent_law : (first : List ℕ) (breaks : List Bool) (ws : List Word) → 0 < length ws → joined sent (all_but_last (broken_into first indent breaks ws)) ≡ words_sent first indent breaks ws
  unfolding broken_into words_sent opened
  words_sent_law first breaks [] h = absurd (omega arith)
  words_sent_law first breaks (w ∷ ws) h =
      from_sent (first ++ w.text) false breaks ws
      ∙ sym (append_assoc (stuffing ((first ++ w.text) ++ space_if (some ws))) (first ++ w.text) (rest_sent indent (is_dashed (first ++ w.text)) false breaks ws))

  pub words_dashes_law : (first : List ℕ) (breaks : List Bool) (ws : List Word) → 0 < length ws → dashes_among (broken_into first indent breaks ws) ≡ words_dashes first indent breaks ws
  unfolding broken_into words_dashes
  words_dashes_law first breaks [] h = absurd (omega arith)
  words_dashes_law first breaks (w ∷ ws) h = from_dashes (first ++ w.text) false breaks ws

-- ---- how long it gets

end_most : (dashed : Bool) → length (line_end dashed) ≤ 3
unfolding line_end
end_most true = omega arith
end_most false = omega arith

opened_most : (more : Bool) (line : List ℕ) → length (opened more line) ≤ length line + 1
unfolding opened
opened_most more line = let s = stuffing_most (line ++ space_if more) in rw length-append (omega arith)

next_most : (fresh : Bool) (added : ℕ) (dashed : Bool) (indent : List ℕ) (more : Bool) (w : Word) → added ≤ 2
    → length (next_sent fresh added dashed indent more w) ≤ length w.blanks + length w.text + length indent + 4
unfolding next_sent placed
next_most true added dashed indent more w h =
    omega (arith, length-append (line_end dashed) (opened more (indent ++ w.text)), end_most dashed, opened_most more (indent ++ w.text), length-append indent w.text)
next_most false added dashed indent more w h =
    omega (arith, h, length-append (replicate added 32 ++ w.blanks) w.text, length-append (replicate added 32) w.blanks, length-replicate {A = ℕ} added 32)

module _ (indent : List ℕ) where
  rest_most : (dashed punct : Bool) (breaks : List Bool) (ws : List Word) → length (rest_sent indent dashed punct breaks ws) ≤ bulk ws + length ws * (length indent + 4) + 2
  unfolding rest_sent bulk
  rest_most dashed punct breaks [] = omega arith
  rest_most dashed punct [] (w ∷ ws) =
      let r = rest_most false w.ends_punct [] ws in
      let n = next_most false (added_space true w.new_line w.sentence_start punct) dashed indent (some ws) w (added_most true w.new_line w.sentence_start punct) in
      rw (length-append, suc-mul) (omega arith)
  rest_most dashed punct (b ∷ bs) (w ∷ ws) =
      let r = rest_most (next_dashed b indent w) w.ends_punct bs ws in
      let n = next_most b (added_space true w.new_line w.sentence_start punct) dashed indent (some ws) w (added_most true w.new_line w.sentence_start punct) in
      rw (length-append, suc-mul) (omega arith)

  pub sent_most : (first : List ℕ) (breaks : List Bool) (ws : List Word) → length (words_sent first indent breaks ws) ≤ most_sent first indent ws
  unfolding words_sent bulk
  sent_most first breaks [] = omega arith
  sent_most first breaks (w ∷ ws) =
      let r = rest_most (is_dashed (first ++ w.text)) false breaks ws in
      let o = opened_most (some ws) (first ++ w.text) in
      let l = length-append first w.text in
      rw (length-append, suc-mul) (omega arith)

  dashes_few : (dashed : Bool) (breaks : List Bool) (ws : List Word) → rest_dashes indent dashed breaks ws ≤ length ws
  unfolding rest_dashes
  dashes_few dashed breaks [] = omega arith
  dashes_few dashed [] (w ∷ ws) = let r = dashes_few false [] ws in omega arith
  dashes_few dashed (b ∷ bs) (w ∷ ws) = let r = dashes_few (next_dashed b indent w) bs ws in let o = one_most (b && dashed) in omega arith

  pub words_dashes_few : (first : List ℕ) (breaks : List Bool) (ws : List Word) → words_dashes first indent breaks ws ≤ length ws
  unfolding words_dashes
  words_dashes_few first breaks [] = omega arith
  words_dashes_few first breaks (w ∷ ws) = let r = dashes_few (is_dashed (first ++ w.text)) breaks ws in omega arith
