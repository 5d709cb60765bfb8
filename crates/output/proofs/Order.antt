-- Whatever the breaks, the words are emitted in order and each once: between two neighbours spaces and blanks, or a line feed and the indent.
use mathlib.Core.Path.{◌≡◌, refl, ap}
use mathlib.Core.Bool.{Bool, true, false}
use mathlib.Core.List.{List, [], ◌∷◌, ◌++◌}
use Prim.Native.Nat.{ℕ, suc, ◌+◌, ◌<◌}
use native.Mathlib.Omega.{arith}
use lib.ListN.{length, length-append, length-replicate}
use Rattle.lists.specs.Theorems.All.{All}
use Rattle.records.specs.Word.{Word}
use Rattle.spacing.specs.Spacing.{added_space}
use Rattle.spacing.proofs.Added.{added_some}
use Rattle.output.specs.Emission.{line_feed, space_before, emit_rest, emit}
use Rattle.output.specs.Theorems.Order.{laid_out, InOrder}

-- what is before a word on its line is at least one byte, if blanks stand before it where no space is added
pub space_some : (uniform previousPunct : Bool) (w : Word) → (uniform ≡ false → w.new_line ≡ false → 0 < length w.blanks) → 0 < length (space_before uniform previousPunct w)
unfolding space_before
space_some uniform previousPunct w gap = rw (length-append, length-replicate) (go uniform w.new_line refl refl)
  where
    added : ℕ
    added = added_space uniform w.new_line w.sentence_start previousPunct

    go : (u n : Bool) → uniform ≡ u → w.new_line ≡ n → 0 < added + length w.blanks
    go true n e f = let h = added_some uniform w.new_line w.sentence_start previousPunct (rw e) in omega arith
    go false true e f = let h = added_some uniform w.new_line w.sentence_start previousPunct (rw (e, f)) in omega arith
    go false false e f = let h = gap e f in omega arith

module _ (Separates : List ℕ → Type 0) (uniform : Bool) (indent : List ℕ) (fresh : Separates (line_feed ++ indent)) where
  -- what is before a word on its line separates
  abbrev Spaced : Word → Type 0
  Spaced w = (previousPunct : Bool) → Separates (space_before uniform previousPunct w)

  -- the words after the first, a separator before each
  record Behind (ws : List Word) (bytes : List ℕ) : Type 0 where
    separators : List (List ℕ)
    as_many : length ws ≡ length separators
    each : All Separates separators
    laid : bytes ≡ laid_out separators ws

  -- one word more at the front
  behind_more : (s : List ℕ) (w : Word) (ws : List Word) (bytes : List ℕ) → Separates s → Behind ws bytes → Behind (w ∷ ws) (s ++ (w.text ++ bytes))
  unfolding laid_out
  behind_more s w ws bytes h b = record {
    separators = s ∷ b.separators;
    as_many = ap suc b.as_many;
    each = (h, b.each);
    laid = ap (λ (l : List ℕ). s ++ (w.text ++ l)) b.laid;
  }

  rest_order : (previousPunct : Bool) (breaks : List Bool) (ws : List Word) → All Spaced ws → Behind ws (emit_rest uniform indent previousPunct breaks ws)
  unfolding emit_rest laid_out
  rest_order previousPunct [] [] a = record { separators = []; as_many = refl; each = tt; laid = refl }
  rest_order previousPunct (b ∷ breaks) [] a = record { separators = []; as_many = refl; each = tt; laid = refl }
  rest_order previousPunct [] (w ∷ ws) a =
      behind_more _ w ws _ (a.0 previousPunct) (rest_order w.ends_punct [] ws a.1)
  rest_order previousPunct (true ∷ breaks) (w ∷ ws) a = behind_more _ w ws _ fresh (rest_order w.ends_punct breaks ws a.1)
  rest_order previousPunct (false ∷ breaks) (w ∷ ws) a =
      behind_more _ w ws _ (a.0 previousPunct) (rest_order w.ends_punct breaks ws a.1)

  pub emit_order : (first : List ℕ) (breaks : List Bool) (ws : List Word) → 0 < length ws → All Spaced ws → InOrder Separates first ws (emit uniform first indent breaks ws)
  unfolding emit laid_out
  emit_order first breaks [] h a = absurd (omega arith)
  emit_order first breaks (w ∷ ws) h a =
      let b = rest_order false breaks ws a.1 in
      record { separators = b.separators; one_less = ap suc b.as_many; each = b.each; laid = ap (λ (l : List ℕ). first ++ (w.text ++ l)) b.laid }
