-- Plain lines: the spaces at their end go, and what is sent of them.
use mathlib.Core.Path.{◌≡◌, refl, sym, ap, ◌∙◌}
use mathlib.Core.Bool.{Bool, true, false, cond}
use mathlib.Core.List.{List, [], ◌∷◌, ◌++◌, append_assoc}
use Prim.Native.Nat.{ℕ, ◌+◌, ◌-◌, ◌≤◌}
use native.Mathlib.Omega.{arith}
use lib.Dec.{eqb}
use lib.ListN.{length, get_or, take, drop, replicate, length-append}
use lib.Seq.{slice, slice_empty, length-slice}
use borrow.Author.Tests.{ne_eqb}
use Rattle.lists.proofs.Slices.{slice_is, slice_one}
use Rattle.lists.proofs.Joins.{slice_join}
use Rattle.output.specs.Cited.Sink.{Wrote}
use Rattle.output.specs.Cited.Writers.{margin_of}
use Rattle.output.proofs.Sink.{wrote_then}
use Rattle.unflow.specs.Flowed.{space, cr_lf, stuffing, is_dashes}
use Rattle.unflow.specs.Cited.Steps.{end_of}
use Rattle.flow.specs.Flow.{before, trimmed, plain_sent, sent}
use Rattle.unflow.proofs.Texts.{stuffing_most}

trimmed_space : (xs : List ℕ) → trimmed (xs ++ space ∷ []) ≡ trimmed xs
unfolding trimmed
trimmed_space [] = refl
trimmed_space (x ∷ xs) = ap (before x) (trimmed_space xs)

trimmed_ink : (xs : List ℕ) (y : ℕ) → (y ≡ 32 → ⊥) → trimmed (xs ++ y ∷ []) ≡ xs ++ y ∷ []
unfolding trimmed
trimmed_ink [] y h = rw (ne_eqb y 32 h)
trimmed_ink (x ∷ xs) y h = ap (before x) (trimmed_ink xs y h) ∙ go xs
  where
    go : (zs : List ℕ) → before x (zs ++ y ∷ []) ≡ x ∷ (zs ++ y ∷ [])
    go [] = refl
    go (z ∷ zs) = refl

trimmed_nil : trimmed [] ≡ []
unfolding trimmed
trimmed_nil = refl

-- nothing is added
before_shorter : (x : ℕ) (xs : List ℕ) → length (before x xs) ≤ length xs + 1
before_shorter x [] = go (eqb x space)
  where
    go : (b : Bool) → length (cond b [] (x ∷ [])) ≤ 1
    go true = omega arith
    go false = omega arith
before_shorter x (y ∷ xs) = omega arith

trimmed_shorter : (xs : List ℕ) → length (trimmed xs) ≤ length xs
unfolding trimmed
trimmed_shorter [] = omega arith
trimmed_shorter (x ∷ xs) = omega (arith, before_shorter x (trimmed xs), trimmed_shorter xs)

pub plain_shorter : (line : List ℕ) → length (plain_sent line) ≤ length line
unfolding plain_sent
plain_shorter line = go (is_dashes line)
  where
    go : (b : Bool) → length (cond b line (trimmed line)) ≤ length line
    go true = omega arith
    go false = trimmed_shorter line

-- ---- from the end on

pub part_is : (notes : List ℕ) (from end : ℕ) → from ≤ end → take (end - from) (drop from notes) ≡ slice from end notes
part_is notes from end h = let e : from + (end - from) ≡ end = omega arith in sym (slice_is from (end - from) notes) ∙ ap (λ (k : ℕ). slice from k notes) e

module _ (notes : List ℕ) (from last end : ℕ) (one : last + 1 ≡ end) (order : from ≤ last) (within : end ≤ length notes) where
  last_byte : slice from end notes ≡ slice from last notes ++ get_or notes last 0 ∷ []
  last_byte =
      sym (slice_join from last end notes order (omega arith) within)
      ∙ ap (λ (x : List ℕ). slice from last notes ++ x) (ap (λ (k : ℕ). slice last k notes) (sym one) ∙ slice_one 0 notes last (omega arith))

  pub end_space : get_or notes last 0 ≡ 32 → trimmed (slice from end notes) ≡ trimmed (slice from last notes)
  end_space e = ap trimmed (last_byte ∙ ap (λ (x : ℕ). slice from last notes ++ x ∷ []) e) ∙ trimmed_space (slice from last notes)

  pub end_ink : (get_or notes last 0 ≡ 32 → ⊥) → slice from end notes ≡ trimmed (slice from end notes)
  end_ink h = sym (ap trimmed last_byte ∙ trimmed_ink (slice from last notes) (get_or notes last 0) h ∙ sym last_byte)

pub end_none : (notes : List ℕ) (from end : ℕ) → from ≤ end → end ≤ from → slice from end notes ≡ trimmed (slice from end notes)
end_none notes from end h k =
    let e : from ≡ end = omega arith in
    let s : slice from end notes ≡ [] = ap (λ (n : ℕ). slice from n notes) (sym e) ∙ slice_empty from notes in
    s ∙ sym trimmed_nil ∙ ap trimmed (sym s)

-- ---- what is sent

pub dashes_stay : (line : List ℕ) → is_dashes line ≡ true → line ≡ plain_sent line
unfolding plain_sent
dashes_stay line h = rw h

pub others_trimmed : (line : List ℕ) → is_dashes line ≡ false → trimmed line ≡ plain_sent line
unfolding plain_sent
others_trimmed line h = rw h

pub line_sent : (notes : List ℕ) (from to end spaces columns : ℕ) {o o₁ o₂ : List ℕ} {at k r : ℕ} → from ≤ end → slice from end notes ≡ plain_sent (slice from to notes)
    → replicate spaces 32 ≡ stuffing (take (end - from) (drop from notes))
    → Wrote o at (replicate spaces 32 ++ (margin_of notes (record { start = from; end = from; more = 0; columns = columns }) ++ slice from end notes)) o₁ k → Wrote o₁ k (end_of true) o₂ r
    → Wrote o at (sent (plain_sent (slice from to notes))) o₂ r
unfolding sent end_of
line_sent notes from to end spaces columns {o} {o₁} {o₂} {at} {k} {r} h e s a b =
    let m : margin_of notes (record { start = from; end = from; more = 0; columns = columns }) ++ slice from end notes ≡ slice from end notes = rw (slice_empty from notes) in
    let q : replicate spaces 32 ≡ stuffing (slice from end notes) = s ∙ ap stuffing (part_is notes from end h) in
    let t : Wrote o at ((stuffing (slice from end notes) ++ slice from end notes) ++ cr_lf) o₂ r = wrote_then (rw (m, q) at a) b in
    rw (← e, ← append_assoc) t

-- and how long it is
pub line_most : (notes : List ℕ) (from to end : ℕ) {o o' : List ℕ} {at r : ℕ} → slice from end notes ≡ plain_sent (slice from to notes) → from ≤ end → end ≤ to → to ≤ length notes
    → Wrote o at (sent (plain_sent (slice from to notes))) o' r → r ≤ at + (to - from) + 3
unfolding sent
line_most notes from to end e h k l w =
    let s = slice from end notes in
    let c = w.count in
    let n = length-slice from end notes (omega arith) in
    let a : length (plain_sent (slice from to notes)) ≡ length s = ap length (sym e) in
    let b = length-append (stuffing (plain_sent (slice from to notes))) (plain_sent (slice from to notes) ++ cr_lf) in
    let d = length-append (plain_sent (slice from to notes)) cr_lf in
    omega (arith, c, n, a, b, d, stuffing_most (plain_sent (slice from to notes)))
