-- What a piece's lines are read as: a paragraph comes back as its lines with a space between them, but it ends after a line `--`.
use mathlib.Core.Path.{◌≡◌, refl, sym, ap, ◌∙◌}
use mathlib.Core.Bool.{Bool, true, false, cond, not, ◌&&◌, and-eq-true_iff, false≢true}
use mathlib.Core.List.{List, [], ◌∷◌, ◌++◌, append_assoc}
use Prim.Native.Nat.{ℕ, suc, ◌+◌}
use native.Mathlib.Omega.{arith}
use lib.Dec.{eqb}
use lib.ListN.{length, length-append, drop_of_length-le}
use borrow.Author.Tests.{eqb-true}
use Rattle.lists.specs.Runs.{begins}
use Rattle.lists.proofs.Runs.{begins_front}
use Rattle.unflow.specs.Flowed.{space, dashes, is_dashes, ends_in_space}
use Rattle.unflow.proofs.Lines.{ends_append}
use Rattle.flow.specs.Flow.{is_dashed, softened, all_but_last, dashes_among, before, trimmed, plain_sent}
use Rattle.flow.specs.Theorems.ReadBack.{flows, read_from, read, back_from, back}
use Rattle.flow.proofs.Readings.{LastFixed, Ended}

-- ---- `-- `

dashes_is : (t : List ℕ) → is_dashes t ≡ true → t ≡ dashes
unfolding is_dashes
dashes_is t h =
    let a = (and-eq-true_iff (begins dashes t) (eqb (length t) 3)).0 h in
    let n = eqb-true (length t) 3 a.1 in
    begins_front dashes t a.0 ∙ ap (λ (l : List ℕ). dashes ++ l) (drop_of_length-le t {i = 3} (omega arith))

-- a line that does not end in a space is no `-- `, and neither flows
pub fixed_plain : (t : List ℕ) → ends_in_space t ≡ false → is_dashes t ≡ false
unfolding ends_in_space
fixed_plain t h = go (is_dashes t) refl
  where
    go : (b : Bool) → is_dashes t ≡ b → b ≡ false
    go true e = absurd (false≢true (sym h ∙ ap ends_in_space (dashes_is t e)))
    go false e = refl

pub fixed_flows : (t : List ℕ) → ends_in_space t ≡ false → flows t ≡ false
unfolding flows
fixed_flows t h = rw h

dashes_flows : (t : List ℕ) → is_dashes t ≡ true → flows t ≡ false
unfolding flows ends_in_space
dashes_flows t h = rw (h, dashes_is t h)

-- ---- a soft line: `--` is fixed, every other flows, and none is a separator

dashed_is : (line : List ℕ) → is_dashed line ≡ true → line ≡ 0x2D ∷ 0x2D ∷ []
unfolding is_dashed
dashed_is [] h = absurd (omega (arith, ap length (dashes_is (space ∷ []) h)))
dashed_is (x ∷ []) h = absurd (omega (arith, ap length (dashes_is (x ∷ space ∷ []) h)))
dashed_is (x ∷ y ∷ []) h =
    let f : x ∷ y ∷ space ∷ [] ≡ 0x2D ∷ 0x2D ∷ 0x20 ∷ [] = dashes_is (x ∷ y ∷ space ∷ []) h in
    let e : x ≡ 0x2D = cc in
    let g : y ≡ 0x2D = cc in
    rw (e, g)
dashed_is (x ∷ y ∷ z ∷ line) h = absurd (omega (arith, ap length (dashes_is (x ∷ y ∷ z ∷ line ++ space ∷ []) h), length-append line (space ∷ [])))

soft_dashed : (line : List ℕ) → is_dashed line ≡ true → softened line ≡ 0x2D ∷ 0x2D ∷ []
unfolding softened
soft_dashed line h = rw h (dashed_is line h)

soft_open : (line : List ℕ) → is_dashed line ≡ false → softened line ≡ line ++ space ∷ []
unfolding softened
soft_open line h = rw h

soft_flows : (line : List ℕ) (b : Bool) → is_dashed line ≡ b → flows (softened line) ≡ not b
unfolding flows ends_in_space is_dashes begins is_dashed
soft_flows line true h = ap flows (soft_dashed line h)
soft_flows line false h = rw (soft_open line h, h, ends_append line (space ∷ []) (omega arith))

soft_plain : (line : List ℕ) → is_dashes (softened line) ≡ false
unfolding is_dashed is_dashes begins
soft_plain line = go (is_dashed line) refl
  where
    go : (b : Bool) → is_dashed line ≡ b → is_dashes (softened line) ≡ false
    go true h = ap is_dashes (soft_dashed line h)
    go false h = ap is_dashes (soft_open line h) ∙ h

-- ---- the lines of a paragraph, of which the last does not end in a space

abbrev pub LastBare : List ℕ → List (List ℕ) → Type 0
LastBare line [] = ends_in_space line ≡ false
LastBare line (next ∷ lines) = LastBare next lines

last_behind : (t : List ℕ) (us : List (List ℕ)) → Ended us → LastFixed t us
last_behind t [] h = absurd h
last_behind t (u ∷ us) h = h

pub sent_ended : (line : List ℕ) (lines : List (List ℕ)) → LastBare line lines → Ended (all_but_last (line ∷ lines))
unfolding all_but_last
sent_ended line [] h = fixed_flows line h
sent_ended line (next ∷ lines) h = last_behind (softened line) (all_but_last (next ∷ lines)) (sent_ended next lines h)

-- what is read of a text that ends in a soft line
unfoldable soft : List ℕ → List ℕ → List ℕ
soft text line = cond (is_dashed line) text (text ++ space ∷ [])

soft_self : (line : List ℕ) → soft line line ≡ softened line
unfolding soft softened
soft_self line = refl

on_space : (text next : List ℕ) → (text ++ space ∷ []) ++ next ≡ text ++ space ∷ next
on_space text next = append_assoc text (space ∷ []) next

soft_on : (text next : List ℕ) → soft (text ++ space ∷ next) next ≡ (text ++ space ∷ []) ++ softened next
unfolding soft softened
soft_on text next = go (is_dashed next)
  where
    go : (b : Bool) → cond b (text ++ space ∷ next) ((text ++ space ∷ next) ++ space ∷ []) ≡ (text ++ space ∷ []) ++ cond b next (next ++ space ∷ [])
    go true = sym (on_space text next)
    go false = append_assoc text (space ∷ next) (space ∷ []) ∙ sym (append_assoc text (space ∷ []) (next ++ space ∷ []))

read_step : (text line next : List ℕ) (rest : List (List ℕ)) → is_dashes next ≡ false
    → read_from (soft text line) (softened line) (next ∷ rest)
    ≡ elim (is_dashed line) as (λ z. List (List ℕ)) [ true ↦ text ∷ read_from next next rest | false ↦ read_from ((text ++ space ∷ []) ++ next) next rest ]
unfolding read_from soft
read_step text line next rest h =
    ap (λ (b : Bool). step (flows (softened line) && not b)) h
    ∙ ap (λ (b : Bool). step (b && true)) (soft_flows line (is_dashed line) refl)
    ∙ go (is_dashed line)
  where
    step : Bool → List (List ℕ)
    step b = elim b as (λ z. List (List ℕ)) [ true ↦ read_from (soft text line ++ next) next rest | false ↦ soft text line ∷ read_from next next rest ]

    go : (b : Bool) → ◌≡◌ {A = List (List ℕ)}
        (elim (not b && true) as (λ z. List (List ℕ)) [ true ↦ read_from (cond b text (text ++ space ∷ []) ++ next) next rest | false ↦ cond b text (text ++ space ∷ []) ∷ read_from next next rest ])
        (elim b as (λ z. List (List ℕ)) [ true ↦ text ∷ read_from next next rest | false ↦ read_from ((text ++ space ∷ []) ++ next) next rest ])
    go true = refl
    go false = refl

read_back_from : (text line next : List ℕ) (lines : List (List ℕ)) → LastBare next lines → read_from (soft text line) (softened line) (all_but_last (next ∷ lines)) ≡ back_from text line (next ∷ lines)
unfolding all_but_last back_from read_from
read_back_from text line next [] h =
    read_step text line next [] (fixed_plain next h)
    ∙ ap (λ (t : List ℕ). elim (is_dashed line) as (λ z. List (List ℕ)) [ true ↦ text ∷ next ∷ [] | false ↦ t ∷ [] ]) (on_space text next)
read_back_from text line next (m ∷ ms) h =
    read_step text line (softened next) (all_but_last (m ∷ ms)) (soft_plain next)
    ∙ go (is_dashed line) (read_back_from next next m ms h) (rw (soft_on text next) at (read_back_from (text ++ space ∷ next) next m ms h))
  where
    go : (b : Bool) → read_from (soft next next) (softened next) (all_but_last (m ∷ ms)) ≡ back_from next next (m ∷ ms)
        → read_from ((text ++ space ∷ []) ++ softened next) (softened next) (all_but_last (m ∷ ms)) ≡ back_from (text ++ space ∷ next) next (m ∷ ms)
        → ◌≡◌ {A = List (List ℕ)}
        (elim b as (λ z. List (List ℕ)) [ true ↦ text ∷ read_from (softened next) (softened next) (all_but_last (m ∷ ms)) | false ↦ read_from ((text ++ space ∷ []) ++ softened next) (softened next) (all_but_last (m ∷ ms)) ])
        (elim b as (λ z. List (List ℕ)) [ true ↦ text ∷ back_from next next (m ∷ ms) | false ↦ back_from (text ++ space ∷ next) next (m ∷ ms) ])
    go true off on = ap (λ (l : List (List ℕ)). text ∷ l) (rw (soft_self next) at off)
    go false off on = on

pub read_back : (line : List ℕ) (lines : List (List ℕ)) → LastBare line lines → read (all_but_last (line ∷ lines)) ≡ back (line ∷ lines)
unfolding read back all_but_last read_from back_from soft softened
read_back line [] h = refl
read_back line (next ∷ lines) h = read_back_from line line next lines h

-- one paragraph, and one more for each line `--` that ends it
from_count : (text line : List ℕ) (lines : List (List ℕ)) → length (back_from text line lines) ≡ suc (dashes_among (line ∷ lines))
unfolding back_from dashes_among
from_count text line [] = refl
from_count text line (next ∷ lines) = go (is_dashed line) (from_count next next lines) (from_count (text ++ space ∷ next) next lines)
  where
    go : (b : Bool) → length (back_from next next lines) ≡ suc (dashes_among (next ∷ lines)) → length (back_from (text ++ space ∷ next) next lines) ≡ suc (dashes_among (next ∷ lines))
        → length {A = List ℕ} (elim b as (λ z. List (List ℕ)) [ true ↦ text ∷ back_from next next lines | false ↦ back_from (text ++ space ∷ next) next lines ]) ≡ suc (cond b 1 0 + dashes_among (next ∷ lines))
    go true off on = omega (arith, off)
    go false off on = omega (arith, on)

pub back_count : (line : List ℕ) (lines : List (List ℕ)) → length (back (line ∷ lines)) ≡ suc (dashes_among (line ∷ lines))
unfolding back
back_count line lines = from_count line line lines

-- ---- plain lines

trimmed_bare : (t : List ℕ) → ends_in_space (trimmed t) ≡ false
unfolding trimmed ends_in_space
trimmed_bare [] = refl
trimmed_bare (x ∷ t) = go (trimmed t) (trimmed_bare t)
  where
    alone : (b : Bool) → eqb x space ≡ b → ends_in_space (cond b [] (x ∷ [])) ≡ false
    alone true e = refl
    alone false e = e

    go : (u : List ℕ) → ends_in_space u ≡ false → ends_in_space (before x u) ≡ false
    go [] h = alone (eqb x space) refl
    go (y ∷ u) h = ends_append (x ∷ []) (y ∷ u) (omega arith) ∙ h

pub plain_fixed : (t : List ℕ) → flows (plain_sent t) ≡ false
unfolding plain_sent
plain_fixed t = go (is_dashes t) refl
  where
    go : (b : Bool) → is_dashes t ≡ b → flows (cond b t (trimmed t)) ≡ false
    go true e = dashes_flows t e
    go false e = fixed_flows (trimmed t) (trimmed_bare t)
