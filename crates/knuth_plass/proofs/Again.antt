-- Where nothing stays on the interval: the definition's break that begins again, with its base.
use mathlib.Core.Path.{◌≡◌, refl, sym, ◌∙◌, ap}
use mathlib.Core.Bool.{Bool, true, false, cond, not, ◌&&◌}
use mathlib.Core.List.{List, [], ◌∷◌}
use Prim.Native.Nat.{ℕ, zero, suc, ◌+◌, ◌-◌, ◌≤◌}
use native.Mathlib.Numerals.{add-one}
use native.Mathlib.Omega.{arith}
use borrow.Author.Tests.{ne_eqb}
use lib.Dec.{ltb, eqb}
use lib.IntN.{pos}
use lib.Ieee.{Float, fin}
use Rattle.records.specs.Word.{Word, meaning}
use Rattle.spacing.specs.declared.Setting.{Setting}
use Rattle.knuth_plass.specs.declared.Break.{Break as Record}
use Rattle.knuth_plass.specs.declared.Turn.{Turn}
use Rattle.knuth_plass.specs.declared.interval.Interval.{Interval}
use Rattle.knuth_plass.specs.KnuthPlass.{Break, Place, before_word, minimum_of, restart}
use Rattle.knuth_plass.specs.Cited.Table.{ratio_of, Tables, break_in, place_of, path_in, path_to, seen, break_meant}
use Rattle.knuth_plass.specs.Cited.Round.{extended, Restarted}
use Rattle.knuth_plass.specs.Cited.Interval.{fresh_at, view, Good, reach_of, entry_after, entry_restart, FirstLeast, is_fresh, view_of, active_of, Leaves, AgainIs}
use Rattle.knuth_plass.proofs.Bases.{least_all, restart_view}

-- ---- a record as the active break that its entry is

fresh_is : (i : ℕ) (t : Tables) (n : ℕ) → is_fresh i n (break_in t n) ≡ fresh_at i (path_to t n)
unfolding path_to path_in
fresh_is i t zero = refl
fresh_is i t (suc n) = rw (ne_eqb (suc n) 0 (λ e. absurd (omega arith)), add-one (break_in t (suc n)).word) (by (break_in t (suc n)).before) where
  by : (x : Bool) → cond x false (eqb (suc (break_in t (suc n)).word) i) ≡ not x && eqb (suc (break_in t (suc n)).word) i
  by true = refl
  by false = refl

view_is : (g : Setting) (i p : ℕ) (t : Tables) (n : ℕ) → seen (path_to t n) (view_of g i p n (break_in t n)) ≡ view g i p (break_meant t n)
unfolding view break_meant seen
view_is g i p t n = rw (fresh_is i t n)

-- ---- what begins again

abbrev head_before : List Place → Bool
head_before [] = false
head_before (k ∷ ks) = k.before

module _ (g : Setting) (i p x gap : ℕ) (w : Word) (e : Break) where
  abbrev again : Bool → Break
  again z =
      cond z
      (record { places = before_word i ∷ e.places; demerits = 0; ratio = fin false 1 (pos 0); columns = x - w.width; fresh = false })
      (entry_after i (x + gap) e 0 (fin true 1 (pos 0)))

  abbrev test : Bool
  test = not (fresh_at i e.places) && ltb (minimum_of g + g.width) (reach_of g x e + (p + g.indent - e.columns))

  restart_base : (entry_restart g i p x gap w e).columns ≡ cond (head_before (entry_restart g i p x gap w e).places) (x - w.width) (x + gap)
  unfolding entry_restart
  restart_base = by test where
    by : (z : Bool) → (again z).columns ≡ cond (head_before (again z).places) (x - w.width) (x + gap)
    by true = refl
    by false = refl

  restart_old : (entry_restart g i p x gap w e).fresh ≡ false
  unfolding entry_restart
  restart_old = by test where
    by : (z : Bool) → (again z).fresh ≡ false
    by true = refl
    by false = refl

same_break : (k k₁ : List Place) (d d₁ : ℕ) (r r₁ : Float) (c c₁ : ℕ) (f f₁ : Bool) → k ≡ k₁ → d ≡ d₁ → r ≡ r₁ → c ≡ c₁ → f ≡ f₁
    → ◌≡◌ {A = Break} (record { places = k; demerits = d; ratio = r; columns = c; fresh = f }) (record { places = k₁; demerits = d₁; ratio = r₁; columns = c₁; fresh = f₁ })
same_break k k₁ d d₁ r r₁ c c₁ f f₁ a b e h j = rw (a, b, e, h, j)

cond_below : (z : Bool) (a b m : ℕ) → a ≤ m → b ≤ m → cond z a b ≤ m
cond_below true a b m h k = h
cond_below false a b m h k = k

module _ (g : Setting) (turn : Turn) (x gap : ℕ) (s : Interval) (t : Tables) (leaves : Leaves g turn x gap s t) (n : ℕ) (found : FirstLeast s.head s.size t n) where
  good : Good g turn.number s.line turn.word.after (break_meant t n)
  good = rw found.is (least_all (Good g turn.number s.line turn.word.after) (active_of s t) leaves.between.ready.some leaves.between.ready.good)

  module _ (q : Record) (restarts : Restarted g turn n (view_of g turn.number s.line n (break_in t n)) q) where
    again_view : (notes : List ℕ) → seen (place_of q ∷ path_to t n) q ≡ view g (suc turn.number) x (entry_restart g turn.number s.line x gap (meaning notes turn.word) (break_meant t n))
    unfolding meaning
    again_view notes =
        restarts.is notes (path_to t n)
        ∙ ap (restart g turn.number turn.space (meaning notes turn.word)) (view_is g turn.number s.line t n)
        ∙ rw leaves.line (restart_view g turn.number s.line turn.space gap (meaning notes turn.word) leaves.tabless (break_meant t n) good)

    abbrev base : ℕ
    base = cond q.before (x - turn.word.width) (x + gap)

    -- the same fields, but for the base
    again_is : (notes : List ℕ) → seen (place_of q ∷ path_to t n) (extended base q) ≡ entry_restart g turn.number s.line x gap (meaning notes turn.word) (break_meant t n)
    unfolding seen view meaning
    again_is notes =
        let e = entry_restart g turn.number s.line x gap (meaning notes turn.word) (break_meant t n) in
        let v = again_view notes in
        let places : place_of q ∷ path_to t n ≡ e.places = ap (λ (b : Break). b.places) v in
        same_break (place_of q ∷ path_to t n) e.places q.demerits e.demerits (ratio_of q.ratio) e.ratio base e.columns false e.fresh
        places
        (ap (λ (b : Break). b.demerits) v)
        (ap (λ (b : Break). b.ratio) v)
        (ap (λ (ks : List Place). cond (head_before ks) (x - turn.word.width) (x + gap)) places ∙ sym (restart_base g turn.number s.line x gap (meaning notes turn.word) (break_meant t n)))
        (sym (restart_old g turn.number s.line x gap (meaning notes turn.word) (break_meant t n)))

    begins : AgainIs g turn x gap s t (extended base q)
    begins =
        let o = restarts.sound in
        let h = leaves.short in
        let m : base ≤ x + gap = cond_below q.before (x - turn.word.width) (x + gap) (x + gap) (omega arith) (omega arith) in
        record {
          previous = rw restarts.previous found.below;
          sound = record { ratio = o.ratio; columns = omega arith; demerits = o.demerits; word = o.word };
          is = λ notes. ap (λ (m : ℕ). seen (place_of q ∷ path_to t m) (extended base q)) restarts.previous ∙ rw (← found.is) (again_is notes);
        }

  -- as the code goes: the record read, seen, begun again, and with its base
  pub again_from : (b v q r : Record) (base : ℕ) → b ≡ break_in t n → v ≡ view_of g turn.number s.line n b → Restarted g turn n v q
      → base ≡ cond q.before (x - turn.word.width) (x + gap) → r ≡ extended base q → AgainIs g turn x gap s t r
  again_from b v q r base read seen restarts is kept = rw (kept, is) (begins q (rw (seen, read) at restarts))
