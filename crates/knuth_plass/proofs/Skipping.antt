-- Words that are skipped: a word that ends before the first active line may changes nothing but the endless line, and the rounds go on behind it.
use mathlib.Core.Path.{◌≡◌, refl, ◌∙◌}
use mathlib.Core.Bool.{Bool, true, false, cond}
use mathlib.Core.List.{List, [], ◌∷◌}
use Prim.Native.Nat.{ℕ, zero, suc, ◌+◌, ◌-◌, ◌≤◌, ◌<◌}
use native.Mathlib.Numerals.{add-one}
use native.Mathlib.Omega.{arith}
use borrow.Author.Tests.{lt-leb, le-leb, leb-false, lt-ltb, le-ltb, ltb-true, ltb-false, ne_eqb}
use lib.Dec.{leb, ltb}
use lib.ListN.{drop}
use Rattle.records.specs.Word.{meaning}
use Rattle.records.specs.Cited.Table.{word_in, words_in}
use Rattle.records.specs.declared.Word.{Word as WordRecord}
use Rattle.spacing.specs.Spacing.{added_space}
use Rattle.spacing.specs.declared.Setting.{Setting}
use Rattle.spacing.specs.Cited.Bounds.{AddedIs}
use Rattle.spacing.proofs.Laws.{added_most}
use Rattle.knuth_plass.specs.declared.interval.Interval.{Interval}
use Rattle.knuth_plass.specs.declared.interval.Skipped.{Skipped}
use Rattle.knuth_plass.specs.KnuthPlass.{minimum_of, sentence_behind}
use Rattle.knuth_plass.specs.Cited.Table.{Tables, break_meant, seen}
use Rattle.knuth_plass.specs.Cited.Round.{Limits, Worked}
use Rattle.knuth_plass.specs.Cited.Interval.{Good, reach_of, pops, near, best_entry, interval_round, span, active_of, Between, IntervalIs, gap_after, sentence_at, end_at, least_end, skipped_from}
use Rattle.knuth_plass.proofs.Filled.{filled_later}
use Rattle.knuth_plass.proofs.Paragraph.{behind_last, behind_next}
use Rattle.knuth_plass.proofs.Work.{worked_word}
use Rattle.knuth_plass.proofs.Bases.{reach_exact}
use Rattle.knuth_plass.proofs.Span.{span_here, span_at, pass_stops}
use Rattle.knuth_plass.proofs.Intervals.{Along, between, along_next}

-- ---- the round of a word that ends before the first active line may

module _ (g : Setting) (sentence : Bool) (i gap : ℕ) (w : WordRecord) (s : Interval) (t : Tables) (limits : Limits g) (between : Between g i w.after s t)
    (x : ℕ) (is : x ≡ s.line + w.after + added_space g.uniform w.first sentence false + w.width) (early : x < least_end g t s.head) where
  too_short : reach_of g x (break_meant t s.head) < minimum_of g
  unfolding break_meant seen meaning
  too_short =
      let some = between.some in
      let good = span_at (Good g i s.line w.after) t s.head (s.size - s.head) between.ready.good s.head (omega arith) (omega arith) in
      let exact : (break_meant t s.head).columns ≤ x + g.indent = rw is (reach_exact g i s.line (added_space g.uniform w.first sentence false) (meaning [] w) (break_meant t s.head) good) in
      omega arith

  all_stay : pops g x (active_of s t) ≡ break_meant t s.head ∷ span t (s.head + 1) (s.size - (s.head + 1))
  all_stay =
      let h = too_short in
      let o = limits.over in
      pass_stops g t x s.head s.size between.some (omega arith) ∙ span_here t s.head s.size between.some

  -- nothing is popped and nothing is offered
  pub round_skipped : IntervalIs g false sentence i gap w s t t (record { head = s.head; size = s.size; line = x })
  unfolding interval_round near best_entry
  round_skipped =
      let f = between.few in
      let m = added_most g.uniform w.first sentence false in
      record {
        filled = rw (add-one i) (filled_later i s.size t between.filled);
        few = omega arith;
        some = between.some;
        line = is;
        most = omega arith;
        is = λ notes. rw (all_stay, near, lt-leb (minimum_of g) (reach_of g x (break_meant t s.head)) too_short) (span_here t s.head s.size between.some);
      }

-- ---- the sentence mark of a word

-- the mark that the rounds have: after the last word it is never read
abbrev pub mark_at : ℕ → List ℕ → ℕ → Bool
mark_at n table i = cond (ltb i n) (sentence_at table i) (ltb 1 i)

pub mark_here : (n : ℕ) (table : List ℕ) (i : ℕ) → i < n → mark_at n table i ≡ sentence_at table i
mark_here n table i h = rw (lt-ltb i n h)

-- that of the second word
mark_second : (n : ℕ) (table : List ℕ) → mark_at n table 1 ≡ false
mark_second n table = by (ltb 1 n) where
  by : (x : Bool) → cond x (sentence_at table 1) (ltb 1 1) ≡ false
  by true = refl
  by false = refl

pub mark_behind : (n : ℕ) (table : List ℕ) (i : ℕ) (notes : List ℕ) → 1 ≤ i → mark_at n table (i + 1) ≡ sentence_behind (meaning notes (word_in table i)) (drop (i + 1) (words_in notes n table))
unfolding meaning
mark_behind n table i notes some = by (ltb (i + 1) n) refl where
  by : (x : Bool) → ltb (i + 1) n ≡ x → cond x (sentence_at table (i + 1)) (ltb 1 (i + 1)) ≡ sentence_behind (meaning notes (word_in table i)) (drop (i + 1) (words_in notes n table))
  by true e =
      let back : i + 1 - 1 ≡ i = omega arith in
      rw (le-ltb (i + 1) 2 (omega arith), back) (behind_next table n i notes (meaning notes (word_in table i)) (word_in table (i + 1)) refl (ltb-true (i + 1) n e))
  by false e = rw (lt-ltb 1 (i + 1) (omega arith)) (behind_last table n i notes (meaning notes (word_in table i)) (ltb-false (i + 1) n e))

-- ---- the words skipped

pub end_is : (uniform : Bool) (table : List ℕ) (i p : ℕ) (w : WordRecord) (space : ℕ) → w ≡ word_in table i → AddedIs uniform w.first (sentence_at table i) false space
    → p + w.after + space + w.width ≡ end_at uniform table i p
end_is uniform table i p w space got added = rw (added.is, got)

module _ (uniform : Bool) (low : ℕ) (table : List ℕ) (n i p : ℕ) where
  -- none is left but the last
  pub skips_last : n - 1 ≤ i → skipped_from uniform low table (n - (i + 1)) i p ≡ record { word = i; line = p }
  unfolding skipped_from
  skips_last h = let e : n - (i + 1) ≡ 0 = omega arith in rw e

  module _ (more : i < n - 1) where
    pub skips_stop : low ≤ end_at uniform table i p → skipped_from uniform low table (n - (i + 1)) i p ≡ record { word = i; line = p }
    unfolding skipped_from
    skips_stop h = let e : n - (i + 1) ≡ suc (n - (i + 1 + 1)) = omega arith in rw (e, skipped_from, le-leb low (end_at uniform table i p) h)

    pub skips_go : end_at uniform table i p < low → skipped_from uniform low table (n - (i + 1)) i p ≡ skipped_from uniform low table (n - (i + 1 + 1)) (i + 1) (end_at uniform table i p)
    unfolding skipped_from
    skips_go h = let e : n - (i + 1) ≡ suc (n - (i + 1 + 1)) = omega arith in rw (e, skipped_from, lt-leb low (end_at uniform table i p) h)

  -- the line is as long already
  pub skips_none : low ≤ p → skipped_from uniform low table (n - (i + 1)) i p ≡ record { word = i; line = p }
  skips_none h = by (ltb (i + 1) n) refl where
    by : (x : Bool) → ltb (i + 1) n ≡ x → skipped_from uniform low table (n - (i + 1)) i p ≡ record { word = i; line = p }
    by true e = let m = ltb-true (i + 1) n e in skips_stop (omega arith) (omega arith)
    by false e = let m = ltb-false (i + 1) n e in skips_last (omega arith)

-- the words are as they were
module _ (n : ℕ) (work work₁ : List ℕ) (worked : Worked n work work₁) where
  pub sentence_same : (i : ℕ) → i < n → sentence_at work₁ i ≡ sentence_at work i
  sentence_same i h = rw (worked_word n work work₁ worked i h, worked_word n work work₁ worked (i - 1) (omega arith))

  end_same : (uniform : Bool) (i p : ℕ) → i < n → end_at uniform work₁ i p ≡ end_at uniform work i p
  end_same uniform i p h = rw (sentence_same i h, worked_word n work work₁ worked i h)

  pub skips_same : (uniform : Bool) (low m i p : ℕ) → i + m < n → skipped_from uniform low work₁ m i p ≡ skipped_from uniform low work m i p
  unfolding skipped_from
  skips_same uniform low zero i p h = refl
  skips_same uniform low (suc m) i p h = by (leb low (end_at uniform work i p)) refl (skips_same uniform low m (i + 1) (end_at uniform work i p) (omega arith)) where
    by : (x : Bool) → leb low (end_at uniform work i p) ≡ x
        → skipped_from uniform low work₁ m (i + 1) (end_at uniform work i p) ≡ skipped_from uniform low work m (i + 1) (end_at uniform work i p)
        → skipped_from uniform low work₁ (suc m) i p ≡ skipped_from uniform low work (suc m) i p
    by true e next = let f : leb low (end_at uniform work₁ i p) ≡ true = rw (end_same uniform i p (omega arith)) e in rw (skipped_from, f, e)
    by false e next = let f : leb low (end_at uniform work₁ i p) ≡ false = rw (end_same uniform i p (omega arith)) e in rw (skipped_from, f, e) (rw (end_same uniform i p (omega arith)) next)

-- ---- the rounds go on behind them

pub along_second : (g : Setting) (n : ℕ) (table : List ℕ) (s : Interval) (t : Tables) → Along g n table 1 false s t → Along g n table 1 (mark_at n table 1) s t
along_second g n table s t along = rw (mark_second n table) along

module _ (g : Setting) (n : ℕ) (table : List ℕ) (limits : Limits g) (head size : ℕ) (t : Tables) where
  abbrev at : ℕ → Interval
  at p = record { head = head; size = size; line = p }

  along_skip : (i p : ℕ) → 1 ≤ i → i + 1 < n → Along g n table i (mark_at n table i) (at p) t → end_at g.uniform table i p < least_end g t head
      → Along g n table (i + 1) (mark_at n table (i + 1)) (at (end_at g.uniform table i p)) t
  along_skip i p some more along early =
      let here : i < n = omega arith in
      along_next g n table i (mark_at n table i) (at p) t along here (mark_at n table (i + 1)) _ t
      (rw (ne_eqb (i + 1) n (λ e. omega arith), mark_here n table i here)
      (round_skipped g (sentence_at table i) i (gap_after n i table) (word_in table i) (at p) t limits (between g n table i (mark_at n table i) (at p) t along here) (end_at g.uniform table i p) refl early))
      (λ notes. mark_behind n table i notes some)

  -- before the round of the word that the skipped ones end before
  pub record Behind (i : ℕ) (r : Skipped) : Type 0 where
    pub from : i ≤ r.word
    pub to : r.word < n
    pub along : Along g n table r.word (mark_at n table r.word) (at r.line) t

  behind_from : (m i p : ℕ) → i + m + 1 ≡ n → 1 ≤ i → Along g n table i (mark_at n table i) (at p) t → Behind i (skipped_from g.uniform (least_end g t head) table m i p)
  unfolding skipped_from
  behind_from zero i p e some along = record { from = omega arith; to = omega arith; along = along }
  behind_from (suc m) i p e some along = by (leb (least_end g t head) (end_at g.uniform table i p)) refl (λ next. behind_from m (i + 1) (end_at g.uniform table i p) (omega arith) (omega arith) next) where
    by : (x : Bool) → leb (least_end g t head) (end_at g.uniform table i p) ≡ x
        → (Along g n table (i + 1) (mark_at n table (i + 1)) (at (end_at g.uniform table i p)) t → Behind (i + 1) (skipped_from g.uniform (least_end g t head) table m (i + 1) (end_at g.uniform table i p)))
        → Behind i (skipped_from g.uniform (least_end g t head) table (suc m) i p)
    by true z next = rw (skipped_from, z) (record { from = omega arith; to = omega arith; along = along })
    by false z next =
        let rest = next (along_skip i p some (omega arith) along (leb-false (least_end g t head) (end_at g.uniform table i p) z)) in
        let f = rest.from in
        rw (skipped_from, z) (record { from = omega arith; to = rest.to; along = rest.along })

  pub behind_skipped : (work : List ℕ) → Worked n table work → (i p : ℕ) → 1 ≤ i → i < n → Along g n table i (mark_at n table i) (at p) t → (low : ℕ) → low ≡ least_end g t head
      → (r : Skipped) → r ≡ skipped_from g.uniform low work (n - (i + 1)) i p → Behind i r
  behind_skipped work worked i p some here along low l r e =
      rw (e, skips_same n table work worked g.uniform low (n - (i + 1)) i p (omega arith), l) (behind_from (n - (i + 1)) i p (omega arith) some along)
