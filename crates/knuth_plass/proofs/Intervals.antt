-- A paragraph's rounds on the interval: one after the other, from the paragraph's start to the path.
use Rattle.std.proofs.Common.{None}
use mathlib.Core.Path.{◌≡◌, refl, sym, subst, ◌∙◌, ap}
use mathlib.Core.Bool.{Bool, true, false, cond}
use mathlib.Core.List.{List, [], ◌∷◌}
use mathlib.Core.Logic.{⊎_elim}
use Prim.Native.Nat.{ℕ, zero, suc, ◌+◌, ◌^◌, ◌≤◌, ◌<◌}
use native.Mathlib.Numerals.{add-one}
use native.Mathlib.Omega.{arith}
use borrow.Author.Tests.{ltb-true, ltb-false, eqb-true, eqb-false}
use lib.Dec.{eqb, ltb}
use lib.ListN.{length, drop}
use Rattle.lists.specs.Theorems.All.{All}
use Rattle.lists.proofs.All.{all_append, all_drop, all_map}
use Rattle.records.specs.Word.{Word, meaning}
use Rattle.records.specs.Cited.Table.{records_of, word_in, words_in}
use Rattle.records.specs.declared.Word.{Word as WordRecord}
use Rattle.records.proofs.Table.{words_drop, words_end}
use Rattle.spacing.specs.Spacing.{added_space}
use Rattle.spacing.specs.declared.Setting.{Setting}
use Rattle.demerits.specs.Demerits.{no_ratio}
use Rattle.knuth_plass.specs.declared.Break.{Break as Record}
use Rattle.knuth_plass.specs.declared.interval.Interval.{Interval}
use Rattle.knuth_plass.specs.KnuthPlass.{Break, is_last, sentence_behind, least}
use Rattle.knuth_plass.specs.Cited.Table.{ratio_of, Tables, Sized, with_break, seen, break_meant, Sound, Filled}
use Rattle.knuth_plass.specs.Cited.Round.{Limits, Worked, PathIs}
use Rattle.knuth_plass.specs.Cited.Interval.{line_to, interval_round, Ready, gap_behind, FirstLeast, active_of, Between, IntervalIs, gap_after, IntervalsAre, line_room, OneLine, Regular}
use Rattle.knuth_plass.proofs.Table.{sized_with, read_back}
use Rattle.knuth_plass.proofs.Filled.{filled_leads}
use Rattle.knuth_plass.proofs.Path.{path_start}
use Rattle.knuth_plass.proofs.Paragraph.{last_is}
use Rattle.knuth_plass.proofs.Work.{worked_word}
use Rattle.knuth_plass.proofs.Bases.{Tabless, NeverFalls, interval_from, first_entry, first_ready, round_ready, first_never, indent_never, path_interval}
use Rattle.knuth_plass.proofs.Span.{span_here, span_none}

-- ---- from word to word

-- the rounds still to do, from the entries as they are, come to z
pub record Goes (g : Setting) (sentence : Bool) (i p : ℕ) (es : List Break) (ws : List Word) (z : List Break) : Type 0 where
  pub ready : Ready g i p (gap_behind ws) es
  pub never : NeverFalls g sentence i p es ws
  pub is : interval_from g sentence i p es ws ≡ z

pub goes_next : (g : Setting) (sentence : Bool) (i p : ℕ) (es : List Break) (w : Word) (ws : List Word) (z : List Break) (last next : Bool) (gap x : ℕ) (es₁ : List Break)
    → last ≡ is_last ws → next ≡ sentence_behind w ws → gap ≡ gap_behind ws → x ≡ line_to p (added_space g.uniform w.new_line sentence false) w
    → es₁ ≡ interval_round g last i p x gap w es → Goes g sentence i p es (w ∷ ws) z → Goes g next (suc i) x es₁ ws z
unfolding interval_from
goes_next g sentence i p es w ws z last next gap x es₁ l n k e f v =
    rw (f, l, n, k, e) (record {
      ready = round_ready g i p (added_space g.uniform w.new_line sentence false) (gap_behind ws) w (is_last ws) es v.ready v.never.0;
      never = v.never.1;
      is = v.is;
    })

-- ---- no line is too long to be counted

pub room_none : (table : List ℕ) → line_room table 0 ≡ 0
unfolding line_room
room_none table = refl

-- what holds of all below i, and of i
pub below_next : (P : ℕ → Type 0) (i : ℕ) → ((j : ℕ) → j < i → P j) → P i → (j : ℕ) → j < i + 1 → P j
below_next P i h k j l = by (eqb j i) refl where
  by : (x : Bool) → eqb j i ≡ x → P j
  by true e = rw (eqb-true j i e) k
  by false e = let ne = eqb-false j i e in h j (omega arith)

pub room_more : (table : List ℕ) (i : ℕ) → line_room table (i + 1) ≡ line_room table i + ((word_in table i).after + 2 + (word_in table i).width)
unfolding line_room
room_more table i = rw (add-one i)

room_up : (table : List ℕ) (i n : ℕ) → i ≤ n → line_room table i ≤ line_room table n
unfolding line_room
room_up table i zero h = let e : i ≡ 0 = omega arith in rw e (omega arith)
room_up table i (suc n) h = by (ltb i (suc n)) refl (room_up table i n) where
  by : (x : Bool) → ltb i (suc n) ≡ x → (i ≤ n → line_room table i ≤ line_room table n) → line_room table i ≤ line_room table (suc n)
  by true e up = let k = ltb-true i (suc n) e in let u = up (omega arith) in omega arith
  by false e up = let k = ltb-false i (suc n) e in let q : i ≡ suc n = omega arith in rw q (omega arith)

-- the next gap is in it too
pub line_room_law : (first n i line : ℕ) (table : List ℕ) → OneLine first n table → i < n → line ≤ first + line_room table i
    → line + ((word_in table i).after + 2 + (word_in table i).width) + gap_after n i table < 2 ^ 31
line_room_law first n i line table one h l = by (ltb (i + 1) n) refl where
  by : (x : Bool) → ltb (i + 1) n ≡ x → line + ((word_in table i).after + 2 + (word_in table i).width) + cond x (word_in table (i + 1)).after 0 < 2 ^ 31
  by true e =
      let k = ltb-true (i + 1) n e in
      let s = one.short in
      let a = room_more table i in
      let b = room_more table (i + 1) in
      let u = room_up table (i + 1 + 1) n (omega arith) in
      omega arith
  by false e =
      let s = one.short in
      let a = room_more table i in
      let u = room_up table (i + 1) n (omega arith) in
      omega arith

-- ---- the words of a table

module _ (notes : List ℕ) (n : ℕ) (table : List ℕ) where
  pub gap_is : (i : ℕ) → gap_after n i table ≡ gap_behind (drop (i + 1) (words_in notes n table))
  unfolding meaning
  gap_is i = by (ltb (i + 1) n) refl where
    by : (x : Bool) → ltb (i + 1) n ≡ x → cond x (word_in table (i + 1)).after 0 ≡ gap_behind (drop (i + 1) (words_in notes n table))
    by true e = rw (words_drop notes n table (i + 1) (ltb-true (i + 1) n e))
    by false e = rw (words_end notes n table (i + 1) (ltb-false (i + 1) n e))

  pub gap_here : (i : ℕ) → i < n → (word_in table i).after ≡ gap_behind (drop i (words_in notes n table))
  unfolding meaning
  gap_here i h = rw (words_drop notes n table i h)

  module _ (tabless : (i : ℕ) → i < n → (word_in table i).before ≡ None) where
    records_plain : (k : ℕ) → k ≤ n → All (λ (w : WordRecord). w.before ≡ None) (records_of k table)
    unfolding records_of
    records_plain zero h = tt
    records_plain (suc k) h = all_append (λ (w : WordRecord). w.before ≡ None) (records_of k table) (word_in table k ∷ []) (records_plain k (omega arith)) (tabless k (omega arith), tt)

    words_plain : All Tabless (words_in notes n table)
    unfolding words_in meaning
    words_plain = all_map Tabless (meaning notes) (records_of n table) (records_plain n (omega arith))

-- ---- a paragraph

module _ (g : Setting) (n : ℕ) (table : List ℕ) where
  -- what all rounds come to
  abbrev pub whole : List ℕ → List Break
  whole notes = interval_from g false 1 (g.first + (word_in table 0).width) (first_entry g ∷ []) (drop 1 (words_in notes n table))

  -- before the round of word i
  pub record Along (i : ℕ) (sentence : Bool) (s : Interval) (t : Tables) : Type 0 where
    pub filled : Filled i s.size t
    pub few : s.size ≤ i
    pub some : s.head < s.size
    pub short : s.line ≤ g.first + line_room table i
    pub goes : (notes : List ℕ) → Goes g sentence i s.line (active_of s t) (drop i (words_in notes n table)) (whole notes)

  module _ (i : ℕ) (sentence : Bool) (s : Interval) (t : Tables) (along : Along i sentence s t) (here : i < n) where
    pub between : Between g i (word_in table i).after s t
    between = record { filled = along.filled; few = along.few; some = along.some; ready = rw (gap_here [] n table i here) (along.goes []).ready }

    pub along_next : (next : Bool) (r : Interval) (t₁ : Tables) → IntervalIs g (eqb (i + 1) n) sentence i (gap_after n i table) (word_in table i) s t t₁ r
        → ((notes : List ℕ) → next ≡ sentence_behind (meaning notes (word_in table i)) (drop (i + 1) (words_in notes n table))) → Along (i + 1) next r t₁
    unfolding meaning
    along_next next r t₁ round behind = record {
      filled = round.filled;
      few = round.few;
      some = round.some;
      short = (let m = round.most in let s = along.short in rw (room_more table i) (omega arith));
      goes = λ notes.
          subst (λ (m : ℕ). Goes g next m r.line (active_of r t₁) (drop (i + 1) (words_in notes n table)) (whole notes)) (sym (add-one i))
          (goes_next g sentence i s.line (active_of s t) (meaning notes (word_in table i)) (drop (i + 1) (words_in notes n table)) (whole notes) (eqb (i + 1) n) next (gap_after n i table) r.line (active_of r t₁)
          (last_is table n i notes here) (behind notes) (gap_is notes n table i) round.line (round.is notes) (rw (words_drop notes n table i here) at (along.goes notes)));
    }

  module _ (limits : Limits g) (regular : Regular g n table) (some : 1 ≤ n) where
    never : (notes : List ℕ) → NeverFalls g false 1 (g.first + (word_in table 0).width) (first_entry g ∷ []) (drop 1 (words_in notes n table))
    unfolding meaning
    never notes =
        ⊎_elim
        (λ h. first_never g (meaning notes (word_in table 0)) (drop 1 (words_in notes n table)) (omega arith))
        (λ h. indent_never g (meaning notes (word_in table 0)) (drop 1 (words_in notes n table)) h)
        regular.low

    -- the paragraph's start
    module _ (bits : ℕ) (zero-ratio : ratio_of bits ≡ no_ratio) (t : Tables) (sized : Sized t) (room : 0 < length t) where
      abbrev start : Record
      start = record { previous = 0; word = 0; before = false; demerits = 0; ratio = bits; columns = g.indent; fresh = false }

      abbrev begun : Interval
      begun = record { head = 0; size = 1; line = g.first + (word_in table 0).width }

      start_active : active_of begun (with_break t 0 start) ≡ first_entry g ∷ []
      unfolding break_meant seen
      start_active =
          span_here (with_break t 0 start) 0 1 (omega arith)
          ∙ rw (span_none (with_break t 0 start) 1 1 (omega arith), path_start (with_break t 0 start) 0 (omega arith), read_back t 0 start room sized, zero-ratio)

      start_sound : Sound 1 start
      start_sound = let f = limits.indent in record { ratio = rw zero-ratio tt; columns = omega arith; demerits = omega arith; word = omega arith }

      along_first : (t₁ : Tables) → t₁ ≡ with_break t 0 start → Along 1 false begun t₁
      along_first t₁ e = rw e (record {
        filled = record {
          sized = sized_with t 0 start sized;
          sound = λ j h. (let z : j ≡ 0 = omega arith in rw (z, read_back t 0 start room sized) start_sound);
          down = λ j p h. absurd (omega arith);
        };
        few = omega arith;
        some = omega arith;
        short = (let m = room_more table 0 in omega arith);
        goes = λ notes. rw start_active (record { ready = first_ready g (g.first + (word_in table 0).width) (gap_behind (drop 1 (words_in notes n table))); never = never notes; is = refl });
      })

      pub along_start : (w : WordRecord) (t₁ : Tables) → w ≡ word_in table 0 → t₁ ≡ with_break t 0 start → Along 1 false (record { head = 0; size = 1; line = g.first + w.width }) t₁
      along_start w t₁ e f = rw e (along_first t₁ f)

    -- after the last round
    pub intervals_are : (i : ℕ) (sentence : Bool) (s : Interval) (t : Tables) → i ≤ n → n ≤ i → n ≤ length t → Along i sentence s t → IntervalsAre g n table t s
    unfolding interval_from meaning
    intervals_are i sentence s t h k room along =
        let e : i ≡ n = omega arith in
        record {
          filled = rw e at along.filled;
          few = (let f = along.few in omega arith);
          some = along.some;
          holds = room;
          is = λ notes.
              ap (λ (es : List Break). (least es).places) (rw (words_end notes n table i k) at (along.goes notes).is)
              ∙ rw (words_drop notes n table 0 some)
              (sym (path_interval g (meaning notes (word_in table 0)) (drop 1 (words_in notes n table)) (all_drop Tabless 1 (words_in notes n table) (words_plain notes n table regular.line.tabless)) (never notes)));
        }

-- the least entry has the path
pub interval_path : (g : Setting) (n : ℕ) (table : List ℕ) (t : Tables) (s : Interval) (last : ℕ) → IntervalsAre g n table t s → FirstLeast s.head s.size t last → PathIs g n table t last
unfolding break_meant seen
interval_path g n table t s last are found =
    let b = found.below in
    let f = are.few in
    let h = are.holds in
    let z = are.filled.sized.few in
    record {
      below = omega arith;
      leads = filled_leads n s.size t are.filled (omega arith) last b;
      is = λ notes. ap (λ (e : Break). e.places) found.is ∙ are.is notes;
    }

-- ---- the words as they were before the rounds

module _ (n : ℕ) (work work₁ : List ℕ) (worked : Worked n work work₁) where
  pub gap_same : (i : ℕ) → gap_after n i work₁ ≡ gap_after n i work
  gap_same i = by (ltb (i + 1) n) refl where
    by : (x : Bool) → ltb (i + 1) n ≡ x → cond x (word_in work₁ (i + 1)).after 0 ≡ cond x (word_in work (i + 1)).after 0
    by true e = rw (worked_word n work work₁ worked (i + 1) (ltb-true (i + 1) n e))
    by false e = refl
