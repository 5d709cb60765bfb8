-- The words of a table, matched one after the other.
use Rattle.std.proofs.Common.{Result, Ok, Err}
use mathlib.Core.Path.{◌≡◌, sym, ap, ◌∙◌}
use mathlib.Core.Bool.{Bool}
use mathlib.Core.List.{List, ◌++◌}
use Prim.Native.Nat.{ℕ, ◌+◌, ◌-◌, ◌≤◌, ◌<◌}
use native.Mathlib.Omega.{arith}
use lib.ListN.{take, drop}
use Rattle.records.specs.Word.{meaning}
use Rattle.records.specs.declared.Word.{Word as Record}
use Rattle.records.specs.Cited.Table.{words_in, Got, Within, AllWithin}
use Rattle.records.proofs.Table.{words_drop, words_end}
use Rattle.checker.specs.Matching.{Match, and_then, match_text, match_feed, match_next, match_rest, match_words}
use Rattle.checker.specs.Cited.Places.{SpotIn, Matches}
use Rattle.checker.specs.declared.Spot.{Spot}
use Rattle.checker.specs.declared.Fault.{Fault}
use Rattle.checker.proofs.Spots.{then_fault, then_on, matches_same, part_slice}

-- a word of the table lies in the notes
pub word_within : {size n : ℕ} {table : List ℕ} {i : ℕ} {w : Record} → AllWithin size n table → Got table i w → i < n → Within size w
word_within {size} a g h = rw g.is (a _ h)

module _ (glue : Bool) (indent notes table : List ℕ) (n : ℕ) (digest : List ℕ) where
  -- what is left where i words are matched and p is reached
  abbrev rest_from : ℕ → Spot → Match
  rest_from i p = match_rest glue indent (drop i (words_in notes n table)) (drop p.at digest) p.line

  pub record RestLeft (from : Spot) (i : ℕ) (p : Spot) : Type 0 where
    pub inside : SpotIn digest p
    pub is : rest_from i p ≡ rest_from 1 from
    pub some : 1 ≤ i
    pub few : i ≤ n

  -- the next word, as the code has it
  rest_next : (i : ℕ) (p : Spot) (w : Record) → Got table i w → i < n → w.start ≤ w.end → rest_from i p ≡ and_then (match_next glue indent (take (w.end - w.start) (drop w.start notes)) (drop p.at digest) p.line) (match_rest glue indent (drop (i + 1) (words_in notes n table)))
  unfolding match_rest meaning
  rest_next i p w g h k = rw (words_drop notes n table i h, ← g.is, ← part_slice w.start w.end notes k)

  module _ (from : Spot) (i : ℕ) (p : Spot) (l : RestLeft from i p) where
    module _ (w : Record) (g : Got table i w) (h : i < n) (k : w.start ≤ w.end) where
      abbrev NextIs : Result Spot Fault → Type 0
      NextIs r = Matches digest (match_next glue indent (take (w.end - w.start) (drop w.start notes)) (drop p.at digest) p.line) r

      pub rest_fault : {f : Fault} → NextIs (Err f) → Matches digest (rest_from 1 from) (Err f)
      rest_fault a = matches_same (sym (rest_next i p w g h k) ∙ l.is) (then_fault (match_rest glue indent (drop (i + 1) (words_in notes n table))) a)

      pub rest_more : {q : Spot} → NextIs (Ok q) → RestLeft from (i + 1) q
      rest_more {q} a = record {
        inside = a.inside;
        is = ap (λ (m : Match). and_then m (match_rest glue indent (drop (i + 1) (words_in notes n table)))) a.is ∙ sym (rest_next i p w g h k) ∙ l.is;
        some = omega (arith, l.some);
        few = omega arith;
      }

    pub rest_last : n ≤ i → {r : Result Spot Fault} → Matches digest (match_feed (drop p.at digest) p.line) r → Matches digest (rest_from 1 from) r
    unfolding match_rest
    rest_last h m = matches_same (sym (ap (λ ws. match_rest glue indent ws (drop p.at digest) p.line) (words_end notes n table i h)) ∙ l.is) m

  -- the first word
  words_first : (first : List ℕ) (p : Spot) (w : Record) → Got table 0 w → 0 < n → w.start ≤ w.end → match_words glue first indent (words_in notes n table) (drop p.at digest) p.line
      ≡ and_then (match_text (first ++ take (w.end - w.start) (drop w.start notes)) (drop p.at digest) p.line) (match_rest glue indent (drop 1 (words_in notes n table)))
  unfolding match_words meaning
  words_first first p w g h k = rw (words_drop notes n table 0 h, ← g.is, ← part_slice w.start w.end notes k)

  module _ (first : List ℕ) (p : Spot) (w : Record) (g : Got table 0 w) (h : 0 < n) (k : w.start ≤ w.end) where
    abbrev FirstIs : Result Spot Fault → Type 0
    FirstIs r = Matches digest (match_text (first ++ take (w.end - w.start) (drop w.start notes)) (drop p.at digest) p.line) r

    pub words_fault : {f : Fault} → FirstIs (Err f) → Matches digest (match_words glue first indent (words_in notes n table) (drop p.at digest) p.line) (Err f)
    words_fault a = matches_same (sym (words_first first p w g h k)) (then_fault (match_rest glue indent (drop 1 (words_in notes n table))) a)

    pub words_rest : {q : Spot} {r : Result Spot Fault} → FirstIs (Ok q) → Matches digest (rest_from 1 q) r → Matches digest (match_words glue first indent (words_in notes n table) (drop p.at digest) p.line) r
    words_rest a b = matches_same (sym (words_first first p w g h k)) (then_on (match_rest glue indent (drop 1 (words_in notes n table))) a b)
