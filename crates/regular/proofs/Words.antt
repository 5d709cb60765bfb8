-- Words of any kind, one by one: each stays on the line of output or begins a fresh one. Those that are in the notes as they are to be written wait.
use mathlib.Core.Path.{◌≡◌, refl, sym, ◌∙◌}
use mathlib.Core.Bool.{Bool, true, false, not, false≢true}
use mathlib.Core.List.{List, [], ◌∷◌, ◌++◌, append_assoc}
use Prim.Native.Nat.{ℕ, ◌+◌, ◌-◌, ◌*◌, ◌≤◌, ◌<◌, ◌^◌}
use native.Mathlib.Omega.{arith}
use lib.ListN.{length, drop, replicate}
use lib.Seq.{slice, length-slice}
use borrow.Author.Tests.{lt-ltb, le-ltb}
use Rattle.lists.specs.Runs.{while}
use Rattle.lists.proofs.Joins.{slice_join, append_inner}
use Rattle.text.specs.Characters.{is_blank}
use Rattle.text.specs.Cited.Places.{ink_glyphs}
use Rattle.options.specs.Opts.{meant}
use Rattle.options.specs.declared.Options.{Options}
use Rattle.records.specs.Word.{Word, meaning}
use Rattle.records.specs.declared.Word.{Word as Record}
use Rattle.records.specs.Cited.Table.{Within, word_in, records_of, words_in}
use Rattle.records.proofs.Table.{words_drop, words_end}
use Rattle.spacing.specs.Spacing.{gap_width, added_space}
use Rattle.spacing.specs.declared.Setting.{Setting}
use Rattle.words.specs.Cited.Taken.{words_between, TakenTo}
use Rattle.words.specs.declared.Taken.{Taken}
use Rattle.output.specs.Emission.{line_feed, space_before}
use Rattle.output.specs.Cited.Sink.{Wrote, Left}
use Rattle.output.proofs.Sink.{left_first, left_then}
use Rattle.quick.proofs.Width.{reached_by}
use Rattle.regular.specs.declared.Reached.{Reached}
use Rattle.regular.specs.declared.Waiting.{Waiting}
use Rattle.regular.specs.Cited.Regular.{quick_rest, quick_fresh, quick_on}
use Rattle.regular.specs.Cited.Places.{ahead, Stands, GapIn, WordPut, Listed, Worded}
use Rattle.regular.proofs.Rest.{word_breaks, word_stays, on_rest, on_fresh}
use Rattle.regular.proofs.Joining.{left_on}

-- ---- one word

module _ (s : List ℕ) (w : Record) (g : Setting) (indent : List ℕ) (out : List ℕ) (t : Waiting) (lies : Within (length s) w) (size : length s ≤ 2 ^ 20) (order : t.from ≤ t.to) (within : t.to ≤ length s) where
  -- a paragraph's first
  pub put_head : t.reached.begins ≡ true → t.reached.column < 2 ^ 31 → w.width ≤ length s → (out₁ : List ℕ) (j : ℕ) → Wrote out t.reached.written (slice t.from t.to s) out₁ j
      → WordPut s w g indent out t out₁ (record { from = w.start; to = w.end; reached = record { written = j; column = t.reached.column + w.width; punct = false; begins = false } })
  unfolding quick_on quick_fresh meaning
  put_head begins near narrow out₁ j wrote =
      let n = length-slice t.from t.to s within in
      let c = wrote.count in
      record {
        left = λ more. left_then (rw (on_fresh g indent t.reached.begins t.reached.column t.reached.punct (meaning s w ∷ more) begins) (left_first out t.reached.written _)) wrote;
        order = lies.text;
        within = lies.end;
        most = omega arith;
        stands = (omega arith, λ b. absurd (false≢true b));
      }

  module _ (begun : t.reached.begins ≡ false) (reached : ℕ)
      (is : reached ≡ t.reached.column + gap_width g.tab t.reached.column w.before w.after + added_space g.uniform w.first w.sentence t.reached.punct + w.width) where
    reaches : reached_by g t.reached.column t.reached.punct (meaning s w) ≡ reached
    unfolding meaning
    reaches = sym is

    pub put_fresh : g.width < reached → w.width ≤ length s → g.indent < 2 ^ 31 → (out₁ : List ℕ) (j : ℕ) → Wrote out t.reached.written (slice t.from t.to s ++ (line_feed ++ indent)) out₁ j → j ≤ t.reached.written + 2 ^ 34
        → WordPut s w g indent out t out₁ (record { from = w.start; to = w.end; reached = record { written = j; column = g.indent + w.width; punct = w.punct; begins = false } })
    unfolding quick_on quick_fresh meaning
    put_fresh wide narrow small out₁ j wrote near = record {
      left = λ more.
          left_then
          (rw (
            on_rest g indent t.reached.begins t.reached.column t.reached.punct (meaning s w ∷ more) begun,
            word_breaks g indent t.reached.column t.reached.punct (meaning s w) more (rw reaches (lt-ltb _ _ wide)),
            ← append_inner (slice t.from t.to s) line_feed indent (quick_fresh g indent true g.indent (meaning s w ∷ more)),
          )
          (left_first out t.reached.written _))
          wrote;
      order = lies.text;
      within = lies.end;
      most = near;
      stands = (omega arith, λ b. absurd (false≢true b));
    }

    -- it stays on the line
    module _ (fits : reached ≤ g.width) (small : g.width < 2 ^ 31) (count : ℕ) (counts : count ≡ added_space g.uniform w.first w.sentence t.reached.punct) where
      stays : (more : List Word) → ahead g indent t.reached (meaning s w ∷ more) ≡ replicate count 32 ++ (slice w.from w.end s ++ quick_rest g indent reached w.punct more)
      unfolding meaning space_before
      stays more =
          on_rest g indent t.reached.begins t.reached.column t.reached.punct (meaning s w ∷ more) begun
          ∙ word_stays g indent t.reached.column t.reached.punct (meaning s w) more (rw reaches (le-ltb _ _ fits))
          ∙ rw (
            reaches,
            ← counts,
            append_assoc (replicate count 32) (slice w.from w.start s) (slice w.start w.end s ++ quick_rest g indent reached w.punct more),
            ← append_assoc (slice w.from w.start s) (slice w.start w.end s) (quick_rest g indent reached w.punct more),
            slice_join w.from w.start w.end s lies.gap lies.text lies.end,
          )

      -- with those that wait
      pub put_on : GapIn s t.to w.from count → WordPut s w g indent out t out (record { from = t.from; to = w.end; reached = record { written = t.reached.written; column = reached; punct = w.punct; begins = t.reached.begins } })
      unfolding quick_on
      put_on gap =
          let a = lies.gap in
          let b = lies.text in
          let d = lies.end in
          let o = gap.on in
          record {
            left = λ more. rw (on_rest g indent t.reached.begins reached w.punct more begun, joined more) (left_first out t.reached.written _);
            order = omega arith;
            within = d;
            most = omega arith;
            stands = (omega arith, λ e. absurd (false≢true (sym begun ∙ e)));
          }
        where
          joined : (more : List Word) → slice t.from t.to s ++ ahead g indent t.reached (meaning s w ∷ more) ≡ slice t.from w.end s ++ quick_rest g indent reached w.punct more
          joined more =
              let a = lies.gap in
              let b = lies.text in
              let d = lies.end in
              let o = gap.on in
              rw (
                stays more,
                ← gap.spaces,
                ← append_assoc (slice t.to w.from s) (slice w.from w.end s) (quick_rest g indent reached w.punct more),
                slice_join t.to w.from w.end s o (omega arith) d,
                ← append_assoc (slice t.from t.to s) (slice t.to w.end s) (quick_rest g indent reached w.punct more),
                slice_join t.from t.to w.end s order (omega arith) d,
              )

      -- after them
      pub put_stays : (out₁ out₂ : List ℕ) (i j : ℕ) → Wrote out t.reached.written (slice t.from t.to s) out₁ i → Wrote out₁ i (replicate count 32) out₂ j → j ≤ i + 2
          → WordPut s w g indent out t out₂ (record { from = w.from; to = w.end; reached = record { written = j; column = reached; punct = w.punct; begins = t.reached.begins } })
      unfolding quick_on
      put_stays out₁ out₂ i j wrote spaces near =
          let n = length-slice t.from t.to s within in
          let c = wrote.count in
          let a = lies.gap in
          let b = lies.text in
          record {
            left = λ more. left_then (left_then (rw (on_rest g indent t.reached.begins reached w.punct more begun, stays more) (left_first out t.reached.written _)) wrote) spaces;
            order = omega arith;
            within = lies.end;
            most = omega arith;
            stands = (omega arith, λ e. absurd (false≢true (sym begun ∙ e)));
          }

-- ---- the words of a table

module _ (s table : List ℕ) (n : ℕ) (g : Setting) (indent : List ℕ) (out : List ℕ) (t : Waiting) where
  pub listed_turn : (j : ℕ) (v : Waiting) (out' : List ℕ) → Listed s table n g indent out t out' j v → j < n → (w : Record) → w ≡ word_in table j → (out'' : List ℕ) (v' : Waiting) → WordPut s w g indent out' v out'' v'
      → Listed s table n g indent out t out'' (j + 1) v'
  listed_turn j v out' so more w is out'' v' put = record {
    few = omega arith;
    left = λ ws. left_on (rw (words_drop s n table j more, ← is) at (so.left ws)) (put.left (drop (j + 1) (words_in s n table) ++ ws));
    order = put.order;
    within = put.within;
    most = let x = so.most in let y = put.most in omega arith;
    stands = put.stands;
  }

-- ---- the words of a line, through a table

-- of a line's words those before a place are written, or wait
pub record Wording (s : List ℕ) (start end : ℕ) (mail : Bool) (o : Options) (g : Setting) (indent : List ℕ) (out : List ℕ) (t : Reached) (out' : List ℕ) (at : ℕ) (first punct : Bool) (v : Waiting) : Type 0 where
  pub on : start ≤ at
  pub to : at ≤ end
  pub ink : first ≡ true → while is_blank (ink_glyphs o.glue (slice at end s)) ≡ []
  pub left : (more : List Word)
      → Left out t.written (ahead g indent t (words_between (meant [] o) mail (not mail) false s start end ++ more))
      out' v.reached.written (slice v.from v.to s ++ ahead g indent v.reached (words_between (meant [] o) mail first punct s at end ++ more))
  pub order : v.from ≤ v.to
  pub within : v.to ≤ length s
  pub most : v.reached.written ≤ t.written + (at - start) * 2 ^ 34
  pub stands : Stands v.reached

words_zero : (s table : List ℕ) → words_in s 0 table ≡ []
unfolding words_in records_of
words_zero s table = refl

module _ (s : List ℕ) (start end : ℕ) (mail : Bool) (o : Options) (g : Setting) (indent : List ℕ) (out : List ℕ) (t : Reached) where
  module _ (out' : List ℕ) (at : ℕ) (first punct : Bool) (v : Waiting) (so : Wording s start end mail o g indent out t out' at first punct v) (table table' : List ℕ) (r : Taken) (taken : TakenTo 16 (meant [] o) mail s at end first punct 0 table r table')
      (out'' : List ℕ) (v' : Waiting) (listed : Listed s table' r.count g indent out' v out'' r.count v') where
    all : (more : List Word)
        → Left out t.written (ahead g indent t (words_between (meant [] o) mail (not mail) false s start end ++ more))
        out'' v'.reached.written (slice v'.from v'.to s ++ ahead g indent v'.reached (words_between (meant [] o) mail r.first r.punct s r.at end ++ more))
    all more =
        let rest = words_between (meant [] o) mail r.first r.punct s r.at end in
        let e : words_between (meant [] o) mail first punct s at end ≡ words_in s r.count table' ++ rest = sym (rw (words_zero s table) at taken.words) in
        left_on (rw (e, append_assoc (words_in s r.count table') rest more) at (so.left more)) (rw (words_end s r.count table' r.count (omega arith)) at (listed.left (rest ++ more)))

    pub wording_turn : Wording s start end mail o g indent out t out'' r.at r.first r.punct v'
    unfolding meant
    wording_turn =
        let a = so.on in
        let b = taken.on in
        let c = taken.gained in
        let x = so.most in
        let y = listed.most in
        record { on = omega arith; to = taken.to; ink = taken.ink; left = all; order = listed.order; within = listed.within; most = omega arith; stands = listed.stands }

    pub wording_done : r.more ≡ false → end ≤ length s → length s ≤ 2 ^ 20 → (out''' : List ℕ) (k : ℕ) → Wrote out'' v'.reached.written (slice v'.from v'.to s) out''' k
        → Worded s start end mail o g indent out t out''' (record { written = k; column = v'.reached.column; punct = v'.reached.punct; begins = v'.reached.begins })
    wording_done e inside size out''' k wrote =
        let n = length-slice v'.from v'.to s listed.within in
        let w = listed.within in
        let a = so.on in
        let b = taken.on in
        let c = taken.gained in
        let d = taken.to in
        let x = so.most in
        let y = listed.most in
        let z = wrote.count in
        record { left = λ more. left_then (rw (taken.done e).0 at (all more)) wrote; most = omega arith; stands = listed.stands }
