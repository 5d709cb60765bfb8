-- A paragraph's lines, one after another: what is left is quick's output of the lines that are left.
use mathlib.Core.Path.{◌≡◌, sym, ap, ◌∙◌}
use mathlib.Core.Bool.{Bool, true, false, cond, ◌||◌}
use mathlib.Core.List.{List, []}
use Prim.Native.Nat.{ℕ, ◌+◌, ◌-◌, ◌≤◌, ◌<◌, ◌^◌}
use native.Mathlib.Omega.{arith}
use lib.ListN.{length, take, drop}
use lib.Seq.{slice}
use Rattle.lists.proofs.Fronts.{part_to_end}
use Rattle.options.specs.Opts.{meant}
use Rattle.options.specs.declared.Options.{Options}
use Rattle.lines.specs.Lines.{first_line, lines_of}
use Rattle.lines.specs.Cited.Places.{lengths_of}
use Rattle.lines.specs.declared.Extent.{Extent}
use Rattle.spacing.specs.declared.Setting.{Setting}
use Rattle.pieces.specs.Cited.Bounds.{AllBegin}
use Rattle.words.proofs.Rows.{LineAt, line_at, lines_end, words_same}
use Rattle.regular.specs.declared.Row.{Row}
use Rattle.regular.specs.declared.Reached.{Reached}
use Rattle.regular.specs.Cited.Places.{RowIs, Went, Worded, Gone, RowPut, Rowed, words_on}
use Rattle.regular.proofs.Rest.{on_none}

-- of a paragraph that is no mail, gaps are as the options have them
pub gaps_same : (a b c : Bool) → c ≡ (a || b) → b ≡ false → a ≡ c
gaps_same true b c e f = sym e
gaps_same false b c e f = sym (e ∙ f)

-- the line that is found at a place of the paragraph
pub line_of : (o : Options) (mail : Bool) (skip later : ℕ) (s : List ℕ) (next i : ℕ) (x : Extent) → i < next → next ≤ length s → (mail ≡ false → AllBegin o.glue skip later (lines_of (slice i next s)))
    → x ≡ lengths_of (first_line (take (length (take next s) - i) (drop i (take next s)))) → LineAt (meant [] o) mail skip later s next i x
unfolding meant
line_of o mail skip later s next i x more fits begins is = line_at (meant [] o) mail skip later s next i x more fits (is ∙ ap (λ (l : List ℕ). lengths_of (first_line l)) (part_to_end i (take next s))) begins

module _ (s : List ℕ) (i next : ℕ) (mail : Bool) (skip later : ℕ) (o : Options) (g : Setting) (indent : List ℕ) (out : List ℕ) (t : Reached) where
  -- a line by its stretch
  pub row_went : mail ≡ false → (row : Row) → ((block : List ℕ) → RowIs (meant block o) skip later s next i row) → o.uniform ≡ g.uniform
      → (out' : List ℕ) (v : Reached) → Went s row.from row.end g indent out t out' v
      → RowPut s i next mail skip later o g indent out t out' (record { at = row.next; reached = v })
  unfolding meant
  row_went m row is same out' v went =
      let r = is [] in
      let a = r.on in
      let b = r.order in
      let c = r.some in
      let d = r.within in
      record {
        more = r.on;
        gone = record {
          on = omega arith;
          most = r.most;
          rest = λ e. r.rest;
          left = λ block. rw (m, (is block).words) (went.left (meant block o) (words_on block o false later later next s row.next) same);
          few = let y = went.most in omega arith;
          stands = went.stands;
        };
      }

  -- a line word by word
  pub row_worded : (x : Extent) → LineAt (meant [] o) mail skip later s next i x → (start : ℕ) → start ≡ i + cond mail 0 skip
      → (out' : List ℕ) (v : Reached) → Worded s start (i + x.text) mail o g indent out t out' v
      → RowPut s i next mail skip later o g indent out t out' (record { at = i + x.whole; reached = v })
  unfolding meant
  row_worded x line start e out' v worded =
      let a = line.on in
      let b = line.shorter in
      record {
        more = omega arith;
        gone = record {
          on = omega arith;
          most = line.within;
          rest = line.rest;
          left = λ block.
              rw (← words_same o block mail skip later (lines_of (slice i next s)), ← words_same o block mail later later (lines_of (slice (i + x.whole) next s)), line.words, ← e)
              (worded.left (words_on [] o mail later later next s (i + x.whole)));
          few = let y = worded.most in omega arith;
          stands = worded.stands;
        };
      }

module _ (s : List ℕ) (at next : ℕ) (mail : Bool) (start later : ℕ) (o : Options) (g : Setting) (indent : List ℕ) (out : List ℕ) (t : Reached) where
  -- all of them
  pub gone_all : (i skip : ℕ) (v : Reached) (out' : List ℕ) → Gone s at next mail start later o g indent out t out' i skip v → next ≤ i → next ≤ 2 ^ 20
      → Rowed s at next mail start later o g indent out t out' v
  gone_all i skip v out' gone past small =
      let a = gone.few in
      let b = gone.most in
      record { left = λ block. rw (lines_end (meant block o) mail skip later s next i past, on_none g indent v.begins v.column v.punct) at (gone.left block); most = omega arith }
