-- RULES 17 of the two calls: what `rudignals_flow` has written is read by `rudignals_unflow` as the notes' pieces, each paragraph's words in order.
use mathlib.Core.Path.{◌≡◌, sym, ap, ◌∙◌}
use mathlib.Core.List.{List, ◌++◌, map}
use Prim.Native.Nat.{ℕ, ◌^◌, ◌≤◌, ◌<◌}
use native.Mathlib.Omega.{arith}
use lib.ListN.{length, take, drop, length-take}
use lib.Seq.{take-append_seam}
use borrow.Author.Tests.{le-ltb, le-leb}
use Rattle.lists.specs.Runs.{joined}
use Rattle.options.specs.Opts.{meant}
use Rattle.pieces.specs.Pieces.{Piece, pieces}
use Rattle.lists.specs.Coded.{numbered}
use Rattle.formatter.specs.Answers.{Answer, done, refused, room, refusal_coded, answer_coded, output_after}
use Rattle.formatter.specs.declared.Refusal.{Refusal}
use Rattle.formatter.specs.declared.Refusal.TheVariants.{Options as Faulty, Long, Text as Damaged, Words as Many, Work}
use Rattle.formatter.specs.Format.{Limits}
use Rattle.unflow.specs.Unflow.{as_line, unflowed, done as read, unflow as reading}
use Rattle.flow.specs.Flow.{mailed}
use Rattle.flow.specs.Answers.{flow}
use Rattle.flow.specs.Theorems.ReadBack.{unquoted, came_back}
use Rattle.flow.proofs.Call.{ComesBack, what_the_call_wrote_comes_back}

-- what `rudignals_flow` promises of its answer and its output
pub record Mailed (l : Limits) (block notes output : List ℕ) (r : ℕ) (output' : List ℕ) : Type 0 where
  pub number : r ≡ numbered (answer_coded (flow l block notes (length output)))
  pub bytes : output' ≡ output_after (flow l block notes (length output)) output

-- an answer below 2 ^ 32 tells that all was written: so many bytes
written : (a : Answer) (output : List ℕ) (r : ℕ) → r ≡ numbered (answer_coded a) → r < 2 ^ 32 → a ≡ done (take r (output_after a output))
unfolding numbered output_after
written (done bytes) output r e h =
    let n : r ≡ length bytes = omega (arith, e) in
    ap done (sym (ap (λ (k : ℕ). take k (bytes ++ drop (length bytes) output)) n ∙ take-append_seam bytes (drop (length bytes) output)))
written (refused q) output r e h = absurd (let k = some q in omega (arith, e, h, k))
  where
    some : (q : Refusal) → 1 ≤ (refusal_coded q).code
    some (Faulty place) = omega arith
    some Long = omega arith
    some (Damaged place) = omega arith
    some (Many place) = omega arith
    some (Work needed) = omega arith
written (room needed) output r e h = absurd (omega (arith, e, h))

module _ (l : Limits) (block notes output : List ℕ) (r : ℕ) (output' : List ℕ) (m : Mailed l block notes output r output') (fine : r < 2 ^ 32) where
  pub what_was_mailed_comes_back : ComesBack l block notes (length output) (take r output')
  what_was_mailed_comes_back =
      what_the_call_wrote_comes_back l block notes (length output) (take r output')
      (written (flow l block notes (length output)) output r m.number fine ∙ ap (λ (l : List ℕ). done (take r l)) (sym m.bytes))

  -- what the reader makes of it: a line for each piece, and one more for each line `--`
  abbrev pub read_back : List ℕ
  read_back = let o = mailed (meant block what_was_mailed_comes_back.options) in joined as_line (map unquoted (joined (λ (q : Piece). came_back o q.kind) (pieces o notes)))

  read_is : unflowed (take r output') ≡ read_back
  unfolding unflowed
  read_is = ap (joined as_line) what_was_mailed_comes_back.back

  pub and_is_read : (space : ℕ) → r ≤ 65536 → length read_back ≤ space → reading (take r output') space ≡ read read_back
  unfolding reading
  and_is_read space short fits = rw (le-ltb 65536 (length (take r output')) (omega (arith, length-take r output', short)), read_is, le-leb (length read_back) space fits)
