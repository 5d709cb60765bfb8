-- Where nothing stays: the break that begins again is the definition's, before the word or after it.
use mathlib.Core.Path.{◌≡◌, refl}
use mathlib.Core.Bool.{true, false}
use Prim.Native.Nat.{ℕ, ◌+◌, ◌≤◌, ◌<◌}
use native.Mathlib.Omega.{arith}
use borrow.Author.Tests.{lt-ltb, le-ltb}
use lib.IntN.{pos}
use lib.Ieee.{fin}
use Rattle.records.specs.Word.{meaning}
use Rattle.spacing.specs.declared.Setting.{Setting}
use Rattle.knuth_plass.specs.declared.Break.{Break as Record}
use Rattle.knuth_plass.specs.declared.Turn.{Turn}
use Rattle.knuth_plass.specs.KnuthPlass.{minimum_of, restart}
use Rattle.knuth_plass.specs.Cited.Table.{ratio_of, seen}
use Rattle.knuth_plass.specs.Cited.Round.{Limits, Turns, line_at, Restarted}
use Rattle.knuth_plass.proofs.Line.{line_is}

module _ (g : Setting) (turn : Turn) (n : ℕ) (b : Record) (limits : Limits g) (turns : Turns g turn) where
  abbrev behind : ℕ → Record
  behind r = record { previous = n; word = turn.number; before = false; demerits = 0; ratio = r; columns = g.indent; fresh = true }

  abbrev ahead : ℕ → Record
  ahead r = record { previous = n; word = turn.number; before = true; demerits = 0; ratio = r; columns = g.indent + turn.word.width; fresh = false }

  pub restarted_fresh : (r : ℕ) → ratio_of r ≡ fin true 1 (pos 0) → b.fresh ≡ true → Restarted g turn n b (behind r)
  unfolding restart seen
  restarted_fresh r z e =
      let i = limits.indent in
      record {
        previous = refl;
        sound = record { ratio = rw z tt; columns = omega arith; demerits = omega arith; word = omega arith };
        is = λ notes path. rw (e, z);
      }

  module _ (x : ℕ) (line : x ≡ line_at g turn b) (old : b.fresh ≡ false) where
    pub restarted_after : (r : ℕ) → ratio_of r ≡ fin true 1 (pos 0) → x + b.columns ≤ minimum_of g + g.width → Restarted g turn n b (behind r)
    unfolding restart seen
    restarted_after r z h =
        let i = limits.indent in
        record {
          previous = refl;
          sound = record { ratio = rw z tt; columns = omega arith; demerits = omega arith; word = omega arith };
          is = λ notes path. rw (restart, line_is g turn b notes path, ← line, le-ltb (minimum_of g + g.width) (x + b.columns) h, old, z);
        }

    pub restarted_before : (r : ℕ) → ratio_of r ≡ fin false 1 (pos 0) → minimum_of g + g.width < x + b.columns → Restarted g turn n b (ahead r)
    unfolding restart seen meaning
    restarted_before r z h =
        let i = limits.indent in
        let w = turns.narrow in
        record {
          previous = refl;
          sound = record { ratio = rw z tt; columns = omega arith; demerits = omega arith; word = omega arith };
          is = λ notes path. rw (restart, line_is g turn b notes path, ← line, lt-ltb (minimum_of g + g.width) (x + b.columns) h, old, z);
        }
