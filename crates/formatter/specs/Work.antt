-- The limits of measuring, writing and the writer by mail where their working room is lent.
use Rattle.std.specs.Prelude.{ℕ}
use Rattle.walk.specs.Work.{work_for}
use Rattle.formatter.specs.Format.{Limits, lent}

-- so many numbers are lent: 1,048,576 bytes, and as many words as there is room for
abbrev pub most_lent : ℕ
most_lent = 1048576

abbrev pub lending : ℕ → Limits
lending lends = record { bytes = most_lent; words = lent lends work_for }
