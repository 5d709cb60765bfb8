-- `lines::ended_at` meets its contract: the body's end is the notes' end, or a line feed stands there.
use native.Mathlib.Omega.{arith}
use Rattle.lines.proofs.Lines.{line_last, line_fed}
use Rattle.lines.proofs.ended_at.Goals as goal

pub returns-then-end-s : goal.returns-then-end-s
returns-then-end-s c = line_last _ _ c.requires.0 c.if-end-s.true

pub returns : goal.returns
returns c =
    let b = c.requires in
    line_fed _ _ b.0 _ (omega (arith, b.1)) c.without_return-text.ensures
