-- What `flow` promises determines its answer and every byte of the output.
use Rattle.std.proofs.Common.{Result, Ok, Err}
use mathlib.Core.Path.{◌≡◌, sym, ap, ◌∙◌}
use mathlib.Core.List.{List}
use Prim.Native.Nat.{ℕ}
use Rattle.formatter.specs.Answers.{Answer}
use Rattle.formatter.specs.declared.Unwritten.{Unwritten}
use Rattle.flow.specs.Cited.Sending.{Sends, reply_of, dashes_told}
use Rattle.flow.specs.declared.Sent.{Sent}

-- two answers that reply and count the same are the same
same : (r s : Result Sent Unwritten) → reply_of r ≡ reply_of s → dashes_told r ≡ dashes_told s → r ≡ s
same (Ok a) (Ok b) e d =
    let w : a.written ≡ b.written = cc in
    ap (λ (n : ℕ). Ok (record { written = n; dashes = a.dashes })) w ∙ ap (λ (n : ℕ). Ok (record { written = b.written; dashes = n })) d
same (Ok a) (Err u) e d = cc
same (Err u) (Ok a) e d = cc
same (Err u) (Err v) e d = cc

pub sends_unique : (a : Answer) (dashes : ℕ) (out : List ℕ) (r s : Result Sent Unwritten) (x y : List ℕ) → Sends a dashes out r x → Sends a dashes out s y → (r ≡ s) × (x ≡ y)
sends_unique a dashes out r s x y h k = (same r s (h.is ∙ sym k.is) (h.counts ∙ sym k.counts), h.output ∙ sym k.output)
