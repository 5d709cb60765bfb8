-- The answers by the tests that lead to them.
use Rattle.std.proofs.Common.{Ok, Err}
use mathlib.Core.Path.{◌≡◌, refl, ap, ◌∙◌}
use mathlib.Core.List.{List}
use Prim.Native.Nat.{ℕ, ◌*◌, ◌≤◌, ◌<◌}
use native.Mathlib.Omega.{arith}
use lib.ListN.{length, replicate}
use borrow.Author.Tests.{lt-ltb, le-ltb, lt-leb, le-leb}
use Rattle.output.specs.Cited.Sink.{Wrote}
use Rattle.output.proofs.Sink.{written_fits, wrote_length}
use Rattle.lists.specs.Coded.{numbered, result_coded}
use Rattle.unflow.specs.Unflow.{unflowed, UnflowAnswer, done, long, room, unflow, unflow_coded, unflow_output_after}
use Rattle.unflow.specs.Cited.Steps.{told, unread_coded, Reads}
use Rattle.unflow.specs.declared.Unread.TheVariants.{Long, Room}

pub number_told : (a : UnflowAnswer) → numbered (result_coded unread_coded (told a)) ≡ numbered (unflow_coded a)
number_told (done read) = refl
number_told long = refl
number_told (room needed) = refl

module _ (text out : List ℕ) where
  pub reads_long : 65536 < length text → Reads (unflow text (length out)) out (Err Long) out
  unfolding unflow unflow_output_after numbered
  reads_long h = rw (lt-ltb 65536 (length text) h) (record { is = refl; output = refl; small = omega arith })

  module _ (h : length text ≤ 65536) {out' : List ℕ} {n : ℕ} (w : Wrote out 0 (unflowed text) out' n) (few : n ≤ 4 * length text) where
    size : length (unflowed text) ≡ n
    size = omega (arith, w.count)

    pub reads_done : n ≤ length out' → Reads (unflow text (length out)) out (Ok n) out'
    unfolding unflow unflow_output_after numbered
    reads_done k =
        let l = wrote_length w in
        rw (le-ltb 65536 (length text) h, le-leb (length (unflowed text)) (length out) (omega (arith, size)))
        (record { is = ap Ok (omega (arith, size)); output = w.bytes ∙ written_fits 0 out (unflowed text) (omega (arith, size)); small = omega arith })

    pub reads_room : {out'' : List ℕ} → length out' < n → out'' ≡ replicate (length out') 0 → Reads (unflow text (length out)) out (Err (Room n)) out''
    unfolding unflow unflow_output_after numbered
    reads_room k z =
        let l = wrote_length w in
        rw (le-ltb 65536 (length text) h, lt-leb (length (unflowed text)) (length out) (omega (arith, size)))
        (record { is = ap (λ (m : ℕ). Err (Room m)) (omega (arith, size)); output = z ∙ ap (λ (m : ℕ). replicate m 0) l; small = omega arith })
