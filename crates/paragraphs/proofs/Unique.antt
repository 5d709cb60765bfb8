-- What `put_paragraph` promises determines its answer and every byte of the output.
use Rattle.std.proofs.Common.{Result, Ok, Err}
use mathlib.Core.Path.{◌≡◌, refl, sym, ap, ◌∙◌}
use mathlib.Core.Bool.{Bool, true≢false}
use mathlib.Core.List.{List}
use Prim.Native.Nat.{ℕ}
use Rattle.options.specs.declared.Options.{Options}
use Rattle.pieces.specs.declared.Paragraph.{Paragraph}
use Rattle.words.specs.declared.TooMany.{TooMany}
use Rattle.output.proofs.Unique.{wrote_unique}
use Rattle.paragraphs.specs.Cited.Steps.{TextStepped}
use Rattle.paragraphs.specs.declared.Cursor.{Cursor}

cursor_same : (d e : Cursor) → d.at ≡ e.at → d.written ≡ e.written → d.mail ≡ e.mail → d ≡ e
cursor_same d e a w m =
    ap (λ (x : ℕ). record { at = x; written = d.written; mail = d.mail }) a
    ∙ ap (λ (x : ℕ). record { at = e.at; written = x; mail = d.mail }) w
    ∙ ap (λ (x : Bool). record { at = e.at; written = e.written; mail = x }) m

pub step_unique : (taken : Bool) (notes : List ℕ) (at : ℕ) (o : Options) (p : Paragraph) (out : List ℕ) (written : ℕ) (block : List ℕ) (a b : List ℕ) (r s : Result Cursor TooMany)
    → TextStepped taken notes at o p out written a r block → TextStepped taken notes at o p out written b s block → (r ≡ s) × (a ≡ b)
step_unique taken notes at o p out written block a b (Ok d) (Ok e) h k =
    let u = wrote_unique _ _ _ a _ b _ h.1.wrote k.1.wrote in
    (ap Ok (cursor_same d e (h.1.next ∙ sym k.1.next) u.1 (h.1.mail ∙ sym k.1.mail)), u.0)
step_unique taken notes at o p out written block a b (Ok d) (Err e) h k = absurd (true≢false (sym h.0 ∙ k.0))
step_unique taken notes at o p out written block a b (Err d) (Ok e) h k = absurd (true≢false (sym k.0 ∙ h.0))
step_unique taken notes at o p out written block a b (Err d) (Err e) h k = (refl, h.1 ∙ sym k.1)
