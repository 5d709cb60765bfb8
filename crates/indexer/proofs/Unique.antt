-- Two results that keep the promise of the indexed call are equal, and so are the outputs and the counts that they leave, and the records
-- that their marks tell.
use mathlib.Core.Path.{◌≡◌, sym, ap, ◌∙◌}
use mathlib.Core.List.{List}
use Prim.Native.Nat.{ℕ}
use Rattle.marks.specs.Cited.Marks.{marks_in}
use Rattle.index.specs.Cited.Lists.{no_record}
use Rattle.index.specs.Cited.Reading.{front, read_from}
use Rattle.indexer.specs.Answers.{Indexed}
use Rattle.indexer.specs.Cited.Noting.{Marked}
use Rattle.indexer.specs.declared.Told.{Told}

module _ (a : Indexed) (records : ℕ) (out : List ℕ) {out₁ out₂ : List ℕ} {filled₁ filled₂ : ℕ} {work₁ work₂ : List ℕ} {t s : Told} where
  pub indexes_unique : Marked a records out out₁ filled₁ work₁ t → Marked a records out out₂ filled₂ work₂ s
      → (t ≡ s) × (out₁ ≡ out₂) × (filled₁ ≡ filled₂) × (read_from (marks_in (front work₁)) t.records no_record ≡ read_from (marks_in (front work₂)) s.records no_record)
  indexes_unique h k = (
    ap (λ (n : ℕ). record { answer = n; records = t.records }) (h.answer ∙ sym k.answer) ∙ ap (λ (n : ℕ). record { answer = s.answer; records = n }) (h.count ∙ sym k.count),
    h.output ∙ sym k.output,
    h.filled ∙ sym k.filled,
    h.read ∙ sym k.read,
  )
