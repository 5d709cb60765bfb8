-- What `admit`, `admit_within` and `admit_lent` promise determines their answer.
use Rattle.std.proofs.Common.{Option, Some, None, Result, Ok, Err}
use Rattle.std.proofs.Props.{props}
use denote.Bor.{Bor}
use mathlib.Core.HLevel.{is_prop→PathP}
use mathlib.Core.Path.{◌≡◌, sym, ap, ◌∙◌}
use mathlib.Core.Bool.{Bool, true, false}
use mathlib.Core.List.{List}
use Prim.Native.Nat.{ℕ, ◌≤◌}
use native.Mathlib.Omega.{arith}
use lib.Dec.{ltb}
use Rattle.options.specs.Opts.{Opts, meant}
use Rattle.options.specs.OptionBlock.{read_block}
use Rattle.options.specs.declared.Options.{Options}
use Rattle.pieces.specs.Pieces.{pieces}
use Rattle.walk.specs.declared.notes.Notes.{Notes}
use Rattle.walk.specs.Digest.{digest, long_paragraph}
use Rattle.walk.specs.Cited.Course.{Admitted}
use Rattle.formatter.specs.Answers.{refusal_coded}
use Rattle.formatter.specs.Format.{Words, up_to, lent, Limits, Finding, found, stopped, with_words, within}
use Rattle.formatter.specs.Cited.Call.{Admits, AdmitsWithin, AdmitsLent, Given}
use Rattle.formatter.specs.declared.Refusal.{Refusal}
use Rattle.formatter.specs.declared.Refusal.TheVariants.{Work}

pub same_refusal : {q r : Refusal} → stopped q ≡ stopped r → q ≡ r
same_refusal e = cc

-- where none of codes 1 to 3 is due, what is refused has a later code
pub later : (w : Words) (o : Opts) (notes : List ℕ) {r : Refusal} → within w o notes ≡ stopped r → 4 ≤ (refusal_coded r).code
later (up_to most) o notes {r} e = go (long_paragraph most o 0 (pieces o notes)) e
  where
    go : (f : Option ℕ) → with_words o notes f ≡ stopped r → 4 ≤ (refusal_coded r).code
    go (Some place) k = rw (← same_refusal k) (omega arith)
    go None k = absurd (let z : ◌≡◌ {A = ℕ} 0 1 = cc in omega arith)
later (lent lends need) o notes {r} e = go (ltb lends (need o notes)) e
  where
    go : (b : Bool) → elim b as (λ t. Finding) [ true ↦ stopped (Work (need o notes)) | false ↦ found (digest o notes) ] ≡ stopped r → 4 ≤ (refusal_coded r).code
    go true k = rw (← same_refusal k) (omega arith)
    go false k = absurd (let z : ◌≡◌ {A = ℕ} 0 1 = cc in omega arith)

-- so where one of them is due, the notes are not passed
pub not_both : (l : Limits) (block notes : List ℕ) {r : Refusal} (n : Notes) → Admits l block notes (Err r) → Admits l block notes (Ok n) → {A : Type 0} → A
not_both l block notes {r} n h k = absurd (let z = later l.words (meant block n.options) notes (sym k.1 ∙ h.whole_is) in omega (arith, z, h.early))

-- that notes are admitted has one proof at most, so they are the same if their options and their two slices are
same_notes : (m n : Notes) → m.options ≡ n.options → m.block ≡ n.block → m.bytes ≡ n.bytes → m ≡ n
same_notes m n o b t =
    λ i. record {
      options = o i;
      block = b i;
      bytes = t i;
      admitted = is_prop→PathP (λ j. Admitted (b j).now (t j).now (o j)) (λ j. admitted_once (b j).now (t j).now (o j)) m.admitted n.admitted i;
    }
  where
    admitted_once : (block notes : List ℕ) (o : Options) → IsProp (Admitted block notes o)
    admitted_once block notes o = hlevel props

-- and a block gives no two options
same_given : (block notes : Bor (List ℕ)) (m n : Notes) → Given block notes (Ok m) → Given block notes (Ok n) → m ≡ n
same_given block notes m n h k =
    let a : read_block block.now ≡ Ok m.options = rw h.0 at m.admitted.accepted in
    let b : read_block block.now ≡ Ok n.options = rw k.0 at n.admitted.accepted in
    let o : m.options ≡ n.options = cc in
    same_notes m n o (h.0 ∙ sym k.0) (h.1 ∙ sym k.1)

pub admission_unique : (l : Limits) (block notes : Bor (List ℕ)) (a b : Result Notes Refusal) → Admits l block.now notes.now a → Given block notes a → Admits l block.now notes.now b → Given block notes b → a ≡ b
admission_unique l block notes (Err r) (Err s) h g k f = ap Err (same_refusal (sym h.whole_is ∙ k.whole_is))
admission_unique l block notes (Err r) (Ok n) h g k f = not_both l block.now notes.now n h k
admission_unique l block notes (Ok m) (Err s) h g k f = not_both l block.now notes.now m k h
admission_unique l block notes (Ok m) (Ok n) h g k f = ap Ok (same_given block notes m n g f)

pub admission_within_unique : (bytes : ℕ) (block notes : Bor (List ℕ)) (a b : Result Notes Refusal) → AdmitsWithin bytes block.now notes.now a → Given block notes a → AdmitsWithin bytes block.now notes.now b → Given block notes b → a ≡ b
admission_within_unique bytes block notes a b h g k f = admission_unique (record { bytes = bytes; words = up_to 0 }) block notes a b (h (up_to 0)) g (k (up_to 0)) f

found_or_stopped : {d : List ℕ} {r : Refusal} → found d ≡ stopped r → {A : Type 0} → A
found_or_stopped e = absurd (let z : ◌≡◌ {A = ℕ} 0 1 = cc in omega arith)

pub admission_lent_unique : (lends : ℕ) (block notes : Bor (List ℕ)) (a b : Result Notes Refusal) → AdmitsLent lends block.now notes.now a → Given block notes a → AdmitsLent lends block.now notes.now b → Given block notes b → a ≡ b
admission_lent_unique lends block notes (Err r) (Err s) h g k f = ap Err (same_refusal (sym h.whole_is ∙ k.whole_is))
admission_lent_unique lends block notes (Err r) (Ok n) h g k f = found_or_stopped (sym k.1 ∙ h.whole_is)
admission_lent_unique lends block notes (Ok m) (Err s) h g k f = found_or_stopped (sym h.1 ∙ k.whole_is)
admission_lent_unique lends block notes (Ok m) (Ok n) h g k f = ap Ok (same_given block notes m n g f)
