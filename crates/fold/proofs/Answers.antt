-- The answers by the tests that lead to them.
use Rattle.std.proofs.Common.{Ok, Err}
use mathlib.Core.Path.{◌≡◌, refl, ap, ◌∙◌}
use mathlib.Core.Bool.{Bool, true, false, ◌||◌}
use mathlib.Core.List.{List}
use Prim.Native.Nat.{ℕ, ◌*◌, ◌≤◌, ◌<◌}
use native.Mathlib.Omega.{arith}
use lib.Dec.{ltb, eqb}
use lib.ListN.{length, replicate}
use borrow.Author.Tests.{lt-ltb, le-ltb, lt-leb, le-leb, ltb-false}
use Rattle.output.specs.Cited.Sink.{Wrote}
use Rattle.output.proofs.Sink.{written_fits, wrote_length}
use Rattle.panel.specs.Panel.{stop_width}
use Rattle.lists.specs.Coded.{numbered, result_coded}
use Rattle.fold.specs.Fold.{folded, FoldAnswer, done, options, long, room, fold, fold_coded, fold_output_after}
use Rattle.fold.specs.Cited.Steps.{told, unfolded_coded, Folds}
use Rattle.fold.specs.declared.Unfolded.TheVariants.{Options, Long, Room}

pub number_told : (a : FoldAnswer) → numbered (result_coded unfolded_coded (told a)) ≡ numbered (fold_coded a)
number_told (done all) = refl
number_told options = refl
number_told long = refl
number_told (room needed) = refl

module _ (text : List ℕ) (tab columns : ℕ) (out : List ℕ) where
  pub folds_options : (ltb 100 tab || eqb columns 0 || ltb 1000 columns) ≡ true → Folds (fold text tab columns (length out)) out (Err Options) out
  unfolding fold fold_output_after numbered
  folds_options h = rw h (record { is = refl; output = refl; small = omega arith })

  module _ (h : (ltb 100 tab || eqb columns 0 || ltb 1000 columns) ≡ false) where
    pub in_bounds : (tab ≤ 100) × (columns ≤ 1000)
    in_bounds = go (ltb 100 tab) refl (eqb columns 0) (ltb 1000 columns) refl h
      where
        go : (t : Bool) → ltb 100 tab ≡ t → (u v : Bool) → ltb 1000 columns ≡ v → (t || u || v) ≡ false → (tab ≤ 100) × (columns ≤ 1000)
        go false e false false f g = (ltb-false 100 tab e, ltb-false 1000 columns f)
        go false e false true f g = absurd (let z : ◌≡◌ {A = ℕ} 0 1 = cc in omega arith)
        go false e true v f g = absurd (let z : ◌≡◌ {A = ℕ} 0 1 = cc in omega arith)
        go true e u v f g = absurd (let z : ◌≡◌ {A = ℕ} 0 1 = cc in omega arith)

    pub folds_long : 1073741824 < length text → Folds (fold text tab columns (length out)) out (Err Long) out
    unfolding fold fold_output_after numbered
    folds_long l = rw (h, lt-ltb 1073741824 (length text) l) (record { is = refl; output = refl; small = omega arith })

    module _ (l : length text ≤ 1073741824) {out' : List ℕ} {m : ℕ} (w : Wrote out 0 (folded (stop_width tab) columns text) out' m) (few : m ≤ 2 * length text) where
      size : length (folded (stop_width tab) columns text) ≡ m
      size = omega (arith, w.count)

      pub folds_done : m ≤ length out' → Folds (fold text tab columns (length out)) out (Ok m) out'
      unfolding fold fold_output_after numbered
      folds_done f =
          let q = wrote_length w in
          rw (h, le-ltb 1073741824 (length text) l, le-leb (length (folded (stop_width tab) columns text)) (length out) (omega (arith, size)))
          (record { is = ap Ok (omega (arith, size)); output = w.bytes ∙ written_fits 0 out (folded (stop_width tab) columns text) (omega (arith, size)); small = omega arith })

      pub folds_room : {out'' : List ℕ} → length out' < m → out'' ≡ replicate (length out') 0 → Folds (fold text tab columns (length out)) out (Err (Room m)) out''
      unfolding fold fold_output_after numbered
      folds_room f z =
          let q = wrote_length w in
          rw (h, le-ltb 1073741824 (length text) l, lt-leb (length (folded (stop_width tab) columns text)) (length out) (omega (arith, size)))
          (record { is = ap (λ (j : ℕ). Err (Room j)) (omega (arith, size)); output = z ∙ ap (λ (j : ℕ). replicate j 0) q; small = omega arith })
