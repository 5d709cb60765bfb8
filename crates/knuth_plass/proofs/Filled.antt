-- The table's records stay sound: one is stored again, one comes after the last, and a round later the bounds are wider.
use mathlib.Core.Path.{◌≡◌, refl}
use mathlib.Core.Bool.{Bool, true, false}
use Prim.Native.Nat.{ℕ, suc, ◌≤◌, ◌<◌}
use native.Mathlib.Omega.{arith}
use borrow.Author.Tests.{eqb-true, eqb-false}
use lib.Dec.{eqb}
use lib.ListN.{length}
use Rattle.knuth_plass.specs.declared.Break.{Break as Record}
use Rattle.knuth_plass.specs.Cited.Table.{most_words, Tables, break_in, with_break, Stored, Sound, Filled, Leads}
use Rattle.knuth_plass.specs.Cited.Round.{lessened, extended}
use Rattle.knuth_plass.proofs.Table.{sized_with, stored_with}

pub sound_lessened : (i k : ℕ) (b : Record) → Sound i b → Sound i (lessened k b)
sound_lessened i k b s = let d = s.demerits in record { ratio = s.ratio; columns = s.columns; demerits = omega arith; word = s.word }

pub sound_extended : (i x : ℕ) (b : Record) → x ≤ 1000 → Sound i b → Sound i (extended x b)
sound_extended i x b h s = record { ratio = s.ratio; columns = omega arith; demerits = s.demerits; word = s.word }

sound_later : (i : ℕ) (b : Record) → Sound i b → Sound (suc i) b
sound_later i b s = let d = s.demerits in let w = s.word in record { ratio = s.ratio; columns = s.columns; demerits = omega arith; word = omega arith }

-- what is stored at j holds, and the other records are as they were
stored_holds : (t : Tables) (j : ℕ) (b : Record) (t₁ : Tables) (P : ℕ → Record → Type 0) → Stored t j b t₁ → P j b → (m : ℕ) → ((m ≡ j → ⊥) → P m (break_in t m)) → P m (break_in t₁ m)
stored_holds t j b t₁ P stored h m other = by (eqb m j) refl where
  by : (x : Bool) → eqb m j ≡ x → P m (break_in t₁ m)
  by true e = rw (eqb-true m j e, stored.here) h
  by false e = rw (stored.others m (eqb-false m j e)) (other (eqb-false m j e))

module _ (i n : ℕ) (t : Tables) (filled : Filled i n t) where
  pub filled_again : (j : ℕ) (b : Record) (t₁ : Tables) → j < n → Stored t j b t₁ → Sound i b → b.previous ≡ (break_in t j).previous → Filled i n t₁
  filled_again j b t₁ here stored sound same = record {
    sized = stored.sized;
    sound = λ m h. stored_holds t j b t₁ (λ m c. Sound i c) stored sound m (λ ne. filled.sound m h);
    down = λ m p h. stored_holds t j b t₁ (λ m c. 0 < m → c.previous < m) stored (λ q. rw same (filled.down j q here)) m (λ ne q. filled.down m q h) p;
  }

  pub filled_later : Filled (suc i) n t
  filled_later = record { sized = filled.sized; sound = λ m h. sound_later i (break_in t m) (filled.sound m h); down = filled.down }

  pub filled_more : (b : Record) → n < length t → Sound (suc i) b → b.previous < n → Filled (suc i) (suc n) (with_break t n b)
  filled_more b room sound before = record {
    sized = sized_with t n b filled.sized;
    sound = λ m h. stored_holds t n b (with_break t n b) (λ m c. Sound (suc i) c) (stored_with t n b room filled.sized) sound m (λ ne. sound_later i (break_in t m) (filled.sound m (omega arith)));
    down = λ m p h. stored_holds t n b (with_break t n b) (λ m c. 0 < m → c.previous < m) (stored_with t n b room filled.sized) (λ q. before) m (λ ne q. filled.down m q (omega arith)) p;
  }

-- each record leads down to the first
pub filled_leads : (i n : ℕ) (t : Tables) → Filled i n t → i ≤ most_words → (last : ℕ) → last < n → Leads t last
filled_leads i n t filled few last h j p l =
    let m : j < n = omega arith in
    let w = (filled.sound j m).word in
    (filled.down j p m, omega arith)
