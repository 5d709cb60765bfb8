-- A round over all active breaks: how it begins, and what it has come to when all are done.
use mathlib.Core.Path.{◌≡◌, refl, sym, ap, ◌∙◌}
use mathlib.Core.Bool.{Bool, true, false, cond}
use mathlib.Core.List.{List, ◌∷◌, map, append-nil}
use Prim.Native.Nat.{ℕ, ◌≤◌, ◌<◌}
use native.Mathlib.Omega.{arith}
use lib.Dec.{ltb}
use lib.Ieee.{Float}
use lib.ListN.{length, get_or, take}
use lib.Seq.{slice}
use Rattle.lists.proofs.Remaining.{slice_here, slice_none}
use Rattle.records.specs.Word.{meaning}
use Rattle.spacing.specs.declared.Setting.{Setting}
use Rattle.knuth_plass.specs.declared.Break.{Break as Record}
use Rattle.knuth_plass.specs.declared.Turn.{Turn}
use Rattle.knuth_plass.specs.declared.State.{State}
use Rattle.knuth_plass.specs.declared.Standing.{Standing}
use Rattle.knuth_plass.specs.KnuthPlass.{Break, reduced, staying, lesser, best_offer, least_from, least}
use Rattle.knuth_plass.specs.Cited.Table.{Tables, break_in, path_to, seen, break_meant, Ascends}
use Rattle.knuth_plass.specs.Cited.Round.{lessened, nothing, offer_made, offer_in, RoundReady, breaks_listed, Fit, RoundGoes, Outcome, Done}
use Rattle.knuth_plass.proofs.Ascends.{ascends_first}
use Rattle.knuth_plass.proofs.Offers.{lesser_none}

-- the first break, looked at again, is still the least
least_again : (b : Break) (bs : List Break) → least_from b (b ∷ bs) ≡ least_from b bs
unfolding least_from
least_again b bs = ap (λ (c : Break). least_from c bs) (by (ltb b.demerits b.demerits)) where
  by : (x : Bool) → cond x b b ≡ b
  by true = refl
  by false = refl

-- the round so far where none is done, the first break having the demerits d
abbrev begun : ℕ → ℕ → Float → State
begun n d r = record { kept = 0; from = n; least = d; best = record { total = nothing; previous = 0; ratio = r } }

abbrev pub answer : Setting → Turn → List Break → List ℕ → Outcome
answer g turn active notes = record {
  notes = notes;
  stayed = staying g turn.space (meaning notes turn.word) active;
  best = best_offer g turn.last turn.number turn.space (meaning notes turn.word) active;
  least = least active;
}

module _ (g : Setting) (turn : Turn) (st : Standing) (t : Tables) (a : List ℕ) (holds : turn.number < length t) (ready : RoundReady turn.number st t a) (n : ℕ) (at : n ≡ get_or a 0 0) where
  few : st.count ≤ length a
  few = let f = holds in let h = ready.few in let r = ready.room in let l = ready.active in omega arith

  here : slice 0 st.count a ≡ n ∷ slice 1 st.count a
  here = rw at (slice_here a 0 st.count 0 ready.some few)

  pub first_within : n < st.size
  first_within = ascends_first 0 st.size (n) (slice 1 st.count a) (rw here at ready.ascends)

  pub first_room : n < length t
  first_room = let w = first_within in let f = holds in let h = ready.few in omega arith

  module _ (r : Float) (b : Record) (is : b ≡ lessened st.reduction (break_in t (n))) where
    pub fit_first : Fit turn st 0 t a (begun (n) b.demerits r)
    fit_first = record {
      filled = ready.filled;
      active = ready.active;
      holds = holds;
      few = ready.few;
      room = ready.room;
      kept = omega arith;
      on = omega arith;
      ascends = ready.ascends;
      from = first_within;
      best = λ h. absurd (omega arith);
    }

    pub goes_first : (notes : List ℕ) → RoundGoes g turn st (answer g turn (map (reduced st.reduction) (breaks_listed st.count t a)) notes) 0 t a (begun (n) b.demerits r)
    unfolding lesser offer_made least reduced break_meant seen
    goes_first notes = record {
      stayed = refl;
      best = refl;
      so_far = seen (path_to t (n)) b;
      found = record { demerits = refl; again = λ z. ap (seen (path_to t (n))) (sym is) };
      least = rw (is, here) (least_again _ _);
    }

module _ (turn : Turn) (st : Standing) (t : Tables) (a : List ℕ) (k : ℕ) (s : State) (all : st.count ≤ k) where
  pub fit_end : Fit turn st k t a s → Fit turn st st.count t a s
  fit_end fit =
      let on = fit.on in
      let e : k ≡ st.count = omega arith in
      rw e at fit

  pub fit_all : Fit turn st k t a s → Ascends 0 st.size (take s.kept a)
  fit_all fit = rw (← append-nil (take s.kept a), ← slice_none a k st.count all) fit.ascends

  pub done : (g : Setting) (active : List Break) (notes : List ℕ) → RoundGoes g turn st (answer g turn active notes) k t a s → Done g turn st active t a s notes
  unfolding staying best_offer least_from
  done g active notes v =
      let e = slice_none a k st.count all in
      record {
        stayed = sym (append-nil (breaks_listed s.kept t a)) ∙ rw e at v.stayed;
        best = sym (lesser_none (offer_in g turn.number t s.best)) ∙ rw e at v.best;
        found = rw (sym (rw e at v.least)) v.found;
      }
