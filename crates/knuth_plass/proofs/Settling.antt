-- The end of a round: the breaks that stay, with the best offer as one break more, or the one break that begins again.
use mathlib.Core.Path.{◌≡◌, refl, ap, ap₂, ◌∙◌}
use mathlib.Core.Bool.{true, false}
use mathlib.Core.List.{List, [], ◌∷◌, ◌++◌, map-append}
use Prim.Native.Nat.{ℕ, suc, ◌+◌, ◌≤◌, ◌<◌}
use native.Mathlib.Numerals.{add-one}
use native.Mathlib.Omega.{arith}
use lib.ListN.{length, set, take, length-set, length-map, length-append}
use lib.Seq.{take-suc-set, length-take-le}
use Rattle.records.specs.Word.{Word, meaning}
use Rattle.spacing.specs.declared.Setting.{Setting}
use Rattle.knuth_plass.specs.declared.Break.{Break as Record}
use Rattle.knuth_plass.specs.declared.Turn.{Turn}
use Rattle.knuth_plass.specs.declared.State.{State}
use Rattle.knuth_plass.specs.declared.Standing.{Standing}
use Rattle.knuth_plass.specs.KnuthPlass.{Break, Active, least, restart, settled}
use Rattle.knuth_plass.specs.Cited.Table.{ratio_of, Tables, break_in, with_break, place_of, path_to, seen, break_meant, Sound, Ascends}
use Rattle.knuth_plass.specs.Cited.Round.{Limits, Turns, lessened, nothing, LeastFound, Fit, RoundReady, breaks_listed, Restarted, Settled}
use Rattle.knuth_plass.proofs.Table.{length_with}
use Rattle.knuth_plass.proofs.Path.{meant_before, meant_more}
use Rattle.knuth_plass.proofs.Ascends.{ascends_more, map_below}
use Rattle.knuth_plass.proofs.Filled.{filled_later, filled_more}
use Rattle.knuth_plass.proofs.Offers.{offer_some, offer_none}
use Rattle.knuth_plass.proofs.Over.{fit_all}

abbrev make : List Break → ℕ → Active
make bs n = record { breaks = bs; reduction = n }

-- something stays
settled_some : (g : Setting) (i s : ℕ) (w : Word) (active bs : List Break) → 0 < length bs
    → record { breaks = bs; reduction = (least active).demerits } ≡ settled g i s w active bs
settled_some g i s w active [] h = absurd (omega arith)
settled_some g i s w active (b ∷ bs) h = refl

module _ (g : Setting) (turn : Turn) (st : Standing) (t : Tables) (a : List ℕ) (s : State) (turns : Turns g turn) (fit : Fit turn st st.count t a s) where
  ascends : Ascends 0 st.size (take s.kept a)
  ascends = fit_all turn st t a st.count s (omega arith) fit

  pub room : st.size < length t
  room = let f = fit.holds in let h = fit.few in omega arith

  pub kept_room : s.kept < length t
  kept_room = let r = room in let h = fit.kept in let l = fit.room in omega arith

  -- one break more, b, in the tables t₁ and the list a₁
  module _ (b : Record) (d : ℕ) (t₁ : Tables) (a₁ : List ℕ) (sound : Sound (suc turn.number) b) (before : b.previous < st.size)
      (stored : t₁ ≡ with_break t st.size b) (put : a₁ ≡ set a s.kept st.size) where
    front : take (s.kept + 1) a₁ ≡ take s.kept a ++ (st.size ∷ [])
    front = let k = kept_room in let l = fit.active in rw (put, add-one) (take-suc-set a s.kept st.size (omega arith))

    ready_more : RoundReady (turn.number + 1) (record { count = s.kept + 1; size = st.size + 1; reduction = d }) t₁ a₁
    ready_more =
        let h = fit.kept in
        let r = fit.room in
        let f = fit.few in
        record {
          filled = rw (stored, add-one turn.number, add-one st.size) (filled_more turn.number st.size t fit.filled b room sound before);
          active = rw (put, stored, length-set, length_with t st.size b) fit.active;
          few = omega arith;
          some = omega arith;
          room = omega arith;
          ascends = rw (front, add-one st.size) (ascends_more 0 st.size (take s.kept a) ascends);
        }

    breaks_more : breaks_listed (s.kept + 1) t₁ a₁ ≡ breaks_listed s.kept t a ++ (seen (place_of b ∷ path_to t b.previous) b ∷ [])
    breaks_more =
        let z = fit.from in
        rw (
          front,
          map-append,
          stored,
          map_below (break_meant (with_break t st.size b)) (break_meant t) 0 st.size (take s.kept a) ascends (λ j l h. meant_before t st.size b room fit.filled.sized fit.filled.down j h),
          meant_more t st.size b room fit.filled.sized fit.filled.down (omega arith) before,
        )

  -- what stays is as many as are kept
  pub breaks_length : length (breaks_listed s.kept t a) ≡ s.kept
  breaks_length = let k = kept_room in let l = fit.active in length-map (take s.kept a) (break_meant t) ∙ length-take-le s.kept a (omega arith)

  -- the reduction is the least break's demerits
  settled_is : (notes : List ℕ) (active bs cs : List Break) → LeastFound st t s (least active) → bs ≡ cs → 0 < length cs
      → record { breaks = bs; reduction = s.least } ≡ settled g turn.number turn.space (meaning notes turn.word) active cs
  settled_is notes active bs cs l e h =
      ap₂ make e l.demerits ∙ settled_some g turn.number turn.space (meaning notes turn.word) active cs h

  -- no offer, and something stays
  pub settles_none : nothing ≤ s.best.total → 0 < s.kept → Settled g turn st t a s t a (record { count = s.kept; size = st.size; reduction = s.least })
  settles_none e some = record {
    ready = (let h = fit.kept in let r = fit.room in let f = fit.few in record {
      filled = rw (add-one turn.number) (filled_later turn.number st.size t fit.filled);
      active = fit.active;
      few = omega arith;
      some = some;
      room = omega arith;
      ascends = ascends;
    });
    is = λ notes active l. rw (offer_none g.indent true turn.number t s.best e) (settled_is notes active (breaks_listed s.kept t a) (breaks_listed s.kept t a) l refl (rw breaks_length some));
  }

  -- the best offer is one break more
  module _ (limits : Limits g) (best : s.best.total < nothing) (bits : ℕ) (same : ratio_of bits ≡ s.best.ratio) (t₁ : Tables) (a₁ : List ℕ) where
    abbrev offered : Record
    offered =
        record { previous = s.best.previous; word = turn.number; before = false; demerits = s.best.total; ratio = bits; columns = g.indent; fresh = true }

    offer_sound : Sound (suc turn.number) offered
    offer_sound = let i = limits.indent in let f = fit.best best in record { ratio = rw same f.ratio; columns = omega arith; demerits = f.total; word = omega arith }

    pub settles_offer : t₁ ≡ with_break t st.size offered → a₁ ≡ set a s.kept st.size
        → Settled g turn st t a s t₁ a₁ (record { count = s.kept + 1; size = st.size + 1; reduction = s.least })
    unfolding seen
    settles_offer stored put =
        let f = fit.best best in
        record {
          ready = ready_more offered s.least t₁ a₁ offer_sound f.previous stored put;
          is = λ notes active l. rw (offer_some g.indent true turn.number t s.best best, ← same)
              (settled_is notes active (breaks_listed (s.kept + 1) t₁ a₁) (breaks_listed s.kept t a ++ (seen (place_of offered ∷ path_to t s.best.previous) offered ∷ [])) l
              (breaks_more offered s.least t₁ a₁ offer_sound f.previous stored put)
              (simp length-append (omega arith)));
        }

  -- nothing stays, and b begins again
  pub settles_restart : (b c : Record) (t₁ : Tables) (a₁ : List ℕ) → nothing ≤ s.best.total → s.kept ≡ 0 → c ≡ lessened st.reduction (break_in t s.from)
      → Restarted g turn s.from c b → t₁ ≡ with_break t st.size b → a₁ ≡ set a 0 st.size
      → Settled g turn st t a s t₁ a₁ (record { count = 1; size = st.size + 1; reduction = 0 })
  settles_restart b c t₁ a₁ e z old again stored put =
      let before : b.previous < st.size = rw again.previous fit.from in
      let put₁ : a₁ ≡ set a s.kept st.size = rw z put in
      let more = breaks_more b 0 t₁ a₁ again.sound before stored put₁ in
      record {
        ready = rw z at (ready_more b 0 t₁ a₁ again.sound before stored put₁);
        is = λ notes active l.
            rw (offer_none g.indent true turn.number t s.best e, z)
            (ap (λ (bs : List Break). make bs 0)
            (rw z at more
            ∙ ap (λ (c : Break). c ∷ [])
            (ap (λ (n : ℕ). seen (place_of b ∷ path_to t n) b) again.previous
            ∙ again.is notes (path_to t s.from)
            ∙ ap (restart g turn.number turn.space (meaning notes turn.word)) (ap (seen (path_to t s.from)) old ∙ l.again z))));
      }
