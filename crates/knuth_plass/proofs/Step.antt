-- One turn of a round: the break that is next is dropped, or stays with the word on its line and may offer.
use mathlib.Core.Path.{◌≡◌, refl, sym, ◌∙◌}
use mathlib.Core.Bool.{true}
use mathlib.Core.List.{List, [], ◌∷◌, ◌++◌, map-append}
use Prim.Native.Nat.{ℕ, ◌+◌, ◌≤◌, ◌<◌}
use native.Mathlib.Numerals.{add-one}
use native.Mathlib.Omega.{arith}
use borrow.Author.Tests.{le-leb, lt-leb}
use lib.ListN.{length, get_or, set, take, length-set}
use lib.Seq.{slice, take-suc-set, append_snoc}
use Rattle.lists.proofs.Remaining.{slice_here, slice_set}
use Rattle.records.specs.Word.{meaning}
use Rattle.spacing.specs.declared.Setting.{Setting}
use Rattle.knuth_plass.specs.declared.Break.{Break as Record}
use Rattle.knuth_plass.specs.declared.Best.{Best}
use Rattle.knuth_plass.specs.declared.Turn.{Turn}
use Rattle.knuth_plass.specs.declared.State.{State}
use Rattle.knuth_plass.specs.declared.Standing.{Standing}
use Rattle.knuth_plass.specs.KnuthPlass.{Place, Break, none, minimum_of, reduced, staying, lesser, offer_of, best_offer}
use Rattle.knuth_plass.specs.Cited.Table.{Tables, table_in, Stored, with_break, break_in, path_to, seen, break_meant, Sound, Ascends}
use Rattle.knuth_plass.specs.Cited.Round.{Limits, Turns, line_at, lessened, extended, noted, Keeps, stays, Offers, OfferedIs, Fit, RoundGoes, Outcome, rest}
use Rattle.knuth_plass.proofs.Path.{Alike, path_again, meant_again, meant_beside}
use Rattle.knuth_plass.proofs.Ascends.{ascends_at, ascends_less, map_left, map_right}
use Rattle.knuth_plass.proofs.Filled.{filled_again, sound_lessened, sound_extended}
use Rattle.knuth_plass.proofs.Lowest.{lower, noted_kept, noted_best, noted_from, noted_found, least_step}
use Rattle.knuth_plass.proofs.Line.{line_is, offered_line, offered_short}
use Rattle.knuth_plass.proofs.Table.{has_room, stored_with}
use Rattle.knuth_plass.proofs.Offers.{lesser_assoc, offer_same}

-- ---- the definition, one break on

module _ (g : Setting) (turn : Turn) (notes : List ℕ) (b : Record) (path : List Place) where
  staying_drops : (bs : List Break) → g.width < line_at g turn b
      → staying g turn.space (meaning notes turn.word) (seen path b ∷ bs) ≡ staying g turn.space (meaning notes turn.word) bs
  unfolding staying
  staying_drops bs h = rw (staying, line_is g turn b notes path, lt-leb (line_at g turn b) g.width h)

  staying_keeps : (bs : List Break) → line_at g turn b ≤ g.width
      → staying g turn.space (meaning notes turn.word) (seen path b ∷ bs) ≡ seen path (extended (line_at g turn b) b) ∷ staying g turn.space (meaning notes turn.word) bs
  unfolding staying seen
  staying_keeps bs h = rw (staying, line_is g turn b notes path, le-leb (line_at g turn b) g.width h, line_is g turn b notes path)

  offer_drops : g.width < line_at g turn b → offer_of g turn.last turn.number turn.space (meaning notes turn.word) (seen path b) ≡ none
  unfolding offer_of
  offer_drops h = rw (offer_of, line_is g turn b notes path, lt-leb (line_at g turn b) g.width h)

-- ---- one turn

module _ (g : Setting) (turn : Turn) (st : Standing) (k : ℕ) (t : Tables) (a : List ℕ) (s : State) (turns : Turns g turn) (fit : Fit turn st k t a s) (more : k < st.count) (n : ℕ) (at : n ≡ get_or a k 0) where
  here : slice k st.count a ≡ n ∷ slice (k + 1) st.count a
  here = let f = fit.room in let h = fit.few in let l = fit.holds in let e = fit.active in rw at (slice_here a k st.count 0 more (omega arith))

  split : Ascends 0 st.size (take s.kept a ++ n ∷ slice (k + 1) st.count a)
  split = rw here at fit.ascends

  pub within : n < st.size
  within = (ascends_at (n) (slice (k + 1) st.count a) 0 st.size (take s.kept a) split).1

  pub room : n < length t
  room = let w = within in let f = fit.holds in let h = fit.few in omega arith

  pub sound : Sound turn.number (lessened st.reduction (break_in t (n)))
  sound = sound_lessened turn.number st.reduction (break_in t (n)) (fit.filled.sound (n) within)

  pub kept_room : (after : State) (d : ℕ) → after ≡ noted s n d → after.kept < length t
  kept_room after d e = let f = fit.holds in let h = fit.few in let m = fit.room in let u = fit.kept in rw (e, noted_kept s n d) (omega arith)

  next : rest st k t a ≡ seen (path_to t (n)) (lessened st.reduction (break_in t (n))) ∷ rest st (k + 1) t a
  unfolding reduced break_meant seen
  next = rw here

  module _ (b : Record) (is : b ≡ lessened st.reduction (break_in t (n))) where
    from_fits : (noted s (n) b.demerits).from < st.size
    from_fits = noted_from s (n) b.demerits st.size fit.from within

    module _ (long : g.width < line_at g turn b) where
      pub fit_drops : Fit turn st (k + 1) t a (noted s (n) b.demerits)
      fit_drops =
          let h = fit.kept in
          record {
            filled = fit.filled;
            active = fit.active;
            holds = fit.holds;
            few = fit.few;
            room = fit.room;
            kept = rw (noted_kept s (n) b.demerits) (omega arith);
            on = omega arith;
            ascends = rw (noted_kept s (n) b.demerits) (ascends_less (n) (slice (k + 1) st.count a) 0 st.size (take s.kept a) split);
            from = from_fits;
            best = rw (noted_best s (n) b.demerits) fit.best;
          }

      pub goes_drops : (z : Outcome) → RoundGoes g turn st z k t a s → RoundGoes g turn st z (k + 1) t a (noted s (n) b.demerits)
      unfolding best_offer lesser
      goes_drops z v =
          let r : rest st k t a ≡ seen (path_to t (n)) b ∷ rest st (k + 1) t a = rw is next in
          record {
            stayed = rw (noted_kept s (n) b.demerits) (rw (r, staying_drops g turn z.notes b (path_to t (n)) (rest st (k + 1) t a) long) at v.stayed);
            best = rw (noted_best s (n) b.demerits) (rw (r, best_offer, offer_drops g turn z.notes b (path_to t (n)) long, lesser) at v.best);
            so_far = lower st t s (n) b v.so_far v.found;
            found = noted_found st t s (n) b v.so_far v.found is;
            least = sym (least_step st t s (n) b v.so_far v.found (rest st (k + 1) t a)) ∙ rw r at v.least;
          }

    module _ (x : ℕ) (best : Best) (t₁ : Tables) (limits : Limits g) (line : x ≡ line_at g turn b) (fits : x ≤ g.width)
        (offered : OfferedIs g turn (n) b x s.best best) (stored : Stored t (n) (extended x b) t₁) where
      alike : Alike (extended x b) (break_in t (n))
      alike = rw is (record { place = refl; previous = refl })

      paths : (j : ℕ) → j < st.size → path_to t₁ j ≡ path_to t j
      paths j h = path_again t (n) st.size (extended x b) t₁ stored fit.filled.down within alike j h

      beside : (j : ℕ) → j < st.size → (j ≡ n → ⊥) → break_meant t₁ j ≡ break_meant t j
      beside j h ne = meant_beside t (n) st.size (extended x b) t₁ stored fit.filled.down within alike j h ne

      itself : break_meant t₁ (n) ≡ seen (path_to t (n)) (extended x b)
      itself = meant_again t (n) st.size (extended x b) t₁ stored fit.filled.down within alike

      front : take (s.kept + 1) (set a s.kept (n)) ≡ take s.kept a ++ (n ∷ [])
      front = let h = fit.kept in let l = fit.active in let r = fit.room in rw add-one (take-suc-set a s.kept (n) (omega arith))

      back : slice (k + 1) st.count (set a s.kept (n)) ≡ slice (k + 1) st.count a
      back = let h = fit.kept in slice_set a (k + 1) st.count s.kept (n) (omega arith) (omega arith)

      rest_same : rest st (k + 1) t₁ (set a s.kept (n)) ≡ rest st (k + 1) t a
      rest_same = rw (back, map_right (break_meant t₁) (break_meant t) (n) (slice (k + 1) st.count a) 0 st.size (take s.kept a) split beside)

      abbrev state : State
      state = record { kept = s.kept + 1; from = (noted s (n) b.demerits).from; least = (noted s (n) b.demerits).least; best = best }

      pub fit_keeps : Fit turn st (k + 1) t₁ (set a s.kept (n)) state
      fit_keeps =
          let h = fit.kept in
          let w = limits.wide in
          record {
            filled = filled_again turn.number st.size t fit.filled (n) (extended x b) t₁ within stored (sound_extended turn.number x b (omega arith) (rw is sound)) alike.previous;
            active = rw (length-set, stored.length) fit.active;
            holds = rw stored.length fit.holds;
            few = fit.few;
            room = fit.room;
            kept = omega arith;
            on = omega arith;
            ascends = rw (front, back, append_snoc) split;
            from = from_fits;
            best = offered.fits st.size within fit.best;
          }

      pub goes_keeps : (z : Outcome) → RoundGoes g turn st z k t a s → RoundGoes g turn st z (k + 1) t₁ (set a s.kept (n)) state
      unfolding best_offer
      goes_keeps z v =
          let r : rest st k t a ≡ seen (path_to t (n)) b ∷ rest st (k + 1) t a = rw is next in
          let f : line_at g turn b ≤ g.width = rw (← line) fits in
          record {
            stayed = rw (
              front,
              rest_same,
              map-append,
              map_left (break_meant t₁) (break_meant t) (n) (slice (k + 1) st.count a) 0 st.size (take s.kept a) split beside,
              itself,
              append_snoc,
              line,
            ) (rw (r, staying_keeps g turn z.notes b (path_to t (n)) (rest st (k + 1) t a) f) at v.stayed);
            best = rw (
              rest_same,
              offer_same g.indent true turn.number st.size t t₁ best (offered.fits st.size within fit.best) paths,
              offered_line g turn n b s.best x best line offered z.notes t,
              lesser_assoc,
            ) (rw (r, best_offer) at v.best);
            so_far = lower st t s (n) b v.so_far v.found;
            found = record { demerits = (noted_found st t s (n) b v.so_far v.found is).demerits; again = λ z. absurd (omega arith) };
            least = rw rest_same (sym (least_step st t s (n) b v.so_far v.found (rest st (k + 1) t a)) ∙ rw r at v.least);
          }

    -- as the code goes on, with what it has stored
    module _ (x : ℕ) (best : Best) (limits : Limits g) (line : x ≡ line_at g turn b) (t₁ : Tables) (after r : State) (a₁ : List ℕ)
        (saw : after ≡ noted s n b.demerits) (kept : t₁ ≡ with_break t n (extended x b))
        (listed : a₁ ≡ set a after.kept n) (went : r ≡ stays after best) where
      abbrev Onward : Type 0
      Onward = Fit turn st (k + 1) t₁ a₁ r × ((z : Outcome) → RoundGoes g turn st z k t a s → RoundGoes g turn st z (k + 1) t₁ a₁ r)

      pub keeps : x ≤ g.width → OfferedIs g turn n b x s.best best → Onward
      keeps fits offered =
          let stored = stored_with t n (extended x b) room fit.filled.sized in
          rw (went, listed, saw, kept, noted_kept s n b.demerits) (fit_keeps x best _ limits line fits offered stored, goes_keeps x best _ limits line fits offered stored)

    pub offers : (x : ℕ) → x ≤ g.width → Offers g turn b x
    offers x fits = record { fits = fits; sound = rw is sound }

    -- the table has room for what is stored where it stays
    pub keep_room : (after : State) (x : ℕ) (l : List ℕ) → t ≡ table_in l → after ≡ noted s n b.demerits → Limits g → x ≤ g.width → Keeps n x after.kept l
    keep_room after x l is e limits h =
        let w = limits.wide in
        let f = fit.filled.sized.few in
        let r = room in
        record {
          here = has_room l n (rw (← is) room);
          number = omega arith;
          columns = omega arith;
          listed = has_room l after.kept (rw (← is) (kept_room after b.demerits e));
        }

    -- a line too short to end offers nothing
    pub short_fits : (x : ℕ) → Limits g → x < minimum_of g → x ≤ g.width
    short_fits x limits h = let o = limits.over in omega arith

    pub short_offers : (x : ℕ) → Limits g → x < minimum_of g → OfferedIs g turn (n) b x s.best s.best
    short_offers x limits h = offered_short g turn (n) b s.best x (offers x (short_fits x limits h)) h
