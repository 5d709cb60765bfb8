-- A break's line with the word on it: its columns, and what the break offers after the word.
use Rattle.std.proofs.Common.{Option, Some, None, is_some}
use mathlib.Core.Path.{◌≡◌, refl, sym, subst, ◌∙◌}
use mathlib.Core.Bool.{Bool, true, false, cond, true≢false}
use mathlib.Core.List.{List}
use Prim.Native.Nat.{ℕ, suc, ◌+◌, ◌*◌, ◌≤◌, ◌<◌}
use native.Mathlib.Nat.{add-zero, le_trans, mul-le-mul}
use native.Mathlib.Omega.{arith}
use borrow.Author.Tests.{le-leb, lt-leb}
use lib.Dec.{T}
use lib.Ieee.{Float}
use Rattle.records.specs.Word.{meaning}
use Rattle.spacing.specs.Spacing.{gap_width}
use Rattle.spacing.specs.declared.Setting.{Setting}
use Rattle.demerits.specs.Demerits.{no_ratio, ratio, line_term, ratio_term, cost, cost_with}
use Rattle.demerits.specs.Cited.Bounds.{within, most_cost}
use Rattle.demerits.proofs.Terms.{line_le, ratio_le, cost_with_law, square_le_most}
use Rattle.knuth_plass.specs.declared.Break.{Break as Record}
use Rattle.knuth_plass.specs.declared.Best.{Best}
use Rattle.knuth_plass.specs.declared.Turn.{Turn}
use Rattle.knuth_plass.specs.KnuthPlass.{Place, Offer, none, stretch_of, minimum_of, reached, lesser, offer_of}
use Rattle.knuth_plass.specs.Cited.Table.{most_words, ratio_of, Tables, path_to, seen}
use Rattle.knuth_plass.specs.Cited.Round.{Turns, line_at, nothing, best_from, better, offer_made, offer_in, offer_at, Floor, Offers, OfferedIs}
use Rattle.knuth_plass.proofs.Offers.{better_stays, offer_some, offer_better, fits_better, lesser_none}

-- a gap that is asked for its tab
pub no_tab : (before : Option ℕ) (r : Bool) → r ≡ is_some before → r ≡ false → before ≡ None
no_tab None r e f = refl
no_tab (Some n) r e f = absurd (true≢false (sym e ∙ f))

-- what a line grows by without a tab
pub plain_small : (x : Bool) (space width after r : ℕ) → r ≡ cond x (space + width) (after + (space + width)) → r ≤ after + (space + width)
plain_small true space width after r e = omega arith
plain_small false space width after r e = omega arith

-- the cost is never below the floor
floor_least : (r old : Float) (w f : ℕ) → Floor w f → f ≤ cost_with r old w
floor_least r old w f h = let s : 1 + w ≤ 1 + line_term r + w + ratio_term r old = omega arith in le_trans h.least (mul-le-mul s s)

module _ (g : Setting) (turn : Turn) (b : Record) where
  pub line_fresh : b.fresh ≡ true → b.columns + turn.space + turn.word.width ≡ line_at g turn b
  unfolding line_at
  line_fresh e = sym (rw (e, add-zero))

  pub line_gap : (gap : ℕ) → b.fresh ≡ false → gap ≡ gap_width g.tab b.columns turn.word.before turn.word.after
      → b.columns + gap + turn.space + turn.word.width ≡ line_at g turn b
  unfolding line_at
  line_gap gap e f = sym (rw (e, f))

  -- without a tab
  pub line_plain : (r : ℕ) → turn.word.before ≡ None → r ≡ cond b.fresh (turn.space + turn.word.width) (turn.word.after + (turn.space + turn.word.width))
      → b.columns + r ≡ line_at g turn b
  unfolding line_at gap_width
  line_plain r e f = rw (f, e) (by b.fresh) where
    by : (x : Bool) → b.columns + cond x (turn.space + turn.word.width) (turn.word.after + (turn.space + turn.word.width))
        ≡ b.columns + cond x 0 turn.word.after + turn.space + turn.word.width
    by true = omega arith
    by false = omega arith

  -- the definition's line is the same, whatever the notes and the path
  pub line_is : (notes : List ℕ) (path : List Place) → reached g turn.space (meaning notes turn.word) (seen path b) ≡ line_at g turn b
  unfolding line_at reached meaning seen
  line_is notes path = refl

  -- and so is its offer
  offer_is : (notes : List ℕ) (path : List Place)
      → offer_of g turn.last turn.number turn.space (meaning notes turn.word) (seen path b)
      ≡ offer_at g turn.last turn.number turn.word.width (line_at g turn b) g.indent true (seen path b)
  unfolding offer_of offer_at line_at reached meaning seen
  offer_is notes path = refl

module _ (g : Setting) (turn : Turn) (n : ℕ) (b : Record) (best : Best) (x : ℕ) where
  -- the best offer, as the definition has it
  pub offered_line : (r : Best) → x ≡ line_at g turn b → OfferedIs g turn n b x best r → (notes : List ℕ) (t : Tables)
      → offer_in g turn.number t r
      ≡ lesser (offer_in g turn.number t best) (offer_of g turn.last turn.number turn.space (meaning notes turn.word) (seen (path_to t n) b))
  offered_line r line o notes t = rw (offer_is g turn b notes (path_to t n), ← line) (o.is g.indent true t)

  abbrev made : ℕ → Bool → List Place → Offer
  made columns fresh path = offer_at g turn.last turn.number turn.word.width x columns fresh (seen path b)

  offers_none : ((columns : ℕ) (fresh : Bool) (path : List Place) → made columns fresh path ≡ none) → OfferedIs g turn n b x best best
  offers_none e = record {
    is = λ columns fresh t. rw (e columns fresh (path_to t n)) (sym (lesser_none (offer_made columns fresh turn.number t best)));
    fits = λ size h f. f;
  }

  offers_some : (d : ℕ) (r : Float) → turn.number < most_words → d ≤ suc turn.number * most_cost → T (within 1 r)
      → ((columns : ℕ) (fresh : Bool) (t : Tables) → made columns fresh (path_to t n) ≡ offer_made columns fresh turn.number t (best_from n d r))
      → OfferedIs g turn n b x best (better best n d r)
  offers_some d r f h w e = record {
    is = λ columns fresh t. rw (e columns fresh t) (offer_better columns fresh turn.number t best n d r (omega arith));
    fits = λ size k z. fits_better turn.number size best n d r z k h w;
  }

  module _ (o : Offers g turn b x) where
    pub offered_short : x < minimum_of g → OfferedIs g turn n b x best best
    unfolding offer_at
    offered_short h = offers_none (λ columns fresh path. rw (offer_at, le-leb x g.width o.fits, lt-leb (minimum_of g) x h))

    module _ (turns : Turns g turn) (long : minimum_of g ≤ x) where
      pub offered_last_none : turn.last ≡ true → 0 < b.demerits → OfferedIs g turn n b x best best
      unfolding offer_at seen
      offered_last_none l h =
          offers_none (λ columns fresh path. rw (offer_at, le-leb x g.width o.fits, le-leb (minimum_of g) x long, l, lt-leb b.demerits 0 h))

      pub offered_last : (r : Float) → r ≡ no_ratio → turn.last ≡ true → b.demerits ≤ 0 → OfferedIs g turn n b x best (better best n 0 r)
      unfolding offer_at offer_made seen
      offered_last r z l h =
          rw z
          (offers_some 0 no_ratio turns.few (omega arith) tt
          (λ columns fresh t. rw (offer_at, le-leb x g.width o.fits, le-leb (minimum_of g) x long, l, le-leb b.demerits 0 h)))

      full_offer : (d : ℕ) (r : Float) → turn.last ≡ false → r ≡ ratio g.goal x (stretch_of g)
          → d ≡ cost (ratio g.goal x (stretch_of g)) (ratio_of b.ratio) (stretch_of g) turn.word.width → d + b.demerits < nothing
          → (columns : ℕ) (fresh : Bool) (t : Tables) → made columns fresh (path_to t n) ≡ offer_made columns fresh turn.number t (best_from n (d + b.demerits) r)
      unfolding offer_at seen
      full_offer d r l e f few columns fresh t =
          rw (offer_at, le-leb x g.width o.fits, le-leb (minimum_of g) x long, l, ← f, ← e)
          (sym (offer_some columns fresh turn.number t (best_from n (d + b.demerits) r) few))

      pub offered_full : (d : ℕ) (r : Float) → turn.last ≡ false → r ≡ ratio g.goal x (stretch_of g)
          → d ≡ cost (ratio g.goal x (stretch_of g)) (ratio_of b.ratio) (stretch_of g) turn.word.width → d ≤ most_cost → T (within 1 r)
          → OfferedIs g turn n b x best (better best n (d + b.demerits) r)
      offered_full d r l e f k w =
          let s = o.sound.demerits in
          let h = turns.few in
          offers_some (d + b.demerits) r h (omega arith) w (full_offer d r l e f (omega arith))

      -- the best offer so far is no more than the floor, so it stays
      pub offered_beaten : (f : ℕ) (r : Float) → turn.last ≡ false → r ≡ ratio g.goal x (stretch_of g) → T (within 1 r) → Floor turn.weight f
          → best.total ≤ f + b.demerits → OfferedIs g turn n b x best best
      offered_beaten f r l e w floor h =
          let d = cost_with r (ratio_of b.ratio) turn.weight in
          let k = floor_least r (ratio_of b.ratio) turn.weight f floor in
          let small : d ≤ most_cost = square_le_most (line_term r) turn.weight (ratio_term r (ratio_of b.ratio)) (line_le r w) turns.light (ratio_le r (ratio_of b.ratio) w o.sound.ratio) in
          let is : d ≡ cost (ratio g.goal x (stretch_of g)) (ratio_of b.ratio) (stretch_of g) turn.word.width = rw (← e) (cost_with_law r (ratio_of b.ratio) (stretch_of g) turn.word.width turn.weight turns.weight) in
          subst (λ (z : Best). OfferedIs g turn n b x best z) (better_stays best n (d + b.demerits) r (omega (arith, k, h))) (offered_full d r l e is small w)
