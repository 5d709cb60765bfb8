-- A round on the interval in the code's table: nothing stays and one begins again; none is offered; or the best offer is one entry more.
use mathlib.Core.Path.{◌≡◌, refl, sym, ◌∙◌, ap}
use mathlib.Core.Bool.{Bool, true, false, cond, true≢false}
use mathlib.Core.List.{List, [], ◌∷◌, ◌++◌}
use Prim.Native.Nat.{ℕ, suc, ◌+◌, ◌-◌, ◌^◌, ◌≤◌, ◌<◌}
use native.Mathlib.Numerals.{add-one}
use native.Mathlib.Omega.{arith}
use borrow.Author.Tests.{leb-true, le-leb, lt-leb, ltb-true, ltb-false}
use lib.Dec.{leb, ltb}
use lib.ListN.{length}
use Rattle.lists.specs.Theorems.All.{All}
use Rattle.records.specs.Word.{Word, meaning}
use Rattle.records.specs.declared.Word.{Word as WordRecord}
use Rattle.spacing.specs.Spacing.{added_space}
use Rattle.spacing.specs.declared.Setting.{Setting}
use Rattle.knuth_plass.specs.declared.Break.{Break as Record}
use Rattle.knuth_plass.specs.declared.Best.{Best}
use Rattle.knuth_plass.specs.declared.interval.Interval.{Interval}
use Rattle.knuth_plass.specs.KnuthPlass.{Break, Offer, none, offer, minimum_of, lesser}
use Rattle.knuth_plass.specs.Cited.Table.{Tables, break_in, with_break, place_of, path_to, seen, break_meant, Sound, Filled, Fits}
use Rattle.knuth_plass.specs.Cited.Round.{turn_of, nothing, offer_made}
use Rattle.knuth_plass.specs.Cited.Interval.{Good, reach_of, pops, near, entry_offer, best_entry, near_offer, interval_round, span, PassIs, Stay, BestOffered, active_of, Between, AgainIs, MadeIs, Plain, IntervalIs}
use Rattle.knuth_plass.proofs.Filled.{filled_later, filled_more}
use Rattle.knuth_plass.proofs.Offers.{offer_some, offer_none}
use Rattle.knuth_plass.proofs.Bases.{fitting, fitting_pops, reach_exact}
use Rattle.knuth_plass.proofs.Span.{span_here, span_none, span_at, span_more}

-- ---- those that stay

fitting_one : (g : Setting) (x : ℕ) (e : Break) (es : List Break) (y : Bool) → leb (reach_of g x e) g.width ≡ y → All (λ (c : Break). reach_of g x c ≤ g.width) (fitting g x es)
    → All (λ (c : Break). reach_of g x c ≤ g.width) (fitting g x (e ∷ es))
unfolding fitting
fitting_one g x e es true z a = rw (fitting, z) (leb-true (reach_of g x e) g.width z, a)
fitting_one g x e es false z a = rw (fitting, z) a

fitting_fits : (g : Setting) (x : ℕ) (es : List Break) → All (λ (e : Break). reach_of g x e ≤ g.width) (fitting g x es)
unfolding fitting
fitting_fits g x [] = tt
fitting_fits g x (e ∷ es) = fitting_one g x e es (leb (reach_of g x e) g.width) refl (fitting_fits g x es)

-- ---- what an offer comes to

abbrev is_offer : Offer → Bool
is_offer none = false
is_offer (offer b) = true

first_offer : (a : Break) (b : Offer) → is_offer (lesser (offer a) b) ≡ true
unfolding lesser
first_offer a none = refl
first_offer a (offer b) = by (leb a.demerits b.demerits) where
  by : (z : Bool) → is_offer (cond z (offer a) (offer b)) ≡ true
  by true = refl
  by false = refl

some_offer : (a : Break) (b : Offer) → lesser (offer a) b ≡ none → ⊥
some_offer a b e = true≢false (sym (first_offer a b) ∙ ap is_offer e)

-- ---- the round of word i

module _ (g : Setting) (last sentence : Bool) (i gap : ℕ) (w : WordRecord) (s : Interval) (t : Tables)
    (plain : Plain w) (holds : i < length t) (between : Between g i w.after s t) (short : s.line + (w.after + 2 + w.width) + gap < 2 ^ 31)
    (space : ℕ) (most : space ≤ 2) (added : space ≡ added_space g.uniform w.first sentence false)
    (x : ℕ) (is : x ≡ s.line + w.after + space + w.width) (head : ℕ) (passed : PassIs g x s.head s.size t head) where
  abbrev Is : Tables → Interval → Type 0
  Is t₁ r = IntervalIs g last sentence i gap w s t t₁ r

  abbrev after : ℕ → ℕ → Interval
  after h n = record { head = h; size = n; line = x }

  line_is : x ≡ s.line + w.after + added_space g.uniform w.first sentence false + w.width
  line_is = rw (← added) is

  line_most : x ≤ s.line + (w.after + 2 + w.width)
  line_most = omega arith

  pub room : s.size < length t
  room = let f = between.few in omega arith

  some : 0 < s.size
  some = let h = between.some in omega arith

  -- a new record's numbers fit the table
  fits_table : (b : Record) → Sound (suc i) b → b.previous < s.size → Fits b
  fits_table b sound before =
      let w = sound.word in
      let f = between.filled.sized.few in
      let h = between.few in
      record { previous = omega arith; word = omega arith; columns = sound.columns }

  stored : (b : Record) → Sound (suc i) b → b.previous < s.size → Filled (i + 1) (s.size + 1) (with_break t s.size b)
  stored b sound before = rw (add-one i, add-one s.size) (filled_more i s.size t between.filled b room sound before)

  active_more : (h : ℕ) (b : Record) → h ≤ s.size → b.previous < s.size → span (with_break t s.size b) h (s.size + 1 - h) ≡ span t h (s.size - h) ++ seen (place_of b ∷ path_to t b.previous) b ∷ []
  active_more h b order before = span_more t h s.size b order room between.filled.sized between.filled.down before

  -- ---- nothing stays

  module _ (gone : head ≡ s.size) where
    none_stays : pops g x (active_of s t) ≡ []
    none_stays = passed.is ∙ span_none t head s.size (omega arith)

    none_offers : (l : Bool) (v : Word) → near_offer g l i x gap v [] ≡ none
    unfolding near best_entry
    none_offers true v = refl
    none_offers false v = refl

    module _ (weight : ℕ) (b : Record) (begins : AgainIs g (turn_of last i w space weight) x gap s t b) where
      pub again_fits : Fits b
      again_fits = fits_table b begins.sound begins.previous

      again_active : (notes : List ℕ) → active_of (after s.size (s.size + 1)) (with_break t s.size b) ≡ interval_round g last i s.line x gap (meaning notes w) (active_of s t)
      unfolding interval_round
      again_active notes =
          active_more s.size b (omega arith) begins.previous
          ∙ rw (span_none t s.size s.size (omega arith), none_stays, none_offers last (meaning notes w)) (ap (λ (e : Break). e ∷ []) (begins.is notes))

      pub round_again : (t₁ : Tables) → t₁ ≡ with_break t s.size b → Is t₁ (after s.size (s.size + 1))
      round_again t₁ e =
          let f = between.few in
          rw e (record {
            filled = stored b begins.sound begins.previous;
            few = omega arith;
            some = omega arith;
            line = line_is;
            most = line_most;
            is = again_active;
          })

  -- ---- some stay

  module _ (stay : (head ≡ s.size) → ⊥) where
    pub inside : head < s.size
    inside = let h = passed.to in omega arith

    staying : pops g x (active_of s t) ≡ break_meant t head ∷ span t (head + 1) (s.size - (head + 1))
    staying = passed.is ∙ span_here t head s.size inside

    -- the line of every one that stays
    fits : (j : ℕ) → head ≤ j → j < s.size → ((break_in t j).columns ≤ x + g.indent) × (x + g.indent ≤ g.width + (break_in t j).columns)
    unfolding break_meant seen meaning
    fits j h l =
        let from = passed.from in
        let good = span_at (Good g i s.line w.after) t s.head (s.size - s.head) between.ready.good j (omega arith) (omega arith) in
        let low : (break_meant t j).columns ≤ x + g.indent = rw is (reach_exact g i s.line space (meaning [] w) (break_meant t j) good) in
        let all = fitting_fits g x (active_of s t) in
        let reach = span_at (λ (e : Break). reach_of g x e ≤ g.width) t head (s.size - head) (rw (fitting_pops g x (active_of s t) between.ready.rising, passed.is) at all) j h (omega arith) in
        (low, omega arith)

    -- no offer
    module _ (none-offered : (notes : List ℕ) → near_offer g last i x gap (meaning notes w) (pops g x (active_of s t)) ≡ none) where
      none_active : (notes : List ℕ) → active_of (after head s.size) t ≡ interval_round g last i s.line x gap (meaning notes w) (active_of s t)
      unfolding interval_round
      none_active notes = rw (none-offered notes, staying) (span_here t head s.size inside)

      round_none : Is t (after head s.size)
      round_none =
          let f = between.few in
          record {
            filled = rw (add-one i) (filled_later i s.size t between.filled);
            few = omega arith;
            some = inside;
            line = line_is;
            most = line_most;
            is = none_active;
          }

    pub round_last : last ≡ true → Is t (after head s.size)
    round_last l = round_none (λ notes. rw l refl)

    pub round_short : last ≡ false → x + g.indent < minimum_of g + (break_meant t head).columns → Is t (after head s.size)
    unfolding near best_entry break_meant seen
    round_short l h =
        let f = (fits head (omega arith) inside).0 in
        round_none (λ notes. rw (l, staying, near, lt-leb (minimum_of g) (reach_of g x (break_meant t head)) (omega arith)) refl)

    module _ (inner : last ≡ false) (weight : ℕ) where
      pub stays : Stay g (turn_of last i w space weight) x head s.size t
      stays =
          let r = room in
          let h = passed.to in
          record { inner = inner; short = omega arith; filled = between.filled; room = omega arith; order = h; fits = fits }

      module _ (long : minimum_of g + (break_meant t head).columns ≤ x + g.indent) (best : Best) (offered : BestOffered g (turn_of last i w space weight) x head s.size t best) where
        near_offer_law : (notes : List ℕ) → near_offer g last i x gap (meaning notes w) (pops g x (active_of s t)) ≡ offer_made (x + gap) false i t best
        near_offer_law notes = rw (inner, passed.is) (sym (offered.is notes gap))

        first_offers : best_entry g i x gap (meaning [] w) (near g x (span t head (s.size - head))) ≡ none → ⊥
        unfolding best_entry near entry_offer break_meant seen
        first_offers =
            let f = fits head (omega arith) inside in
            rw (
              span_here t head s.size inside,
              near,
              le-leb (minimum_of g) (reach_of g x (break_meant t head)) (omega arith),
              best_entry,
              entry_offer,
              le-leb (reach_of g x (break_meant t head)) g.width (omega arith),
              le-leb (minimum_of g) (reach_of g x (break_meant t head)) (omega arith),
            ) (some_offer _ _)

        -- there is an offer
        pub has_offer : best.total < nothing
        has_offer = by (ltb best.total nothing) refl where
          by : (z : Bool) → ltb best.total nothing ≡ z → best.total < nothing
          by true e = ltb-true best.total nothing e
          by false e = absurd (first_offers (sym (offered.is [] gap) ∙ offer_none (x + gap) false i t best (ltb-false best.total nothing e)))

        module _ (b : Record) (made : MadeIs best i (x + gap) b) where
          made_sound : Sound (suc i) b
          made_sound =
              let f = offered.fits has_offer in
              rw made.is (record { ratio = rw made.ratio f.ratio; columns = omega arith; demerits = f.total; word = omega arith })

          made_below : b.previous < s.size
          made_below = rw made.is (offered.fits has_offer).previous

          pub made_fits : Fits b
          made_fits = fits_table b made_sound made_below

          made_active : (notes : List ℕ) → active_of (after head (s.size + 1)) (with_break t s.size b) ≡ interval_round g last i s.line x gap (meaning notes w) (active_of s t)
          unfolding interval_round seen
          made_active notes =
              active_more head b passed.to made_below
              ∙ rw (near_offer_law notes, offer_some (x + gap) false i t best has_offer, staying, span_here t head s.size inside, ← made.ratio)
              (ap (λ (r : Record). break_meant t head ∷ span t (head + 1) (s.size - (head + 1)) ++ seen (place_of r ∷ path_to t r.previous) r ∷ []) made.is)

          pub round_made : (t₁ : Tables) → t₁ ≡ with_break t s.size b → Is t₁ (after head (s.size + 1))
          round_made t₁ e =
              let f = between.few in
              let k = inside in
              rw e (record {
                filled = stored b made_sound made_below;
                few = omega arith;
                some = omega arith;
                line = line_is;
                most = line_most;
                is = made_active;
              })
