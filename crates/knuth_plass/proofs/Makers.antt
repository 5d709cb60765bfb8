-- What made the break of a round: the first break that stays whose offer has the least total, or the one that is begun again with.
use Rattle.std.proofs.Common.{Option, Some, None}
use mathlib.Core.Path.{◌≡◌, refl, sym, ap, ◌∙◌}
use mathlib.Core.Bool.{Bool, true, false, cond}
use mathlib.Core.List.{List, [], ◌∷◌, map}
use Prim.Native.Nat.{ℕ, ◌+◌, ◌≤◌, ◌<◌}
use native.Mathlib.Omega.{arith}
use borrow.Author.Tests.{le-leb, lt-leb, eq-eqb, ne_eqb}
use lib.Dec.{leb, eqb}
use lib.Ieee.{Float}
use lib.ListN.{length, get_or, take}
use lib.Seq.{slice, length-take-le, get_or-take}
use Rattle.lists.proofs.Remaining.{slice_here, slice_none}
use Rattle.records.specs.Word.{Word, meaning}
use Rattle.records.specs.declared.Word.{Word as WordRecord}
use Rattle.spacing.specs.Spacing.{added_space}
use Rattle.spacing.specs.declared.Setting.{Setting}
use Rattle.demerits.specs.Demerits.{ratio, line_term, word_term, ratio_term, cost, cost_with}
use Rattle.endings.specs.declared.Ending.{Ending}
use Rattle.endings.specs.declared.Ending.TheVariants.{Paragraph, Chosen, Before, After}
use Rattle.knuth_plass.specs.declared.Break.{Break as Record}
use Rattle.knuth_plass.specs.declared.Turn.{Turn}
use Rattle.knuth_plass.specs.declared.State.{State}
use Rattle.knuth_plass.specs.declared.Standing.{Standing}
use Rattle.knuth_plass.specs.KnuthPlass.{Break, none, stretch_of, minimum_of, reduced, reached, staying, offer_of, best_offer, restart}
use Rattle.knuth_plass.specs.BestLines.{offering, chosen_of, forced, maker_of, maker}
use Rattle.knuth_plass.specs.Cited.Table.{ratio_of, Tables, break_in, path_to, seen, break_meant}
use Rattle.knuth_plass.specs.Cited.Round.{Turns, lessened, nothing, breaks_listed, Fit, Restarted, Done, Settled, turn_of}
use Rattle.knuth_plass.specs.Cited.Makers.{tried_of, found, chosen_in, Kept, ForcedIs, MakerIs, ToldIs}
use Rattle.knuth_plass.proofs.Ascends.{ascends_each}
use Rattle.knuth_plass.proofs.Offers.{offer_some, offer_none}
use Rattle.knuth_plass.proofs.Over.{fit_all}
use Rattle.knuth_plass.proofs.Paragraph.{round_is}
use Rattle.knuth_plass.proofs.Settling.{kept_room, breaks_length}

-- ---- an offer of a total

module _ (g : Setting) (weight total columns : ℕ) (old : Float) (demerits : ℕ) where
  pub tried_short : columns < minimum_of g → None ≡ tried_of g weight total columns old demerits
  unfolding tried_of
  tried_short h = sym (rw (lt-leb (minimum_of g) columns h))

  module _ (long : minimum_of g ≤ columns) where
    pub tried_long : g.width < columns → None ≡ tried_of g weight total columns old demerits
    unfolding tried_of
    tried_long h = sym (rw (le-leb (minimum_of g) columns long, lt-leb columns g.width h))

    module _ (fits : columns ≤ g.width) (r : Float) (d : ℕ) (is : r ≡ ratio g.goal columns (stretch_of g)) (costs : d ≡ cost_with r old weight) where
      pub tried_other : (d + demerits ≡ total → ⊥) → None ≡ tried_of g weight total columns old demerits
      unfolding tried_of
      tried_other h = sym (rw (le-leb (minimum_of g) columns long, le-leb columns g.width fits, ← is, ← costs, ne_eqb (d + demerits) total h))

      pub tried_here : (l q : ℕ) → d + demerits ≡ total → l ≡ line_term r → q ≡ ratio_term r old → Some (Chosen columns l weight q d) ≡ tried_of g weight total columns old demerits
      unfolding tried_of
      tried_here l q h e f = sym (rw (le-leb (minimum_of g) columns long, le-leb columns g.width fits, ← is, ← costs, eq-eqb (d + demerits) total h, ← e, ← f))

-- ---- the first of those that stay

module _ (g : Setting) (weight total kept : ℕ) (t : Tables) (a : List ℕ) where
  abbrev pub chosen_from : ℕ → Ending
  chosen_from k = chosen_in g weight total (map (break_meant t) (slice k kept a))

  pub chosen_step : (k n : ℕ) (b : Record) (r : Option Ending) → k < kept → kept ≤ length a → n ≡ get_or a k 0 → b ≡ break_in t n → r ≡ tried_of g weight total b.columns (ratio_of b.ratio) b.demerits
      → chosen_from k ≡ found r (chosen_from (k + 1))
  unfolding chosen_in break_meant seen
  chosen_step k n b r h l at e f = rw (slice_here a k kept 0 h l, f, e, at)

  pub chosen_end : (k : ℕ) → kept ≤ k → Paragraph ≡ chosen_from k
  unfolding chosen_in
  chosen_end k h = rw (slice_none a k kept h)

-- the breaks that stay offer what they offered when active
module _ (g : Setting) (i s weight total : ℕ) (w : Word) (weighs : weight ≡ word_term (stretch_of g) w.width) where
  staying_step : (b : Break) (bs : List Break) (x y z : Bool) → leb (reached g s w b) g.width ≡ x → leb (minimum_of g) (reached g s w b) ≡ y
      → eqb (cost_with (ratio g.goal (reached g s w b) (stretch_of g)) b.ratio weight + b.demerits) total ≡ z
      → chosen_in g weight total (staying g s w bs) ≡ chosen_of g i s w total bs
      → chosen_in g weight total (staying g s w (b ∷ bs)) ≡ chosen_of g i s w total (b ∷ bs)
  unfolding staying chosen_in tried_of chosen_of offer_of offering cost
  staying_step b bs false y z e f h rest = rw (staying, chosen_of, offer_of, e) rest
  staying_step b bs true false z e f h rest = rw (staying, chosen_of, offer_of, e, chosen_in, tried_of, f) rest
  staying_step b bs true true true e f h rest = rw (staying, chosen_of, offer_of, e, chosen_in, tried_of, f, e, cost, ← weighs, h, offering, cost, ← weighs)
  staying_step b bs true true false e f h rest = rw (staying, chosen_of, offer_of, e, chosen_in, tried_of, f, e, cost, ← weighs, h) rest

  pub chosen_staying : (bs : List Break) → chosen_in g weight total (staying g s w bs) ≡ chosen_of g i s w total bs
  unfolding staying chosen_in chosen_of
  chosen_staying [] = refl
  chosen_staying (b ∷ bs) = staying_step b bs _ _ _ refl refl refl (chosen_staying bs)

-- ---- the break that begins again

pub forced_is : (g : Setting) (turn : Turn) (n : ℕ) (b c r : Record) (e : Ending) → Restarted g turn n c r → c ≡ b → e ≡ cond r.before Before After → ForcedIs g turn b e
unfolding seen
forced_is g turn n b c r e again same is notes path =
    is ∙ ap (λ (x : Break). forced x.places) (again.is notes path) ∙ rw same

-- ---- what makes the break

module _ (g : Setting) (turn : Turn) (st : Standing) (t : Tables) (a : List ℕ) (s : State) (turns : Turns g turn) (fit : Fit turn st st.count t a s) where
  pub kept_is : Kept turn.weight s.kept t a
  kept_is =
      let k = kept_room g turn st t a s turns fit in
      let l = fit.active in
      let f = fit.few in
      let h = fit.holds in
      let m = turns.few in
      record {
        sized = fit.filled.sized;
        listed = omega arith;
        within = λ j p. (let w = below j p in omega arith);
        stays = λ j p. (let q = fit.filled.sound (get_or a j 0) (below j p) in let d = q.demerits in record { ratio = q.ratio; demerits = omega arith; light = turns.light });
      }
    where
      below : (j : ℕ) → j < s.kept → get_or a j 0 < st.size
      below j p =
          let k = kept_room g turn st t a s turns fit in
          let l = fit.active in
          let e = length-take-le s.kept a (omega arith) in
          rw (← get_or-take s.kept a j 0 p) (ascends_each 0 st.size (take s.kept a) j (fit_all turn st t a st.count s (omega arith) fit) (omega arith))

  module _ (notes : List ℕ) (active : List Break) (done : Done g turn st active t a s notes) where
    abbrev word : Word
    word = meaning notes turn.word

    abbrev makes : Ending
    makes = maker_of g turn.last turn.number turn.space word active (best_offer g turn.last turn.number turn.space word active) (staying g turn.space word active)

    pub makes_last : s.best.total < nothing → turn.last ≡ true → Paragraph ≡ makes
    makes_last h l = sym (rw (← done.best, offer_some g.indent true turn.number t s.best h, l))

    pub makes_chosen : s.best.total < nothing → turn.last ≡ false → chosen_in g turn.weight s.best.total (breaks_listed s.kept t a) ≡ makes
    unfolding meaning
    makes_chosen h l =
        ap (chosen_in g turn.weight s.best.total) done.stayed
        ∙ chosen_staying g turn.number turn.space turn.weight s.best.total word turns.weight active
        ∙ sym (rw (← done.best, offer_some g.indent true turn.number t s.best h, l))

    some_stays : (bs : List Break) → 0 < length bs → Paragraph ≡ maker_of g turn.last turn.number turn.space word active none bs
    some_stays [] h = absurd (omega arith)
    some_stays (b ∷ bs) h = refl

    pub makes_nothing : nothing ≤ s.best.total → 0 < s.kept → Paragraph ≡ makes
    makes_nothing h k =
        rw (← done.best, offer_none g.indent true turn.number t s.best h, ← done.stayed) (some_stays (breaks_listed s.kept t a) (rw (breaks_length g turn st t a s turns fit) k))

    pub makes_forced : (e : Ending) → nothing ≤ s.best.total → s.kept ≡ 0 → ForcedIs g turn (lessened st.reduction (break_in t s.from)) e → e ≡ makes
    makes_forced e h z is =
        is notes (path_to t s.from)
        ∙ rw (← done.best, offer_none g.indent true turn.number t s.best h, ← done.stayed, z)
        (ap (λ (b : Break). forced (restart g turn.number turn.space word b).places) (done.found.again z))

-- ---- a round

module _ (g : Setting) (last sentence : Bool) (i : ℕ) (w : WordRecord) (space weight : ℕ) (st : Standing) (t : Tables) (a : List ℕ) where
  pub told_is : (t₁ : Tables) (a₁ : List ℕ) (s : State) (t₂ : Tables) (a₂ : List ℕ) (r : Standing) (e : Ending) → space ≡ added_space g.uniform w.first sentence false
      → ((notes : List ℕ) → Done g (turn_of last i w space weight) st (map (reduced st.reduction) (breaks_listed st.count t a)) t₁ a₁ s notes) → MakerIs g (turn_of last i w space weight) st t₁ a₁ s e → Settled g (turn_of last i w space weight) st t₁ a₁ s t₂ a₂ r
      → ToldIs g last sentence i w st t a t₂ a₂ (record { st = r; ending = e })
  unfolding maker meaning
  told_is t₁ a₁ s t₂ a₂ r e h done makes settles = record {
    round = round_is g last sentence i w space weight st t a t₁ a₁ s t₂ a₂ r h done settles;
    ending = λ notes. makes notes (map (reduced st.reduction) (breaks_listed st.count t a)) (done notes) ∙ rw h;
  }
