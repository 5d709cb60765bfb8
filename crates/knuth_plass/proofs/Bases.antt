-- Where no gap has a tab, an active break is a base and nothing of it changes from round to round; bases ascend, so breaks leave at the head alone.
use Rattle.std.proofs.Common.{None}
use mathlib.Core.Path.{◌≡◌, refl, sym, ◌∙◌, ap}
use mathlib.Core.Bool.{Bool, true, false, cond, not, ◌&&◌}
use mathlib.Core.List.{List, [], ◌∷◌, ◌++◌, map, map-append}
use Prim.Native.Nat.{ℕ, suc, ◌+◌, ◌-◌, ◌≤◌, ◌<◌}
use native.Mathlib.Omega.{arith}
use borrow.Author.Tests.{leb-true, leb-false, le-leb, lt-leb, eq-eqb, ne_eqb}
use lib.Dec.{leb, ltb}
use lib.IntN.{pos}
use lib.Ieee.{Float, fin}
use Rattle.lists.specs.Theorems.All.{All}
use Rattle.lists.proofs.All.{all_append, all_weaken}
use Rattle.records.specs.Word.{Word}
use Rattle.spacing.specs.Spacing.{added_space, gap_width}
use Rattle.spacing.specs.declared.Setting.{Setting}
use Rattle.demerits.specs.Demerits.{no_ratio}
use Rattle.knuth_plass.specs.KnuthPlass.{Break, Place, Offer, none, offer, before_word, minimum_of, first_break, reached, staying, offer_of, lesser, best_offer, with_offer, least_from, least, restart, is_last, sentence_behind, path_of}
use Rattle.knuth_plass.specs.Cited.Interval.{fresh_at, view, BaseIs, MadeBelow, Good, line_to, reach_of, pops, near, entry_after, entry_offer, best_entry, near_offer, entry_restart, entry_settled, interval_round, Some, Above, Rising, Ready, gap_behind}
use Rattle.knuth_plass.proofs.Absolute.{stays_as, plain_offer, plain_settled, plain_round, plain_from, path_plain}

unfoldable pub fitting : Setting → ℕ → List Break → List Break
fitting g x [] = []
fitting g x (e ∷ es) = elim (leb (reach_of g x e) g.width) [ true ↦ e ∷ fitting g x es | false ↦ fitting g x es ]

-- ---- one entry in a round

cond_same : (g : Setting) (p gap s width base : ℕ) (f : Bool) → BaseIs g p gap f base
    → cond f g.indent (p + g.indent - base) + cond f 0 gap + s + width ≡ p + gap + s + width + g.indent - base
cond_same g p gap s width base true h = omega arith
cond_same g p gap s width base false h = omega arith

module _ (g : Setting) (i p s : ℕ) (w : Word) (plain : w.before ≡ None) where
  pub reached_view : (e : Break) → Good g i p w.after e → reached g s w (view g i p e) ≡ reach_of g (line_to p s w) e
  unfolding reached view gap_width
  reached_view e h = rw plain (cond_same g p w.after s w.width e.columns (fresh_at i e.places) h.base)

and_false : (x : Bool) → x && false ≡ false
and_false true = refl
and_false false = refl

old_not_fresh : (i : ℕ) (ks : List Place) → MadeBelow i ks → fresh_at (suc i) ks ≡ false
old_not_fresh i [] h = refl
old_not_fresh i (k ∷ ks) h = rw (ne_eqb (suc k.word) (suc i) (λ e. absurd (omega arith))) (and_false (not k.before))

module _ (g : Setting) (i p s : ℕ) (w : Word) (plain : w.before ≡ None) where
  abbrev x : ℕ
  x = line_to p s w

  stays_view : (e : Break) → Good g i p w.after e → stays_as g s w (view g i p e) ≡ view g (suc i) x e
  unfolding view
  stays_view e h = rw (reached_view g i p s w plain e h, old_not_fresh i e.places h.made)

  staying_by : (e : Break) (es : List Break) (y : Bool) → leb (reach_of g x e) g.width ≡ y → Good g i p w.after e
      → staying g s w (map (view g i p) es) ≡ map (view g (suc i) x) (fitting g x es)
      → staying g s w (map (view g i p) (e ∷ es)) ≡ map (view g (suc i) x) (fitting g x (e ∷ es))
  unfolding staying fitting
  staying_by e es true z h r = rw (staying, reached_view g i p s w plain e h, fitting, z, r) (ap (λ (b : Break). b ∷ map (view g (suc i) x) (fitting g x es)) (stays_view e h))
  staying_by e es false z h r = rw (staying, reached_view g i p s w plain e h, fitting, z) r

  -- (2) what stays is what reaches no more than the width
  pub staying_view : (es : List Break) → All (Good g i p w.after) es → staying g s w (map (view g i p) es) ≡ map (view g (suc i) x) (fitting g x es)
  unfolding staying fitting
  staying_view [] h = refl
  staying_view (e ∷ es) h = staying_by e es (leb (reach_of g x e) g.width) refl h.0 (staying_view es h.1)

-- ---- bases ascend: what stays is after what leaves

fitting_all : (g : Setting) (x m : ℕ) (es : List Break) → x + g.indent - m ≤ g.width → Above m es → fitting g x es ≡ es
unfolding fitting
fitting_all g x m [] h k = refl
fitting_all g x m (e ∷ es) h k =
    let j = k.0 in
    rw (fitting, le-leb (reach_of g x e) g.width (omega arith), fitting_all g x m es h k.1)

fitting_by : (g : Setting) (x : ℕ) (e : Break) (es : List Break) (y : Bool) → leb (reach_of g x e) g.width ≡ y → Above e.columns es → fitting g x es ≡ pops g x es
    → fitting g x (e ∷ es) ≡ pops g x (e ∷ es)
unfolding fitting pops
fitting_by g x e es true z a r = rw (fitting, pops, z, fitting_all g x e.columns es (leb-true (reach_of g x e) g.width z) a)
fitting_by g x e es false z a r = rw (fitting, pops, z) r

pub fitting_pops : (g : Setting) (x : ℕ) (es : List Break) → Rising es → fitting g x es ≡ pops g x es
unfolding fitting pops
fitting_pops g x [] h = refl
fitting_pops g x (e ∷ es) h = fitting_by g x e es (leb (reach_of g x e) g.width) refl h.0 (fitting_pops g x es h.1)

-- ---- offers

abbrev view_offer : Setting → ℕ → ℕ → Offer → Offer
view_offer g i p none = none
view_offer g i p (offer e) = offer (view g i p e)

module _ (g : Setting) (i p : ℕ) where
  lesser_view : (a b : Offer) → lesser (view_offer g i p a) (view_offer g i p b) ≡ view_offer g i p (lesser a b)
  unfolding lesser view
  lesser_view none b = refl
  lesser_view (offer a) none = refl
  lesser_view (offer a) (offer b) = by (leb a.demerits b.demerits) where
    by : (z : Bool) → cond z (offer (view g i p a)) (offer (view g i p b)) ≡ view_offer g i p (cond z (offer a) (offer b))
    by true = refl
    by false = refl

  least_from_view : (b : Break) (bs : List Break) → least_from (view g i p b) (map (view g i p) bs) ≡ view g i p (least_from b bs)
  unfolding least_from view
  least_from_view b [] = refl
  least_from_view b (c ∷ cs) = by (ltb c.demerits b.demerits) (least_from_view c cs) (least_from_view b cs) where
    by : (z : Bool) → least_from (view g i p c) (map (view g i p) cs) ≡ view g i p (least_from c cs) → least_from (view g i p b) (map (view g i p) cs) ≡ view g i p (least_from b cs)
        → least_from (cond z (view g i p c) (view g i p b)) (map (view g i p) cs) ≡ view g i p (least_from (cond z c b) cs)
    by true u v = u
    by false u v = v

  with_view : (bs : List Break) (o : Offer) → with_offer (map (view g i p) bs) (view_offer g i p o) ≡ map (view g i p) (with_offer bs o)
  with_view bs none = refl
  with_view bs (offer b) = sym (map-append (view g i p) bs (b ∷ []))

module _ (g : Setting) (i p s gap : ℕ) (w : Word) (plain : w.before ≡ None) where
  abbrev to : ℕ
  to = line_to p s w

  offer_by : (e : Break) (y : Bool) → leb (reach_of g to e) g.width && leb (minimum_of g) (reach_of g to e) ≡ y → Good g i p w.after e
      → offer_of g false i s w (view g i p e) ≡ view_offer g (suc i) to (entry_offer g i to gap w e)
  unfolding offer_of entry_offer view
  offer_by e false z h = rw (offer_of, reached_view g i p s w plain e h, entry_offer, z)
  offer_by e true z h = rw (offer_of, reached_view g i p s w plain e h, entry_offer, z, eq-eqb (suc i) (suc i) refl, reached_view g i p s w plain e h)

  pub offer_view : (e : Break) → Good g i p w.after e → offer_of g false i s w (view g i p e) ≡ view_offer g (suc i) to (entry_offer g i to gap w e)
  offer_view e = offer_by e (leb (reach_of g to e) g.width && leb (minimum_of g) (reach_of g to e)) refl

  pub best_view : (es : List Break) → All (Good g i p w.after) es → best_offer g false i s w (map (view g i p) es) ≡ view_offer g (suc i) to (best_entry g i to gap w es)
  unfolding best_offer best_entry
  best_view [] h = refl
  best_view (e ∷ es) h = rw (best_offer, best_entry, offer_view e h.0, best_view es h.1) (lesser_view g (suc i) to (entry_offer g i to gap w e) (best_entry g i to gap w es))

  back : (n : ℕ) → p + w.after + s + w.width + n - (p + w.after + s + w.width - w.width) ≡ n + w.width
  back n = omega arith

  restart_by : (e : Break) (f y : Bool) → fresh_at i e.places ≡ f → ltb (minimum_of g + g.width) (reach_of g to e + (p + g.indent - e.columns)) ≡ y → Good g i p w.after e
      → restart g i s w (view g i p e) ≡ view g (suc i) to (entry_restart g i p to gap w e)
  unfolding restart entry_restart view
  restart_by e true y q z h = rw (q, eq-eqb (suc i) (suc i) refl)
  restart_by e false true q z h = rw (reached_view g i p s w plain e h, q, z, back g.indent)
  restart_by e false false q z h = rw (reached_view g i p s w plain e h, q, z, eq-eqb (suc i) (suc i) refl)

  pub restart_view : (e : Break) → Good g i p w.after e → restart g i s w (view g i p e) ≡ view g (suc i) to (entry_restart g i p to gap w e)
  restart_view e = restart_by e (fresh_at i e.places) (ltb (minimum_of g + g.width) (reach_of g to e + (p + g.indent - e.columns))) refl refl

-- ---- offers are looked for in the interval, from its head to the first line that is too short

module _ (g : Setting) (i x gap : ℕ) (w : Word) where
  popped_by : (e : Break) (es : List Break) (y : Bool) → leb (reach_of g x e) g.width ≡ y → best_entry g i x gap w es ≡ best_entry g i x gap w (pops g x es)
      → best_entry g i x gap w (e ∷ es) ≡ best_entry g i x gap w (pops g x (e ∷ es))
  unfolding best_entry pops entry_offer lesser
  popped_by e es true z r = rw (pops, z)
  popped_by e es false z r = rw (pops, best_entry, entry_offer, z, lesser) r

  pub best_pops : (es : List Break) → best_entry g i x gap w es ≡ best_entry g i x gap w (pops g x es)
  unfolding best_entry pops
  best_pops [] = refl
  best_pops (e ∷ es) = popped_by e es (leb (reach_of g x e) g.width) refl (best_pops es)

  none_short : (m : ℕ) (es : List Break) → x + g.indent - m < minimum_of g → Above m es → best_entry g i x gap w es ≡ none
  unfolding best_entry entry_offer lesser
  none_short m [] h a = refl
  none_short m (e ∷ es) h a =
      let j = a.0 in
      rw (best_entry, entry_offer, lt-leb (minimum_of g) (reach_of g x e) (omega arith), and_false (leb (reach_of g x e) g.width), lesser) (none_short m es h a.1)

  near_by : (e : Break) (es : List Break) (y : Bool) → leb (minimum_of g) (reach_of g x e) ≡ y → Above e.columns es → best_entry g i x gap w es ≡ best_entry g i x gap w (near g x es)
      → best_entry g i x gap w (e ∷ es) ≡ best_entry g i x gap w (near g x (e ∷ es))
  unfolding best_entry near entry_offer lesser
  near_by e es true z a r = rw (near, z) (ap (lesser (entry_offer g i x gap w e)) r)
  near_by e es false z a r =
      let l = leb-false (minimum_of g) (reach_of g x e) z in
      rw (near, best_entry, entry_offer, z, and_false (leb (reach_of g x e) g.width), lesser) (none_short e.columns es l a)

  pub best_near : (es : List Break) → Rising es → best_entry g i x gap w es ≡ best_entry g i x gap w (near g x es)
  unfolding best_entry near
  best_near [] h = refl
  best_near (e ∷ es) h = near_by e es (leb (minimum_of g) (reach_of g x e)) refl h.0 (best_near es h.1)

-- ---- a round on the interval

least_view : (g : Setting) (i p : ℕ) (es : List Break) → Some es → least (map (view g i p) es) ≡ view g i p (least es)
unfolding least
least_view g i p [] z = absurd z
least_view g i p (e ∷ es) z = least_from_view g i p e es

least_one : (P : Break → Type 0) (e : Break) (es : List Break) → P e → All P es → P (least_from e es)
unfolding least_from
least_one P e [] h a = h
least_one P e (c ∷ cs) h a = least_one P (cond (ltb c.demerits e.demerits) c e) cs (by (ltb c.demerits e.demerits)) a.1 where
  by : (z : Bool) → P (cond z c e)
  by true = a.0
  by false = h

pub least_all : (P : Break → Type 0) (es : List Break) → Some es → All P es → P (least es)
unfolding least
least_all P [] z a = absurd z
least_all P (e ∷ es) z a = least_one P e es a.0 a.1

pops_rising : (g : Setting) (x : ℕ) (es : List Break) → Rising es → Rising (pops g x es)
unfolding pops
pops_rising g x [] h = tt
pops_rising g x (e ∷ es) h = by (leb (reach_of g x e) g.width) (pops_rising g x es h.1) where
  by : (z : Bool) → Rising (pops g x es) → Rising (elim z [ true ↦ e ∷ es | false ↦ pops g x es ])
  by true k = h
  by false k = k

pops_all : (P : Break → Type 0) (g : Setting) (x : ℕ) (es : List Break) → All P es → All P (pops g x es)
unfolding pops
pops_all P g x [] h = tt
pops_all P g x (e ∷ es) h = by (leb (reach_of g x e) g.width) (pops_all P g x es h.1) where
  by : (z : Bool) → All P (pops g x es) → All P (elim z [ true ↦ e ∷ es | false ↦ pops g x es ])
  by true k = h
  by false k = k

module _ (g : Setting) (i p gap : ℕ) (w : Word) (sentence : Bool) (plain : w.before ≡ None) (es : List Break) (some : Some es) (good : All (Good g i p w.after) es) (rising : Rising es) where
  abbrev space : ℕ
  space = added_space g.uniform w.new_line sentence false

  settled_view : (ns : List Break) → plain_settled g i space w (map (view g i p) es) (map (view g (suc i) (line_to p space w)) ns)
      ≡ map (view g (suc i) (line_to p space w)) (entry_settled g i p (line_to p space w) gap w es ns)
  settled_view [] = rw (least_view g i p es some, restart_view g i p space gap w plain (least es) (least_all (Good g i p w.after) es some good))
  settled_view (n ∷ ns) = refl

  offers_view : (lastWord : Bool) → plain_offer g lastWord i space w (map (view g i p) es)
      ≡ view_offer g (suc i) (line_to p space w) (near_offer g lastWord i (line_to p space w) gap w (pops g (line_to p space w) es))
  offers_view true = refl
  offers_view false = best_view g i p space gap w plain es good
      ∙ ap (view_offer g (suc i) (line_to p space w)) (best_pops g i (line_to p space w) gap w es ∙ best_near g i (line_to p space w) gap w (pops g (line_to p space w) es) (pops_rising g (line_to p space w) es rising))

  -- (2) a round of the definition is a round on the interval
  pub round_view : (lastWord : Bool) → plain_round g lastWord sentence i w (map (view g i p) es)
      ≡ map (view g (suc i) (line_to p space w)) (interval_round g lastWord i p (line_to p space w) gap w es)
  unfolding plain_round interval_round
  round_view lastWord = rw (
    staying_view g i p space w plain es good,
    fitting_pops g (line_to p space w) es rising,
    offers_view lastWord,
    with_view g (suc i) (line_to p space w) (pops g (line_to p space w) es) (near_offer g lastWord i (line_to p space w) gap w (pops g (line_to p space w) es)),
  ) (settled_view (with_offer (pops g (line_to p space w) es) (near_offer g lastWord i (line_to p space w) gap w (pops g (line_to p space w) es))))

-- ---- what the next round begins with

abbrev pub NotPast : ℕ → List Break → Type 0
NotPast m es = All (λ (e : Break). e.columns ≤ m) es

-- a new break's base is not below those that stay
abbrev pub Climbs : ℕ → List Break → Offer → Type 0
Climbs m ns none = Unit {0}
Climbs m ns (offer e) = NotPast m ns

abbrev OfferIs : (Break → Type 0) → Offer → Type 0
OfferIs P none = Unit {0}
OfferIs P (offer e) = P e

rising_append : (m : ℕ) (es : List Break) (e : Break) → Rising es → NotPast m es → e.columns ≡ m → Rising (es ++ e ∷ [])
rising_append m [] e r n q = (tt, tt)
rising_append m (c ∷ cs) e r n q =
    let h = n.0 in
    (all_append (λ (d : Break). c.columns ≤ d.columns) cs (e ∷ []) r.0 (omega arith, tt), rising_append m cs e r.1 n.1 q)

lesser_is : (P : Break → Type 0) (a b : Offer) → OfferIs P a → OfferIs P b → OfferIs P (lesser a b)
unfolding lesser
lesser_is P none b h k = k
lesser_is P (offer a) none h k = h
lesser_is P (offer a) (offer b) h k = by (leb a.demerits b.demerits) where
  by : (z : Bool) → OfferIs P (cond z (offer a) (offer b))
  by true = h
  by false = k

module _ (g : Setting) (i p s gap : ℕ) (w : Word) where
  abbrev on : ℕ
  on = line_to p s w

  abbrev New : Break → Type 0
  New e = Good g (suc i) on gap e × (e.columns ≡ on + gap)

  old_base : (base : ℕ) (f : Bool) → BaseIs g p w.after f base → base ≤ on + g.indent
  old_base base true h = omega arith
  old_base base false h = omega arith

  below_next : (ks : List Place) → MadeBelow i ks → MadeBelow (suc i) ks
  below_next [] h = tt
  below_next (k ∷ ks) h = omega arith

  good_old : (e : Break) → Good g i p w.after e → Good g (suc i) on gap e
  good_old e h = record {
    base = rw (old_not_fresh i e.places h.made) (old_base e.columns (fresh_at i e.places) h.base);
    made = below_next e.places h.made;
  }

  good_after : (e : Break) (total : ℕ) (r : Float) → New (entry_after i (on + gap) e total r)
  good_after e total r = (record { base = rw (eq-eqb (suc i) (suc i) refl) refl; made = omega arith }, refl)

  offer_new_by : (e : Break) (y : Bool) → leb (reach_of g on e) g.width && leb (minimum_of g) (reach_of g on e) ≡ y → OfferIs New (entry_offer g i on gap w e)
  unfolding entry_offer
  offer_new_by e false z = rw (entry_offer, z) tt
  offer_new_by e true z = rw (entry_offer, z) (good_after e _ _)

  best_new : (es : List Break) → OfferIs New (best_entry g i on gap w es)
  unfolding best_entry
  best_new [] = tt
  best_new (e ∷ es) = lesser_is New (entry_offer g i on gap w e) (best_entry g i on gap w es)
      (offer_new_by e (leb (reach_of g on e) g.width && leb (minimum_of g) (reach_of g on e)) refl) (best_new es)

  offered_new : (lastWord : Bool) (es : List Break) → OfferIs New (near_offer g lastWord i on gap w es)
  offered_new true es = tt
  offered_new false es = best_new (near g on es)

  restart_ready : (e : Break) → Ready g (suc i) on gap (entry_restart g i p on gap w e ∷ [])
  unfolding entry_restart
  restart_ready e = by (not (fresh_at i e.places) && ltb (minimum_of g + g.width) (reach_of g on e + (p + g.indent - e.columns))) where
    by : (z : Bool) → Ready g (suc i) on gap (cond z
        (record { places = before_word i ∷ e.places; demerits = 0; ratio = fin false 1 (pos 0); columns = on - w.width; fresh = false })
        (entry_after i (on + gap) e 0 (fin true 1 (pos 0))) ∷ [])
    by true = record { some = tt; good = (record { base = omega arith; made = omega arith }, tt); rising = (tt, tt) }
    by false = record { some = tt; good = ((good_after e 0 (fin true 1 (pos 0))).0, tt); rising = (tt, tt) }

  with_ready : (es ns : List Break) (o : Offer) → OfferIs New o → All (Good g (suc i) on gap) ns → Rising ns → Climbs (on + gap) ns o
      → Ready g (suc i) on gap (entry_settled g i p on gap w es (with_offer ns o))
  with_ready es [] none q a r l = restart_ready (least es)
  with_ready es (n ∷ ns) none q a r l = record { some = tt; good = a; rising = r }
  with_ready es [] (offer e) q a r l = record { some = tt; good = (q.0, tt); rising = (tt, tt) }
  with_ready es (n ∷ ns) (offer e) q a r l = record {
    some = tt;
    good = all_append (Good g (suc i) on gap) (n ∷ ns) (e ∷ []) a (q.0, tt);
    rising = rising_append (on + gap) (n ∷ ns) e r l q.1;
  }

  pub round_ready : (lastWord : Bool) (es : List Break) → Ready g i p w.after es → Climbs (on + gap) (pops g on es) (near_offer g lastWord i on gap w (pops g on es))
      → Ready g (suc i) on gap (interval_round g lastWord i p on gap w es)
  unfolding interval_round
  round_ready lastWord es h l = with_ready es (pops g on es) (near_offer g lastWord i on gap w (pops g on es)) (offered_new lastWord (pops g on es))
      (pops_all (Good g (suc i) on gap) g on es (all_weaken (Good g i p w.after) (Good g (suc i) on gap) good_old es h.good))
      (pops_rising g on es h.rising) l

-- ---- all rounds

abbrev pub Tabless : Word → Type 0
Tabless w = w.before ≡ None

unfoldable pub interval_from : Setting → Bool → ℕ → ℕ → List Break → List Word → List Break
interval_from g sentence i p es [] = es
interval_from g sentence i p es (w ∷ ws) =
    let x = line_to p (added_space g.uniform w.new_line sentence false) w in
    interval_from g (sentence_behind w ws) (suc i) x (interval_round g (is_last ws) i p x (gap_behind ws) w es) ws

-- no base falls in any round: what the code tests where it makes a break
abbrev pub NeverFalls : Setting → Bool → ℕ → ℕ → List Break → List Word → Type 0
NeverFalls g sentence i p es [] = Unit {0}
NeverFalls g sentence i p es (w ∷ ws) =
    let x = line_to p (added_space g.uniform w.new_line sentence false) w in
    Climbs (x + gap_behind ws) (pops g x es) (near_offer g (is_last ws) i x (gap_behind ws) w (pops g x es))
    × NeverFalls g (sentence_behind w ws) (suc i) x (interval_round g (is_last ws) i p x (gap_behind ws) w es) ws

pub rounds_view : (g : Setting) (sentence : Bool) (i p : ℕ) (es : List Break) (ws : List Word) → All Tabless ws → NeverFalls g sentence i p es ws → Ready g i p (gap_behind ws) es
    → (least (plain_from g sentence i (map (view g i p) es) ws)).places ≡ (least (interval_from g sentence i p es ws)).places
unfolding plain_from interval_from view
rounds_view g sentence i p es [] h c r = ap (λ (b : Break). b.places) (least_view g i p es r.some)
rounds_view g sentence i p es (w ∷ ws) h c r =
    let s = added_space g.uniform w.new_line sentence false in
    let x = line_to p s w in
    ap (λ (bs : List Break). (least (plain_from g (sentence_behind w ws) (suc i) bs ws)).places) (round_view g i p (gap_behind ws) w sentence h.0 es r.some r.good r.rising (is_last ws))
    ∙ rounds_view g (sentence_behind w ws) (suc i) x (interval_round g (is_last ws) i p x (gap_behind ws) w es) ws h.1 c.1 (round_ready g i p s (gap_behind ws) w (is_last ws) es r c.0)

-- the first break's base is the indent
abbrev pub first_entry : Setting → Break
first_entry g = record { places = []; demerits = 0; ratio = no_ratio; columns = g.indent; fresh = false }

first_view : (g : Setting) (w : Word) → first_break g w ≡ view g 1 (g.first + w.width) (first_entry g)
unfolding first_break view
first_view g w = rw (less_same (g.first + w.width) g.indent) where
  less_same : (a b : ℕ) → a + b - b ≡ a
  less_same a b = omega arith

-- what the first round begins with
pub first_ready : (g : Setting) (p gap : ℕ) → Ready g 1 p gap (first_entry g ∷ [])
first_ready g p gap = record { some = tt; good = (record { base = omega arith; made = tt }, tt); rising = (tt, tt) }

-- (2) the path, from the interval
pub path_interval : (g : Setting) (w : Word) (ws : List Word) → All Tabless ws → NeverFalls g false 1 (g.first + w.width) (first_entry g ∷ []) ws
    → path_of g (w ∷ ws) ≡ (least (interval_from g false 1 (g.first + w.width) (first_entry g ∷ []) ws)).places
path_interval g w ws h c =
    path_plain g w ws
    ∙ ap (λ (b : Break). (least (plain_from g false 1 (b ∷ []) ws)).places) (first_view g w)
    ∙ rounds_view g false 1 (g.first + w.width) (first_entry g ∷ []) ws h c (first_ready g (g.first + w.width) (gap_behind ws))

-- ---- (3) where no base falls

climbs_low : (m : ℕ) (ns : List Break) (o : Offer) → NotPast m ns → Climbs m ns o
climbs_low m ns none h = tt
climbs_low m ns (offer e) h = h

-- once every base is on the endless line, that stays so
module _ (g : Setting) (i p s gap : ℕ) (w : Word) where
  abbrev reach : ℕ
  reach = line_to p s w

  restart_low : (e : Break) → (entry_restart g i p reach gap w e).columns ≤ reach + gap
  unfolding entry_restart
  restart_low e = by (not (fresh_at i e.places) && ltb (minimum_of g + g.width) (reach_of g reach e + (p + g.indent - e.columns))) where
    by : (z : Bool) → (cond z
        (record { places = before_word i ∷ e.places; demerits = 0; ratio = fin false 1 (pos 0); columns = reach - w.width; fresh = false })
        (entry_after i (reach + gap) e 0 (fin true 1 (pos 0)))).columns ≤ reach + gap
    by true = omega arith
    by false = omega arith

  with_low : (es ns : List Break) (o : Offer) → OfferIs (New g i p s gap w) o → NotPast (reach + gap) ns → NotPast (reach + gap) (entry_settled g i p reach gap w es (with_offer ns o))
  with_low es [] none q l = (restart_low (least es), tt)
  with_low es (n ∷ ns) none q l = l
  with_low es [] (offer e) q l = (rw q.1 (omega arith), tt)
  with_low es (n ∷ ns) (offer e) q l = all_append (λ (d : Break). d.columns ≤ reach + gap) (n ∷ ns) (e ∷ []) l (rw q.1 (omega arith), tt)

  stay_low : (es : List Break) → NotPast (p + w.after) es → NotPast (reach + gap) (pops g reach es)
  stay_low es h = pops_all (λ (e : Break). e.columns ≤ reach + gap) g reach es (all_weaken (λ (e : Break). e.columns ≤ p + w.after) (λ (e : Break). e.columns ≤ reach + gap) (λ e k. omega arith) es h)

  round_low : (lastWord : Bool) (es : List Break) → NotPast (p + w.after) es → NotPast (reach + gap) (interval_round g lastWord i p reach gap w es)
  unfolding interval_round
  round_low lastWord es h = with_low es (pops g reach es) (near_offer g lastWord i reach gap w (pops g reach es)) (offered_new g i p s gap w lastWord (pops g reach es)) (stay_low es h)

pub low_never : (g : Setting) (sentence : Bool) (i p : ℕ) (es : List Break) (ws : List Word) → NotPast (p + gap_behind ws) es → NeverFalls g sentence i p es ws
low_never g sentence i p es [] h = tt
low_never g sentence i p es (w ∷ ws) h =
    let s = added_space g.uniform w.new_line sentence false in
    let x = line_to p s w in (
      climbs_low (x + gap_behind ws) (pops g x es) (near_offer g (is_last ws) i x (gap_behind ws) w (pops g x es)) (stay_low g i p s (gap_behind ws) w es h),
      low_never g (sentence_behind w ws) (suc i) x (interval_round g (is_last ws) i p x (gap_behind ws) w es) ws (round_low g i p s (gap_behind ws) w (is_last ws) es h),
    )

-- the indent is no more than the first line with its first word and the gap after it
pub first_never : (g : Setting) (w : Word) (ws : List Word) → g.indent ≤ g.first + w.width + gap_behind ws → NeverFalls g false 1 (g.first + w.width) (first_entry g ∷ []) ws
first_never g w ws h = low_never g false 1 (g.first + w.width) (first_entry g ∷ []) ws (h, tt)

-- nor where the indent is no more than the least length of a line: the first offer waits until the first line passes it
module _ (g : Setting) (i p : ℕ) (sentence : Bool) (w : Word) (ws : List Word) where
  abbrev added : ℕ
  added = added_space g.uniform w.new_line sentence false

  abbrev far : ℕ
  far = line_to p added w

  low_step : (es : List Break) → NotPast (far + gap_behind ws) (pops g far es) → NeverFalls g sentence i p es (w ∷ ws)
  unfolding interval_round
  low_step es h = (
    climbs_low (far + gap_behind ws) (pops g far es) (near_offer g (is_last ws) i far (gap_behind ws) w (pops g far es)) h,
    low_never g (sentence_behind w ws) (suc i) far (interval_round g (is_last ws) i p far (gap_behind ws) w es) ws
        (with_low g i p added (gap_behind ws) w es (pops g far es) (near_offer g (is_last ws) i far (gap_behind ws) w (pops g far es)) (offered_new g i p added (gap_behind ws) w (is_last ws) (pops g far es)) h),
  )

  module _ (e : Break) (first : e.columns ≡ g.indent) (short : g.indent ≤ minimum_of g) where
    pops_one : leb (reach_of g far e) g.width ≡ true → pops g far (e ∷ []) ≡ e ∷ []
    unfolding pops
    pops_one z = rw (pops, z)

    pops_none : leb (reach_of g far e) g.width ≡ false → pops g far (e ∷ []) ≡ []
    unfolding pops
    pops_none z = rw (pops, z)

    none_near : (l : Bool) → leb (minimum_of g) (reach_of g far e) ≡ false → near_offer g l i far (gap_behind ws) w (e ∷ []) ≡ none
    unfolding near best_entry
    none_near true z = refl
    none_near false z = rw (near, z)

    same_round : leb (reach_of g far e) g.width ≡ true → leb (minimum_of g) (reach_of g far e) ≡ false → interval_round g (is_last ws) i p far (gap_behind ws) w (e ∷ []) ≡ e ∷ []
    unfolding interval_round
    same_round y z = rw (pops_one y, none_near (is_last ws) z)

    lone_by : (y z : Bool) → leb (reach_of g far e) g.width ≡ y → leb (minimum_of g) (reach_of g far e) ≡ z → NeverFalls g (sentence_behind w ws) (suc i) far (e ∷ []) ws
        → NeverFalls g sentence i p (e ∷ []) (w ∷ ws)
    lone_by false z u v r = low_step (e ∷ []) (rw (pops_none u) tt)
    lone_by true true u v r = let k = leb-true (minimum_of g) (reach_of g far e) v in low_step (e ∷ []) (rw (pops_one u) (omega arith, tt))
    lone_by true false u v r = (rw (pops_one u, none_near (is_last ws) v) tt, rw (same_round u v) r)

pub lone_never : (g : Setting) (sentence : Bool) (i p : ℕ) (e : Break) (ws : List Word) → e.columns ≡ g.indent → g.indent ≤ minimum_of g → NeverFalls g sentence i p (e ∷ []) ws
lone_never g sentence i p e [] f h = tt
lone_never g sentence i p e (w ∷ ws) f h =
    let x = line_to p (added_space g.uniform w.new_line sentence false) w in
    lone_by g i p sentence w ws e f h (leb (reach_of g x e) g.width) (leb (minimum_of g) (reach_of g x e)) refl refl (lone_never g (sentence_behind w ws) (suc i) x e ws f h)

pub indent_never : (g : Setting) (w : Word) (ws : List Word) → g.indent ≤ minimum_of g → NeverFalls g false 1 (g.first + w.width) (first_entry g ∷ []) ws
indent_never g w ws h = lone_never g false 1 (g.first + w.width) (first_entry g) ws refl h

-- every entry reaches no less than the indent, so that no subtraction is cut off
pub reach_exact : (g : Setting) (i p s : ℕ) (w : Word) (e : Break) → Good g i p w.after e → e.columns ≤ line_to p s w + g.indent
reach_exact g i p s w e h = old_base g i p s 0 w e.columns (fresh_at i e.places) h.base
