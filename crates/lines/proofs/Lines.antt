-- Lines: the end of a line's body from a place inside it, the carriage return rule by the body's last byte, and for callers a line by
-- its lengths and the lines from a place of the notes on.
use mathlib.Core.Path.{◌≡◌, refl, sym, ap, ◌∙◌}
use mathlib.Core.Bool.{Bool, true, false, cond, and-eq-true_iff}
use mathlib.Core.List.{List, [], ◌∷◌, ◌++◌}
use Prim.Native.Nat.{ℕ, zero, suc, ◌+◌, ◌-◌, ◌≤◌, ◌<◌, min}
use native.Mathlib.Omega.{arith}
use native.Mathlib.Numerals.{add-one}
use lib.Dec.{ltb, eqb}
use lib.ListN.{length, get_or, take, drop, length-take, length-drop}
use lib.Seq.{slice, take_all, take-take, drop-drop, length-take-le}
use borrow.Author.Tests.{eq-eqb, ne_eqb, lt-ltb, le-ltb}
use Rattle.lists.specs.Runs.{every}
use Rattle.lists.proofs.Runs.{while_more, while_end}
use Rattle.lists.proofs.Parts.{every_cons}
use Rattle.lists.proofs.Walk.{each_nil, each_step}
use Rattle.lists.proofs.Fronts.{take_counted, drop_counted}
use Rattle.lists.proofs.Slices.{slice_is}
use Rattle.lists.proofs.Views.{drop_none}
use Rattle.lists.proofs.RunsAt.{while_within, while_front, run_past, run_end, run_more}
use Rattle.text.proofs.Rows.{all_at, all_each}
use Rattle.lines.specs.Lines.{no_feed, body, without_return, first_line, lines_of}
use Rattle.lines.specs.Cited.Places.{lengths_of}
use Rattle.lines.specs.declared.Extent.{Extent}

-- ---- the body

module _ (s : List ℕ) (i : ℕ) where
  pub body_past : length s ≤ i → i + length (body (drop i s)) ≡ i
  unfolding body
  body_past h = run_past no_feed 0 s i h

  pub body_feed : i < length s → get_or s i 0 ≡ 10 → i + length (body (drop i s)) ≡ i
  unfolding body
  body_feed h e = run_end no_feed 0 s i h (rw eq-eqb)

  pub body_more : i < length s → (get_or s i 0 ≡ 10 → ⊥) → i + length (body (drop i s)) ≡ (i + 1) + length (body (drop (i + 1) s))
  unfolding body
  body_more h e = run_more no_feed 0 s i h (rw ne_eqb)

-- n + 1 bytes in a row that are no line feed
body_run : (s : List ℕ) (i n : ℕ) → i + n < length s → ((k : ℕ) → i ≤ k → k ≤ i + n → no_feed (get_or s k 0) ≡ true)
    → i + length (body (drop i s)) ≡ (i + suc n) + length (body (drop (i + suc n) s))
unfolding body
body_run s i zero h all = run_more no_feed 0 s i (omega arith) (all i (omega arith) (omega arith))
body_run s i (suc n) h all =
    let e : i + suc n + 1 ≡ i + suc (suc n) = omega arith in
    body_run s i n (omega arith) (λ k a b. all k a (omega arith)) ∙ run_more no_feed 0 s (i + suc n) h (all (i + suc n) (omega arith) (omega arith)) ∙ ap (λ (k : ℕ). k + length (body (drop k s))) e

pub body_eight : (s : List ℕ) (i : ℕ) → i + 8 ≤ length s → all_at no_feed s i 7 ≡ true → i + length (body (drop i s)) ≡ (i + 8) + length (body (drop (i + 8) s))
body_eight s i h e = body_run s i 7 (omega arith) (λ k a b. all_each no_feed s i 7 e k a b)

pub body_within : (s : List ℕ) → length (body s) ≤ length s
unfolding body
body_within s = while_within no_feed s

pub body_front : (s : List ℕ) → body s ≡ take (length (body s)) s
unfolding body
body_front s = while_front no_feed s

-- up to the first line feed
pub feedless_body : (text rest : List ℕ) → every no_feed text ≡ true → body (text ++ 10 ∷ rest) ≡ text
unfolding body
feedless_body [] rest f = while_end no_feed 10 rest refl
feedless_body (x ∷ text) rest f =
    let h = (and-eq-true_iff (no_feed x) (every no_feed text)).0 (rw (every_cons no_feed x text) at f) in
    while_more no_feed x (text ++ 10 ∷ rest) h.0 ∙ ap (λ (l : List ℕ). x ∷ l) (feedless_body text rest h.1)

-- ---- the carriage return

pub return_behind : (text : List ℕ) → without_return (text ++ 13 ∷ []) ≡ text
unfolding without_return
return_behind [] = refl
return_behind (x ∷ []) = refl
return_behind (x ∷ y ∷ text) = ap (λ (l : List ℕ). x ∷ l) (return_behind (y ∷ text))

-- another last byte stays
return_stays : (text : List ℕ) (x : ℕ) → (x ≡ 13 → ⊥) → without_return (text ++ x ∷ []) ≡ text ++ x ∷ []
unfolding without_return
return_stays [] x h = rw (ne_eqb x 13 h)
return_stays (y ∷ []) x h = rw (ne_eqb x 13 h)
return_stays (y ∷ z ∷ text) x h = ap (λ (l : List ℕ). y ∷ l) (return_stays (z ∷ text) x h)

-- of a text by its last byte and what is before it
module _ (xs before : List ℕ) (last : ℕ) (parts : xs ≡ before ++ last ∷ []) where
  pub return_off : last ≡ 13 → length before ≡ length (without_return xs)
  return_off h = rw (parts, h, return_behind)

  pub return_on : (last ≡ 13 → ⊥) → length xs ≡ length (without_return xs)
  return_on h = rw (parts, return_stays before last h)

pub return_none : (xs : List ℕ) → length xs ≡ 0 → length (without_return xs) ≡ 0
unfolding without_return
return_none [] h = refl
return_none (x ∷ xs) h = absurd (omega arith)

pub return_goes : (xs : List ℕ) (last : ℕ) → length xs ≡ suc last → get_or xs last 0 ≡ 13 → length (without_return xs) ≡ last
unfolding without_return
return_goes [] last h e = absurd (omega arith)
return_goes (x ∷ []) zero h e = rw (eq-eqb x 13 e)
return_goes (x ∷ []) (suc last) h e = absurd (omega arith)
return_goes (x ∷ y ∷ xs) zero h e = absurd (omega arith)
return_goes (x ∷ y ∷ xs) (suc last) h e = ap suc (return_goes (y ∷ xs) last (omega arith) e)

pub return_else : (xs : List ℕ) (last : ℕ) → length xs ≡ suc last → (get_or xs last 0 ≡ 13 → ⊥) → length (without_return xs) ≡ length xs
unfolding without_return
return_else [] last h e = absurd (omega arith)
return_else (x ∷ []) zero h e = rw (ne_eqb x 13 e)
return_else (x ∷ []) (suc last) h e = absurd (omega arith)
return_else (x ∷ y ∷ xs) zero h e = absurd (omega arith)
return_else (x ∷ y ∷ xs) (suc last) h e = ap suc (return_else (y ∷ xs) last (omega arith) e)

return_within : (xs : List ℕ) → length (without_return xs) ≤ length xs
unfolding without_return
return_within [] = omega arith
return_within (x ∷ []) = pick (eqb x 13)
  where
    pick : (t : Bool) → length (cond t [] (x ∷ [])) ≤ 1
    pick true = omega arith
    pick false = omega arith
return_within (x ∷ y ∷ xs) = omega (arith, return_within (y ∷ xs))

return_front : (xs : List ℕ) → without_return xs ≡ take (length (without_return xs)) xs
unfolding without_return
return_front [] = refl
return_front (x ∷ []) = pick (eqb x 13)
  where
    pick : (t : Bool) → cond t [] (x ∷ []) ≡ take (length (cond t [] (x ∷ []))) (x ∷ [])
    pick true = refl
    pick false = refl
return_front (x ∷ y ∷ xs) = ap (λ (l : List ℕ). x ∷ l) (return_front (y ∷ xs))

-- ---- the first line

module _ (s : List ℕ) (n : ℕ) (ends : n ≡ length (body s)) where
  pub line_last : n ≡ length s → ◌≡◌ {A = Extent} (record { text = n; whole = n }) (lengths_of (first_line s))
  unfolding lengths_of first_line
  line_last h = rw (le-ltb (length (body s)) (length s) (omega arith), take_all (suc (length (body s))) s (omega arith), ← ends, ← h)

  pub line_fed : (t : ℕ) → n < length s → t ≡ length (without_return (take n s)) → ◌≡◌ {A = Extent} (record { text = t; whole = n + 1 }) (lengths_of (first_line s))
  unfolding lengths_of first_line
  line_fed t h e =
      let b : body s ≡ take n s = body_front s ∙ ap (λ (k : ℕ). take k s) (sym ends) in
      rw (lt-ltb (length (body s)) (length s) (omega arith), length-take-le (suc (length (body s))) s (omega arith), ← ends, b, ← e, add-one)

-- the first line of a text by its lengths
pub record Lengths (s : List ℕ) (e : Extent) : Type 0 where
  pub text : (first_line s).text ≡ take e.text s
  pub raw : (first_line s).raw ≡ take e.whole s
  pub shorter : e.text ≤ e.whole
  pub within : e.whole ≤ length s
  pub some : 0 < length s → 0 < e.whole

text_front : (s : List ℕ) → (first_line s).text ≡ take (length (first_line s).text) s
unfolding first_line
text_front s = pick (ltb (length (body s)) (length s))
  where
    stripped : without_return (body s) ≡ take (length (without_return (body s))) s
    stripped = return_front (body s) ∙ ap (take (length (without_return (body s)))) (body_front s) ∙ take-take (length (without_return (body s))) (length (body s)) s (return_within (body s))

    pick : (t : Bool) → cond t (without_return (body s)) (body s) ≡ take (length (cond t (without_return (body s)) (body s))) s
    pick true = stripped
    pick false = body_front s

text_within : (s : List ℕ) → length (first_line s).text ≤ length (body s)
unfolding first_line
text_within s = pick (ltb (length (body s)) (length s))
  where
    pick : (t : Bool) → length (cond t (without_return (body s)) (body s)) ≤ length (body s)
    pick true = return_within (body s)
    pick false = omega arith

pub text_in_body : (s : List ℕ) (e : Extent) → e ≡ lengths_of (first_line s) → e.text ≤ length (body s)
unfolding lengths_of
text_in_body s e h = rw h (text_within s)

raw_front : (s : List ℕ) → (first_line s).raw ≡ take (length (first_line s).raw) s
unfolding first_line
raw_front s = take_counted (suc (length (body s))) s

raw_count : (s : List ℕ) → length (first_line s).raw ≡ min (suc (length (body s))) (length s)
unfolding first_line
raw_count s = length-take (suc (length (body s))) s

whole_is : (s : List ℕ) (e : Extent) → e ≡ lengths_of (first_line s) → length (first_line s).raw ≡ e.whole
unfolding lengths_of
whole_is s e h = rw h

pub lengths : (s : List ℕ) (e : Extent) → e ≡ lengths_of (first_line s) → Lengths s e
unfolding lengths_of
lengths s e h =
    let b = body_within s in
    let r = raw_count s in
    let t = text_within s in
    rw h (record { text = text_front s; raw = raw_front s; shorter = omega arith; within = omega arith; some = λ k. omega arith })

-- ---- the lines from a place of the notes on

rest_lines : (xs : List ℕ) → 0 < length xs → lines_of xs ≡ first_line xs ∷ lines_of (drop (length (first_line xs).raw) xs)
unfolding lines_of first_line
rest_lines xs h = rw (← drop_counted (suc (length (body xs))) xs) (each_step _ first_line xs h)

-- a line at a place, and the next after it
pub record LineHere (notes : List ℕ) (at : ℕ) (e : Extent) : Type 0 where
  pub first : lines_of (drop at notes) ≡ first_line (drop at notes) ∷ lines_of (drop (at + e.whole) notes)
  pub text : (first_line (drop at notes)).text ≡ slice at (at + e.text) notes
  pub raw : (first_line (drop at notes)).raw ≡ slice at (at + e.whole) notes
  pub shorter : e.text ≤ e.whole
  pub on : 0 < e.whole
  pub within : at + e.whole ≤ length notes

module _ (notes : List ℕ) (at : ℕ) where
  pub lines_past : length notes ≤ at → lines_of (drop at notes) ≡ []
  unfolding lines_of
  lines_past h = rw (drop_none 0 notes at h) (each_nil _ _)

  -- from the answer of first_line
  pub line_here : (e : Extent) → at < length notes → e ≡ lengths_of (first_line (drop at notes)) → LineHere notes at e
  line_here e h q =
      let l = lengths (drop at notes) e q in
      let d : length (drop at notes) ≡ length notes - at = length-drop at notes in
      let w : length (first_line (drop at notes)).raw ≡ e.whole = whole_is (drop at notes) e q in
      record {
        first = rest_lines (drop at notes) (omega arith) ∙ rw (w, drop-drop e.whole at notes);
        text = l.text ∙ sym (slice_is at e.text notes);
        raw = l.raw ∙ sym (slice_is at e.whole notes);
        shorter = l.shorter;
        on = l.some (omega arith);
        within = omega (arith, l.within);
      }

  -- likewise where all from the place on is lent
  pub line_lent : (e : Extent) → at < length notes → e ≡ lengths_of (first_line (take (length notes - at) (drop at notes))) → LineHere notes at e
  line_lent e h q = line_here e h (q ∙ ap (λ (l : List ℕ). lengths_of (first_line l)) (take_all (length notes - at) (drop at notes) (omega (arith, length-drop at notes))))
