-- Lines and the notes' own bytes: a text with its line end is a line, and every line is its text and its line end.
use mathlib.Core.Path.{◌≡◌, refl, sym, ap, ◌∙◌}
use mathlib.Core.Bool.{Bool, true, false, not, and-eq-true_iff}
use mathlib.Core.List.{List, [], ◌∷◌, ◌++◌, append_assoc, append-nil}
use Prim.Native.Nat.{ℕ, suc, ◌<◌}
use native.Mathlib.Omega.{arith}
use lib.Dec.{eqb}
use lib.ListN.{length, take, drop, length-append, drop_of_length-le}
use lib.Seq.{take_all, take-append-le}
use borrow.Author.Tests.{ne_eqb, eqb-true, eqb-false, lt-ltb, le-ltb}
use Rattle.lists.specs.Runs.{while, behind, every, joined}
use Rattle.lists.proofs.Runs.{while_more, behind_more, behind_end}
use Rattle.lists.proofs.Parts.{while_nil, while_behind, every_cons, every_nil, every_append, behind_nil, every_while, joined_nil, joined_cons}
use Rattle.lists.proofs.Walk.{each_nil, each_step}
use Rattle.lines.specs.Lines.{Line, no_feed, body, without_return, first_line, lines_of}
use Rattle.lines.specs.Theorems.Closed.{Closed}
use Rattle.lines.proofs.Boundary.{lines_append}
use Rattle.lines.proofs.Lines.{feedless_body, lines_past, return_behind}
use Rattle.lines.proofs.Extents.{lines_extents}
use Rattle.rudignals.specs.Theorems.LineEnds.{EndsIn, LineEnd, feed, return_and_feed, Ended, by_feed, by_nothing, LineIs}

-- ---- from the bytes to the line

feedless_all : (text : List ℕ) → every no_feed text ≡ true → body text ≡ text
unfolding body
feedless_all [] f = while_nil no_feed
feedless_all (x ∷ text) f =
    let h = (and-eq-true_iff (no_feed x) (every no_feed text)).0 (rw (every_cons no_feed x text) at f) in
    while_more no_feed x text h.0 ∙ ap (λ (l : List ℕ). x ∷ l) (feedless_all text h.1)

return_stays : (text : List ℕ) → (EndsIn 13 text → ⊥) → without_return text ≡ text
unfolding without_return
return_stays [] n = refl
return_stays (x ∷ []) n = rw (ne_eqb x 13 n)
return_stays (x ∷ y ∷ text) n = ap (λ (l : List ℕ). x ∷ l) (return_stays (y ∷ text) n)

take_front : (a b : List ℕ) → take (length a) (a ++ b) ≡ a
take_front a b = take-append-le (length a) a b (omega arith) ∙ take_all (length a) a (omega arith)

-- the first line of a text, by its body and what is after it
fed_line : (b rest : List ℕ) → body (b ++ 10 ∷ rest) ≡ b → lines_of (b ++ 10 ∷ rest) ≡ record { raw = b ++ 10 ∷ []; text = without_return b } ∷ lines_of rest
unfolding lines_of first_line
fed_line b rest e =
    let l = length-append b (10 ∷ rest) in
    let k = length-append b (10 ∷ []) in
    let a : b ++ 10 ∷ rest ≡ (b ++ 10 ∷ []) ++ rest = sym (append_assoc b (10 ∷ []) rest) in
    let n : suc (length b) ≡ length (b ++ 10 ∷ []) = omega arith in
    each_step (λ xs. length (body xs)) first_line (b ++ 10 ∷ rest) (omega arith)
    ∙ rw (
      e,
      lt-ltb (length b) (length (b ++ 10 ∷ rest)) (omega arith),
      n,
      a,
      take_front (b ++ 10 ∷ []) rest,
      drop_behind (b ++ 10 ∷ []) rest,
    )
  where
    drop_behind : (x y : List ℕ) → drop (length x) (x ++ y) ≡ y
    drop_behind [] y = refl
    drop_behind (z ∷ x) y = drop_behind x y

last_line : (text : List ℕ) → 0 < length text → every no_feed text ≡ true → lines_of text ≡ record { raw = text; text = text } ∷ []
unfolding lines_of first_line
last_line text h f =
    each_step (λ xs. length (body xs)) first_line text h
    ∙ rw (
      feedless_all text f,
      le-ltb (length text) (length text) (omega arith),
      take_all (suc (length text)) text (omega arith),
      drop_of_length-le text {i = suc (length text)} (omega arith),
      each_nil (λ xs. length (body xs)) first_line,
    )

-- a text with its line end is a line, and the lines of what is below follow it
line_first : (text end below : List ℕ) → LineIs text end below → lines_of (text ++ (end ++ below)) ≡ record { raw = text ++ end; text = text } ∷ lines_of below
line_first text end below i = go i.ended
  where
    fed : LineEnd text end → lines_of (text ++ (end ++ below)) ≡ record { raw = text ++ end; text = text } ∷ lines_of below
    fed (feed e n) = rw e (fed_line text below (feedless_body text below i.feedless) ∙ rw (return_stays text n))
    fed (return_and_feed e) =
        let a : text ++ 13 ∷ 10 ∷ below ≡ (text ++ 13 ∷ []) ++ 10 ∷ below = sym (append_assoc text (13 ∷ []) (10 ∷ below)) in
        let r : (text ++ 13 ∷ []) ++ 10 ∷ [] ≡ text ++ 13 ∷ 10 ∷ [] = append_assoc text (13 ∷ []) (10 ∷ []) in
        rw (e, a) (fed_line (text ++ 13 ∷ []) below (feedless_body (text ++ 13 ∷ []) below (returned text i.feedless)) ∙ rw (return_behind text, r))
      where
        returned : (t : List ℕ) → every no_feed t ≡ true → every no_feed (t ++ 13 ∷ []) ≡ true
        returned t f = rw (every_append no_feed t (13 ∷ []), f, every_cons no_feed 13 [], every_nil no_feed)

    go : Ended text end below → lines_of (text ++ (end ++ below)) ≡ record { raw = text ++ end; text = text } ∷ lines_of below
    go (by_feed e) = fed e
    go (by_nothing h e b) = rw (e, b, append-nil text) (last_line text h i.feedless ∙ rw (lines_past [] 0 (omega arith)))

-- A line of the notes, from their own bytes: what is above it is empty or ends in a line feed.
pub line_of_bytes : (above text end below : List ℕ) → Closed above → LineIs text end below
    → lines_of (above ++ (text ++ (end ++ below))) ≡ lines_of above ++ record { raw = text ++ end; text = text } ∷ lines_of below
line_of_bytes above text end below c i = lines_append above (text ++ (end ++ below)) c ∙ ap (λ (ls : List Line). lines_of above ++ ls) (line_first text end below i)

-- ---- from the line to the bytes

-- a body and its line feed: the text without a carriage return, and the line end
record Parts (b : List ℕ) : Type 0 where
  end : List ℕ
  ended : LineEnd (without_return b) end
  parts : b ++ 10 ∷ [] ≡ without_return b ++ end
  feedless : every no_feed b ≡ true → every no_feed (without_return b) ≡ true

-- a byte more at the front of a text that is not empty: the same line end
end_more : (x : ℕ) (b text end : List ℕ) → LineEnd text end → 0 < length b → b ++ 10 ∷ [] ≡ text ++ end → LineEnd (x ∷ text) end
end_more x b [] end (feed e n) h p = absurd (let l = ap length p in let k = length-append b (10 ∷ []) in let m = ap length e in omega arith)
end_more x b (z ∷ text) end (feed e n) h p = feed e n
end_more x b text end (return_and_feed e) h p = return_and_feed e

return_parts : (b : List ℕ) → Parts b
unfolding without_return
return_parts [] = record { end = 10 ∷ []; ended = feed refl (λ z. z); parts = refl; feedless = λ f. f }
return_parts (x ∷ []) = go (eqb x 13) refl
  where
    go : (t : Bool) → eqb x 13 ≡ t → Parts (x ∷ [])
    go true e =
        let w : without_return (x ∷ []) ≡ [] = rw e in
        record {
          end = 13 ∷ 10 ∷ [];
          ended = return_and_feed refl;
          parts = rw w (ap (λ (y : ℕ). y ∷ 10 ∷ []) (eqb-true x 13 e));
          feedless = λ f. rw w (every_nil no_feed);
        }
    go false e =
        let w : without_return (x ∷ []) ≡ x ∷ [] = rw e in
        record { end = 10 ∷ []; ended = rw w (feed refl (eqb-false x 13 e)); parts = rw w; feedless = λ f. rw w f }
return_parts (x ∷ y ∷ r) =
    let p = return_parts (y ∷ r) in
    record {
      end = p.end;
      ended = end_more x (y ∷ r) (without_return (y ∷ r)) p.end p.ended (omega arith) p.parts;
      parts = ap (λ (l : List ℕ). x ∷ l) p.parts;
      feedless = λ f.
          let h = (and-eq-true_iff (no_feed x) (every no_feed (y ∷ r))).0 (rw (every_cons no_feed x (y ∷ r)) at f) in
          rw (every_cons no_feed x (without_return (y ∷ r)), h.0, p.feedless h.1);
    }

-- what is after a body begins with a line feed
behind_feed : (xs : List ℕ) (z : ℕ) (zs : List ℕ) → behind no_feed xs ≡ z ∷ zs → z ≡ 10
behind_feed [] z zs e = absurd (let l = ap length (sym (behind_nil no_feed) ∙ e) in omega arith)
behind_feed (x ∷ xs) z zs e = go (eqb x 10) refl (behind_feed xs z zs)
  where
    go : (t : Bool) → eqb x 10 ≡ t → (behind no_feed xs ≡ z ∷ zs → z ≡ 10) → z ≡ 10
    go true t ih = let h : x ∷ xs ≡ z ∷ zs = sym (behind_end no_feed x xs (ap not t)) ∙ e in let k : x ≡ z = cc in sym k ∙ eqb-true x 10 t
    go false t ih = ih (sym (behind_more no_feed x xs (ap not t)) ∙ e)

-- the first line of a text, in its bytes
record First (xs : List ℕ) : Type 0 where
  text : List ℕ
  end : List ℕ
  below : List ℕ
  is : LineIs text end below
  bytes : xs ≡ text ++ (end ++ below)

first_of : (xs : List ℕ) → 0 < length xs → First xs
first_of xs h = go (behind no_feed xs) refl
  where
    go : (rest : List ℕ) → behind no_feed xs ≡ rest → First xs
    go [] e =
        let w : while no_feed xs ≡ xs = sym (append-nil (while no_feed xs)) ∙ rw e at (while_behind no_feed xs) in
        record { text = xs; end = []; below = []; is = record { feedless = rw w at (every_while no_feed xs); ended = by_nothing h refl refl }; bytes = sym (append-nil xs) }
    go (z ∷ zs) e =
        let b = while no_feed xs in
        let p = return_parts b in
        let w : b ++ 10 ∷ zs ≡ xs = rw (e, behind_feed xs z zs e) at (while_behind no_feed xs) in
        record {
          text = without_return b;
          end = p.end;
          below = zs;
          is = record { feedless = p.feedless (every_while no_feed xs); ended = by_feed p.ended };
          bytes = sym w ∙ sym (append_assoc b (10 ∷ []) zs) ∙ ap (λ (l : List ℕ). l ++ zs) p.parts ∙ append_assoc (without_return b) p.end zs;
        }

abbrev raws : List Line → List ℕ
raws ls = joined (λ (l : Line). l.raw) ls

-- a line among those of the notes, in the notes' own bytes
pub record LineAt (notes : List ℕ) (before : List Line) (l : Line) (after : List Line) : Type 0 where
  pub end : List ℕ
  pub raw : l.raw ≡ l.text ++ end
  pub is : LineIs l.text end (raws after)
  pub above : Closed (raws before)
  pub bytes : notes ≡ raws before ++ (l.text ++ (end ++ raws after))

closed_append : (a b : List ℕ) → Closed a → Closed b → Closed (a ++ b)
closed_append [] b c d = d
closed_append (x ∷ []) [] c d = c
closed_append (x ∷ []) (y ∷ b) c d = d
closed_append (x ∷ y ∷ a) b c d = closed_append (y ∷ a) b c d

closed_fed : (a : List ℕ) → Closed (a ++ 10 ∷ [])
closed_fed [] = refl
closed_fed (x ∷ []) = refl
closed_fed (x ∷ y ∷ a) = closed_fed (y ∷ a)

closed_line : (text end : List ℕ) → LineEnd text end → Closed (text ++ end)
closed_line text end (feed e n) = rw e (closed_fed text)
closed_line text end (return_and_feed e) = rw (e, ← append_assoc text (13 ∷ []) (10 ∷ [])) (closed_fed (text ++ 13 ∷ []))

not_none : (before : List Line) (l : Line) (after : List Line) → lines_of [] ≡ before ++ l ∷ after → ⊥
not_none before l after e = let n = ap length (sym (lines_past [] 0 (omega arith)) ∙ e) in let k = length-append before (l ∷ after) in omega arith

-- the first line of a text, and the lines below it
lines_first : (xs : List ℕ) (f : First xs) → lines_of xs ≡ record { raw = f.text ++ f.end; text = f.text } ∷ lines_of f.below
lines_first xs f = ap lines_of f.bytes ∙ line_first f.text f.end f.below f.is

-- notes that have a line have a first line
begun : (notes : List ℕ) (before : List Line) (l : Line) (after : List Line) → lines_of notes ≡ before ++ l ∷ after → First notes
begun [] before l after e = absurd (not_none before l after e)
begun (x ∷ xs) before l after e = first_of (x ∷ xs) (omega arith)

pub line_at : (before : List Line) (l : Line) (after : List Line) (notes : List ℕ) → lines_of notes ≡ before ++ l ∷ after → LineAt notes before l after
line_at [] l after notes e =
    let f = begun notes [] l after e in
    let s = lines_first notes f in
    let k : ◌≡◌ {A = Line} l (record { raw = f.text ++ f.end; text = f.text }) = cc in
    let a : after ≡ lines_of f.below = cc in
    let r : raws after ≡ f.below = ap raws a ∙ lines_extents f.below in
    rw k (record { end = f.end; raw = refl; is = rw r f.is; above = rw joined_nil tt; bytes = rw (joined_nil, r) f.bytes })
line_at (b ∷ before) l after notes e =
    let f = begun notes (b ∷ before) l after e in
    let s = lines_first notes f in
    let k : ◌≡◌ {A = Line} b (record { raw = f.text ++ f.end; text = f.text }) = cc in
    let t : lines_of f.below ≡ before ++ l ∷ after = cc in
    let i = line_at before l after f.below t in
    let r : raws (b ∷ before) ≡ (f.text ++ f.end) ++ raws before = joined_cons (λ (m : Line). m.raw) b before ∙ ap (λ (m : Line). m.raw ++ raws before) k in
    record {
      end = i.end;
      raw = i.raw;
      is = i.is;
      above = rw r (closed_append (f.text ++ f.end) (raws before) (closed f f.is.ended t) i.above);
      bytes =
          f.bytes
          ∙ sym (append_assoc f.text f.end f.below)
          ∙ ap (λ (m : List ℕ). (f.text ++ f.end) ++ m) i.bytes
          ∙ sym (append_assoc (f.text ++ f.end) (raws before) (l.text ++ (i.end ++ raws after)))
          ∙ ap (λ (m : List ℕ). m ++ (l.text ++ (i.end ++ raws after))) (sym r);
    }
  where
    closed : (f : First notes) → Ended f.text f.end f.below → lines_of f.below ≡ before ++ l ∷ after → Closed (f.text ++ f.end)
    closed f (by_feed q) t = closed_line f.text f.end q
    closed f (by_nothing h q z) t = absurd (not_none before l after (rw z at t))
