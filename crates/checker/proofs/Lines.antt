-- A paragraph's lines: words one after the other, each after a gap or on a line of its own, are the words cut into lines.
use mathlib.Core.Path.{◌≡◌, refl, sym, ap, ap₂, ◌∙◌}
use mathlib.Core.Bool.{Bool}
use mathlib.Core.List.{List, [], ◌∷◌, ◌++◌, append_assoc}
use mathlib.Core.Logic.{◌⊎◌, inl, inr}
use Prim.Native.Nat.{ℕ, suc, ◌<◌}
use native.Mathlib.Omega.{arith}
use lib.ListN.{length}
use Rattle.lists.specs.Runs.{begins, joined}
use Rattle.lists.specs.Theorems.All.{All}
use Rattle.lists.proofs.Parts.{every_append, joined_nil, joined_cons}
use Rattle.text.specs.Theorems.Blanks.{Gap}
use Rattle.records.specs.Word.{Word}
use Rattle.output.specs.Emission.{line_feed}
use Rattle.output.specs.Theorems.Order.{laid_out, InOrder}
use Rattle.output.proofs.Indents.{Feedless}
use Rattle.checker.specs.Acceptable.{Cut, cut_words, cut_bytes, LineOf, Carries, Then}
use Rattle.checker.specs.Matching.{match_text, match_feed, match_spaced, match_next, match_rest, match_words}
use Rattle.checker.proofs.Decides.{Language, Decides, Is, decides_text, decides_feed, decides_then, decides_either, decides_same}
use Rattle.checker.proofs.Gaps.{Fits, WordFits, decides_spaced, gap_no_feed}

-- the next word: on a line of its own, or after a gap
abbrev Next : Bool → List ℕ → List ℕ → Language
Next glue indent w part = Then (Is line_feed) (Is (indent ++ w)) part ⊎ Then (Gap glue) (Is w) part

abbrev Rest : Bool → List ℕ → List Word → Language
Rest glue indent [] = Is line_feed
Rest glue indent (w ∷ ws) = Then (Next glue indent w.text) (Rest glue indent ws)

-- ---- they are decided

module _ (glue : Bool) (indent : List ℕ) (i : Feedless indent) where
  decides_next : (w : List ℕ) → Fits glue w → Decides (Next glue indent w) (match_next glue indent w)
  unfolding match_next begins
  decides_next w f =
      decides_either (Then (Is line_feed) (Is (indent ++ w))) (Then (Gap glue) (Is w)) _ (match_spaced glue w)
      (decides_then (Is line_feed) (Is (indent ++ w)) match_feed (match_text (indent ++ w)) decides_feed (decides_text (indent ++ w) (rw (every_append, i, f.feedless))))
      (decides_spaced glue w f)
      (λ part rest t. rw (t.bytes_are, t.first))
      (λ part rest t. rw (t.bytes_are, append_assoc t.part t.rest rest) (gap_no_feed glue t.part (t.rest ++ rest) t.first))

  decides_rest : (ws : List Word) → All (WordFits glue) ws → Decides (Rest glue indent ws) (match_rest glue indent ws)
  unfolding match_rest
  decides_rest [] a = decides_feed
  decides_rest (w ∷ ws) a = decides_then (Next glue indent w.text) (Rest glue indent ws) (match_next glue indent w.text) (match_rest glue indent ws) (decides_next w.text a.0) (decides_rest ws a.1)

-- ---- they are lines

-- what is left of a line, and other lines
record Tail (glue : Bool) (indent : List ℕ) (ws : List Word) (bytes : List ℕ) : Type 0 where
  here : List Word
  separators : List (List ℕ)
  others : List Cut
  as_many : length here ≡ length separators
  each : All (Gap glue) separators
  others_are : All (LineOf glue indent) others
  words_are : ws ≡ here ++ joined cut_words others
  bytes_are : bytes ≡ laid_out separators here ++ joined cut_bytes others

module _ (glue : Bool) (indent : List ℕ) where
  -- one word more on the line
  tail_on : (w : Word) (ws : List Word) (gap bytes : List ℕ) → Gap glue gap → Tail glue indent ws bytes → Tail glue indent (w ∷ ws) ((gap ++ w.text) ++ bytes)
  unfolding laid_out
  tail_on w ws gap bytes g t = record {
    here = w ∷ t.here;
    separators = gap ∷ t.separators;
    others = t.others;
    as_many = ap suc t.as_many;
    each = (g, t.each);
    others_are = t.others_are;
    words_are = ap (λ (l : List Word). w ∷ l) t.words_are;
    bytes_are =
        append_assoc gap w.text bytes
        ∙ ap (λ (l : List ℕ). gap ++ (w.text ++ l)) t.bytes_are
        ∙ ap (λ (l : List ℕ). gap ++ l) (sym (append_assoc w.text (laid_out t.separators t.here) (joined cut_bytes t.others)))
        ∙ sym (append_assoc gap (w.text ++ laid_out t.separators t.here) (joined cut_bytes t.others));
  }

  -- a line of its own
  line_of : (before : List ℕ) (w : Word) (here : List Word) (separators : List (List ℕ)) → length here ≡ length separators → All (Gap glue) separators
      → LineOf glue before (record { words = w ∷ here; bytes = before ++ (w.text ++ laid_out separators here) })
  unfolding laid_out
  line_of before w here separators m e = record { separators = separators; one_less = ap suc m; each = e; laid = refl }

  tail_fresh : (w : Word) (ws : List Word) (bytes : List ℕ) → Tail glue indent ws bytes → Tail glue indent (w ∷ ws) ((line_feed ++ (indent ++ w.text)) ++ bytes)
  unfolding laid_out
  tail_fresh w ws bytes t =
      let cut : Cut = record { words = w ∷ t.here; bytes = indent ++ (w.text ++ laid_out t.separators t.here) } in
      record {
        here = [];
        separators = [];
        others = cut ∷ t.others;
        as_many = refl;
        each = tt;
        others_are = (line_of indent w t.here t.separators t.as_many t.each, t.others_are);
        words_are = ap (λ (l : List Word). w ∷ l) t.words_are ∙ sym (joined_cons cut_words cut t.others);
        bytes_are =
            ap (λ (l : List ℕ). 10 ∷ l) (
            append_assoc indent w.text bytes
            ∙ ap (λ (l : List ℕ). indent ++ (w.text ++ l)) t.bytes_are
            ∙ ap (λ (l : List ℕ). indent ++ l) (sym (append_assoc w.text (laid_out t.separators t.here) (joined cut_bytes t.others)))
            ∙ sym (append_assoc indent (w.text ++ laid_out t.separators t.here) (joined cut_bytes t.others))
            ∙ sym (joined_cons cut_bytes cut t.others)
            );
      }

  rest_tail : (ws : List Word) (bytes : List ℕ) → Rest glue indent ws bytes → Tail glue indent ws bytes
  unfolding laid_out
  rest_tail [] bytes r = record { here = []; separators = []; others = []; as_many = refl; each = tt; others_are = tt; words_are = rw joined_nil; bytes_are = r ∙ rw joined_nil }
  rest_tail (w ∷ ws) bytes r = rw r.bytes_are (go r.part r.first (rest_tail ws r.rest r.second))
    where
      go : (part : List ℕ) → Next glue indent w.text part → Tail glue indent ws r.rest → Tail glue indent (w ∷ ws) (part ++ r.rest)
      go part (inl n) t = rw (n.bytes_are, n.first, n.second) (tail_fresh w ws r.rest t)
      go part (inr n) t = rw (n.bytes_are, n.second) (tail_on w ws n.part r.rest n.first t)

  pub words_carried : (first : List ℕ) (w : Word) (ws : List Word) (bytes : List ℕ) → Then (Is (first ++ w.text)) (Rest glue indent ws) bytes → Carries glue first indent (w ∷ ws) bytes
  words_carried first w ws bytes r =
      let t = rest_tail ws r.rest r.second in
      record {
        line = record { words = w ∷ t.here; bytes = first ++ (w.text ++ laid_out t.separators t.here) };
        others = t.others;
        line_is = line_of first w t.here t.separators t.as_many t.each;
        others_are = t.others_are;
        words_are = ap (λ (l : List Word). w ∷ l) t.words_are;
        bytes_are =
            r.bytes_are
            ∙ ap₂ (λ (l m : List ℕ). l ++ m) r.first t.bytes_are
            ∙ append_assoc first w.text (laid_out t.separators t.here ++ joined cut_bytes t.others)
            ∙ ap (λ (l : List ℕ). first ++ l) (sym (append_assoc w.text (laid_out t.separators t.here) (joined cut_bytes t.others)))
            ∙ sym (append_assoc first (w.text ++ laid_out t.separators t.here) (joined cut_bytes t.others));
      }

  -- ---- so are words in order, with a gap or a line feed and the indent between two

  order_rest : (separators : List (List ℕ)) (ws : List Word) → length ws ≡ length separators → All (λ s. Gap glue s ⊎ (s ≡ 10 ∷ indent)) separators → Rest glue indent ws (laid_out separators ws)
  unfolding laid_out
  order_rest [] [] m e = refl
  order_rest (s ∷ separators) [] m e = absurd (omega arith)
  order_rest [] (w ∷ ws) m e = absurd (omega arith)
  order_rest (s ∷ separators) (w ∷ ws) m e = record {
    part = s ++ w.text;
    rest = laid_out separators ws;
    bytes_are = sym (append_assoc s w.text (laid_out separators ws));
    first = go e.0;
    second = order_rest separators ws (omega arith) e.1;
  }
    where
      go : Gap glue s ⊎ (s ≡ 10 ∷ indent) → Next glue indent w.text (s ++ w.text)
      go (inl g) = inr (record { part = s; rest = w.text; bytes_are = refl; first = g; second = refl })
      go (inr q) = inl (record { part = line_feed; rest = indent ++ w.text; bytes_are = ap (λ (l : List ℕ). l ++ w.text) q; first = refl; second = refl })

  pub order_carried : (first : List ℕ) (ws : List Word) (bytes : List ℕ) → InOrder (λ s. Gap glue s ⊎ (s ≡ 10 ∷ indent)) first ws bytes → Carries glue first indent ws bytes
  unfolding laid_out
  order_carried first [] bytes i = absurd (omega (arith, i.one_less))
  order_carried first (w ∷ ws) bytes i =
      words_carried first w ws bytes (record {
        part = first ++ w.text;
        rest = laid_out i.separators ws;
        bytes_are = i.laid ∙ sym (append_assoc first w.text (laid_out i.separators ws));
        first = refl;
        second = order_rest i.separators ws (omega (arith, i.one_less)) i.each;
      })

  -- ---- and back

  -- what is left of a line, before words that begin a line
  spread : (here : List Word) (separators : List (List ℕ)) → length here ≡ length separators → All (Gap glue) separators → (ws : List Word) (more : List ℕ) → Rest glue indent ws (line_feed ++ more)
      → Rest glue indent (here ++ ws) (laid_out separators here ++ more)
  unfolding laid_out
  spread [] [] m e ws more r = r
  spread [] (s ∷ separators) m e ws more r = absurd (omega arith)
  spread (w ∷ here) [] m e ws more r = absurd (omega arith)
  spread (w ∷ here) (s ∷ separators) m e ws more r = record {
    part = s ++ w.text;
    rest = laid_out separators here ++ more;
    bytes_are = append_assoc s (w.text ++ laid_out separators here) more ∙ ap (λ (l : List ℕ). s ++ l) (append_assoc w.text (laid_out separators here) more) ∙ sym (append_assoc s w.text (laid_out separators here ++ more));
    first = inr (record { part = s; rest = w.text; bytes_are = refl; first = e.0; second = refl });
    second = spread here separators (omega arith) e.1 ws more r;
  }

  -- a line, after what its first word is after, before words that begin a line
  line_in : (before : List ℕ) (l : Cut) → LineOf glue before l → (ws : List Word) (more : List ℕ) → Rest glue indent ws (line_feed ++ more)
      → (w : Word) × (vs : List Word) × (rest : List ℕ) × (l.words ≡ w ∷ vs) × (l.bytes ++ more ≡ (before ++ w.text) ++ rest) × Rest glue indent (vs ++ ws) rest
  unfolding laid_out
  line_in before l i ws more r = go l.words i.one_less i.laid
    where
      go : (vs : List Word) → length vs ≡ suc (length i.separators) → l.bytes ≡ laid_out (before ∷ i.separators) vs
          → (w : Word) × (us : List Word) × (rest : List ℕ) × (vs ≡ w ∷ us) × (l.bytes ++ more ≡ (before ++ w.text) ++ rest) × Rest glue indent (us ++ ws) rest
      go [] m e = absurd (omega arith)
      go (v ∷ vs) m e = (
        v,
        vs,
        laid_out i.separators vs ++ more,
        refl,
        ap (λ (b : List ℕ). b ++ more) e ∙ append_assoc before (v.text ++ laid_out i.separators vs) more ∙ ap (λ (b : List ℕ). before ++ b) (append_assoc v.text (laid_out i.separators vs) more) ∙ sym (append_assoc before v.text (laid_out i.separators vs ++ more)),
        spread vs i.separators (omega arith) i.each ws more r,
      )

  lines_in : (others : List Cut) → All (LineOf glue indent) others → Rest glue indent (joined cut_words others) (line_feed ++ joined cut_bytes others)
  lines_in [] a = rw (joined_nil cut_words, joined_nil cut_bytes) refl
  lines_in (l ∷ others) a =
      let s = line_in indent l a.0 (joined cut_words others) (joined cut_bytes others) (lines_in others a.1) in
      rw (joined_cons cut_words l others, joined_cons cut_bytes l others, s.3) (record {
        part = line_feed ++ (indent ++ s.0.text);
        rest = s.2;
        bytes_are = ap (λ (b : List ℕ). 10 ∷ b) s.4;
        first = inl (record { part = line_feed; rest = indent ++ s.0.text; bytes_are = refl; first = refl; second = refl });
        second = s.5;
      })

  pub carried_words : (first : List ℕ) (w : Word) (ws : List Word) (bytes : List ℕ) → Carries glue first indent (w ∷ ws) bytes → Then (Is (first ++ w.text)) (Rest glue indent ws) bytes
  carried_words first w ws bytes c =
      let s = line_in first c.line c.line_is (joined cut_words c.others) (joined cut_bytes c.others) (lines_in c.others c.others_are) in
      let e : w ∷ ws ≡ s.0 ∷ (s.1 ++ joined cut_words c.others) = c.words_are ∙ ap (λ (l : List Word). l ++ joined cut_words c.others) s.3 in
      let a : w ≡ s.0 = cc in
      let b : ws ≡ s.1 ++ joined cut_words c.others = cc in
      record {
        part = first ++ s.0.text;
        rest = s.2;
        bytes_are = c.bytes_are ∙ s.4;
        first = ap (λ (v : Word). first ++ v.text) (sym a);
        second = rw b s.5;
      }

pub decides_words : (glue : Bool) (first indent : List ℕ) (ws : List Word) → Feedless first → Feedless indent → All (WordFits glue) ws → 0 < length ws
    → Decides (Carries glue first indent ws) (match_words glue first indent ws)
unfolding match_words
decides_words glue first indent [] f i a h = absurd (omega arith)
decides_words glue first indent (w ∷ ws) f i a h =
    decides_same (Then (Is (first ++ w.text)) (Rest glue indent ws)) (Carries glue first indent (w ∷ ws)) _
    (λ part t. words_carried glue indent first w ws part t)
    (λ part c. carried_words glue indent first w ws part c)
    (decides_then (Is (first ++ w.text)) (Rest glue indent ws) (match_text (first ++ w.text)) (match_rest glue indent ws) (decides_text (first ++ w.text) (rw (every_append, f, a.0.feedless))) (decides_rest glue indent i ws a.1))
