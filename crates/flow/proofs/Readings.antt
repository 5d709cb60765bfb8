-- What is sent is read: the lines of a text that was sent, and what the reader makes of each.
use mathlib.Core.Path.{◌≡◌, refl, sym, ap, ◌∙◌}
use mathlib.Core.Bool.{Bool, true, false, cond, not, ◌&&◌, ◌||◌, false≢true, true≢false}
use mathlib.Core.List.{List, [], ◌∷◌, ◌++◌, append_assoc, map}
use Prim.Native.Nat.{ℕ, suc}
use native.Mathlib.Omega.{arith}
use lib.Dec.{eqb}
use lib.ListN.{length, drop, length-append}
use borrow.Author.Tests.{eqb-true, lt-ltb}
use Rattle.lists.specs.Runs.{every, begins, joined}
use Rattle.lists.specs.Theorems.All.{All}
use Rattle.lists.proofs.Runs.{while_end, behind_end}
use Rattle.lists.proofs.Parts.{every_nil, every_cons, every_append, joined_nil, joined_cons, while_nil, behind_nil}
use Rattle.lists.proofs.Walk.{each_nil, each_step}
use Rattle.lines.specs.Lines.{Line, no_feed, body, first_line, lines_of}
use Rattle.lines.proofs.Lines.{feedless_body, return_behind}
use Rattle.pieces.specs.Pieces.{from_word}
use Rattle.unflow.specs.Flowed.{space, quote_mark, cr_lf, is_mark, quote_depth, needs_space, stuffing, unstuffed, content_of, is_dashes, is_separator, ends_in_space, is_soft}
use Rattle.unflow.specs.Unflow.{goes_on_in, FlowedParagraph, paragraphs_from, paragraphs, mail_lines}
use Rattle.flow.specs.Flow.{sent}
use Rattle.flow.specs.Theorems.ReadBack.{flows, read_from, read, unquoted}

-- a line as it is in the mail, without its line end
abbrev pub as_sent : List ℕ → List ℕ
as_sent t = stuffing t ++ t

-- ---- the lines of what was sent

drop_behind : (a : List ℕ) (x : ℕ) (rest : List ℕ) → drop (suc (length a)) (a ++ x ∷ rest) ≡ rest
drop_behind [] x rest = refl
drop_behind (y ∷ a) x rest = drop_behind a x rest

-- a line without a line feed, after which CR LF stands
mail_line : (t rest : List ℕ) → every no_feed t ≡ true → mail_lines ((t ++ 13 ∷ []) ++ 10 ∷ rest) ≡ t ∷ mail_lines rest
unfolding mail_lines lines_of first_line
mail_line t rest f =
    let c : every no_feed (t ++ 13 ∷ []) ≡ true = rw (every_append no_feed t (13 ∷ []), f, every_cons no_feed 13 [], every_nil no_feed) in
    let b = feedless_body (t ++ 13 ∷ []) rest c in
    let l = length-append (t ++ 13 ∷ []) (10 ∷ rest) in
    ap (map (λ (l : Line). l.text)) (each_step (λ xs. length (body xs)) first_line ((t ++ 13 ∷ []) ++ 10 ∷ rest) (omega arith))
    ∙ rw (b, lt-ltb (length (t ++ 13 ∷ [])) (length ((t ++ 13 ∷ []) ++ 10 ∷ rest)) (omega arith), return_behind t, drop_behind (t ++ 13 ∷ []) 10 rest)

mail_none : mail_lines [] ≡ []
unfolding mail_lines lines_of
mail_none = rw (each_nil (λ xs. length (body xs)) first_line)

stuffing_feedless : (t : List ℕ) → every no_feed (stuffing t) ≡ true
unfolding stuffing
stuffing_feedless t = go (needs_space t)
  where
    go : (b : Bool) → every no_feed (cond b (space ∷ []) []) ≡ true
    go true = rw (every_cons no_feed space [], every_nil no_feed)
    go false = every_nil no_feed

sent_joined : (s t rest : List ℕ) → (s ++ (t ++ cr_lf)) ++ rest ≡ ((s ++ t) ++ 13 ∷ []) ++ 10 ∷ rest
sent_joined s t rest = simp append_assoc

pub mail_sent : (ts : List (List ℕ)) → All (λ t. every no_feed t ≡ true) ts → mail_lines (joined sent ts) ≡ map as_sent ts
unfolding sent
mail_sent [] a = rw (joined_nil sent) mail_none
mail_sent (t ∷ ts) a =
    let f : every no_feed (as_sent t) ≡ true = rw (every_append no_feed (stuffing t) t, stuffing_feedless t, a.0) in
    rw (joined_cons sent t ts, sent_joined (stuffing t) t (joined sent ts), mail_line (as_sent t) (joined sent ts) f, mail_sent ts a.1)

-- ---- each of them as the reader sees it: no quote marks, the line itself, and a separator if it is `-- `

record Seen (t : List ℕ) : Type 0 where
  depth : quote_depth (as_sent t) ≡ 0
  content : content_of (as_sent t) ≡ t
  separator : is_separator (as_sent t) ≡ is_dashes t

depth_bare : (x : ℕ) (xs : List ℕ) → eqb x quote_mark ≡ false → quote_depth (x ∷ xs) ≡ 0
unfolding quote_depth
depth_bare x xs h = rw (while_end is_mark x xs h)

content_first : (x : ℕ) (xs : List ℕ) → eqb x quote_mark ≡ false → content_of (x ∷ xs) ≡ cond (eqb x space) xs (x ∷ xs)
unfolding content_of unstuffed
content_first x xs h = rw (behind_end is_mark x xs h)

separator_unquoted : (line : List ℕ) → quote_depth line ≡ 0 → is_separator line ≡ is_dashes line
unfolding is_separator
separator_unquoted line h = rw h

dashes_first : (x : ℕ) (xs : List ℕ) → eqb 0x2D x ≡ false → is_dashes (x ∷ xs) ≡ false
unfolding is_dashes begins
dashes_first x xs h = rw (h, begins)

-- which byte a line that is stuffed, or not, starts with
stuffed_first : (x : ℕ) (xs : List ℕ) → needs_space (x ∷ xs) ≡ true → eqb 0x2D x ≡ false
unfolding needs_space begins from_word
stuffed_first x xs h = go (eqb x space) (eqb x quote_mark) (eqb 70 x) refl refl refl h
  where
    go : (a b c : Bool) → eqb x space ≡ a → eqb x quote_mark ≡ b → eqb 70 x ≡ c
        → (a || b || elim c as (λ z. Bool) [ true ↦ begins (114 ∷ 111 ∷ 109 ∷ 32 ∷ []) xs | false ↦ false ]) ≡ true → eqb 0x2D x ≡ false
    go true b c e f g k = rw (eqb-true x space e)
    go false true c e f g k = rw (eqb-true x quote_mark f)
    go false false true e f g k = rw (← eqb-true 70 x g)
    go false false false e f g k = absurd (false≢true k)

bare_first : (x : ℕ) (xs : List ℕ) → needs_space (x ∷ xs) ≡ false → (eqb x space ≡ false) × (eqb x quote_mark ≡ false)
unfolding needs_space
bare_first x xs h = go (eqb x space) (eqb x quote_mark) (begins from_word (x ∷ xs)) h
  where
    go : (a b c : Bool) → (a || b || c) ≡ false → (a ≡ false) × (b ≡ false)
    go true b c k = absurd (true≢false k)
    go false true c k = absurd (true≢false k)
    go false false c k = (refl, refl)

stuffed_by : (t : List ℕ) (b : Bool) → needs_space t ≡ b → as_sent t ≡ cond b (space ∷ []) [] ++ t
unfolding stuffing
stuffed_by t b h = ap (λ (c : Bool). cond c (space ∷ []) [] ++ t) h

seen_stuffed : (x : ℕ) (xs : List ℕ) → needs_space (x ∷ xs) ≡ true → Seen (x ∷ xs)
seen_stuffed x xs h =
    let e : as_sent (x ∷ xs) ≡ space ∷ x ∷ xs = stuffed_by (x ∷ xs) true h in
    record {
      depth = ap quote_depth e ∙ depth_bare space (x ∷ xs) refl;
      content = ap content_of e ∙ content_first space (x ∷ xs) refl;
      separator = ap is_separator e ∙ separator_unquoted (space ∷ x ∷ xs) (depth_bare space (x ∷ xs) refl) ∙ dashes_first space (x ∷ xs) refl ∙ sym (dashes_first x xs (stuffed_first x xs h));
    }

seen_bare : (x : ℕ) (xs : List ℕ) → needs_space (x ∷ xs) ≡ false → Seen (x ∷ xs)
seen_bare x xs h =
    let b = bare_first x xs h in
    let e : as_sent (x ∷ xs) ≡ x ∷ xs = stuffed_by (x ∷ xs) false h in
    record {
      depth = ap quote_depth e ∙ depth_bare x xs b.1;
      content = ap content_of e ∙ content_first x xs b.1 ∙ ap (λ (c : Bool). cond c xs (x ∷ xs)) b.0;
      separator = ap is_separator e ∙ separator_unquoted (x ∷ xs) (depth_bare x xs b.1);
    }

seen_none : Seen []
unfolding stuffing needs_space quote_depth content_of unstuffed
seen_none = record { depth = rw (while_nil is_mark); content = rw (behind_nil is_mark); separator = separator_unquoted [] (rw (while_nil is_mark)) }

seen : (t : List ℕ) → Seen t
seen [] = seen_none
seen (x ∷ xs) = go (needs_space (x ∷ xs)) refl
  where
    go : (b : Bool) → needs_space (x ∷ xs) ≡ b → Seen (x ∷ xs)
    go true h = seen_stuffed x xs h
    go false h = seen_bare x xs h

-- ---- so a line goes on in the next by what it says alone

goes_sent : (t u : List ℕ) → goes_on_in (as_sent t) (as_sent u) ≡ (flows t && not (is_dashes u))
unfolding goes_on_in is_soft flows
goes_sent t u =
    let a = seen t in
    let b = seen u in
    rw (a.depth, a.content, a.separator, b.depth, b.separator) (go (ends_in_space t && not (is_dashes t)) (not (is_dashes u)))
  where
    go : (p q : Bool) → (p && true && q) ≡ (p && q)
    go true q = refl
    go false q = refl

sent_from : (c t : List ℕ) (ts : List (List ℕ)) → paragraphs_from (unquoted c) (as_sent t) (map as_sent ts) ≡ map unquoted (read_from c t ts)
unfolding paragraphs_from read_from
sent_from c t [] = refl
sent_from c t (u ∷ us) =
    ap (λ (b : Bool). step b (content_of (as_sent u)) (quote_depth (as_sent u))) (goes_sent t u)
    ∙ ap (λ (x : List ℕ). step (flows t && not (is_dashes u)) x (quote_depth (as_sent u))) (seen u).content
    ∙ ap (step (flows t && not (is_dashes u)) u) (seen u).depth
    ∙ go (flows t && not (is_dashes u)) (sent_from (c ++ u) u us) (sent_from u u us)
  where
    step : Bool → List ℕ → ℕ → List FlowedParagraph
    step b x d = elim b as (λ z. List FlowedParagraph) [
      | true ↦ paragraphs_from (unquoted (c ++ x)) (as_sent u) (map as_sent us)
      | false ↦ unquoted c ∷ paragraphs_from (record { depth = d; content = x }) (as_sent u) (map as_sent us)
    ]

    go : (b : Bool) → paragraphs_from (unquoted (c ++ u)) (as_sent u) (map as_sent us) ≡ map unquoted (read_from (c ++ u) u us)
        → paragraphs_from (unquoted u) (as_sent u) (map as_sent us) ≡ map unquoted (read_from u u us)
        → elim b as (λ z. List FlowedParagraph) [ true ↦ paragraphs_from (unquoted (c ++ u)) (as_sent u) (map as_sent us) | false ↦ unquoted c ∷ paragraphs_from (unquoted u) (as_sent u) (map as_sent us) ]
        ≡ map unquoted (elim b as (λ z. List (List ℕ)) [ true ↦ read_from (c ++ u) u us | false ↦ c ∷ read_from u u us ])
    go true on off = on
    go false on off = ap (λ (l : List FlowedParagraph). unquoted c ∷ l) off

pub sent_read : (ts : List (List ℕ)) → paragraphs (map as_sent ts) ≡ map unquoted (read ts)
unfolding paragraphs read
sent_read [] = refl
sent_read (t ∷ ts) = rw ((seen t).content, (seen t).depth) (sent_from t t ts)

-- ---- lines whose last does not flow are read by themselves

abbrev pub LastFixed : List ℕ → List (List ℕ) → Type 0
LastFixed t [] = flows t ≡ false
LastFixed t (u ∷ us) = LastFixed u us

read_from_append : (c t : List ℕ) (ts us : List (List ℕ)) → LastFixed t ts → read_from c t (ts ++ us) ≡ read_from c t ts ++ read us
unfolding read_from read
read_from_append c t [] [] h = refl
read_from_append c t [] (v ∷ vs) h = ap (λ (b : Bool). elim (b && not (is_dashes v)) as (λ z. List (List ℕ)) [ true ↦ read_from (c ++ v) v vs | false ↦ c ∷ read_from v v vs ]) h
read_from_append c t (u ∷ us) vs h = go (flows t && not (is_dashes u)) (read_from_append (c ++ u) u us vs h) (read_from_append u u us vs h)
  where
    go : (b : Bool) → read_from (c ++ u) u (us ++ vs) ≡ read_from (c ++ u) u us ++ read vs → read_from u u (us ++ vs) ≡ read_from u u us ++ read vs
        → elim b as (λ z. List (List ℕ)) [ true ↦ read_from (c ++ u) u (us ++ vs) | false ↦ c ∷ read_from u u (us ++ vs) ]
        ≡ elim b as (λ z. List (List ℕ)) [ true ↦ read_from (c ++ u) u us | false ↦ c ∷ read_from u u us ] ++ read vs
    go true on off = on
    go false on off = ap (λ (l : List (List ℕ)). c ∷ l) off

-- the lines of a piece
abbrev pub Ended : List (List ℕ) → Type 0
Ended [] = ⊥
Ended (t ∷ ts) = LastFixed t ts

read_append : (ts us : List (List ℕ)) → Ended ts → read (ts ++ us) ≡ read ts ++ read us
unfolding read
read_append [] us h = absurd h
read_append (t ∷ ts) us h = read_from_append t t ts us h

pub read_pieces : {A : Type 0} (f : A → List (List ℕ)) (xs : List A) → All (λ x. Ended (f x)) xs → read (joined f xs) ≡ joined (λ x. read (f x)) xs
unfolding read
read_pieces f [] a = rw (joined_nil f, joined_nil (λ x. read (f x)))
read_pieces f (x ∷ xs) a = rw (joined_cons f x xs, joined_cons (λ y. read (f y)) x xs, ← read_pieces f xs a.1) (read_append (f x) (joined f xs) a.0)
