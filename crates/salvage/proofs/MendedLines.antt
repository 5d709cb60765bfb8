-- The lines of a mended copy: each is the mended form of a line of the notes, and well formed.
use mathlib.Core.Path.{◌≡◌, refl, sym, ap, ◌∙◌}
use mathlib.Core.Bool.{Bool, true, false}
use mathlib.Core.List.{List, [], ◌∷◌, ◌++◌, append-nil, append_assoc}
use Prim.Native.Nat.{ℕ, zero, suc, ◌+◌, ◌/◌, ◌%◌, ◌≤◌, ◌<◌}
use native.Mathlib.Omega.{arith}
use lib.Dec.{eqb}
use lib.ListN.{length, get_or, drop, length-append, length-drop}
use lib.Seq.{drop-append_seam, drop-append-le}
use borrow.Author.Tests.{ne_eqb, eqb-true}
use Rattle.lists.specs.Runs.{while, behind, joined}
use Rattle.lists.specs.Theorems.All.{All}
use Rattle.lists.proofs.All.{all_append}
use Rattle.lists.proofs.Runs.{while_more, while_end, behind_more, behind_end}
use Rattle.lists.proofs.Parts.{joined_nil, joined_cons, joined_append, while_nil, behind_nil}
use Rattle.lists.proofs.Extents.{each_joined}
use Rattle.text.specs.Rfc3629.{Front, front, nothing, encode, decode}
use Rattle.text.proofs.Decoder.{scalar_true, sound, complete}
use Rattle.salvage.specs.Lines.{no_feed, first_whole_line, whole_lines, is_utf8}
use Rattle.salvage.specs.Mending.{mended_line, mended}
use Rattle.salvage.proofs.Lines.{no_lines, first_and_rest, first_line_is}
use Rattle.salvage.proofs.WellFormed.{formed_nil, formed_behind, ill_formed}
use Rattle.salvage.proofs.Counts.{encode_low, encode_high, low_or_high, left_as_found, changed, mended_nil, formed_or_not}

-- ---- bytes

abbrev pub Bytes : List ℕ → Type 0
Bytes xs = (i : ℕ) → get_or xs i 0 < 256

pub bytes_front : (xs ys : List ℕ) → Bytes (xs ++ ys) → Bytes xs
bytes_front [] ys b i = omega arith
bytes_front (x ∷ xs) ys b zero = b 0
bytes_front (x ∷ xs) ys b (suc i) = bytes_front xs ys (λ j. b (suc j)) i

pub bytes_back : (xs ys : List ℕ) → Bytes (xs ++ ys) → Bytes ys
bytes_back [] ys b = b
bytes_back (x ∷ xs) ys b = bytes_back xs ys (λ j. b (suc j))

-- the lines joined are the text
pub lines_joined : (xs : List ℕ) → joined (λ line. line) (whole_lines xs) ≡ xs
unfolding whole_lines
lines_joined = each_joined _ first_whole_line (λ line. line) (λ xs h. first_line_is xs)

-- ---- texts without a line feed

abbrev Feedless : List ℕ → Type 0
Feedless = All (λ b. no_feed b ≡ true)

while_all : (bs : List ℕ) → Feedless bs → (while no_feed bs ≡ bs) × (behind no_feed bs ≡ [])
while_all [] f = (while_nil no_feed, behind_nil no_feed)
while_all (b ∷ bs) f = let r = while_all bs f.1 in (while_more no_feed b bs f.0 ∙ ap (λ (l : List ℕ). b ∷ l) r.0, behind_more no_feed b bs f.0 ∙ r.1)

while_fed : (bs xs : List ℕ) → Feedless bs → (while no_feed (bs ++ 10 ∷ xs) ≡ bs) × (behind no_feed (bs ++ 10 ∷ xs) ≡ 10 ∷ xs)
while_fed [] xs f = (while_end no_feed 10 xs refl, behind_end no_feed 10 xs refl)
while_fed (b ∷ bs) xs f =
    let r = while_fed bs xs f.1 in
    (while_more no_feed b (bs ++ 10 ∷ xs) f.0 ∙ ap (λ (l : List ℕ). b ∷ l) r.0, behind_more no_feed b (bs ++ 10 ∷ xs) f.0 ∙ r.1)

drop_fed : (bs xs : List ℕ) → drop (suc (length bs)) (bs ++ 10 ∷ xs) ≡ xs
drop_fed [] xs = refl
drop_fed (b ∷ bs) xs = drop_fed bs xs

drop_all : (bs : List ℕ) → drop (suc (length bs)) bs ≡ []
drop_all [] = refl
drop_all (b ∷ bs) = drop_all bs

pub one_line : (bs : List ℕ) → 0 < length bs → Feedless bs → whole_lines bs ≡ bs ∷ []
unfolding first_whole_line
one_line bs h f = let w = while_all bs f in first_and_rest bs h ∙ rw (w.0, w.1, append-nil bs, drop_all bs, no_lines)

pub line_by_line : (bs xs : List ℕ) → Feedless bs → whole_lines (bs ++ 10 ∷ xs) ≡ (bs ++ 10 ∷ []) ∷ whole_lines xs
unfolding first_whole_line
line_by_line bs xs f =
    let w = while_fed bs xs f in
    first_and_rest (bs ++ 10 ∷ xs) (omega (arith, length-append bs (10 ∷ xs))) ∙ rw (w.0, w.1, drop_fed bs xs)

-- what holds of nothing, of a last line, and of a line and more if it holds of the rest, holds of every text
module _ (P : List ℕ → Type 0) (none : P []) (last : (bs : List ℕ) → 0 < length bs → Feedless bs → P bs) (more : (bs xs : List ℕ) → Feedless bs → P xs → P (bs ++ 10 ∷ xs)) where
  behind_run : (bs : List ℕ) → Feedless bs → (xs : List ℕ) → P (bs ++ xs)
  behind_run [] f [] = none
  behind_run (b ∷ bs) f [] = rw (append-nil (b ∷ bs)) (last (b ∷ bs) (omega arith) f)
  behind_run bs f (x ∷ xs) = pick (eqb x 10) refl (behind_run [] tt xs) (λ f'. behind_run (bs ++ x ∷ []) f' xs)
    where
      pick : (t : Bool) → eqb x 10 ≡ t → P xs → (Feedless (bs ++ x ∷ []) → P ((bs ++ x ∷ []) ++ xs)) → P (bs ++ x ∷ xs)
      pick true e p q = rw (eqb-true x 10 e) (more bs xs f p)
      pick false e p q = rw (append_assoc bs (x ∷ []) xs) at (q (all_append (λ b. no_feed b ≡ true) bs (x ∷ []) f (rw e refl, tt)))

  pub lines_induct : (xs : List ℕ) → P xs
  lines_induct xs = behind_run [] tt xs

-- ---- mended texts

pub mended_last : (bs : List ℕ) → 0 < length bs → Feedless bs → mended bs ≡ mended_line bs
unfolding mended
mended_last bs h f = rw (one_line bs h f, joined_cons, joined_nil) (append-nil (mended_line bs))

pub mended_more : (bs xs : List ℕ) → Feedless bs → mended (bs ++ 10 ∷ xs) ≡ mended_line (bs ++ 10 ∷ []) ++ mended xs
unfolding mended
mended_more bs xs f = rw (line_by_line bs xs f, joined_cons)

-- a byte's octets have no line feed that it has not, and there is at least one
encode_feedless : (b : ℕ) → b < 256 → no_feed b ≡ true → Feedless (encode b)
encode_feedless b h f =
    low_or_high b
    (λ l. rw (encode_low b l) (f, tt))
    (λ l. rw (encode_high b l h, ne_eqb _ 10 (λ (q : 0xC0 + b / 64 ≡ 10). omega arith), ne_eqb _ 10 (λ (q : 0x80 + b % 64 ≡ 10). omega arith)) (refl, (refl, tt)))

encode_some : (b : ℕ) → b < 256 → 0 < length (encode b)
encode_some b h = low_or_high b (λ l. rw (encode_low b l) (omega arith)) (λ l. rw (encode_high b l h) (omega arith))

joined_feedless : (bs : List ℕ) → Bytes bs → Feedless bs → Feedless (joined encode bs)
joined_feedless [] b f = rw joined_nil tt
joined_feedless (x ∷ bs) b f = rw joined_cons (all_append (λ y. no_feed y ≡ true) (encode x) (joined encode bs) (encode_feedless x (b 0) f.0) (joined_feedless bs (λ i. b (suc i)) f.1))

last_feedless : (bs : List ℕ) → 0 < length bs → Bytes bs → Feedless bs → (0 < length (mended_line bs)) × Feedless (mended_line bs)
last_feedless [] h b f = absurd (omega arith)
last_feedless (x ∷ bs) h b f =
    formed_or_not (x ∷ bs)
    (λ w. rw (left_as_found (x ∷ bs) w).0 (h, f))
    (λ w. rw (changed (x ∷ bs) w).0 (rw joined_cons (omega (arith, length-append (encode x) (joined encode bs), encode_some x (b 0))), joined_feedless (x ∷ bs) b f))

-- a mended line ends as the line does
pub record Fed (line : List ℕ) : Type 0 where
  pub text : List ℕ
  pub is : line ≡ text ++ 10 ∷ []
  pub feedless : Feedless text

line_fed : (bs : List ℕ) → Bytes bs → Feedless bs → Fed (mended_line (bs ++ 10 ∷ []))
line_fed bs b f =
    formed_or_not (bs ++ 10 ∷ [])
    (λ w. record { text = bs; is = (left_as_found (bs ++ 10 ∷ []) w).0; feedless = f })
    (λ w. record {
      text = joined encode bs;
      is = (changed (bs ++ 10 ∷ []) w).0 ∙ joined_append encode bs (10 ∷ []) ∙ rw (joined_cons encode 10 [], joined_nil encode, encode_low 10 (omega arith));
      feedless = joined_feedless bs b f;
    })

-- ---- well formed

-- after a byte's octets
formed_byte : (b : ℕ) (xs : List ℕ) → b < 256 → is_utf8 (encode b ++ xs) ≡ is_utf8 xs
formed_byte b xs h =
    let s = scalar_true b (record { most = omega arith; no_surrogate = λ l k. omega arith }) in
    formed_behind (encode b ++ xs) b (length (encode b)) (complete b (encode b ++ xs) xs (record { is_scalar = rw s tt; octets = refl }))
    ∙ rw (drop-append_seam (encode b) xs)

formed_joined : (bs xs : List ℕ) → Bytes bs → is_utf8 (joined encode bs ++ xs) ≡ is_utf8 xs
formed_joined [] xs b = rw joined_nil
formed_joined (x ∷ bs) xs b = rw (joined_cons, append_assoc) (formed_byte x (joined encode bs ++ xs) (b 0) ∙ formed_joined bs xs (λ i. b (suc i)))

-- after a well-formed text
formed_upto : (k : ℕ) (a b : List ℕ) → length a ≤ k → is_utf8 a ≡ true → is_utf8 (a ++ b) ≡ is_utf8 b
formed_upto zero [] b h w = refl
formed_upto zero (x ∷ a) b h w = absurd (omega arith)
formed_upto (suc k) [] b h w = refl
formed_upto (suc k) (x ∷ a) b h w = pick (decode (x ∷ a)) refl (λ n. formed_upto k (drop n (x ∷ a)) b)
  where
    pick : (f : Front) → decode (x ∷ a) ≡ f
        → ((n : ℕ) → length (drop n (x ∷ a)) ≤ k → is_utf8 (drop n (x ∷ a)) ≡ true → is_utf8 (drop n (x ∷ a) ++ b) ≡ is_utf8 b)
        → is_utf8 (x ∷ a ++ b) ≡ is_utf8 b
    pick nothing e ih = absurd (let z = sym (ill_formed (x ∷ a) (omega arith) e) ∙ w in let y : ◌≡◌ {A = ℕ} 0 1 = cc in omega arith)
    pick (front c n) e ih =
        let d = sound (x ∷ a) c n e in
        let s = d.stands in
        let o : (x ∷ a) ++ b ≡ encode c ++ (drop n (x ∷ a) ++ b) = ap (λ (l : List ℕ). l ++ b) s.octets ∙ append_assoc (encode c) (drop n (x ∷ a)) b in
        let q = complete c ((x ∷ a) ++ b) (drop n (x ∷ a) ++ b) (record { is_scalar = s.is_scalar; octets = o }) in
        formed_behind ((x ∷ a) ++ b) c (length (encode c)) q
        ∙ rw (← d.count, drop-append-le n (x ∷ a) b d.within)
        (ih n (omega (arith, d.some, length-drop n (x ∷ a))) (sym (formed_behind (x ∷ a) c n e) ∙ w))

formed_append : (a b : List ℕ) → is_utf8 a ≡ true → is_utf8 (a ++ b) ≡ is_utf8 b
formed_append a b w = formed_upto (length a) a b (omega arith) w

pub formed_line : (line xs : List ℕ) → Bytes line → is_utf8 (mended_line line ++ xs) ≡ is_utf8 xs
formed_line line xs b =
    formed_or_not line
    (λ w. rw (left_as_found line w).0 (formed_append line xs w))
    (λ w. rw (changed line w).0 (formed_joined line xs b))

line_formed : (line : List ℕ) → Bytes line → is_utf8 (mended_line line) ≡ true
line_formed line b = ap is_utf8 (sym (append-nil (mended_line line))) ∙ formed_line line [] b ∙ formed_nil

-- every line of a mended copy, and the copy read from its front
pub lines_formed : (notes : List ℕ) → Bytes notes → All (λ line. is_utf8 line ≡ true) (whole_lines (mended notes))
lines_formed =
    lines_induct (λ xs. Bytes xs → All (λ line. is_utf8 line ≡ true) (whole_lines (mended xs)))
    (λ b. rw (mended_nil, no_lines) tt)
    (λ bs h f b. let m = last_feedless bs h b f in rw (mended_last bs h f, one_line (mended_line bs) m.0 m.1) (line_formed bs b, tt))
    step
  where
    step : (bs xs : List ℕ) → Feedless bs → (Bytes xs → All (λ line. is_utf8 line ≡ true) (whole_lines (mended xs)))
        → Bytes (bs ++ 10 ∷ xs) → All (λ line. is_utf8 line ≡ true) (whole_lines (mended (bs ++ 10 ∷ xs)))
    step bs xs f ih b =
        let l = line_fed bs (bytes_front bs (10 ∷ xs) b) f in
        let c : Bytes (bs ++ 10 ∷ []) = bytes_front (bs ++ 10 ∷ []) xs (rw (append_assoc bs (10 ∷ []) xs) b) in
        let w : is_utf8 (l.text ++ 10 ∷ []) ≡ true = rw (← l.is) (line_formed (bs ++ 10 ∷ []) c) in
        rw (mended_more bs xs f, l.is, append_assoc l.text (10 ∷ []) (mended xs), line_by_line l.text (mended xs) l.feedless)
        (w, ih (λ i. bytes_back bs (10 ∷ xs) b (suc i)))

pub text_formed : (notes : List ℕ) → Bytes notes → is_utf8 (mended notes) ≡ true
text_formed =
    lines_induct (λ xs. Bytes xs → is_utf8 (mended xs) ≡ true)
    (λ b. rw mended_nil formed_nil)
    (λ bs h f b. rw (mended_last bs h f) (line_formed bs b))
    (λ bs xs f ih b.
    let c : Bytes (bs ++ 10 ∷ []) = bytes_front (bs ++ 10 ∷ []) xs (rw (append_assoc bs (10 ∷ []) xs) b) in
    rw (mended_more bs xs f) (formed_line (bs ++ 10 ∷ []) (mended xs) c ∙ ih (λ i. bytes_back bs (10 ∷ xs) b (suc i))))
