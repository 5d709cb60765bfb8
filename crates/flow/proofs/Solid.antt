-- No word has a line feed, and none ends in a space: by the glyphs of which it is made.
use mathlib.Core.Path.{◌≡◌, refl, sym, ap, ◌∙◌}
use mathlib.Core.Bool.{Bool, true, false, cond, not, ◌&&◌, ◌||◌, and-eq-true_iff, false≢true, true≢false}
use mathlib.Core.List.{List, [], ◌∷◌, ◌++◌, append-nil, map}
use Prim.Native.Nat.{ℕ, ◌+◌, ◌-◌, ◌/◌, ◌%◌, ◌<◌}
use native.Mathlib.Omega.{arith}
use lib.Dec.{eqb, ltb}
use lib.ListN.{length, take, drop, length-append}
use lib.Seq.{take-append_seam}
use borrow.Author.Tests.{eqb-true, eq-eqb, ne_eqb, not-true}
use Rattle.lists.specs.Runs.{every}
use Rattle.lists.specs.Theorems.All.{All}
use Rattle.lists.proofs.Parts.{every_nil, every_cons, every_append, joined_nil, joined_cons, joined_append}
use Rattle.lists.proofs.All.{all_front, all_back, all_map, all_weaken, all_joined}
use Rattle.lists.proofs.Extents.{each_all}
use Rattle.text.specs.Rfc3629.{Front, front, nothing, encode, decode}
use Rattle.widths.specs.WhiteSpace.{white_space}
use Rattle.text.specs.Characters.{Glyph, glyph_as, glyph, characters, no_break, ordinary, ink_ahead, glued, glyphs}
use Rattle.text.specs.Cited.Places.{settle}
use Rattle.text.proofs.Decoder.{sound}
use Rattle.text.proofs.Forms.{ascii}
use Rattle.text.proofs.Extents.{glyph_read}
use Rattle.text.proofs.Glue.{glyphs_settle, settle_none, glued_run, glued_other}
use Rattle.text.proofs.Edges.{glyphs_joined}
use Rattle.options.specs.Opts.{Opts}
use Rattle.lines.specs.Lines.{Line, no_feed}
use Rattle.lines.specs.Classes.{glyphs_before, glyphs_from}
use Rattle.lines.proofs.Ink.{up_to_from}
use Rattle.pieces.specs.Pieces.{Row, Paragraph, row_of}
use Rattle.pieces.proofs.Extents.{Feedless, Rows}
use Rattle.records.specs.Word.{Word}
use Rattle.words.specs.Words.{is_ink, glyph_bytes, bytes_of, row_words, words_of}
use Rattle.words.proofs.Spelled.{Begins, Spelled, row_spelled}
use Rattle.unflow.specs.Flowed.{ends_in_space}
use Rattle.unflow.proofs.Lines.{ends_append}

-- ---- a glyph that is no space does not end in one

-- the last octet of a character
octets_end : (c : ℕ) → (c ≡ 32 → ⊥) → ends_in_space (encode c) ≡ false
unfolding encode ends_in_space
octets_end c n = go (ltb c 0x80) (ltb c 0x800) (ltb c 0x10000)
  where
    high : (m : ℕ) → eqb (0x80 + m) 32 ≡ false
    high m = ne_eqb (0x80 + m) 32 (λ e. omega arith)

    go : (p q r : Bool)
        → ends_in_space (cond p (c ∷ [])
        (cond q ((0xC0 + c / 64) ∷ (0x80 + c % 64) ∷ [])
        (cond r ((0xE0 + c / 4096) ∷ (0x80 + c / 64 % 64) ∷ (0x80 + c % 64) ∷ [])
        ((0xF0 + c / 262144) ∷ (0x80 + c / 4096 % 64) ∷ (0x80 + c / 64 % 64) ∷ (0x80 + c % 64) ∷ [])))) ≡ false
    go true q r = ne_eqb c 32 n
    go false true r = high (c % 64)
    go false false true = high (c % 64)
    go false false false = high (c % 64)

-- the bytes of a character other than U+0020, or of a damaged place
glyph_ends : (xs : List ℕ) → 0 < length xs → eqb (glyph xs).code 32 ≡ false → ends_in_space (glyph xs).bytes ≡ false
unfolding glyph ends_in_space
glyph_ends [] h = absurd (omega arith)
glyph_ends (x ∷ xs) h = read (decode (x ∷ xs)) refl
  where
    read : (f : Front) → decode (x ∷ xs) ≡ f → eqb (glyph_as (x ∷ xs) f).code 32 ≡ false → ends_in_space (glyph_as (x ∷ xs) f).bytes ≡ false
    read (front c n) d e =
        let s = sound (x ∷ xs) c n d in
        let t : take n (x ∷ xs) ≡ encode c = ap (λ (m : ℕ). take m (x ∷ xs)) s.count ∙ ap (take (length (encode c))) s.stands.octets ∙ take-append_seam (encode c) (drop n (x ∷ xs)) in
        ap ends_in_space t ∙ octets_end c (λ k. false≢true (sym e ∙ eq-eqb c 32 k))
    read nothing d e = ne_eqb x 32 (λ k. other (sym (ap (λ (y : ℕ). decode (y ∷ xs)) k ∙ ascii 32 xs (omega arith)) ∙ d))
      where
        other : front 32 1 ≡ nothing → ⊥
        other k = let z : ◌≡◌ {A = ℕ} 0 1 = cc in omega arith

-- ---- glyphs as they are read from a text without a line feed

record Inked (g : Glyph) : Type 0 where
  some : 0 < length g.bytes
  ends : eqb g.code 32 ≡ false → ends_in_space g.bytes ≡ false
  other : g.blank ≡ false → eqb g.code 32 ≡ false

glyph_inked : (xs : List ℕ) → 0 < length xs → Inked (glyph xs)
unfolding white_space
glyph_inked xs h = let r = glyph_read xs h in record { some = r.is_sound.some; ends = glyph_ends xs h; other = λ b. other (eqb (glyph xs).code 32) refl (r.is_blank ∙ b) }
  where
    other : (t : Bool) → eqb (glyph xs).code 32 ≡ t → white_space (glyph xs).code ≡ false → t ≡ false
    other true k b = absurd (true≢false (sym (ap white_space (eqb-true (glyph xs).code 32 k)) ∙ b))
    other false k b = refl

-- RULES 4.4: U+00A0 that is made ordinary is another character than U+0020
ordinary_inked : (g : Glyph) → no_break g ≡ true → Inked g → Inked (ordinary g)
ordinary_inked g n i = record { some = i.some; ends = i.ends; other = λ b. ap (λ (c : ℕ). eqb c 32) (eqb-true g.code 0xA0 n) }

settle_inked : (glue ink : Bool) (gs : List Glyph) → All Inked gs → All Inked (settle glue ink gs)
unfolding settle
settle_inked false ink gs a = a
settle_inked true ink [] a = rw (settle_none true ink) tt
settle_inked true ink (g ∷ gs) a = pick (no_break g) refl (λ i. settle_inked true i gs a.1)
  where
    made : (t : Bool) → no_break g ≡ true → Inked (cond t (ordinary g) g)
    made true n = ordinary_inked g n a.0
    made false n = a.0

    pick : (n : Bool) → no_break g ≡ n → ((i : Bool) → All Inked (glued i gs)) → All Inked (glued ink (g ∷ gs))
    pick true n rest = rw (glued_run g gs ink n) (made (ink && ink_ahead gs) n, rest ink)
    pick false n rest = rw (glued_other g gs ink n) (a.0, rest (not g.blank))

record Kept (gs : List Glyph) : Type 0 where
  inked : All Inked gs
  feedless : every no_feed (bytes_of gs) ≡ true

glyphs_kept : (glue : Bool) (xs : List ℕ) → every no_feed xs ≡ true → Kept (glyphs glue xs)
unfolding bytes_of characters
glyphs_kept glue xs e = record {
  inked = rw (glyphs_settle glue xs) (settle_inked glue false (characters xs) (each_all (λ ys. length (glyph ys).bytes - 1) glyph Inked (λ ys h. glyph_inked ys h) xs));
  feedless = ap (every no_feed) (glyphs_joined glue xs) ∙ e;
}

kept_parts : (xs ys : List Glyph) → Kept (xs ++ ys) → Kept xs × Kept ys
unfolding bytes_of
kept_parts xs ys c =
    let f = (and-eq-true_iff _ _).0 (rw (joined_append, every_append) at c.feedless) in
    (record { inked = all_front _ xs ys c.inked; feedless = f.0 }, record { inked = all_back _ xs ys c.inked; feedless = f.1 })

bytes_some : (gs : List Glyph) → All Inked gs → 0 < length gs → 0 < length (bytes_of gs)
unfolding bytes_of
bytes_some [] a h = absurd (omega arith)
bytes_some (g ∷ gs) a h = let k = a.0.some in rw (joined_cons, length-append) (omega arith)

bytes_bare : (gs : List Glyph) → All Inked gs → every is_ink gs ≡ true → 0 < length gs → ends_in_space (bytes_of gs) ≡ false
unfolding bytes_of
bytes_bare [] a e h = absurd (omega arith)
bytes_bare (g ∷ []) a e h =
    let k = ((and-eq-true_iff (not g.blank) (every is_ink [])).0 (rw (every_cons is_ink g []) at e)).0 in
    rw (joined_cons glyph_bytes g [], joined_nil glyph_bytes, append-nil g.bytes) (a.0.ends (a.0.other (not-true g.blank k)))
bytes_bare (g ∷ i ∷ gs) a e h =
    let k = ((and-eq-true_iff (not g.blank) (every is_ink (i ∷ gs))).0 (rw (every_cons is_ink g (i ∷ gs)) at e)).1 in
    rw (joined_cons glyph_bytes g (i ∷ gs)) (ends_append g.bytes (bytes_of (i ∷ gs)) (bytes_some (i ∷ gs) a.1 (omega arith)) ∙ bytes_bare (i ∷ gs) a.1 k (omega arith))

-- ---- words

pub record Solid (w : Word) : Type 0 where
  pub some : 0 < length w.text
  pub feedless : every no_feed w.text ≡ true
  pub before : every no_feed w.blanks ≡ true
  pub bare : ends_in_space w.text ≡ false

word_solid : (glue uniform : Bool) (w : Word) (gs rest : List Glyph) (b : Begins glue uniform w gs rest) → Kept b.blanks → Kept b.ink → Solid w
word_solid glue uniform w gs rest b c d = record {
  some = rw b.text (bytes_some b.ink d.inked b.some);
  feedless = rw b.text d.feedless;
  before = rw b.before (held uniform);
  bare = rw b.text (bytes_bare b.ink d.inked b.inked b.some);
}
  where
    held : (u : Bool) → every no_feed (cond u [] (bytes_of b.blanks)) ≡ true
    held true = every_nil no_feed
    held false = c.feedless

spelled_solid : (glue uniform : Bool) (ws : List Word) (gs : List Glyph) → Kept gs → Spelled glue uniform ws gs → All Solid ws
spelled_solid glue uniform [] gs c s = tt
spelled_solid glue uniform (w ∷ ws) gs c s =
    let b = s.1 in
    let p = kept_parts b.blanks (b.ink ++ s.0) (rw b.parts at c) in
    let q = kept_parts b.ink s.0 p.1 in
    (word_solid glue uniform w gs s.0 b p.0 q.0, spelled_solid glue uniform ws s.0 q.1 s.2)

row_solid : (o : Opts) (mail : Bool) (row : Row) → every no_feed row.text ≡ true → All Solid (row_words o mail row)
row_solid o mail row e = spelled_solid o.glue (o.uniform || mail) (row_words o mail row) _ (go mail) (row_spelled o mail row)
  where
    gs : List Glyph
    gs = glyphs o.glue row.text

    go : (m : Bool) → Kept (cond m gs (glyphs_from row.start gs))
    go true = glyphs_kept o.glue row.text e
    go false = (kept_parts (glyphs_before row.start gs) (glyphs_from row.start gs) (rw up_to_from (glyphs_kept o.glue row.text e))).1

pub paragraph_solid : (o : Opts) (lines : List Line) (p : Paragraph) → Rows o lines p → All Solid (words_of o p)
unfolding words_of row_of
paragraph_solid o lines p r =
    rw r.rows
    (all_joined _ _ (map (row_of o) lines) (all_map _ (row_of o) lines (all_weaken Feedless _ (λ l e. row_solid o p.mail (row_of o l) e) lines r.feedless)))
