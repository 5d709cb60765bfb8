-- A text that begins with characters of a kind, as their numbers and what is after them: by their octets, by the text's glyphs, and before
-- a line feed, after which nothing matters.
use mathlib.Core.Path.{◌≡◌, refl, sym, ap, ◌∙◌}
use mathlib.Core.Bool.{Bool, true, false, cond, not, false≢true, true≢false, and-eq-true_iff}
use mathlib.Core.List.{List, [], ◌∷◌, ◌++◌, append_assoc, map}
use Prim.Native.Nat.{ℕ, ◌+◌, ◌/◌, ◌%◌, ◌<◌}
use native.Mathlib.Omega.{arith}
use lib.Dec.{T, eqb, ltb}
use lib.ListN.{length, take, drop, length-append}
use lib.Seq.{take-append_seam, drop-append_seam}
use borrow.Author.Tests.{eqb-true, ne_eqb}
use Rattle.lists.specs.Runs.{while, every, joined}
use Rattle.lists.specs.Theorems.All.{All}
use Rattle.lists.proofs.Runs.{while_more, while_end}
use Rattle.lists.proofs.Parts.{every_nil, every_cons, every_append, joined_nil, joined_cons, while_nil}
use Rattle.lines.specs.Lines.{no_feed}
use Rattle.widths.specs.Widths.{width_of}
use Rattle.widths.specs.WhiteSpace.{white_space}
use Rattle.widths.proofs.Inks.{blank_most}
use Rattle.text.specs.Rfc3629.{Front, front, nothing, scalar, encode, decode}
use Rattle.text.specs.Characters.{Glyph, glyph_as, glyph, characters, extent}
use Rattle.text.specs.Theorems.Blanks.{space_code}
use Rattle.text.proofs.Decoder.{scalar_true, some_octets, sound, complete}
use Rattle.text.proofs.Glyphs.{Bytes, characters_first, characters_induct}
use Rattle.output.proofs.Indents.{Feedless}
use Rattle.checker.proofs.Feeds.{feedless_inside}

-- a number that is a character's
pub record Character (c : ℕ) : Type 0 where
  pub is_scalar : T (scalar c)

-- its glyph
abbrev pub glyph_of : ℕ → Glyph
glyph_of c = record { bytes = encode c; code = c; damaged = false; blank = white_space c; width = width_of c }

module _ (c : ℕ) (h : Character c) (rest : List ℕ) where
  character_here : decode (encode c ++ rest) ≡ front c (length (encode c))
  character_here = complete c (encode c ++ rest) rest (record { is_scalar = h.is_scalar; octets = refl })

  pub glyph_here : glyph (encode c ++ rest) ≡ glyph_of c
  unfolding glyph
  glyph_here = rw (character_here, take-append_seam (encode c) rest)

  pub encode_some : 0 < length (encode c)
  encode_some = let b = (some_octets c).0 in omega arith

  pub glyphs_here : characters (encode c ++ rest) ≡ glyph_of c ∷ characters rest
  glyphs_here =
      let l = length-append (encode c) rest in
      let s = encode_some in
      let z : 0 + length (encode c) ≡ length (encode c) = omega arith in
      characters_first (encode c ++ rest) 0 (omega arith) ∙ rw (glyph_here, z, drop-append_seam (encode c) rest)

-- the character that a good glyph is read from
pub record Read (xs : List ℕ) (g : Glyph) : Type 0 where
  pub code : ℕ
  pub is : Character code
  pub glyph_is : g ≡ glyph_of code
  pub rest : List ℕ
  pub octets : xs ≡ encode code ++ rest

pub good_read : (xs : List ℕ) → (glyph xs).damaged ≡ false → Read xs (glyph xs)
unfolding glyph
good_read xs h = go (decode xs) refl h
  where
    go : (f : Front) → decode xs ≡ f → (glyph_as xs f).damaged ≡ false → Read xs (glyph_as xs f)
    go (front c n) e k =
        let a = sound xs c n e in
        let o = a.stands.octets in
        let t : take n xs ≡ encode c = rw a.count (ap (take (length (encode c))) (rw a.count at o) ∙ take-append_seam (encode c) (drop (length (encode c)) xs)) in
        record {
          code = c;
          is = record { is_scalar = a.stands.is_scalar };
          glyph_is = rw t;
          rest = drop n xs;
          octets = o;
        }
    go nothing e k = absurd (true≢false k)

-- a damaged glyph has a number of its own
pub damaged_code : (xs : List ℕ) → (glyph xs).damaged ≡ true → (glyph xs).code ≡ 0xFFFD
unfolding glyph
damaged_code xs h = go (decode xs) h
  where
    go : (f : Front) → (glyph_as xs f).damaged ≡ true → (glyph_as xs f).code ≡ 0xFFFD
    go (front c n) k = absurd (false≢true k)
    go nothing k = refl

-- ---- characters in a row

-- no octet of a character is a line feed's but its own
pub encode_feedless : (c : ℕ) → eqb c 10 ≡ false → Feedless (encode c)
unfolding encode
encode_feedless c h = go (ltb c 0x80) (ltb c 0x800) (ltb c 0x10000)
  where
    high : (n : ℕ) (xs : List ℕ) → 10 < n → Feedless xs → Feedless (n ∷ xs)
    high n xs k f = rw (every_cons, ne_eqb n 10 (λ e. omega arith), f)

    go : (t u v : Bool) → Feedless (cond t (c ∷ []) (cond u ((0xC0 + c / 64) ∷ (0x80 + c % 64) ∷ []) (cond v ((0xE0 + c / 4096) ∷ (0x80 + c / 64 % 64) ∷ (0x80 + c % 64) ∷ []) ((0xF0 + c / 262144) ∷ (0x80 + c / 4096 % 64) ∷ (0x80 + c / 64 % 64) ∷ (0x80 + c % 64) ∷ []))))
    go true u v = rw (every_cons, h, every_nil)
    go false true v = high _ _ (omega arith) (high _ _ (omega arith) (every_nil no_feed))
    go false false true = high _ _ (omega arith) (high _ _ (omega arith) (high _ _ (omega arith) (every_nil no_feed)))
    go false false false = high _ _ (omega arith) (high _ _ (omega arith) (high _ _ (omega arith) (high _ _ (omega arith) (every_nil no_feed))))

abbrev pub octets : List ℕ → List ℕ
octets codes = joined encode codes

pub extent_codes : (codes : List ℕ) → extent (map glyph_of codes) ≡ length (octets codes)
unfolding extent
extent_codes [] = rw joined_nil
extent_codes (c ∷ codes) = rw (joined_cons encode c codes, length-append (encode c) (octets codes), extent_codes codes)

-- a kind of characters: by number; a damaged glyph is none of it, and no line feed
module _ (kind : ℕ → Bool) (no-damage : kind 0xFFFD ≡ false) (no_feed_law : kind 10 ≡ false) where
  abbrev of_kind : Glyph → Bool
  of_kind g = kind g.code

  -- a text begins with characters of the kind, and after them with none
  pub record Begins (xs : List ℕ) : Type 0 where
    pub codes : List ℕ
    pub rest : List ℕ
    pub are : All Character codes
    pub each : every kind codes ≡ true
    pub is : xs ≡ octets codes ++ rest
    pub stops : while of_kind (characters rest) ≡ []
    pub glyphs_are : while of_kind (characters xs) ≡ map glyph_of codes

  none_begins : (xs : List ℕ) → while of_kind (characters xs) ≡ [] → Begins xs
  none_begins xs h = record { codes = []; rest = xs; are = tt; each = every_nil kind; is = rw joined_nil; stops = h; glyphs_are = h }

  more_begins : (c : ℕ) (ys : List ℕ) → Character c → kind c ≡ true → Begins ys → Begins (encode c ++ ys)
  more_begins c ys h k b = record {
    codes = c ∷ b.codes;
    rest = b.rest;
    are = (h, b.are);
    each = rw (every_cons, k, b.each);
    is = rw (joined_cons encode c b.codes, append_assoc (encode c) (octets b.codes) b.rest) (ap (λ (l : List ℕ). encode c ++ l) b.is);
    stops = b.stops;
    glyphs_are = rw (glyphs_here c h ys, while_more of_kind (glyph_of c) (characters ys) k, b.glyphs_are);
  }

  pub begins_of : (xs : List ℕ) → Begins xs
  begins_of xs = characters_induct (λ ys gs. gs ≡ characters ys → Begins ys) (λ e. none_begins [] (rw (← e) (while_nil of_kind))) turn xs refl
    where
      turn : (ys : List ℕ) (b : Bytes ys) → (characters (drop b.n ys) ≡ characters (drop b.n ys) → Begins (drop b.n ys))
          → glyph ys ∷ characters (drop b.n ys) ≡ characters ys → Begins ys
      turn ys b ih e = go (kind (glyph ys).code) (glyph ys).damaged refl refl
        where
          go : (t u : Bool) → kind (glyph ys).code ≡ t → (glyph ys).damaged ≡ u → Begins ys
          go false u k d = none_begins ys (rw (← e) (while_end of_kind (glyph ys) (characters (drop b.n ys)) k))
          go true true k d = absurd (false≢true (sym no-damage ∙ ap kind (sym (damaged_code ys d)) ∙ k))
          go true false k d =
              let r = good_read ys d in
              let n : b.n ≡ length (encode r.code) = sym b.count ∙ ap (λ (g : Glyph). length g.bytes) r.glyph_is in
              let s : drop b.n ys ≡ r.rest = rw n (ap (drop (length (encode r.code))) r.octets ∙ drop-append_seam (encode r.code) r.rest) in
              let m : Begins r.rest = rw s at (ih refl) in
              rw r.octets (more_begins r.code r.rest r.is (sym (ap kind (ap (λ (g : Glyph). g.code) r.glyph_is)) ∙ k) m)

  -- characters of the kind in front of a text that begins with none
  pub kind_glyphs : (codes rest : List ℕ) → All Character codes → every kind codes ≡ true → while of_kind (characters rest) ≡ [] → while of_kind (characters (octets codes ++ rest)) ≡ map glyph_of codes
  kind_glyphs [] rest a e s = rw joined_nil s
  kind_glyphs (c ∷ codes) rest a e s =
      let k = (and-eq-true_iff (kind c) (every kind codes)).0 (rw every_cons at e) in
      rw (
        joined_cons encode c codes,
        append_assoc (encode c) (octets codes) rest,
        glyphs_here c a.0 (octets codes ++ rest),
        while_more of_kind (glyph_of c) (characters (octets codes ++ rest)) k.0,
        kind_glyphs codes rest a.1 k.1 s,
      )

  -- another character stops them
  pub other_stops : (c : ℕ) (rest : List ℕ) → Character c → kind c ≡ false → while of_kind (characters (encode c ++ rest)) ≡ []
  other_stops c rest h k = rw (glyphs_here c h rest) (while_end of_kind (glyph_of c) (characters rest) k)

  kind_other : (c : ℕ) → kind c ≡ true → eqb c 10 ≡ false
  kind_other c k = go (eqb c 10) refl
    where
      go : (t : Bool) → eqb c 10 ≡ t → t ≡ false
      go true e = absurd (false≢true (sym no_feed_law ∙ ap kind (sym (eqb-true c 10 e)) ∙ k))
      go false e = refl

  pub octets_feedless : (codes : List ℕ) → every kind codes ≡ true → Feedless (octets codes)
  octets_feedless [] e = rw joined_nil (every_nil no_feed)
  octets_feedless (c ∷ codes) e =
      let k = (and-eq-true_iff (kind c) (every kind codes)).0 (rw every_cons at e) in
      rw (joined_cons encode c codes, every_append no_feed (encode c) (octets codes), encode_feedless c (kind_other c k.0), octets_feedless codes k.1)

  -- what stops them does not depend on what is after a line feed
  pub stops_before : (left below others : List ℕ) → while of_kind (characters (left ++ 10 ∷ below)) ≡ [] → while of_kind (characters (left ++ 10 ∷ others)) ≡ []
  stops_before left below others s = go (begins_of (left ++ 10 ∷ others))
    where
      go : Begins (left ++ 10 ∷ others) → while of_kind (characters (left ++ 10 ∷ others)) ≡ []
      go b = pick b.codes b.are b.each b.is b.glyphs_are
        where
          pick : (codes : List ℕ) → All Character codes → every kind codes ≡ true → left ++ 10 ∷ others ≡ octets codes ++ b.rest → while of_kind (characters (left ++ 10 ∷ others)) ≡ map glyph_of codes
              → while of_kind (characters (left ++ 10 ∷ others)) ≡ []
          pick [] a e i g = g
          pick (c ∷ codes) a e i g =
              let k = (and-eq-true_iff (kind c) (every kind codes)).0 (rw every_cons at e) in
              let o : encode c ++ (octets codes ++ b.rest) ≡ left ++ 10 ∷ others = sym (append_assoc (encode c) (octets codes) b.rest) ∙ ap (λ (l : List ℕ). l ++ b.rest) (sym (joined_cons encode c codes)) ∙ sym i in
              let f = feedless_inside (encode c) (octets codes ++ b.rest) left others (encode_feedless c (kind_other c k.0)) o in
              let z : left ++ 10 ∷ below ≡ encode c ++ (f.left ++ 10 ∷ below) = ap (λ (l : List ℕ). l ++ 10 ∷ below) f.body_is ∙ append_assoc (encode c) f.left (10 ∷ below) in
              let w : glyph_of c ∷ while of_kind (characters (f.left ++ 10 ∷ below)) ≡ [] =
              sym (while_more of_kind (glyph_of c) (characters (f.left ++ 10 ∷ below)) k.0) ∙ ap (while of_kind) (sym (glyphs_here c a.0 (f.left ++ 10 ∷ below)) ∙ ap (characters) (sym z)) ∙ s in
              absurd (let q : ◌≡◌ {A = ℕ} 0 1 = cc in omega arith)

-- ---- blanks

pub space_character : (c : ℕ) → space_code c ≡ true → Character c
space_character c h =
    let l = blank_most c ((and-eq-true_iff (white_space c) (not (eqb c 10))).0 h).0 in
    record { is_scalar = rw (scalar_true c (record { most = omega arith; no_surrogate = λ a b. omega arith })) tt }

pub space_characters : (codes : List ℕ) → every space_code codes ≡ true → All Character codes
space_characters [] e = tt
space_characters (c ∷ codes) e =
    let k = (and-eq-true_iff (space_code c) (every space_code codes)).0 (rw every_cons at e) in
    (space_character c k.0, space_characters codes k.1)

pub no_break_space : space_code 0xA0 ≡ true
unfolding white_space
no_break_space = refl

pub space_space : space_code 32 ≡ true
unfolding white_space
space_space = refl

pub feed_no_space : space_code 10 ≡ false
unfolding white_space
feed_no_space = refl

pub ink_no_break : (c : ℕ) → white_space c ≡ false → eqb c 0xA0 ≡ false
unfolding white_space
ink_no_break c h = go (eqb c 0xA0) refl
  where
    go : (t : Bool) → eqb c 0xA0 ≡ t → t ≡ false
    go true e = absurd (false≢true (sym h ∙ ap white_space (eqb-true c 0xA0 e)))
    go false e = refl

pub space_octets : encode 32 ≡ 32 ∷ []
unfolding encode
space_octets = refl
