-- What the contracts of the code cite: spaces of a regular line, by places.
use Rattle.std.specs.Prelude.{◌≡◌, Bool, true, false, not, ◌⊎◌, List, [], ◌∷◌, ◌++◌, ℕ, ◌+◌, ◌-◌, ◌*◌, ◌≤◌, ◌<◌, ◌^◌, length, get_or, drop, replicate}
use Rattle.std.proofs.Math.Seq.{slice}
use Rattle.options.specs.Opts.{Opts}
use Rattle.records.specs.Word.{Word, meaning}
use Rattle.records.specs.Cited.Table.{words_in}
use Rattle.records.specs.declared.Word.{Word as Record}
use Rattle.spacing.specs.declared.Setting.{Setting}
use Rattle.output.specs.Cited.Sink.{Left}
use Rattle.text.specs.Cited.Joins.{goes_on}
use Rattle.regular.specs.Cited.Regular.{is_regular, spelled, columns, evenly, stretch_words, fresh_punct, lastly, quick_rest, quick_fresh, quick_on}
use Rattle.regular.specs.declared.Cut.{Cut}
use Rattle.regular.specs.declared.Row.{Row}
use Rattle.regular.specs.declared.Letters.{Letters}
use Rattle.regular.specs.declared.Over.{Over}
use Rattle.regular.specs.declared.Reached.{Reached}
use Rattle.regular.specs.declared.Progress.{Progress}
use Rattle.regular.specs.declared.Waiting.{Waiting}
use Rattle.options.specs.Opts.{meant}
use Rattle.options.specs.declared.Options.{Options}
use Rattle.output.specs.Emission.{line_feed, emit}
use Rattle.output.specs.Cited.Sink.{Wrote}
use Rattle.quick.specs.Quick.{quick_breaks}
use Rattle.lines.specs.Lines.{lines_of}
use Rattle.pieces.specs.Cited.Bounds.{AllBegin}
use Rattle.words.specs.Cited.Places.{words_at}
use Rattle.words.specs.Cited.Taken.{words_between}

-- no space is at a place
abbrev pub NoSpace : List ℕ → ℕ → Type 0
NoSpace s i = get_or s i 0 ≡ 32 → ⊥

abbrev pub Spaceless : List ℕ → ℕ → ℕ → Type 0
Spaceless s from to = (i : ℕ) → from ≤ i → i < to → NoSpace s i

-- r is the last space after a place, up to another; or the first place, if there is none
pub record LastSpace (s : List ℕ) (from to r : ℕ) : Type 0 where
  pub on : from ≤ r
  pub most : r ≤ to
  pub space : from < r → get_or s r 0 ≡ 32
  pub none : (i : ℕ) → r < i → i ≤ to → NoSpace s i

-- r is the first space from a place on, before an end; or the end
pub record FirstSpace (s : List ℕ) (from end r : ℕ) : Type 0 where
  pub on : from ≤ r
  pub most : r ≤ end
  pub space : r < end → get_or s r 0 ≡ 32
  pub none : (i : ℕ) → from ≤ i → i < r → NoSpace s i

-- r is after the spaces at a place, before an end
pub record OverSpaces (s : List ℕ) (from end r : ℕ) : Type 0 where
  pub on : from ≤ r
  pub most : r ≤ end
  pub spaces : (i : ℕ) → from ≤ i → i < r → get_or s i 0 ≡ 32
  pub ink : r < end → NoSpace s r

-- r is before the spaces that end at a place, not before another
pub record BeforeSpaces (s : List ℕ) (from to r : ℕ) : Type 0 where
  pub on : from ≤ r
  pub most : r ≤ to
  pub spaces : (i : ℕ) → r ≤ i → i < to → get_or s i 0 ≡ 32
  pub ink : from < r → NoSpace s (r - 1)

-- a stretch of regular bytes and letters of two bytes that begins and ends with a word
pub record Inked (s : List ℕ) (p e : ℕ) : Type 0 where
  pub on : p < e
  pub within : e ≤ length s
  pub letters : spelled false (slice p e s) ≡ true
  pub first : NoSpace s p
  pub last : NoSpace s (e - 1)

-- if gaps are to be uniform, those between two places are
abbrev pub Even : Bool → List ℕ → ℕ → ℕ → Type 0
Even uniform s from to = uniform ≡ true → evenly 0 0 (slice from to s) ≡ true

-- the columns between two places
abbrev pub columns_in : List ℕ → ℕ → ℕ → ℕ
columns_in s from to = columns (slice from to s)

-- at is where a stretch has taken so many columns, before its end: a character begins there
pub record Reaches (s : List ℕ) (p e room at : ℕ) : Type 0 where
  pub on : p ≤ at
  pub most : at < e
  pub full : columns_in s p at ≡ room
  pub begins : goes_on (get_or s at 0) ≡ false

-- of so many columns those up to r's place are taken, and the rest is left
pub record OverIs (s : List ℕ) (p e room : ℕ) (r : Over) : Type 0 where
  pub on : p ≤ r.at
  pub most : r.at ≤ e
  pub taken : columns_in s p r.at + r.left ≡ room

-- A stretch is cut: its words up to r's end are those that end by a place, or one word; the next one begins at r's next, and ends after that place.
pub record CutAt (s : List ℕ) (p e at : ℕ) (r : Cut) : Type 0 where
  pub on : p < r.end
  pub gap : r.end < r.next
  pub ends : NoSpace s (r.end - 1)
  pub spaces : (i : ℕ) → r.end ≤ i → i < r.next → get_or s i 0 ≡ 32
  pub rest : Inked s r.next e
  pub fits : (r.end ≤ at) ⊎ ((i : ℕ) → p ≤ i → i < r.end → NoSpace s i)
  pub wide : (i : ℕ) → r.next ≤ i → i ≤ at → NoSpace s i

-- or it is one word, which reaches to its end
pub record CutIs (s : List ℕ) (p e at : ℕ) (r : Cut) : Type 0 where
  pub most : r.next ≤ e
  pub cut : r.next < e → CutAt s p e at r
  pub lone : e ≤ r.next → (i : ℕ) → p ≤ i → i < e → NoSpace s i

-- ---- what is left of quick's output, whatever words follow

-- A stretch from `from` to e was to begin a line of output at a column: now that out and k are reached, its part from p on is, at another.
pub record Along (s : List ℕ) (from e : ℕ) (counts : Bool) (g : Setting) (indent : List ℕ) (column : ℕ) (out : List ℕ) (k p : ℕ) (counts' : Bool) (column' : ℕ) (out' : List ℕ) (k' : ℕ) : Type 0 where
  pub inked : Inked s p e
  pub even : Even g.uniform s p e
  pub punct : fresh_punct counts' (slice p e s) ≡ fresh_punct counts (slice from e s)
  pub left : (o : Opts) (new_line previous : Bool) (more : List Word) → o.uniform ≡ g.uniform
      → Left out k (quick_fresh g indent counts column (stretch_words o new_line previous (slice from e s) ++ more))
      out' k' (quick_fresh g indent counts' column' (stretch_words o false false (slice p e s) ++ more))

-- It is written: what is left is the output of the words that follow.
pub record Filled (s : List ℕ) (p e : ℕ) (counts : Bool) (g : Setting) (indent : List ℕ) (column : ℕ) (out : List ℕ) (k : ℕ) (out' : List ℕ) (r : Reached) : Type 0 where
  pub left : (o : Opts) (new_line previous : Bool) (more : List Word) → o.uniform ≡ g.uniform
      → Left out k (quick_fresh g indent counts column (stretch_words o new_line previous (slice p e s) ++ more))
      out' r.written (quick_rest g indent r.column (fresh_punct counts (slice p e s)) more)
  pub most : r.written ≤ k + (e - p) * 2 ^ 34
  pub reach : r.column ≤ column + g.indent + (e - p)

-- The same of the next line's stretch, after a line of output that is at a column.
pub record Joined (s : List ℕ) (p e : ℕ) (punct : Bool) (g : Setting) (indent : List ℕ) (column : ℕ) (out : List ℕ) (k : ℕ) (out' : List ℕ) (r : Reached) : Type 0 where
  pub left : (o : Opts) (more : List Word) → o.uniform ≡ g.uniform
      → Left out k (quick_rest g indent column punct (stretch_words o true false (slice p e s) ++ more))
      out' r.written (quick_rest g indent r.column (lastly false (slice p e s)) more)
  pub most : r.written ≤ k + (e - p + 1) * 2 ^ 34
  pub reach : r.column ≤ g.width + g.indent + g.indent + (e - p)

-- ---- a paragraph's lines, which are in the notes up to next

-- regular bytes stand between two places
abbrev pub EachRegular : List ℕ → ℕ → ℕ → Type 0
EachRegular s from end = (i : ℕ) → from ≤ i → i < end → is_regular (get_or s i 0) ≡ true

-- r is the end of the regular bytes at a place, or another place that they reach to
pub record RegularTo (s : List ℕ) (from end r : ℕ) : Type 0 where
  pub on : from ≤ r
  pub most : r ≤ end
  pub all : EachRegular s from r
  pub stop : r < end → is_regular (get_or s r 0) ≡ false

-- r is the end of the regular bytes and letters of two bytes at a place, or another place that they reach to, and counts the letters
pub record SpelledTo (s : List ℕ) (from end : ℕ) (r : Letters) : Type 0 where
  pub on : from ≤ r.end
  pub most : r.end ≤ end
  pub all : spelled false (slice from r.end s) ≡ true
  pub count : columns_in s from r.end + r.count ≡ r.end - from

-- r is the stretch of the line at a place, whose words begin so many bytes after: its words are the line's
pub record RowIs (o : Opts) (skip later : ℕ) (s : List ℕ) (next i : ℕ) (r : Row) : Type 0 where
  pub on : i < r.next
  pub most : r.next ≤ next
  pub order : i ≤ r.from
  pub some : r.from ≤ r.end
  pub within : r.end ≤ r.next
  pub rest : AllBegin o.glue later later (lines_of (slice r.next next s))
  pub inked : r.from < r.end → Inked s r.from r.end
  pub even : Even o.uniform s r.from r.end
  pub counts : r.columns ≡ columns_in s r.from r.end
  pub words : words_at o false skip later (lines_of (slice i next s)) ≡ stretch_words o true false (slice r.from r.end s) ++ words_at o false later later (lines_of (slice r.next next s))

-- ---- a paragraph, as far as it is written

-- what is left of its output, where words follow
abbrev pub ahead : Setting → List ℕ → Reached → List Word → List ℕ
ahead g indent t ws = quick_on g indent t.begins t.column t.punct ws

-- its column is small enough for all sums
abbrev pub Stands : Reached → Type 0
Stands t = (t.column ≤ 2 ^ 33) × (t.begins ≡ true → t.column < 2 ^ 31)

-- A stretch, that may be empty, is written.
pub record Went (s : List ℕ) (from e : ℕ) (g : Setting) (indent : List ℕ) (out : List ℕ) (t : Reached) (out' : List ℕ) (r : Reached) : Type 0 where
  pub left : (o : Opts) (more : List Word) → o.uniform ≡ g.uniform
      → Left out t.written (ahead g indent t (stretch_words o true false (slice from e s) ++ more)) out' r.written (ahead g indent r more)
  pub most : r.written ≤ t.written + (e - from + 1) * 2 ^ 34
  pub stands : Stands r

-- Between two places the notes have so many spaces.
pub record GapIn (s : List ℕ) (to from count : ℕ) : Type 0 where
  pub on : to ≤ from
  pub spaces : slice to from s ≡ replicate count 32

-- A word of any kind is written, but for bytes of the notes that wait.
pub record WordPut (s : List ℕ) (w : Record) (g : Setting) (indent : List ℕ) (out : List ℕ) (t : Waiting) (out' : List ℕ) (r : Waiting) : Type 0 where
  pub left : (more : List Word)
      → Left out t.reached.written (slice t.from t.to s ++ ahead g indent t.reached (meaning s w ∷ more)) out' r.reached.written (slice r.from r.to s ++ ahead g indent r.reached more)
  pub order : r.from ≤ r.to
  pub within : r.to ≤ length s
  pub most : r.reached.written ≤ t.reached.written + 2 ^ 34
  pub stands : Stands r.reached

-- So are the words of a table up to the j-th.
pub record Listed (s table : List ℕ) (n : ℕ) (g : Setting) (indent : List ℕ) (out : List ℕ) (t : Waiting) (out' : List ℕ) (j : ℕ) (r : Waiting) : Type 0 where
  pub few : j ≤ n
  pub left : (more : List Word)
      → Left out t.reached.written (slice t.from t.to s ++ ahead g indent t.reached (words_in s n table ++ more)) out' r.reached.written (slice r.from r.to s ++ ahead g indent r.reached (drop j (words_in s n table) ++ more))
  pub order : r.from ≤ r.to
  pub within : r.to ≤ length s
  pub most : r.reached.written ≤ t.reached.written + j * 2 ^ 34
  pub stands : Stands r.reached

-- So are the words of a line.
pub record Worded (s : List ℕ) (start end : ℕ) (mail : Bool) (o : Options) (g : Setting) (indent : List ℕ) (out : List ℕ) (t : Reached) (out' : List ℕ) (r : Reached) : Type 0 where
  pub left : (more : List Word)
      → Left out t.written (ahead g indent t (words_between (meant [] o) mail (not mail) false s start end ++ more)) out' r.written (ahead g indent r more)
  pub most : r.written ≤ t.written + (end - start + 1) * 2 ^ 34
  pub stands : Stands r

-- The words of the lines from a place on.
abbrev pub words_on : List ℕ → Options → Bool → ℕ → ℕ → ℕ → List ℕ → ℕ → List Word
words_on block o mail start later next s i = words_at (meant block o) mail start later (lines_of (slice i next s))

-- Lines are written up to a place: what is left is the output of the other lines' words, which begin so many bytes after.
pub record Gone (s : List ℕ) (at next : ℕ) (mail : Bool) (start later : ℕ) (o : Options) (g : Setting) (indent : List ℕ) (out : List ℕ) (t : Reached) (out' : List ℕ) (i skip : ℕ) (r : Reached) : Type 0 where
  pub on : at ≤ i
  pub most : i ≤ next
  pub rest : mail ≡ false → AllBegin o.glue skip later (lines_of (slice i next s))
  pub left : (block : List ℕ)
      → Left out t.written (ahead g indent t (words_on block o mail start later next s at)) out' r.written (ahead g indent r (words_on block o mail skip later next s i))
  pub few : r.written ≤ t.written + (i - at) * 2 ^ 35
  pub stands : Stands r

-- One line is.
pub record RowPut (s : List ℕ) (i next : ℕ) (mail : Bool) (skip later : ℕ) (o : Options) (g : Setting) (indent : List ℕ) (out : List ℕ) (t : Reached) (out' : List ℕ) (r : Progress) : Type 0 where
  pub more : i < r.at
  pub gone : Gone s i next mail skip later o g indent out t out' r.at later r.reached

-- All are: a line feed is left.
pub record Rowed (s : List ℕ) (at next : ℕ) (mail : Bool) (start later : ℕ) (o : Options) (g : Setting) (indent : List ℕ) (out : List ℕ) (t : Reached) (out' : List ℕ) (r : Reached) : Type 0 where
  pub left : (block : List ℕ) → Left out t.written (ahead g indent t (words_on block o mail start later next s at)) out' r.written line_feed
  pub most : r.written ≤ t.written + 2 ^ 55

-- A paragraph is written, broken by quick.
abbrev pub PutIs : List ℕ → ℕ → ℕ → Bool → ℕ → ℕ → Options → Setting → List ℕ → List ℕ → List ℕ → ℕ → List ℕ → ℕ → Type 0
PutIs s at next mail start later o g first indent out k out' r =
    (block : List ℕ) → 0 < length (words_on block o mail start later next s at)
    → Wrote out k (emit g.uniform first indent (quick_breaks g (words_on block o mail start later next s at)) (words_on block o mail start later next s at)) out' r
