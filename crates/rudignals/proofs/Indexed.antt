-- RULES 12: what the indexed call answers for two parts with a blank line between them, and the index of the three.
use Rattle.std.proofs.Common.{Result, Ok}
use mathlib.Core.Path.{◌≡◌, refl, sym, ap, ◌∙◌}
use mathlib.Core.Bool.{Bool, true, false, cond}
use mathlib.Core.List.{List, [], ◌∷◌, ◌++◌, map, append-nil}
use Prim.Native.Nat.{ℕ, ◌+◌, ◌≤◌}
use native.Mathlib.Omega.{arith}
use lib.Dec.{leb}
use lib.ListN.{length, length-append, length-map}
use borrow.Author.Tests.{le-leb}
use Rattle.lists.specs.Walk.{walk_up_to, walk, piece, each}
use Rattle.lists.specs.Runs.{while, every, joined}
use Rattle.options.specs.Opts.{Opts, meant}
use Rattle.options.specs.OptionBlock.{read_block}
use Rattle.options.specs.declared.Options.{Options}
use Rattle.options.specs.declared.Fault.{Fault}
use Rattle.lines.specs.Lines.{Line, no_feed, body, without_return, first_line, lines_of}
use Rattle.lines.specs.Classes.{classify}
use Rattle.lines.specs.declared.Class.TheVariants.{Blank}
use Rattle.lines.specs.Theorems.Closed.{Closed}
use Rattle.pieces.proofs.Boundary.{blank_piece}
use Rattle.walk.specs.Digest.{output_of, digest, extent_of}
use Rattle.formatter.specs.Format.{Words, Limits, Finding, found, stopped, finding, most_told, is_told}
use Rattle.index.specs.declared.Record.{Record}
use Rattle.indexer.specs.Index.{line_count, index_of}
use Rattle.indexer.specs.Answers.{Indexed, done, refused, full, room}
use Rattle.indexer.specs.Indexing.{in_index, index_under, indexing}
use Rattle.indexer.specs.Theorems.Follows.{shifted}
use Rattle.indexer.proofs.Follows.{index_between}
use Rattle.rudignals.specs.Theorems.LineEnds.{LineEnd}
use Rattle.rudignals.proofs.Boundary.{pieces_boundary, Joining, finding_boundary}

-- ---- the index of two parts and a blank line between them

-- the record of the blank line, and those of the second part, which are after it
abbrev pub blank_record : Opts → List ℕ → List ℕ → Record
blank_record o first line = record { place = length first; length = length line; first = length (lines_of (digest o first)); count = 1 }

abbrev pub behind_blank : Opts → List ℕ → List ℕ → List Record → List Record
behind_blank o first line rs = map (shifted (length first + length line) (length (lines_of (digest o first)) + 1)) rs

blank_extent : (l : Line) → extent_of (blank_piece l) ≡ l.raw
unfolding extent_of joined
blank_extent l = append-nil l.raw

blank_count : (o : Opts) (l : Line) → line_count o (blank_piece l) ≡ 1
unfolding line_count output_of lines_of each walk walk_up_to piece body while first_line without_return
blank_count o l = refl

module _ (o : Opts) (first line end second : List ℕ) (closed : Closed first) (feedless : every no_feed line ≡ true) (ends : LineEnd line end) (blank : classify o line ≡ Blank) where
  pub index_boundary : index_of o (first ++ (line ++ (end ++ second))) ≡ index_of o first ++ blank_record o first (line ++ end) ∷ behind_blank o first (line ++ end) (index_of o second)
  index_boundary =
      let l : Line = record { raw = line ++ end; text = line } in
      let n : List ℕ → ℕ → List Record =
      λ e c. index_of o first ++ record { place = length first; length = length e; first = length (lines_of (digest o first)); count = c }
      ∷ map (shifted (length first + length e) (length (lines_of (digest o first)) + c)) (index_of o second) in
      index_between o first second (first ++ (line ++ (end ++ second))) (blank_piece l) (pieces_boundary o first line end second closed feedless ends blank)
      ∙ ap (λ (e : List ℕ). n e (line_count o (blank_piece l))) (blank_extent l) ∙ ap (n (line ++ end)) (blank_count o l)

-- ---- a call that is done

digest_in : Indexed → List ℕ
digest_in (done d i) = d
digest_in (refused r) = []
digest_in (full pieces) = []
digest_in (room needed) = []

records_in : Indexed → List Record
records_in (done d i) = i
records_in (refused r) = []
records_in (full pieces) = []
records_in (room needed) = []

-- it was found to be done, and its records are the index
pub record IsDone (rs : List Record) (f : Finding) (d : List ℕ) (i : List Record) : Type 0 where
  pub is : f ≡ found d
  pub index : i ≡ rs

in_done : (w : Words) (space records : ℕ) (rs : List Record) (f : Finding) (d : List ℕ) (i : List Record) → in_index w space records rs f ≡ done d i → IsDone rs f d i
unfolding digest_in records_in
in_done w space records rs (found e) d i h = go (leb (length rs) records) (is_told w (length e)) (leb (length e) space) h
  where
    go : (a t b : Bool) → cond a (cond t (cond b (done e rs) (room (length e))) (room most_told)) (full (length rs)) ≡ done d i → IsDone rs (found e) d i
    go true true true k = record { is = ap found (ap digest_in k); index = sym (ap records_in k) }
    go true true false k = absurd (let z : ◌≡◌ {A = ℕ} 0 1 = cc in omega arith)
    go true false b k = absurd (let z : ◌≡◌ {A = ℕ} 0 1 = cc in omega arith)
    go false t b k = absurd (let z : ◌≡◌ {A = ℕ} 0 1 = cc in omega arith)
in_done w space records rs (stopped r) d i h = absurd (let z : ◌≡◌ {A = ℕ} 0 1 = cc in omega arith)

pub indexed_done : (l : Limits) (block notes : List ℕ) (o : Options) (space records : ℕ) (d : List ℕ) (i : List Record) → read_block block ≡ Ok o → indexing l block notes space records ≡ done d i
    → IsDone (index_of (meant block o) notes) (finding l block notes) d i
unfolding indexing
indexed_done l block notes o space records d i b h =
    in_done l.words space records (index_of (meant block o) notes) (finding l block notes) d i (ap (λ (x : Result Options Fault). in_index l.words space records (index_under block notes x) (finding l block notes)) (sym b) ∙ h)

pub done_indexed : (l : Limits) (block notes : List ℕ) (o : Options) (space records : ℕ) (d : List ℕ) → read_block block ≡ Ok o → finding l block notes ≡ found d → is_told l.words (length d) ≡ true
    → length d ≤ space → length (index_of (meant block o) notes) ≤ records → indexing l block notes space records ≡ done d (index_of (meant block o) notes)
unfolding indexing
done_indexed l block notes o space records d b m t r s =
    ap (λ (x : Result Options Fault). in_index l.words space records (index_under block notes x) (finding l block notes)) b ∙ ap (in_index l.words space records (index_of (meant block o) notes)) m
    ∙ rw (le-leb (length (index_of (meant block o) notes)) records s, t, le-leb (length d) space r)

-- the room that suffices for the three is that of the outputs and one byte, and that of the indexes and one record
pub indexed_boundary : (l : Limits) → Joining l.words → (block first line end second : List ℕ) (o : Options) (digest₁ digest₂ : List ℕ) (index₁ index₂ : List Record) (space₁ records₁ space₂ records₂ space records : ℕ)
    → read_block block ≡ Ok o → Closed first → every no_feed line ≡ true → LineEnd line end → classify (meant block o) line ≡ Blank
    → length (first ++ (line ++ (end ++ second))) ≤ l.bytes
    → indexing l block first space₁ records₁ ≡ done digest₁ index₁ → indexing l block second space₂ records₂ ≡ done digest₂ index₂
    → is_told l.words (length (digest₁ ++ 10 ∷ digest₂)) ≡ true → length digest₁ + 1 + length digest₂ ≤ space → length index₁ + 1 + length index₂ ≤ records
    → indexing l block (first ++ (line ++ (end ++ second))) space records
    ≡ done (digest₁ ++ 10 ∷ digest₂) (index₁ ++ blank_record (meant block o) first (line ++ end) ∷ behind_blank (meant block o) first (line ++ end) index₂)
indexed_boundary l joining block first line end second o digest₁ digest₂ index₁ index₂ space₁ records₁ space₂ records₂ space records b c f e k n h₁ h₂ t r s =
    let m = meant block o in
    let a₁ = indexed_done l block first o space₁ records₁ digest₁ index₁ b h₁ in
    let a₂ = indexed_done l block second o space₂ records₂ digest₂ index₂ b h₂ in
    let i : index_of m (first ++ (line ++ (end ++ second))) ≡ index₁ ++ blank_record m first (line ++ end) ∷ behind_blank m first (line ++ end) index₂ = rw (a₁.index, a₂.index) (index_boundary m first line end second c f e k) in
    let j = length-append digest₁ (10 ∷ digest₂) in
    let p = ap length i ∙ length-append index₁ (blank_record m first (line ++ end) ∷ behind_blank m first (line ++ end) index₂) in
    let q = length-map index₂ (shifted (length first + length (line ++ end)) (length (lines_of (digest m first)) + 1)) in
    done_indexed l block (first ++ (line ++ (end ++ second))) o space records (digest₁ ++ 10 ∷ digest₂) b (finding_boundary l joining block first line end second o digest₁ digest₂ b c f e k n a₁.is a₂.is) t (omega (arith, j, r)) (omega (arith, p, q, s))
    ∙ ap (done (digest₁ ++ 10 ∷ digest₂)) i
