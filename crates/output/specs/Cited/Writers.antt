-- What the writers write: an indent's bytes, and a word with what is before it.
use Rattle.std.specs.Prelude.{Bool, true, false, List, ◌++◌, ℕ, ◌≤◌, ◌<◌, ◌^◌, length, drop, replicate}
use Rattle.std.proofs.Math.Seq.{slice}
use Rattle.pieces.specs.declared.Margin.{Margin}
use Rattle.records.specs.Word.{Word}
use Rattle.records.specs.Cited.Table.{Holds, words_in, AllWithin}
use Rattle.records.specs.Cited.Marks.{marks_in, breaks_of}
use Rattle.output.specs.declared.Layout.{Layout}
use Rattle.output.specs.Emission.{line_feed, emit_rest, emit}

-- an indent: bytes of the notes, then spaces
abbrev pub margin_of : List ℕ → Margin → List ℕ
margin_of notes m = slice m.start m.end notes ++ replicate m.more 32

-- an indent whose places lie in notes of a length
pub record MarginIn (size : ℕ) (m : Margin) : Type 0 where
  pub order : m.start ≤ m.end
  pub end : m.end ≤ size
  pub more : m.more < 2 ^ 32

-- a word on a fresh line stands bare after a line feed and the indent; else after added spaces and its blanks
unfoldable pub placed : Bool → ℕ → List ℕ → Word → List ℕ
placed fresh added indent w =
    elim fresh as (λ x. List ℕ) [ true ↦ line_feed ++ indent | false ↦ replicate added 32 ++ w.blanks ] ++ w.text

-- what emission is handed: a table of n words with their marks, and the indents, with every place in the notes
pub record Laid (notes : List ℕ) (table : List ℕ) (n : ℕ) (l : Layout) : Type 0 where
  pub some : 1 ≤ n
  pub few : n ≤ 2 ^ 20
  pub words : AllWithin (length notes) n table
  pub held : Holds n table
  pub first : MarginIn (length notes) l.first
  pub indent : MarginIn (length notes) l.indent
  pub small : length notes < 2 ^ 32

-- what is emitted: the paragraph, and the part of it from word i on
abbrev pub emitted : List ℕ → List ℕ → ℕ → Layout → List ℕ
emitted notes table n l =
    emit l.uniform (margin_of notes l.first) (margin_of notes l.indent) (breaks_of n table) (words_in notes n table)

abbrev pub emitted_from : List ℕ → List ℕ → ℕ → Layout → Bool → ℕ → List ℕ
emitted_from notes table n l punct i =
    emit_rest l.uniform (margin_of notes l.indent) punct (slice i n (marks_in n table)) (drop i (words_in notes n table))
