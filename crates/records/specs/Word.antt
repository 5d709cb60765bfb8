-- RULES 6: the word record, as bytes and numbers; and how the code's record, which holds places, means one.
use Rattle.std.specs.Prelude.{Bool, List, ℕ, Option}
use Rattle.std.proofs.Math.Seq.{slice}
use Rattle.records.specs.declared.Word.{Word as Record}

-- the blanks before a word and its own bytes, its width, the counts before and after the gap's first tab, and three marks
pub record Word : Type 0 where
  pub blanks : List ℕ
  pub text : List ℕ
  pub width : ℕ
  pub before : Option ℕ
  pub after : ℕ
  pub new_line : Bool
  pub ends_punct : Bool
  pub sentence_start : Bool

unfoldable pub meaning : List ℕ → Record → Word
meaning notes w = record {
  blanks = slice w.from w.start notes;
  text = slice w.start w.end notes;
  width = w.width;
  before = w.before;
  after = w.after;
  new_line = w.first;
  ends_punct = w.punct;
  sentence_start = w.sentence;
}
