-- What the writing call has written comes back: its answers lead to the statements about what is sent.
use Rattle.std.proofs.Common.{Ok, Err, Result}
use mathlib.Core.Path.{◌≡◌, refl, sym, ap, ◌∙◌}
use mathlib.Core.Bool.{Bool, true, false, cond}
use mathlib.Core.List.{List, ◌++◌, map}
use Prim.Native.Nat.{ℕ, ◌+◌}
use native.Mathlib.Omega.{arith}
use lib.Dec.{leb}
use lib.ListN.{length, length-map}
use Rattle.lists.specs.Runs.{joined}
use Rattle.lists.specs.Theorems.All.{◌∈◌}
use Rattle.options.specs.Opts.{Opts, meant}
use Rattle.options.specs.OptionBlock.{read_block}
use Rattle.options.specs.declared.Options.{Options}
use Rattle.options.specs.declared.Fault.{Fault}
use Rattle.pieces.specs.Pieces.{Piece, Paragraph, paragraph, pieces}
use Rattle.words.specs.Words.{words_of}
use Rattle.output.specs.Emission.{line_feed}
use Rattle.walk.specs.Digest.{formatted}
use Rattle.formatter.specs.Answers.{Answer, done, refused, room}
use Rattle.formatter.specs.Format.{Limits, Finding, found, stopped, with_notes, answering, most_told, is_told}
use Rattle.formatter.specs.declared.Refusal.TheVariants.{Options as Faulty}
use Rattle.unflow.specs.Unflow.{paragraphs, mail_lines}
use Rattle.flow.specs.Flow.{mailed, paragraph_lines, flowed, dashes_in}
use Rattle.flow.specs.Answers.{unfit, sent_in, sent_notes, sent_block, flow, counted_by, dashes_of}
use Rattle.flow.specs.Theorems.ReadBack.{unquoted, back, came_back, Carry}
use Rattle.flow.proofs.Theorems.{what_was_written_comes_back, its_words_come_back_in_order, each_piece_once_and_each_such_line, its_lines_are_the_digest's}

-- ---- what an answer that is done says

sent_notes_law : (l : Limits) (space : ℕ) (o : Opts) (notes bytes : List ℕ) → sent_notes l space o notes ≡ done bytes → bytes ≡ flowed o notes
sent_notes_law l space o notes bytes h = go (with_notes l o notes) h
  where
    fitted : (a b : Bool) → cond a (cond b (done (flowed o notes)) (room (length (flowed o notes)))) (room most_told) ≡ done bytes → bytes ≡ flowed o notes
    fitted true true k = cc
    fitted true false k = cc
    fitted false b k = cc

    go : (f : Finding) → answering (λ d. sent_in l.words space (flowed o notes)) f ≡ done bytes → bytes ≡ flowed o notes
    go (found d) k = fitted (is_told l.words (length (flowed o notes))) (leb (length (flowed o notes)) space) k
    go (stopped r) k = cc

-- ---- the options that the writer sends with

uniform_on : (o : Opts) → (mailed o).uniform ≡ true
unfolding mailed
uniform_on o = refl

-- ---- the count of `--` lines

dashes_done : (l : Limits) (block notes : List ℕ) (space : ℕ) (bytes : List ℕ) (o : Options) → flow l block notes space ≡ done bytes → read_block block ≡ Ok o
    → dashes_of l block notes space ≡ dashes_in (mailed (meant block o)) (pieces (mailed (meant block o)) notes)
unfolding dashes_of
dashes_done l block notes space bytes o h e = ap (λ (a : Answer). counted_by a block notes (read_block block)) h ∙ ap (counted_by (done bytes) block notes) e

-- ---- the theorem

-- a paragraph's words came back in order, and its lines are the digest's
abbrev pub InOrder : Opts → Paragraph → Type 0
InOrder o p =
    Carry o.glue p.first.bytes p.indent.bytes (words_of o p) (back (paragraph_lines o p)) × (joined (λ (line : List ℕ). line ++ line_feed) (paragraph_lines o p) ≡ formatted o p)

-- What the writer has written, when it answers that it is done, and how it comes back.
pub record ComesBack (l : Limits) (block notes : List ℕ) (space : ℕ) (bytes : List ℕ) : Type 0 where
  pub options : Options
  pub accepted : read_block block ≡ Ok options
  pub sent : bytes ≡ flowed (mailed (meant block options)) notes
  pub back : let o = mailed (meant block options) in paragraphs (mail_lines bytes) ≡ map unquoted (joined (λ (q : Piece). came_back o q.kind) (pieces o notes))
  pub words : (q : Piece) (p : Paragraph) → q ∈ pieces (mailed (meant block options)) notes → q.kind ≡ paragraph p → InOrder (mailed (meant block options)) p
  -- of the notes' pieces each came back once, and one more for each line `--` that the answer counts
  pub count : let o = mailed (meant block options) in length (paragraphs (mail_lines bytes)) ≡ length (pieces o notes) + dashes_of l block notes space

pub what_the_call_wrote_comes_back : (l : Limits) (block notes : List ℕ) (space : ℕ) (bytes : List ℕ) → flow l block notes space ≡ done bytes → ComesBack l block notes space bytes
unfolding flow
what_the_call_wrote_comes_back l block notes space bytes h = read (read_block block) refl h
  where
    fit : (o : Options) → read_block block ≡ Ok o → (b : Bool) → unfit block ≡ b
        → elim b as (λ z. Answer) [ true ↦ refused (Faulty (length block)) | false ↦ sent_notes l space (mailed (meant block o)) notes ] ≡ done bytes → ComesBack l block notes space bytes
    fit o e true u k = absurd (let z : ◌≡◌ {A = ℕ} 0 1 = cc in omega arith)
    fit o e false u k =
        let m = mailed (meant block o) in
        let s = sent_notes_law l space m notes bytes k in
        let b = ap (λ (t : List ℕ). paragraphs (mail_lines t)) s ∙ what_was_written_comes_back m notes in
        record {
          options = o;
          accepted = e;
          sent = s;
          back = b;
          words = λ q p i k. (its_words_come_back_in_order m notes q p i k (uniform_on (meant block o)), its_lines_are_the_digest's m notes q p i k (uniform_on (meant block o)));
          count = ap length b ∙ length-map (joined (λ (q : Piece). came_back m q.kind) (pieces m notes)) unquoted ∙ each_piece_once_and_each_such_line m notes ∙ ap (λ (n : ℕ). length (pieces m notes) + n) (sym (dashes_done l block notes space bytes o h e));
        }

    read : (b : Result Options Fault) → read_block block ≡ b → sent_block l space block notes b ≡ done bytes → ComesBack l block notes space bytes
    read (Err fault) e k = absurd (let z : ◌≡◌ {A = ℕ} 0 1 = cc in omega arith)
    read (Ok o) e k = fit o e (unfit block) refl k
