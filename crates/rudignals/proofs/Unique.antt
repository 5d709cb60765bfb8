-- A promise determines its answer: whatever two results keep it are equal, and so is every byte and every mark that was written.
-- The public functions of all crates, and the law that each stands on:
--
--   lists         number, number_of                                                         an equation
--   lists         `Refusing`: number, of the errors of explain, fold, formatter (two),
--                 indexer, judge, salvage (two) and unflow                                  an equation
--   widths        width, ink_width, is_white_space, leaf, mid, top, row                     an equation
--   text          decode_at, long_at, glyph_at, is_no_break, is_letter, first_damage        an equation: `equal_unique`
--   text          glued_end                                                                 an equation, with a bound: `bounded_unique`
--   options       read_block                                                                an equation
--   options       byte_at                                                                   an equation, with a bound: `bounded_unique`
--   lines         first_line, first_classed, begins                                         an equation
--   lines         next_stop, column_behind                                                  an equation, with bounds: `bounded_unique`
--   pieces        is_header                                                                 an equation
--   pieces        next_piece                                                                an equation, with bounds: `bounded_unique`
--   records       get                                                                       records/proofs/Unique: `got_unique`
--   records       starts_line                                                               an equation
--   records       store, mark                                                               an equation for the table
--   words         split_words                                                               `words_unique`, by words/proofs/Unique (below)
--   words         count_words, begin                                                        an equation
--   words         next_word, split_some                                                     the words and their places; where the blanks after the last begin is open
--   spacing       gap_width, added_space                                                    spacing/proofs/Unique: `gap_unique`, `added_unique`
--   quick         quick_breaks                                                              `quick_unique`, by records/proofs/Unique: `marked_unique`
--   quick         quick_ending                                                              an equation
--   endings       find_line                                                                 an equation
--   endings       put                                                                       an equation for the reason
--   demerits      trunc                                                                     an equation
--   demerits      ratio, line_term, word_term, ratio_term, cost                             an equation, with a bound: `bounded_unique`
--   knuth_plass   best_breaks                                                               knuth_plass/proofs/Unique: `best_unique`
--   knuth_plass   best_ending                                                               an equation
--   output        put_text, put_spaces, put_added, put_feed, put_margin, put_break,
--                 put_word, put_first                                                       output/proofs/Unique: `wrote_unique`
--   output        emit, emit_line                                                           `wrote_unique`, with a bound
--   panel         draw, number_of                                                           an equation for the answer, one for the cells
--   salvage       mend, restore                                                             salvage/proofs/Unique: `mends_unique`, `restores_unique`
--   marks         mark                                                                      an equation for the marks
--   marks         gap                                                                       an equation
--   index         lookup                                                                    an equation
--   index         store_records                                                             an equation for the records
--   index         tell                                                                      an equation for the answer, one for the part
--   indexer       write_marked                                                              indexer/proofs/Unique: `indexes_unique`
--   unflow        unflow                                                                    unflow/proofs/Unique: `reads_unique`
--   unflow        is_dashes                                                                 an equation
--   unflow        stuffing_of                                                               `spaces_unique`, with a bound
--   unflow        put_end                                                                   output/proofs/Unique: `wrote_unique`
--   flow          flow, flow_lent                                                           flow/proofs/Unique: `sends_unique`
--   checker       match_line, match_words                                                   checker/proofs/Unique: `matches_unique`
--   judge         check, number_of                                                          an equation
--   paragraphs    put_paragraph                                                             paragraphs/proofs/Unique: `step_unique`
--   paragraphs    setting_of, room_for, numbers_for                                         an equation
--   paragraphs    mark_breaks                                                               an equation for the marks after the first word's
--   explain       explain                                                                   an equation
--   explain       tell                                                                      an equation for the answer, one for the reason
--   walk          put_all                                                                   walk/proofs/Unique: `ended_unique`
--   walk          put_all_lent                                                              output/proofs/Unique: `wrote_unique`
--   walk          work_over, work_with                                                      an equation
--   formatter     measure, measure_lent                                                     an equation
--   formatter     write, write_lent                                                         an equation for the reply, one for the output
--   formatter     admit, admit_within, admit_lent                                           formatter/proofs/Unique: `admission_unique`, `admission_within_unique`,
--                                                                                           `admission_lent_unique`
--   rudignals     rudignals_measure, rudignals_check                                        an equation
--   rudignals     rudignals_write_indexed, rudignals_lookup                                 an equation for each of what they answer and leave
--   rudignals     rudignals_write, rudignals_format, rudignals_write_large                  `call_unique`
--   rudignals     rudignals_panel, rudignals_mend, rudignals_restore,
--                 rudignals_unflow, rudignals_explain                                       an equation for the number, one for each slice
--   rudignals     rudignals_flow, rudignals_flow_large                                      the same, and one for the count
--
-- What stays open is scratch that nobody reads afterwards: docs/VERIFY.md lists it.
use Rattle.std.proofs.Common.{Result, Ok}
use mathlib.Core.Path.{◌≡◌, sym, ap, ◌∙◌}
use mathlib.Core.List.{List, []}
use Prim.Native.Nat.{ℕ}
use lib.ListN.{length, replicate, length-replicate}
use Rattle.records.specs.Word.{Word}
use Rattle.records.specs.Cited.Table.{words_in}
use Rattle.records.specs.Cited.Marks.{MarkedBy}
use Rattle.records.proofs.Unique.{marked_unique}
use Rattle.words.specs.Cited.Split.{places_in, Split}
use Rattle.words.specs.declared.TooMany.{TooMany}
use Rattle.words.proofs.Unique.{count_unique, split_unique}
use Rattle.spacing.specs.declared.Setting.{Setting}
use Rattle.quick.specs.Quick.{quick_breaks}
use Rattle.lists.specs.Coded.{numbered}
use Rattle.formatter.specs.Answers.{Answer, answer_coded, output_after}

pub equal_unique : {A : Type 0} (x a b : A) → a ≡ x → b ≡ x → a ≡ b
equal_unique x a b e f = e ∙ sym f

pub bounded_unique : {A : Type 0} (Bounds : A → Type 0) (x a b : A) → (a ≡ x) × Bounds a → (b ≡ x) × Bounds b → a ≡ b
bounded_unique Bounds x a b e f = e.0 ∙ sym f.0

-- the count of a paragraph's words, the words that the table's first records are, and where they stand, whatever block the options came from
pub words_unique : (most : ℕ) (notes : List ℕ) (ws : List ℕ → List Word) (ps t u : List ℕ) (r s : Result ℕ TooMany)
    → ((block : List ℕ) → Split most notes (ws block) ps t r) → ((block : List ℕ) → Split most notes (ws block) ps u s)
    → (r ≡ s) × ((n : ℕ) → r ≡ Ok n → (words_in notes n t ≡ words_in notes n u) × (places_in n t ≡ places_in n u))
words_unique most notes ws ps t u r s a b =
    (count_unique most notes (ws []) ps t u r s (a []) (b []), λ n e. split_unique most notes (ws []) ps t u r s (a []) (b []) n e)

-- every mark
pub quick_unique : (g : Setting) (n : ℕ) (table a b : List ℕ)
    → ((notes : List ℕ) → MarkedBy n table (quick_breaks g (words_in notes n table)) a) → ((notes : List ℕ) → MarkedBy n table (quick_breaks g (words_in notes n table)) b) → a ≡ b
quick_unique g n table a b h k = marked_unique n table (quick_breaks g (words_in [] n table)) a b (h []) (k [])

-- how many spaces
pub spaces_unique : (x : List ℕ) (r s : ℕ) → replicate r 32 ≡ x → replicate s 32 ≡ x → r ≡ s
spaces_unique x r s h k = sym (length-replicate {A = ℕ} r 32) ∙ ap length (h ∙ sym k) ∙ length-replicate {A = ℕ} s 32

-- the number that the host gets, and every byte of its slice: of `answer` or of `writing`
pub call_unique : (a : Answer) (output : List ℕ) (r s : ℕ) (x y : List ℕ) → (r ≡ numbered (answer_coded a)) × (x ≡ output_after a output) → (s ≡ numbered (answer_coded a)) × (y ≡ output_after a output) → (r ≡ s) × (x ≡ y)
call_unique a output r s x y h k = (h.0 ∙ sym k.0, h.1 ∙ sym k.1)
