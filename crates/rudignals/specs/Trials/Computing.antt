-- Every definition opened at once: a statement that says `unfolding everything` is closed by computing.
use Rattle.std.specs.Float.Ieee.{mul, div, sub, of_int}
use Rattle.lists.specs.Walk.{walk_up_to, walk, piece, each}
use Rattle.lists.specs.Runs.{while, behind, every, begins, joined}
use Rattle.text.specs.Rfc3629.{scalar, encode, spelled, decode}
use Rattle.widths.specs.Ranges.{width_in}
use Rattle.widths.specs.Table.{table}
use Rattle.widths.specs.Widths.{width_of}
use Rattle.widths.specs.WhiteSpace.{white_space}
use Rattle.text.specs.Characters.{glyph, characters, ink_ahead, glued, glyphs, extent, damage}
use Rattle.options.specs.Opts.{meant}
use Rattle.options.specs.OptionBlock.{number, tag_of, size_of, value_of, next_field, fields, allowed, well_formed, first_fault, part_of, fits, options_of, read_block}
use Rattle.lines.specs.Lines.{body, without_return, first_line, lines_of}
use Rattle.lines.specs.Classes.{glyphs_before, glyphs_from, next_stop, column_behind, columns_of, search, shape_at, classify}
use Rattle.pieces.specs.Pieces.{from_word, header_text, starts_mail, continues, agrees, second_rule, follow, second_of, further, indent_of, first_indent, indent_for, row_of, paragraph_at, next_piece, pieces}
use Rattle.words.specs.Words.{run_of, runs, bytes_of, width_sum, gap_from, gap_of, punct_at_end, counting, wide_gap, word_of, line_words, mail_word, mail_words, row_words, words_of}
use Rattle.spacing.specs.Spacing.{gap_width, added_space}
use Rattle.output.specs.Emission.{space_before, emit_rest, emit}
use Rattle.quick.specs.Quick.{quick_from, quick_breaks}
use Rattle.demerits.specs.Demerits.{term, ratio, word_term, cost}
use Rattle.knuth_plass.specs.KnuthPlass.{first_break, reduced, reached, staying, offer_of, lesser, best_offer, least_from, least, restart, round, rounds_from, path_of, starts_line, marks_from, best_breaks}
use Rattle.lists.specs.Coded.{numbered}
use Rattle.formatter.specs.Answers.{output_after}
use Rattle.paragraphs.specs.Breaks.{setting_of}
use Rattle.walk.specs.Digest.{formatted, output_of, digest, extent_of, long_paragraph}
use Rattle.formatter.specs.Format.{answer, finding, measuring, writing}

unfoldable pub everything : Unit {0}
unfolding mul div sub of_int walk_up_to walk piece each while behind every begins joined scalar encode spelled decode width_in table width_of white_space glyph characters ink_ahead glued glyphs extent damage meant number tag_of size_of value_of next_field fields allowed well_formed first_fault part_of fits options_of read_block body without_return first_line lines_of glyphs_before glyphs_from next_stop column_behind columns_of search shape_at classify from_word header_text starts_mail continues agrees second_rule follow second_of further indent_of first_indent indent_for row_of paragraph_at next_piece pieces run_of runs bytes_of width_sum gap_from gap_of punct_at_end counting wide_gap word_of line_words mail_word mail_words row_words words_of gap_width added_space space_before emit_rest emit quick_from quick_breaks term ratio word_term cost first_break reduced reached staying offer_of lesser best_offer least_from least restart round rounds_from path_of starts_line marks_from best_breaks numbered output_after setting_of formatted output_of digest extent_of long_paragraph answer finding measuring writing
everything = tt
