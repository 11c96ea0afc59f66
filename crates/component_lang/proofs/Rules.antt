-- Lemmas by which the check finds the rest of what functions require and ensure.
use Rattle.std.proofs.lemmas.List.{length-map}
use Rattle.text_rules.proofs.LineLemmas.{length-all_lines, sum-all_lines}
use Rattle.component_lang.proofs.LineForms.{new_ports-same}
use Rattle.component_lang.proofs.NameLists.{more_names-first, more_names-length, with_name-length}
use Rattle.component_lang.proofs.RowSets.{row-below, row-room, shifted, with_row-or}
use Rattle.component_lang.proofs.SoundReaders.{words-fit}

pub ruleset rows_within = (row-below, row-room)

pub ruleset row_added = (shifted, with_row-or)

pub ruleset first_name = (more_names-first)

pub ruleset wires_within = (length-map, more_names-length, with_name-length)

pub ruleset ports_within = (length-map, new_ports-same)

pub ruleset words_within = (length-map, words-fit)

pub ruleset lines_within = (length-all_lines, sum-all_lines)
