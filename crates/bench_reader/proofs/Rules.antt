-- Lemmas by which the check finds the rest of what functions require and ensure.
use Rattle.std.proofs.lemmas.List.{length-map}
use Rattle.std.proofs.lemmas.Slice.Eq.{bytes_eq-Decides}
use Rattle.text_rules.proofs.LineLemmas.{length-all_lines}
use Rattle.device_model.proofs.NamedGates.{first_named-later}
use Rattle.bench_reader.proofs.DrivenSignals.{keys-seen, place-seen, place_found}
use Rattle.bench_reader.proofs.FirstFaults.{are_faultless, fault_many, fault_used, handed_driven, handed_read, is_made, is_read, only_memory, said-with_number, signals-named, the_device}
use Rattle.bench_reader.proofs.ParsedTokens.{fault_of_gate, inputs_fit, word_behind}
use Rattle.bench_reader.proofs.Words.{capitals-kind, capitals_from_lower, lower_from_capitals}

pub ruleset words_in_any_case = (bytes_eq-Decides, capitals_from_lower, lower_from_capitals)

pub ruleset words_of_gates = (capitals-kind, first_named-later)

pub ruleset names_counted = (inputs_fit, word_behind)

pub ruleset faults_of_gates = (fault_of_gate)

pub ruleset lines_counted = (length-all_lines)

pub ruleset signals_in_order = (keys-seen, length-map, place-seen, place_found)

pub ruleset faults_together = (fault_many, fault_used, handed_driven, is_made, said-with_number)

pub ruleset device_of_parts = (only_memory, signals-named, the_device)

pub ruleset statements_read = (are_faultless, handed_read, is_read, said-with_number)
