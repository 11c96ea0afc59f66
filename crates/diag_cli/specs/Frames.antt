-- What a run with `--frames` does: a netlist with flip-flops over several times.
use Rattle.std.specs.Prelude.{ℕ, List, length, Result, Ok, Err, codes}
use Rattle.std.specs.Result.{result_and, result_map_both}
use Rattle.device_model.specs.declared.limits.TheConstants.{PART_LIMIT, WIRE_LIMIT}
use Rattle.bench_reader.specs.declared.sequential.Sequential.{Sequential}
use Rattle.bench_reader.specs.SequentialNetlists.{sequential_netlist}
use Rattle.clause_encoder.specs.declared.limits.TheConstants.{CLAUSE_LIMIT}
use Rattle.clause_encoder.specs.Clauses.{ClauseList}
use Rattle.frame_unroller.specs.declared.unrolling.Unrolled.{Unrolled}
use Rattle.frame_unroller.specs.declared.unrolling.UnrollError.{UnrollError}
use Rattle.frame_unroller.specs.declared.unrolling.UnrollError.TheVariants.{TooManyParts, TooManyWires, TooManyClauses, Memory}
use Rattle.frame_unroller.specs.Unrolling.{unrolled}
use Rattle.diag_edge.specs.ErrorLines.{above_line}
use Rattle.device_files.specs.declared.status.Status.TheVariants.{Refused}
use Rattle.device_files.specs.Output.{Output, says, no_memory, result_and_then}
use Rattle.device_files.specs.Describing.{netlist_line, or_line}
use Rattle.diag_cli.specs.declared.words.ServeOptions.{ServeOptions}
use Rattle.device_files.specs.Choices.{Weighed}
use Rattle.device_files.specs.Weighing.{within}
use Rattle.diag_cli.specs.Besides.{in_few_bits}

-- the netlist of a file, or the output that refuses it
abbrev pub sequential_in : List ℕ → Result Sequential Output
sequential_in file = or_line netlist_line (sequential_netlist file)

-- the output for too many parts, wires or clauses at all times
abbrev pub not_unrolled : UnrollError → Output
not_unrolled (TooManyParts count) = says (above_line (codes "parts") count PART_LIMIT) Refused
not_unrolled (TooManyWires count) = says (above_line (codes "wires") count WIRE_LIMIT) Refused
not_unrolled (TooManyClauses count) = says (above_line (codes "clauses") count CLAUSE_LIMIT) Refused
not_unrolled Memory = no_memory

-- the clauses over all times, if their sum is within a budget
abbrev pub unrolled_within : ℕ → (ClauseList → Weighed) → Result Unrolled UnrollError → Result Weighed Output
unrolled_within budget weigh (Ok made) = within budget (Ok (weigh made.cnf))
unrolled_within budget weigh (Err error) = Err (not_unrolled error)

-- the netlist, if it can be unrolled
abbrev pub if_unrolls : ℕ → Result Sequential Output → Result Sequential Output
if_unrolls frames found = result_and_then (λ seq. result_and (result_map_both (λ made. made) not_unrolled (unrolled seq frames)) (Ok seq)) found

-- the netlist, if it is unrolled within the budget and the extras take few bits
abbrev pub if_unrolled : ℕ → ServeOptions → (ClauseList → Weighed) → Result Sequential Output → Result Sequential Output
if_unrolled frames options weigh found = result_and_then (λ seq.
    result_and (in_few_bits options.extras (length seq.device.parts) (unrolled_within options.budget weigh (unrolled seq frames))) (Ok seq)) found
