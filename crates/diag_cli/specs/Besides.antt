-- The bits that the extras (`--levels`, `--least`) may take.
use Rattle.std.specs.Prelude.{ℕ, Result, Ok, Err, codes, nat_lt, if◌then◌else◌}
use Rattle.std.specs.Option.{option_map_or}
use Rattle.state_rules.specs.declared.extras.Extras.{Extras}
use Rattle.diag_edge.specs.ErrorLines.{above_line}
use Rattle.dnnf_compiler.specs.Compiled.{most_nodes}
use Rattle.level_lister.specs.Bits.{level_bits}
use Rattle.smooth_nnf.specs.Sizes.{drawing_bits}
use Rattle.graph_engine.specs.declared.limits.TheConstants.{SERVED_BITS}
use Rattle.device_files.specs.declared.status.Status.TheVariants.{Refused}
use Rattle.device_files.specs.Choices.{Weighed}
use Rattle.device_files.specs.Output.{Output, says, result_and_then}

-- too many bits are refused
abbrev pub if_few : ℕ → Result Weighed Output → Result Weighed Output
if_few bits other = if nat_lt SERVED_BITS bits then Err (says (above_line (codes "bits") bits SERVED_BITS) Refused) else other

-- The clauses over `parts` parts, if the extras take few bits over the greatest graph that is compiled from clauses of their sum: first
-- states by rising cost, then the graph of the diagnoses.
abbrev pub in_few_bits : Extras → ℕ → Result Weighed Output → Result Weighed Output
in_few_bits extras parts found = result_and_then (λ weighed.
    if_few (option_map_or (level_bits weighed.sum weighed.list.vars parts) extras.levels 0)
    (if_few (if extras.least then drawing_bits (most_nodes weighed.sum weighed.list.vars) parts else 0) (Ok weighed))) found
