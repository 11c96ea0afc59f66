-- The bits that the extras take.
use Rattle.std.specs.Prelude.{ℕ, Bool, List, Option, codes, if◌then◌else◌}
use Rattle.std.specs.Option.{option_map_or}
use Rattle.diag_edge.specs.ErrorLines.{above_line}
use Rattle.dnnf_compiler.specs.Compiled.{most_nodes}
use Rattle.level_lister.specs.Bits.{level_bits}
use Rattle.smooth_nnf.specs.Sizes.{drawing_bits}
use Rattle.graph_engine.specs.declared.limits.TheConstants.{SERVED_BITS}

-- the bits of states by rising cost, over the greatest graph that is compiled from clauses of this sum
abbrev pub levels_bits : (sum vars parts : ℕ) → Option ℕ → ℕ
levels_bits sum vars parts levels = option_map_or (level_bits sum vars parts) levels 0

-- the bits of the graph of the diagnoses
abbrev pub least_bits : (sum vars parts : ℕ) → Bool → ℕ
least_bits sum vars parts least = if least then drawing_bits (most_nodes sum vars) parts else 0

abbrev pub bits_line : ℕ → List ℕ
bits_line bits = above_line (codes "bits") bits SERVED_BITS
