-- A table of few clauses in words.
use Rattle.std.specs.Prelude.{◌≡◌, ◌<◌, not, List, map, length}
use Rattle.state_rules.specs.Bits.{row_number}
use Rattle.forest_states.specs.declared.transition_tables.ClauseTransition.{ClauseTransition}
use Rattle.forest_states.specs.declared.masks.Masks.{Masks}

pub record IsMasked (m : Masks) (table : List ClauseTransition) : Type 0 where
  pub fresh : m.fresh ≡ map (λ e. e.fresh) table
  pub kept : m.kept ≡ map (λ e. not e.ends) table
  pub zero : m.true_at_0 ≡ row_number (map (λ e. e.true_at_0) table)
  pub one : m.true_at_1 ≡ row_number (map (λ e. e.true_at_1) table)
  pub ends : m.ends ≡ row_number (map (λ e. e.ends) table)
  pub len : m.len ≡ length table

-- and a state is in one word
abbrev pub IsShort : Masks → List ClauseTransition → Type 0
IsShort m table = (length table < 64) × IsMasked m table
