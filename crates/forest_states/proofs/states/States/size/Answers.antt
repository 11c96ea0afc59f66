use Rattle.std.proofs.Common.{length, sym, ◌∙◌, ap}
use Rattle.std.specs.Prelude.{◌==◌}
use Rattle.std.specs.List.{list_all}
use Rattle.forest_states.specs.inner.KeptStates.{kept_words}
use Rattle.forest_states.proofs.KeptStates.{all-long}
use Rattle.forest_states.proofs.states.States.size.Goals as goal

pub returns-clause-all : goal.returns-clause-all
returns-clause-all c = ap (λ s. list_all (λ l. length l == s.size) s.lists) (sym c.self.view_is) ∙ all-long c.self.inside.size (kept_words c.self.inside.kept)
