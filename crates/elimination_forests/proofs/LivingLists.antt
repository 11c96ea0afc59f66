-- The laws of living lists: states tell them apart, those of a level lead to those of the next, and forks say where.

-- ---- states tell living lists apart

-- Each member of `living` is a living list of the level.
pub use Rattle.elimination_forests.proofs.LevelSteps.{living_are_living}
-- Two living lists of a level with equal states are equal.
pub use Rattle.elimination_forests.proofs.LevelSteps.{equal_states-equal_lists}
-- ---- the next level

-- After one more bit, what is left is what was left, without the clauses that the bit makes true.
pub use Rattle.elimination_forests.proofs.LevelSteps.{left-next}
-- What is dead stays dead.
pub use Rattle.elimination_forests.proofs.LevelSteps.{dead-next}
-- The living lists of the next level are the different living lists that one more bit leaves of those of this level.
pub use Rattle.elimination_forests.proofs.LevelSteps.{living_lists-next}
-- ---- forks

-- What a bit leaves of a living list has a place in the next level, unless it is dead.
pub use Rattle.elimination_forests.proofs.LevelLeads.{leads}
