-- What was minimised last, and what it says of the graph.
use Rattle.std.proofs.Common.{◌≡◌, ℕ, Bool, true, false, List, Option, Some, None, [], ◌∷◌, length, refl, sym, subst, arith}
use Rattle.std.specs.Prelude.{is_some, IsSomeAnd, IfSome}
use Rattle.state_rules.specs.Ranking.{least}
use Rattle.state_rules.specs.Graphs.{Graph}
use Rattle.conditioner.specs.Models.{models, least_under}
use Rattle.fault_graph.specs.Minimised.{Last, Kept, IsOf, Serves, IsMinimised}

-- if something was minimised under the evidence, some state agrees with it
pub known-some : (graph : Graph) (costs evidence : List ℕ) (kept : Kept) → Serves graph costs kept → IsOf evidence kept → true ≡ is_some (least_under graph evidence costs)
known-some graph costs evidence kept serves same = grind arith

-- what was minimised last under the evidence is of the graph
pub last-minimised : (graph : Graph) (costs evidence : List ℕ) (kept : Kept) (small : Graph) → Serves graph costs kept → IsOf evidence kept → IfSome kept.last (λ (last : Last). small ≡ last.small) → IsMinimised graph evidence costs small
last-minimised graph costs evidence kept small serves same is = by_last kept.last refl same is where
  by_last : (o : Option Last) → kept.last ≡ o → IsSomeAnd o (λ (last : Last). last.evidence ≡ evidence) → IfSome o (λ (last : Last). small ≡ last.small) → IsMinimised graph evidence costs small
  by_last None e s i = absurd s
  by_last (Some last) e s i = subst (IsMinimised graph evidence costs) (sym i) (subst (λ ws. IsMinimised graph ws costs last.small) s (serves.minimised last e))

-- if no state agrees, there is no least cost, and no diagnosis
none-is : (costs : List ℕ) (hs : List (List Bool)) → false ≡ is_some (least costs hs) → hs ≡ []
none-is costs [] e = refl
none-is costs (h ∷ hs) e = grind arith

pub no-models : (graph : Graph) (evidence costs : List ℕ) → false ≡ is_some (least_under graph evidence costs) → [] ≡ models graph evidence (length costs)
no-models graph evidence costs e = sym (none-is costs (models graph evidence (length costs)) e)
