-- Where the living lists of a level lead.
use Rattle.std.proofs.Common.{◌≡◌, ℕ, ◌+◌, ◌<◌, Bool, true, false, List, length, Some, None, refl, ap, sym, ◌∙◌, arith}
use Rattle.std.specs.Prelude.{if◌then◌else◌}
use Rattle.std.proofs.lemmas.Bool.{both_ways, false_from_ne_true}
use Rattle.state_rules.proofs.Bits.{pointwise-refl, pointwise-equal}
use Rattle.state_rules.proofs.Members.{any_from, any_in}
use Rattle.clause_encoder.specs.Clauses.{Clause}
use Rattle.elimination_forests.specs.Branches.{order, living, is_dead, same_list, branch, IsLiving}
use Rattle.elimination_forests.specs.Forests.{number_in}
use Rattle.elimination_forests.specs.Levels.{leads_to}
use Rattle.elimination_forests.proofs.FirstPlaces.{found-at, not-found}
use Rattle.elimination_forests.proofs.Lists.{is_among}
use Rattle.elimination_forests.proofs.LevelSteps.{living_are_living, living-in, living-next}

pub leads : (clauses : List Clause) (i : ℕ) (list : List Bool) (bit : Bool) → i < length (order clauses) → IsLiving clauses i list
    → leads_to clauses i list bit ≡ (if is_dead clauses (i + 1) (branch clauses i list bit) then None else Some (number_in (living clauses (i + 1)) (branch clauses i list bit)))
leads clauses i list bit low is = by (is_dead clauses (i + 1) next) refl where
  next : List Bool
  next = branch clauses i list bit

  by : (d : Bool) → is_dead clauses (i + 1) next ≡ d → leads_to clauses i list bit ≡ (if d then None else Some (number_in (living clauses (i + 1)) next))
  by true e = not-found (λ l. same_list l next) (living clauses (i + 1)) (false_from_ne_true (is_among (living clauses (i + 1)) next) (λ f.
      let found = any_from (λ l. same_list l next) (living clauses (i + 1)) f in
      both_ways (is_dead clauses (i + 1) next)
      (ap (is_dead clauses (i + 1)) (sym (pointwise-equal found.item next found.passes)) ∙ (living_are_living clauses (i + 1) found.item found.is_in).alive) e))
  by false e = grind (arith, found-at, any_in, living-in clauses (i + 1) next (living-next clauses i list bit low is e), pointwise-refl next)
