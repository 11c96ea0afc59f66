use Rattle.std.proofs.Common.{◌≡◌, ℕ, Bool, ◌+◌, ◌-◌, List, ◌∷◌, map, length, take, drop, get_or, ap, sym, ◌∙◌, arith}
use Rattle.std.proofs.lemmas.List.{length-drop, take_all}
use Rattle.clause_encoder.specs.Clauses.{Clause}
use Rattle.elimination_forests.specs.declared.steps.Step.{Step}
use Rattle.elimination_forests.specs.Forests.{has_way}
use Rattle.forest_states.specs.inner.Descents.{Stand, or_first, step_at, forks_below}
use Rattle.forest_states.proofs.descent.Frontier.next_place.Goals as goal

below-is : (clauses : List Clause) (of : List (List ℕ)) (seen : List Bool) (numbers : List ℕ) (steps : List Step) (at : ℕ) (s t : Stand) (more stands : List Stand) (before : List Stand) → s ∷ more ≡ or_first before → t ∷ stands ≡ or_first before
    → forks_below clauses of seen numbers (step_at steps at) (take (length steps - (at + 1)) (drop (at + 1) steps)) s ≡ forks_below clauses of seen numbers (step_at steps at) (drop (at + 1) steps) t
below-is clauses of seen numbers steps at s t more stands before e h = λ j. forks_below clauses of seen numbers (step_at steps at) (rest_is j) (ap (λ ss. get_or ss 0 s) (e ∙ sym h) j) where
  rest_is : take (length steps - (at + 1)) (drop (at + 1) steps) ≡ drop (at + 1) steps
  rest_is = take_all (length steps - (at + 1)) (drop (at + 1) steps) (omega (arith, length-drop (at + 1) steps))

pub returns-clause-forks : goal.returns-clause-forks
returns-clause-forks c s stands h keep = c.in_ok-leads.ensures.forks keep ∙ below-is c.args.cnf.now.clauses (map (λ v. v.items) c.args.of.now) _ _ c.args.steps.now c.args.at _ s _ stands _ c.in_ok-spot.ensures h

pub returns-clause-way : goal.returns-clause-way
returns-clause-way c s stands h = c.in_ok-leads.ensures.way ∙ ap has_way (below-is c.args.cnf.now.clauses (map (λ v. v.items) c.args.of.now) _ _ c.args.steps.now c.args.at _ s _ stands _ c.in_ok-spot.ensures h)
