use Rattle.branch_states.specs.declared.measuring.TheConstants.{BUDGET_LIMIT}
use Rattle.device_files.specs.Choices.{clauses_by}
use Rattle.device_files.specs.Inspecting.{planned}
use Rattle.device_files.specs.Refusals.{refusal_output}
use Rattle.device_files.proofs.ForestChoices.{by_any, by_same}
use Rattle.device_files.proofs.KeptRefusals.{refused_told, within_told, within_refused}
use Rattle.device_files.proofs.inspecting.plan_file.Goals as goal

pub returns-in-Err-clause-said : goal.returns-in-Err-clause-said
returns-in-Err-clause-said g c = by_any (λ choose. refused_told _ _ (refusal_output c.in-Err.refusal) _ _ _ c.in-Err.ensures c.tell.ensures.said)

pub returns-in-Ok-clauses_within-clause-said : goal.returns-in-Ok-clauses_within-clause-said
returns-in-Ok-clauses_within-clause-said g c =
    by_same c.in-Ok-clauses_within.ensures (λ choose is. within_told BUDGET_LIMIT (clauses_by c.args.narrow choose) planned _ _ _ _ _ _ c.in-Ok.ensures is c.tell_sizes.ensures.said)

pub returns-clause-said : goal.returns-clause-said
returns-clause-said g c =
    by_same c.in-Err-clauses_within.ensures (λ choose is.
    within_refused BUDGET_LIMIT (clauses_by c.args.narrow choose) planned _ _ (refusal_output c.in-Err-clauses_within.refusal) _ _ _ c.in-Ok.ensures is c.tell-in-Err-clauses_within.ensures.said)
