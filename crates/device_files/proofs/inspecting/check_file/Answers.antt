use Rattle.device_files.specs.Refusals.{refusal_output}
use Rattle.device_files.proofs.ForestChoices.{by_any}
use Rattle.device_files.proofs.KeptRefusals.{found_told, refused_told}
use Rattle.device_files.proofs.inspecting.check_file.Goals as goal

pub returns-in-Ok-clause-said : goal.returns-in-Ok-clause-said
returns-in-Ok-clause-said g c = by_any (λ choose. found_told _ _ _ _ _ _ c.in-Ok.ensures.graph c.tell_graph.ensures.said)

pub returns-in-Err-clause-said : goal.returns-in-Err-clause-said
returns-in-Err-clause-said g c = by_any (λ choose. refused_told _ _ (refusal_output c.in-Err.refusal) _ _ _ c.in-Err.ensures.graph c.tell.ensures.said)
