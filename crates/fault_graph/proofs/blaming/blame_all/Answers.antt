use Rattle.std.proofs.Common.{◌≡◌, [], length, get_or, ap, sym, ◌∙◌, arith, rules, replicate}
use Rattle.std.proofs.lemmas.List.{get_or-replicate, length-replicate}
use Rattle.std.proofs.lemmas.Option.{slice_get-get_or}
use Rattle.conditioner.specs.Evidence.{bits_of}
use Rattle.diagnosis_lister.specs.Listing.{fault_count}
use Rattle.state_rules.specs.declared.blame.Blame.TheVariants.{Inconsistent}
use Rattle.probe_report.proofs.Blames.{is-inconsistent}
use Rattle.fault_graph.proofs.PresumedParts.{first-passes-all, first-same, presumed-right}
use Rattle.fault_graph.proofs.blaming.blame_all.Goals as goal

pub returns-in_default-clause-blame : goal.returns-in_default-clause-blame
returns-in_default-clause-blame g c = λ part lt.
    let all : c.fill.new.self ≡ replicate (length c.args.verdicts.now) Inconsistent = c.fill.ensures.after (search rules) in
    let none = is-inconsistent c.args.graph.now c.args.evidence.now c.args.costs.now part (sym c.in_default.ensures.least) in
    rw (all, ← none) (grind (arith, get_or-replicate, length-replicate, slice_get-get_or (replicate (length c.args.verdicts.now) Inconsistent) part Inconsistent))

pub confirm-requires-clause-diagnosis : goal.confirm-requires-clause-diagnosis
confirm-requires-clause-diagnosis g c =
    rw (c.first_in.ensures.evidence, c.first_in.ensures.first)
    (first-passes-all c.args.graph.now c.args.evidence.now c.args.costs.now c.in-Some.fewest c.requires.parts (sym c.in-Some.ensures.least) (bits_of c.find_suspects.new.state))

pub confirm-requires-clause-presumed : goal.confirm-requires-clause-presumed
confirm-requires-clause-presumed g c = λ part lt.
    rw c.first_in.ensures.evidence
    (presumed-right c.args.graph.now c.args.evidence.now c.args.costs.now part c.in-Some.fewest lt c.requires.parts c.requires.long (sym c.in-Some.ensures.least)
    (get_or c.find_suspects.new.state part 0) (c.find_suspects.ensures.suspects part lt) c.presume.new.verdicts (c.presume.ensures part (omega (arith, c.requires.verdicts))))

pub returns-clause-few_steps : goal.returns-clause-few_steps
returns-clause-few_steps g c =
    let same = c.first_in.ensures.first ∙ first-same c.args.graph.now c.args.evidence.now c.args.costs.now c.in-Some.fewest c.requires.parts (sym c.in-Some.ensures.least) (bits_of c.find_suspects.new.state) [] in
    omega (arith, ap fault_count same, c.confirm.ensures.steps, c.first_in.ensures.few_steps, c.least_in.ensures.steps)
