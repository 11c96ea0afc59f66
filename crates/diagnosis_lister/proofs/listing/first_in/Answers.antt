use Rattle.diagnosis_lister.proofs.Faults.{faults-few}
use Rattle.std.proofs.lemmas.Grind.{elements}
use Rattle.std.proofs.Common.{◌≡◌, length, arith, rules}
use Rattle.conditioner.specs.Evidence.{bits_of}
use Rattle.diagnosis_lister.proofs.FirstAndNext.{first-diagnosis, none-first, first-passes}
use Rattle.diagnosis_lister.proofs.listing.first_in.Goals as goal

pub returns-in_err-fewest-clause-first : goal.returns-in_err-fewest-clause-first
returns-in_err-fewest-clause-first g c = grind (arith, none-first c.args.graph.now c.args.evidence.now c.args.costs.now (bits_of c.args.state.now))

pub returns-clause-first : goal.returns-clause-first
returns-clause-first g c =
    let e : length c.mark.new.state ≡ length c.args.costs.now = omega arith in
    rw c.write_back.ensures.bits (rw e (search (rules, first-diagnosis, first-passes)))

pub returns-clause-evidence : goal.returns-clause-evidence
returns-clause-evidence g c = grind (arith, elements)

pub returns-clause-few_steps : goal.returns-clause-few_steps
returns-clause-few_steps g c = grind arith

pub returns-clause-steps : goal.returns-clause-steps
returns-clause-steps g c = grind (arith, faults-few)
