use Rattle.std.proofs.Common.{◌≡◌, ◌-◌, ◌<◌, ◌≤◌, [], length, All, get_or}
use Rattle.conditioner.specs.Models.{diagnoses_under}
use Rattle.conditioner.specs.Evidence.{bits_of}
use Rattle.fault_graph.specs.Minimised.{Serves}
use Rattle.adder_load.proofs.sampling.list_on.Given as goal

-- `count` are listed, and the last of them is the state
abbrev pub invariant-loop-count : goal.invariant-loop-count
invariant-loop-count g l =
    let ds = diagnoses_under l.fn.graph l.fn.evidence l.fn.costs in
    record {
      evidence : l.evidence ≡ l.fn.evidence;
      state_words : All (λ s. s < 2) l.state;
      some : 1 ≤ l.count;
      there : l.count ≤ length ds;
      last : bits_of l.state ≡ get_or ds (l.count - 1) [];
      serves : Serves l.fn.graph l.fn.costs l.minimised_graph;
    }
