-- A basis has a system that an engine may answer about.
use Rattle.std.proofs.Common.{◌≡◌, ◌+◌, ◌^◌, ◌<◌, true, length, refl, arith}
use Rattle.session_rules.specs.GraphSystems.{Subject, HasLeastTexts}
use Rattle.engines.specs.Offered.{IsOffered}
use Rattle.graph_engine.specs.Served.{served_system}
use Rattle.graph_engine.specs.inner.Bases.{IsBasis}
use Rattle.graph_engine.proofs.GraphSpellings.{case-spelled, least-spelled}

pub is_offered : (subject : Subject) → IsBasis subject → IsOffered (served_system subject)
is_offered subject is =
    let few : length subject.graph.nodes + length subject.parts + 1 < 2 ^ 32 = omega (arith, is.few_nodes, is.few_parts) in
    let drawn : subject.extras.least ≡ true → HasLeastTexts subject = grind arith in
    record {
      parts_rise = is.parts_rise;
      wires_rise = is.wires_rise;
      few_parts = is.few_parts;
      few_wires = is.few_wires;
      costs = is.costs;
      has_dnnf = λ drawn. refl;
      has_least = λ told. refl;
      texts = record {
        dnnf = λ known fits. case-spelled subject is.valid is.vars few drawn known fits;
        least = λ told known fits. least-spelled subject is.valid is.vars few drawn known fits told;
      };
    }
