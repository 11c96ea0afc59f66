-- Worked rows: words of cases, and sessions over the graph of one buffer. Their check computes both sides.
use Rattle.std.proofs.Common.{◌≡◌, true, false, [], ◌∷◌, map, Some, None, refl}
use Rattle.std.specs.Prelude.{codes}
use Rattle.std.specs.Fmt.{digits}
use Rattle.state_rules.specs.declared.nodes.NodeKind.TheVariants.{And, Or}
use Rattle.state_rules.specs.Graphs.{Graph, literal_node}
use Rattle.state_rules.specs.GraphsOver.{holds_for}
use Rattle.device_model.specs.declared.gates.Kind.TheVariants.{Buff}
use Rattle.device_model.specs.Devices.{Device}
use Rattle.conditioner.specs.Models.{models}
use Rattle.session_rules.specs.Items.{line, Projected}
use Rattle.session_rules.specs.Sessions.{replies}
use Rattle.session_rules.specs.GraphSystems.{case_evidence, compiled_system}

-- the part is held faulty, the wires are seen as 0 and 1, and two more variables are inner ones
words_of_both_bits : case_evidence 5 (record { seen = Some false ∷ Some true ∷ []; held = Some false ∷ [] }) ≡ 2 ∷ 2 ∷ 1 ∷ 0 ∷ 0 ∷ []
words_of_both_bits = refl

-- of two parts the second is held ok, and one of three wires is seen
words_of_what_is_open : case_evidence 5 (record { seen = None ∷ Some true ∷ None ∷ []; held = None ∷ Some true ∷ [] }) ≡ 0 ∷ 1 ∷ 0 ∷ 1 ∷ 0 ∷ []
words_of_what_is_open = refl

-- ---- b = BUFF(a)

abbrev buffer : Device
buffer = record {
  parts = record { name = codes "b"; kind = Buff; ports = 0 ∷ 1 ∷ [] } ∷ [];
  wires = codes "a" ∷ codes "b" ∷ [];
  tables = [];
}

-- the part is faulty, or its two wires are the same; the fourth variable occurs nowhere
abbrev graph : Graph
graph = record {
  nodes = literal_node 1 false
      ∷ literal_node 2 true ∷ literal_node 3 true ∷ record { what = And; kids = 1 ∷ 2 ∷ [] }
      ∷ literal_node 2 false ∷ literal_node 3 false ∷ record { what = And; kids = 4 ∷ 5 ∷ [] }
      ∷ record { what = Or; kids = 0 ∷ 3 ∷ 6 ∷ [] } ∷ [];
  vars = 4;
}

-- an ok buffer allows equal bits alone, a faulty one all
equal_bits : holds_for graph (true ∷ []) (true ∷ true ∷ []) ≡ true
equal_bits = refl

unequal_bits : holds_for graph (true ∷ []) (true ∷ false ∷ []) ≡ false
unequal_bits = refl

a_faulty_buffer : holds_for graph (false ∷ []) (true ∷ false ∷ []) ≡ true
a_faulty_buffer = refl

-- if nothing is seen both states agree; if the wires differ, the faulty one alone
all_models : models graph (0 ∷ 0 ∷ 0 ∷ 0 ∷ []) 1 ≡ (false ∷ []) ∷ (true ∷ []) ∷ []
all_models = refl

faulty_models : models graph (0 ∷ 2 ∷ 1 ∷ 0 ∷ []) 1 ≡ (false ∷ []) ∷ []
faulty_models = refl

-- if the buffer is then held ok, none
no_models : models graph (1 ∷ 2 ∷ 1 ∷ 0 ∷ []) 1 ≡ []
no_models = refl

one_fault : replies (compiled_system buffer graph) 16 [] (map codes ("open S" ∷ "see S a=0" ∷ "min S" ∷ "probe S b" ∷ "see S b=1" ∷ "min S" ∷ "dnnf S" ∷ "hold S b=ok" ∷ "min S" ∷ []))
    ≡ line (codes "S open" ∷ []) ∷ line (codes "S ok" ∷ []) ∷ line (codes "S min 0" ∷ []) ∷ line (codes "S probe b 0 1" ∷ []) ∷ line (codes "S ok" ∷ []) ∷ line (codes "S min 1 b" ∷ [])
    ∷ line (codes "S dnnf" ∷ []) ∷ Projected 1 ((false ∷ []) ∷ []) ∷ line (codes "S ok" ∷ []) ∷ line (codes "S inconsistent" ∷ []) ∷ []
unfolding digits
one_fault = refl
