use Rattle.std.proofs.Common.{◌∙◌, ℕ, List, length, replicate, ap, sym, subst, arith}
use Rattle.std.proofs.lemmas.List.{length-replicate}
use Rattle.state_rules.specs.Graphs.{Graph}
use Rattle.fault_graph.specs.Minimised.{Serves}
use Rattle.scratch_pool.specs.Regions.{Carved}
use Rattle.session_rules.proofs.CaseEvidence.{zeros-are}
use Rattle.graph_engine.specs.inner.Bases.{AreEnough, AreKnown}
use Rattle.graph_engine.proofs.memory.Memory.new.Goals as goal

pub returns : goal.returns
returns c =
    let basis = c.args.basis.now in
    let is = c.nodes.ensures.basis in
    let known = c.in_ok-zeros.ensures ∙ ap (λ n. replicate n 0) c.vars.ensures.vars in
    let state = c.in_ok-zeros-3.ensures ∙ ap (λ n. replicate n 0) (ap length c.parts.ensures.names) in
    record {
      evidence = subst (λ (words : List ℕ). AreKnown basis words) (sym known) (zeros-are (length basis.parts) (length basis.wires) basis.graph.vars is.vars);
      one_a_part = ap length state ∙ length-replicate (length basis.parts) 0;
      one_a_node = omega (arith, ap length c.in_ok-zeros-2.ensures ∙ length-replicate _ 0, c.nodes.ensures.nodes);
      enough = subst (AreEnough basis) (sym (ap (λ (r : Carved). length r.words) c.in_ok-new.ensures ∙ length-replicate c.most_room.result 0)) c.most_room.ensures.enough;
      unused = ap (λ (r : Carved). r.runs) c.in_ok-new.ensures;
      serves = subst (λ (graph : Graph). Serves graph basis.costs c.in_ok-new-2.field-0) c.graph.ensures.graph (c.in_ok-new-2.ensures.serves basis.costs);
    }
