use Rattle.std.proofs.Common.{ap, subst, length}
use Rattle.diag_edge.specs.Edge.{Puts}
use Rattle.nnf_text.specs.WrittenGraphs.{graph_text}
use Rattle.state_rules.specs.Graphs.{Graph}
use Rattle.minimiser.specs.Stored.{AreLeastCosts}
use Rattle.smooth_nnf.specs.Layouts.{Layout, all_lines}
use Rattle.smooth_nnf.proofs.WholeText.{laid}
use Rattle.smooth_nnf.proofs.writing.write_in.Goals as goal

pub returns-clause-bytes : goal.returns-clause-bytes
returns-clause-bytes g c =
    let asked = c.args.asked.now in
    let are = subst (λ (graph : Graph). AreLeastCosts graph asked.evidence.now asked.costs.now c.put_least_costs.new.values) c.view.ensures c.put_least_costs.ensures.values in
    let same = laid asked.graph.now asked.evidence.now asked.costs.now c.put_least_costs.new.values c.place_lines-count.new.lines are c.place_lines-count.ensures.places in
    subst (λ t. Puts (g.O.Sink.got c.args.out.now) (g.O.Sink.got c.put_lines.new.out) c.put_lines.result t)
    (ap (λ (l : Layout). graph_text (record { nodes = all_lines l; vars = length asked.costs.now })) same) c.put_lines.ensures.bytes
