use Rattle.std.proofs.Common.{◌≡◌, ◌<◌, ◌∷◌, [], true, map, length, ap, sym, ◌∙◌, subst, arith}
use Rattle.std.specs.Prelude.{IfSome, slice_index}
use Rattle.state_rules.specs.Graphs.{Node, node_fits}
use Rattle.state_rules.specs.declared.nodes.NodeKind.TheVariants.{And}
use Rattle.state_rules.proofs.NodeValues.{below-each}
use Rattle.state_rules.proofs.NodesFit.{fits}
use Rattle.minimiser.specs.Costs.{cost_at, cost_by, node_cost, known_at, part_cost, sum_costs}
use Rattle.state_rules.specs.Numbers.{cost_in}
use Rattle.minimiser.proofs.Sums.{two_children}
use Rattle.minimiser.proofs.pass.node_value.Goals as goal
use Rattle.minimiser.proofs.pass.node_value.Goals.{In-len2}

-- the costs of its two children
both : (c : In-len2) → map (cost_at (map cost_in c.args.values.now)) c.node.inside.kids.now
    ≡ cost_in (slice_index c.args.values.now (slice_index c.node.inside.kids.now 0)) ∷ cost_in (slice_index c.args.values.now (slice_index c.node.inside.kids.now 1)) ∷ []
both c =
    let fit = subst (λ (n : Node). node_fits (length c.args.evidence.now) (length c.args.values.now) n ≡ true) (sym c.node.view_is) c.requires.fits in
    two_children c.args.values.now c.node.inside.kids.now (omega (arith, c.in-len2.len_at_least, c.in-len2.len_below))
    (below-each (length c.args.values.now) c.node.inside.kids.now (fits (length c.args.evidence.now) (length c.args.values.now) _ fit).below)

pub pair_value-requires-clause-small : goal.pair_value-requires-clause-small
pair_value-requires-clause-small c and =
    let is : c.args.node.now ≡ record { what = And; kids = c.node.inside.kids.now } = sym c.node.view_is ∙ (λ i. record { what = and i; kids = c.node.inside.kids.now }) in
    subst (λ cs. IfSome (sum_costs cs) (λ n. n < 2147483647)) (both (goal.at.pair_value-requires-clause-small c).In-len2)
    (subst (λ (n : Node). IfSome (node_cost (known_at c.args.evidence.now) (part_cost c.args.costs.now) n (map cost_in c.args.values.now)) (λ n. n < 2147483647)) is
    (c.requires.small (ap (λ (n : Node). n.what) is)))

pub returns-in-len2 : goal.returns-in-len2
returns-in-len2 c =
    c.pair_value.ensures (known_at c.args.evidence.now) (part_cost c.args.costs.now)
    ∙ ap (cost_by (known_at c.args.evidence.now) (part_cost c.args.costs.now) c.node.inside.what) (sym (both (goal.at.returns-in-len2 c).In-len2))
    ∙ ap (λ (n : Node). node_cost (known_at c.args.evidence.now) (part_cost c.args.costs.now) n (map cost_in c.args.values.now)) c.node.view_is
