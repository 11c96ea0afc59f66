use Rattle.std.proofs.Common.{rules, arith}
use Rattle.text_rules.specs.Tokens.{tokens_left}
use Rattle.nnf_text.specs.inner.Reading.{node_with}
use Rattle.nnf_text.proofs.LineSteps.{line-child, line-right}
use Rattle.nnf_text.proofs.node_lines.read_node.Goals as goal

pub returns-then-not-are_earlier-clause-read : goal.returns-then-not-are_earlier-clause-read
returns-then-not-are_earlier-clause-read c =
    line-child c.args.vars c.args.line c.args.nodes.now (tokens_left c.args.words) (node_with c.node_of.new.kids.items c.in-Some.what) (grind (arith, c.in_ok-what.ensures)) (search rules)

pub returns-clause-read : goal.returns-clause-read
returns-clause-read c =
    rw (c.in_ok-push.ensures.ok, c.deref-2.ensures.value) (line-right c.args.vars c.args.line c.args.nodes.now (tokens_left c.args.words) (node_with c.node_of.new.kids.items c.in-Some.what) (grind (arith, c.in_ok-what.ensures)) (search rules) (search rules))
