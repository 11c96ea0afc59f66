use Rattle.std.proofs.Common.{◌≡◌, map, ap, ◌∙◌, arith}
use Rattle.std.specs.List.{list_all}
use Rattle.std.proofs.lemmas.List.{take_all}
use Rattle.clause_encoder.specs.Clauses.{is_clause, all_hold}
use Rattle.clause_encoder.specs.Encoding.{tidy}
use Rattle.clause_encoder.specs.Replacing.{literal_for}
use Rattle.clause_encoder.proofs.OtherVariables.{list_from, clause-at, clause-some, replaced-few, replaced-clauses, replaced-truth}
use Rattle.clause_encoder.proofs.replacement.replaced.Goals as goal

pub push_replaced-requires-clause-some : goal.push_replaced-requires-clause-some
push_replaced-requires-clause-some c =
    clause-some c.args.cnf.now.vars c.clause.result.now
    (clause-at c.args.cnf.now c.loop-at.at c.clause.result.now c.len-at-end.ensures.valid (omega (arith, c.loop-at-test.true, c.len-at-end.ensures.len)) c.clause.ensures)

pub of_flat-requires-clause-few : goal.of_flat-requires-clause-few
of_flat-requires-clause-few c = grind (arith, take_all, replaced-few c.args.variables.now c.args.cnf.now.clauses, list_from)

pub of_flat-requires-clause-each : goal.of_flat-requires-clause-each
of_flat-requires-clause-each c =
    grind (arith, take_all, replaced-clauses c.args.variables.now c.args.vars c.requires.some c.requires.within c.args.cnf.now.clauses, list_from)

pub returns-clause-truth : goal.returns-clause-truth
returns-clause-truth c = λ a.
    let cnf = c.args.cnf.now in
    let made : c.of_flat.result.clauses ≡ tidy (map (map (literal_for c.args.variables.now)) cnf.clauses) = grind (arith, take_all) in
    ap (all_hold a) made
    ∙ replaced-truth c.args.variables.now c.args.vars c.requires.some c.requires.within a cnf.clauses (ap (λ n. list_all (is_clause n) cnf.clauses) c.requires.all ∙ (list_from cnf c.len-at-end.ensures.valid).each)
