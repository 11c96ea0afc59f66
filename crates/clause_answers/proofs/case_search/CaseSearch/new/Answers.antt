use Rattle.std.proofs.Common.{◌≡◌, Bool, List, ◌++◌, length, take, drop, arith}
use Rattle.std.proofs.lemmas.Grind.{common_steps}
use Rattle.clause_answers.proofs.Kept.{few_parts}
use Rattle.clause_answers.proofs.case_search.CaseSearch.new.Goals as goal

pub invariant_of-result : goal.invariant_of-result
invariant_of-result c =
    let oks : List Bool = c.seek.new.oks in
    let tried : List Bool = c.seek.new.tried in
    let same : take c.in_ok-oks.oks.len (oks ++ drop (length oks) c.in_ok-oks.oks.items) ≡ oks = grind (arith, common_steps) in
    let same_too : take c.in_ok-tried.tried.len (tried ++ drop (length tried) c.in_ok-tried.tried.items) ≡ tried = grind (arith, common_steps) in
    record {
      right = rw same c.seek.ensures.oks;
      long_oks = rw same (grind (arith, common_steps, c.seek.ensures.range));
      long_tried = rw same_too (grind (arith, common_steps, c.seek.ensures.range));
      long_literals = grind (arith, common_steps, c.seek.ensures.range);
      few = grind (arith, c.seek.ensures.range, c.requires.parts, few_parts c.args.cnf.now);
      known_least = λ known e. absurd (cc);
    }
