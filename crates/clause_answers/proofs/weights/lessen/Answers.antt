use Rattle.std.proofs.Common.{◌≡◌, ◌+◌, ◌-◌, refl, ap, ◌∙◌, arith}
use Rattle.std.proofs.lemmas.Int.{to_z-of_z}
use Rattle.clause_answers.proofs.Spread.{part-lessened}
use Rattle.clause_answers.proofs.weights.lessen.Goals as goal

pub returns-then-place-len-clause-lessened : goal.returns-then-place-len-clause-lessened
returns-then-place-len-clause-lessened c = λ e a k.
    let fits = c.ranges.literal in
    let is = simp to_z-of_z at (c.in-Some.ensures c.in-Some.place refl a) in
    grind (
      arith,
      c.take.ensures.taken e,
      part-lessened a c.in-Some.place c.args.amount c.args.weights.now.parts.items c.args.literal is (c.take.ensures.within e) (c.take.ensures.enough e),
    )

pub returns-else-place-vars-clause-lessened : goal.returns-else-place-vars-clause-lessened
returns-else-place-vars-clause-lessened c = λ e a k.
    let fits = c.ranges.literal in
    let is = simp to_z-of_z at (c.in-Some.ensures c.in-Some.place refl a) in
    let same : c.in-Some.place + 1 ≡ c.args.search.now.rules.cnf.vars + (c.in-Some.place - c.args.vars) + 1 = omega arith in
    omega (arith, c.lessen_bound.ensures.lessened e a c.args.literal k (is ∙ ap a same))
