use Rattle.std.specs.Prelude.{MatchOption}
use Rattle.std.proofs.Common.{◌≡◌, ◌+◌, ℕ, Option, Some, None, true, length, refl, ◌∙◌, ap, subst, arith}
use Rattle.state_rules.specs.Ranking.{cost, is_before}
use Rattle.conditioner.specs.Evidence.{bits_of}
use Rattle.diagnosis_lister.specs.inner.Fixing.{IsFirst, NoneAfter, fixed_bits}
use Rattle.diagnosis_lister.proofs.OpenMarks.{length-bits}
use Rattle.level_lister.specs.inner.Searching.{OfCost, FindsFirst, IsListed}
use Rattle.diagnosis_lister.proofs.Points.{leaves-first}
use Rattle.level_lister.proofs.StatesOfOneCost.{allows-cost}
use Rattle.level_lister.proofs.FirstByCost.{Later, first-same, later-dearer, dearer-later, none-too_dear, finds-alike}
use Rattle.level_lister.proofs.search.Search.find_after.Goals as goal

pub returns-then-own-top-clause-found : goal.returns-then-own-top-clause-found
returns-then-own-top-clause-found g c =
    let costs = c.args.self.now.levels.now.costs in
    let point = bits_of c.args.state.now in
    let own_is : c.state_cost-own.result ≡ cost costs point = c.state_cost-own.ensures ∙ ap (λ cs. cost cs point) c.costs.ensures in
    (refl, λ h l. none-too_dear c.args.self.now.graph.now c.args.evidence.now costs c.args.self.now.levels.now.top point h (omega (arith, own_is, c.if-own-top.true, c.top-top.ensures)) l)

pub returns-in-Some-clause-found : goal.returns-in-Some-clause-found
returns-in-Some-clause-found g c =
    let graph = c.args.self.now.graph.now in
    let costs = c.args.self.now.levels.now.costs in
    let evidence = c.args.evidence.now in
    let point = bits_of c.args.state.now in
    let own = c.state_cost-own.result in
    let leaves = c.in-Some.ensures.left in
    let h = fixed_bits (length costs) c.settle.new.evidence in
    let own_is : c.state_cost-own.result ≡ cost costs point = c.state_cost-own.ensures ∙ ap (λ cs. cost cs point) c.costs.ensures in
    let first : IsFirst (λ k. OfCost graph evidence costs (cost costs point) k × (is_before point k ≡ true)) h =
    subst (λ (n : ℕ). IsFirst (λ k. OfCost graph evidence costs n k × (is_before point k ≡ true)) h) own_is
    (leaves-first (allows-cost graph costs own c.args.self.now.for_graph.parts) evidence point c.requires.asked.long (length-bits c.args.state.now ∙ c.requires.state) c.leave.auto.evidence leaves h c.settle.ensures.first) in record {
      others = λ k g. c.settle.ensures.others k g ∙ leaves.follows.behind k (omega (arith, leaves.within, length-bits c.args.state.now, c.requires.state));
      first = first-same graph evidence costs c.args.self.now.levels.now.top point h (omega (arith, own_is, c.if-own-top.false, c.top-top.ensures)) first;
      cost_is = c.settle.ensures.first.meets.cost_is;
    }

pub returns-in-None-clause-found : goal.returns-in-None-clause-found
returns-in-None-clause-found g c =
    let graph = c.args.self.now.graph.now in
    let kept = c.args.self.now.levels.now in
    let evidence = c.args.evidence.now in
    let point = bits_of c.args.state.now in
    let own_is : c.state_cost-own.result ≡ cost kept.costs point = c.state_cost-own.ensures ∙ ap (λ cs. cost cs point) c.costs.ensures in
    let left = c.in-None.ensures.left in
    let none : NoneAfter (OfCost graph evidence kept.costs (cost kept.costs point)) point 0 = subst (λ n. NoneAfter (OfCost graph evidence kept.costs n) point 0) own_is left.1 in
    let found : FindsFirst graph evidence kept (cost kept.costs point + 1) c.find_from.new.evidence c.find_from.result =
    subst (λ n. FindsFirst graph evidence kept (n + 1) c.find_from.new.evidence c.find_from.result) own_is
    (subst (λ ws. FindsFirst graph ws kept (c.state_cost-own.result + 1) c.find_from.new.evidence c.find_from.result) left.0 c.find_from.ensures.found) in
    finds-alike evidence kept.costs (IsListed graph evidence kept.costs (cost kept.costs point + 1) kept.top) (Later graph evidence kept.costs kept.top point) c.find_from.new.evidence c.find_from.result
    (dearer-later graph evidence kept.costs kept.top point) (later-dearer graph evidence kept.costs kept.top point none) found

more : (o : Option ℕ) (P Q : Type 0) (R S : ℕ → Type 0) → (P → Q) → ((n : ℕ) → R n → S n) → MatchOption o P R → MatchOption o Q S
more None P Q R S to over m = to m
more (Some n) P Q R S to over m = over n m

pub returns-in-None-clause-steps : goal.returns-in-None-clause-steps
returns-in-None-clause-steps g c = more c.find_from.result _ _ _ _ (λ s. omega (arith, c.in-None.ensures.steps, s)) (λ n s wide search h. omega (arith, c.in-None.ensures.steps, s (omega (arith, wide)) search h)) c.find_from.ensures.steps

pub settle-requires-clause-begun : goal.settle-requires-clause-begun
settle-requires-clause-begun g c =
    let leaves = c.in-Some.ensures.left in
    record {
      listed = omega (arith, c.if-own-top.false, c.top-top.ensures);
      within = omega (arith, leaves.within, length-bits c.args.state.now, c.requires.state);
      front = λ k h. grind (arith, leaves.follows.front, leaves.ok);
      some = leaves.some;
    }
