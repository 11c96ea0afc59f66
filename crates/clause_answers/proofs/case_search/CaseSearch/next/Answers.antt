use Rattle.std.proofs.Common.{true, false, sym, arith}
use Rattle.std.specs.Option.{option_map}
use Rattle.conditioner.specs.Evidence.{bits_of}
use Rattle.clause_answers.proofs.Lists.{next-state, step-found, step-end, none-state}
use Rattle.clause_answers.proofs.case_search.CaseSearch.next.Goals as goal

pub returns-in-None-clause-next : goal.returns-in-None-clause-next
returns-in-None-clause-next c = none-state c.args.self.now (option_map (λ old. bits_of old.now) c.args.point) (bits_of c.args.state.now) (sym c.in-None.ensures.least)

pub returns-then-find_next-clause-step : goal.returns-then-find_next-clause-step
returns-then-find_next-clause-step c = step-found c.args.self.now c.parts-parts.ensures.within c.in-Some.cost (sym c.in-Some.ensures.least) (option_map (λ old. bits_of old.now) c.args.point) (bits_of c.args.state.now) (bits_of c.find_next.new.state) (rw (← c.least.ensures.same) c.if-find_next.ensures.found)

pub returns-then-find_next-clause-next : goal.returns-then-find_next-clause-next
returns-then-find_next-clause-next c = next-state c.args.self.now c.parts-parts.ensures.within c.in-Some.cost (sym c.in-Some.ensures.least) (option_map (λ old. bits_of old.now) c.args.point) true (bits_of c.args.state.now) (bits_of c.find_next.new.state) (rw (← c.least.ensures.same) c.if-find_next.ensures.found)

pub returns-else-find_next-clause-step : goal.returns-else-find_next-clause-step
returns-else-find_next-clause-step c = step-end c.args.self.now c.parts-parts.ensures.within c.in-Some.cost (sym c.in-Some.ensures.least) (option_map (λ old. bits_of old.now) c.args.point) (bits_of c.args.state.now) (bits_of c.find_next.new.state) (rw (← c.least.ensures.same) c.if-find_next.ensures.found)

pub returns-else-find_next-clause-next : goal.returns-else-find_next-clause-next
returns-else-find_next-clause-next c = next-state c.args.self.now c.parts-parts.ensures.within c.in-Some.cost (sym c.in-Some.ensures.least) (option_map (λ old. bits_of old.now) c.args.point) false (bits_of c.args.state.now) (bits_of c.find_next.new.state) (rw (← c.least.ensures.same) c.if-find_next.ensures.found)
