use Rattle.std.proofs.Common.{None, Some, sym, arith}
use Rattle.std.specs.Option.{option_map}
use Rattle.conditioner.specs.Evidence.{bits_of}
use Rattle.clause_answers.proofs.RisingStates.{next-level, step-end, step-found, none-level}
use Rattle.clause_answers.proofs.case_search.CaseSearch.next_level.Goals as goal

pub returns-in-None-clause-next : goal.returns-in-None-clause-next
returns-in-None-clause-next c = none-level c.args.self.now c.args.top (option_map (λ old. bits_of old.now) c.args.point) (bits_of c.args.state.now) (sym c.in-None.ensures.least)

pub returns-in-None-find_later-clause-step : goal.returns-in-None-find_later-clause-step
returns-in-None-find_later-clause-step c = step-end c.args.self.now c.parts-parts.ensures.within c.args.top (option_map (λ old. bits_of old.now) c.args.point) c.in-Some.least (bits_of c.args.state.now) (bits_of c.find_later.new.state) (sym c.in-Some.ensures.least) (rw (← c.least.ensures.same) c.in-None-find_later.ensures.found)

pub returns-in-None-find_later-clause-next : goal.returns-in-None-find_later-clause-next
returns-in-None-find_later-clause-next c = next-level c.args.self.now c.parts-parts.ensures.within c.args.top (option_map (λ old. bits_of old.now) c.args.point) None (bits_of c.args.state.now) (bits_of c.find_later.new.state) (rw (← c.least.ensures.same) c.in-None-find_later.ensures.found)

pub returns-in-Some-find_later-clause-step : goal.returns-in-Some-find_later-clause-step
returns-in-Some-find_later-clause-step c = step-found c.args.self.now c.parts-parts.ensures.within c.args.top (option_map (λ old. bits_of old.now) c.args.point) c.in-Some-find_later.cost (bits_of c.args.state.now) (bits_of c.find_later.new.state) (rw (← c.least.ensures.same) c.in-Some-find_later.ensures.found)

pub returns-in-Some-find_later-clause-next : goal.returns-in-Some-find_later-clause-next
returns-in-Some-find_later-clause-next c = next-level c.args.self.now c.parts-parts.ensures.within c.args.top (option_map (λ old. bits_of old.now) c.args.point) (Some c.in-Some-find_later.cost) (bits_of c.args.state.now) (bits_of c.find_later.new.state) (rw (← c.least.ensures.same) c.in-Some-find_later.ensures.found)
