use Rattle.std.proofs.Common.{◌≡◌, ℕ, List, length, refl, ◌∙◌, ap}
use Rattle.std.proofs.lemmas.List.{length-replicate}
use Rattle.device_model.specs.Devices.{part_costs}
use Rattle.diag_cli.proofs.LoadedAdders.{summary_is}
use Rattle.diag_cli.proofs.summing.summary_by.Goals as goal

pub sample-found-requires-clause-serves : goal.sample-found-requires-clause-serves
sample-found-requires-clause-serves g c = rw c.note.ensures.minimised_graph (c.in_ok-memory.ensures.serves c.deref.result.now)

pub returns-clause-summary : goal.returns-clause-summary
returns-clause-summary g c =
    let device = c.args.device in
    let graph = c.args.graph.now in
    let places = c.args.places in
    let costs : List ℕ = c.deref.result.now in
    let priced : costs ≡ part_costs device = c.deref.ensures.value ∙ c.in_ok-costs.ensures.costs in
    let many : length costs ≡ length device.parts = ap length c.deref.ensures.value ∙ c.in_ok-costs.ensures.many in
    let long : length c.in_ok-memory.memory.words.items ≡ graph.vars = ap length c.in_ok-memory.ensures.words ∙ length-replicate graph.vars 0 in
    let noted = rw long at c.note.ensures.case in
    let found = c.sample-found.ensures in
    rw (c.states-first.ensures.first, c.states-first.ensures.last)
    (summary_is device graph places c.note.new.self.words.items costs c.requires.graph priced many noted c.args.clauses
    (record { parts = c.in_ok-parts.parts; wires = c.len-2.result; clauses = c.args.clauses; found = c.sample-found.result; first = c.sample-found.new.self.first; last = c.sample-found.new.self.last })
    c.in_ok-parts.wires.items c.in_ok-parts.ensures.parts c.in_ok-parts.ensures.wires (c.len-2.ensures ∙ c.in_ok-parts.wires.ok.0) refl found.least found.listed found.first found.last)
