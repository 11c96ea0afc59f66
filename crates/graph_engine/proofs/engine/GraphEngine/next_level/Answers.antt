use Rattle.std.proofs.Common.{◌≡◌, ◌∙◌, ℕ, List, Bor, Option, Some, get_or, sym, ap, subst}
use Rattle.std.specs.Prelude.{IfSome}
use Rattle.std.specs.Option.{option_map}
use Rattle.state_rules.specs.Levels.{levels, levels_rest}
use Rattle.conditioner.specs.Evidence.{bits_of}
use Rattle.level_lister.specs.Listing.{Kept, IsFor}
use Rattle.session_rules.specs.GraphSystems.{Subject}
use Rattle.engines.specs.declared.listed.Listed.TheVariants.{Levels}
use Rattle.engines.specs.Answers.{top_of, later_states}
use Rattle.graph_engine.specs.Served.{OnGraph, about_of}
use Rattle.graph_engine.specs.inner.Bases.{AreEnough, AreKnown}
use Rattle.graph_engine.proofs.Asked.{states-asked}
use Rattle.graph_engine.proofs.Written.{written_back}
use Rattle.graph_engine.proofs.Rooms.{carved_so, is_held, released_runs, released_words}
use Rattle.graph_engine.proofs.NextStates.{is_first}
use Rattle.graph_engine.proofs.engine.GraphEngine.next_level.Goals as goal

-- what is known of the lister of states
kept_so : (basis : Subject) (found : Option (Bor Kept)) (levels : Bor Kept) → found ≡ Some levels
    → IfSome found (λ (levels : Bor Kept). (basis.extras.levels ≡ Some levels.now.top) × IsFor basis.graph levels.now × (levels.now.costs ≡ basis.costs))
    → (basis.extras.levels ≡ Some levels.now.top) × IsFor basis.graph levels.now × (levels.now.costs ≡ basis.costs)
kept_so basis found levels is =
    subst (λ (o : Option (Bor Kept)). IfSome o (λ (levels : Bor Kept). (basis.extras.levels ≡ Some levels.now.top) × IsFor basis.graph levels.now × (levels.now.costs ≡ basis.costs))) is

pub invariant_of-self : goal.invariant_of-self
invariant_of-self g c =
    let before = c.self.inside.memory.room in
    let run = c.unwrap-run.result in
    let at = carved_so before c.carve.new.self c.level_room.result c.carve.result run c.unwrap-run.ensures c.carve.ensures.run in
    let known = written_back c.self.inside.memory.known.len c.next_in-step.new.evidence c.self.inside.memory.known.items (sym (c.next_in-step.auto.evidence ∙ c.deref_mut.ensures.len))
    ∙ (c.next_in-step.ensures.evidence ∙ c.deref_mut.ensures.value) in
    record {
      evidence = subst (AreKnown c.self.inside.basis) (sym known) c.self.invariant.evidence;
      one_a_part = c.self.invariant.one_a_part;
      one_a_node = c.self.invariant.one_a_node;
      enough = subst (AreEnough c.self.inside.basis) (sym (released_words before c.carve.new.self run c.self.invariant.unused at.1 c.release.new.self c.next_in-step.new.scratch c.release.ensures.words)) c.self.invariant.enough;
      unused = released_runs before c.carve.new.self run c.self.invariant.unused at.1 c.release.new.self c.release.ensures.runs;
      serves = c.self.invariant.serves;
    }

pub returns-clause-state : goal.returns-clause-state
returns-clause-state g c =
    let basis = c.self.inside.basis in
    let so = kept_so basis c.levels.result c.unwrap-levels.result c.unwrap-levels.ensures c.levels.ensures.some in
    let point = option_map (λ (old : Bor (List ℕ)). bits_of old.now) c.args.point in
    let states = states-asked basis c.self.inside.memory.known.items c.levels.ensures.basis c.self.invariant.evidence _ _ _ c.graph.ensures.graph c.deref_mut.ensures.value so.2 in
    let from = c.start_at-pointed.ensures.point in
    let top = ap top_of (sym so.0) in
    let old = bits_of c.start_at-pointed.new.state in
    is_first _ old _ (c.next_in-step.ensures.next
    ∙ ((λ i. get_or (levels_rest (so.2 i) (levels (so.2 i) (top i) (states i)) (from i)) 0 old)
    ∙ ap (λ (d : OnGraph). get_or (later_states (about_of d).system Levels (about_of d).known point) 0 old) c.self.view_is))

pub run_mut-requires : goal.run_mut-requires
run_mut-requires g c =
    let at = carved_so c.self.inside.memory.room c.carve.new.self c.level_room.result c.carve.result c.unwrap-run.result c.unwrap-run.ensures c.carve.ensures.run in
    is_held c.self.inside.memory.room c.carve.new.self c.unwrap-run.result c.self.invariant.unused at.1
