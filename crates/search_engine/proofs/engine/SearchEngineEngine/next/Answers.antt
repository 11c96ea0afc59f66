use Rattle.std.proofs.Common.{◌∙◌, ℕ, List, Bor, ap, sym, subst}
use Rattle.std.specs.Option.{option_map}
use Rattle.conditioner.specs.Evidence.{bits_of}
use Rattle.engines.specs.declared.listed.Listed.{Listed}
use Rattle.engines.specs.Answers.{IsFirst, later_states, next_after}
use Rattle.search_engine.specs.Searched.{about_of}
use Rattle.search_engine.specs.inner.Held.{of_step}
use Rattle.search_engine.proofs.Asked.{diagnosis-state, diagnosis-step, level-state}
use Rattle.search_engine.proofs.engine.SearchEngineEngine.next.Goals as goal

pub returns-in-Diagnoses-clause-next : goal.returns-in-Diagnoses-clause-next
returns-in-Diagnoses-clause-next c =
    let about = about_of c.args.self.now in
    c.next_of_step.ensures ∙ (ap of_step c.next.ensures.step ∙ (diagnosis-step _ _ c.self.inside.search _ _ c.self.invariant _ c.self.view_is _
    ∙ ap (λ (listed : Listed). next_after about.system listed about.known (option_map (λ (old : Bor (List ℕ)). bits_of old.now) c.args.point)) (sym c.in-Diagnoses.is)))

pub returns-in-Diagnoses-clause-state : goal.returns-in-Diagnoses-clause-state
returns-in-Diagnoses-clause-state c =
    let about = about_of c.args.self.now in
    subst (λ (listed : Listed). IsFirst (bits_of c.next.new.state) (later_states about.system listed about.known (option_map (λ (old : Bor (List ℕ)). bits_of old.now) c.args.point))) (sym c.in-Diagnoses.is)
    (diagnosis-state _ _ c.self.inside.search _ _ c.self.invariant _ c.self.view_is _ _ (bits_of c.fill.new.self) c.next.ensures.next)

pub returns-in-Levels-clause-state : goal.returns-in-Levels-clause-state
returns-in-Levels-clause-state c =
    let about = about_of c.args.self.now in
    subst (λ (listed : Listed). IsFirst (bits_of c.next_level.new.state) (later_states about.system listed about.known (option_map (λ (old : Bor (List ℕ)). bits_of old.now) c.args.point))) (sym c.in-Levels.is)
    (level-state _ _ c.self.inside.search _ _ c.self.invariant _ c.self.view_is _ c.unwrap-top.ensures _ _ (bits_of c.fill.new.self) c.next_level.ensures.next)
