use Rattle.std.proofs.Common.{◌∙◌, ◌<◌, sym, subst}
use Rattle.std.specs.Prelude.{All}
use Rattle.search_engine.proofs.TakenWords.{evidence-fits, taken-searched, taken-words, written}
use Rattle.search_engine.proofs.engine.SearchEngineEngine.take_up.Goals as goal

pub take_up-requires-clause-words : goal.take_up-requires-clause-words
take_up-requires-clause-words c =
    let items = c.self.inside.known.items in
    let evidence = c.args.evidence.now in
    let is = evidence-fits _ _ c.self.inside.search _ items c.self.invariant evidence _ c.self.view_is c.requires in
    let known = written c.self.inside.known.len c.put_front.new.words evidence c.deref_mut.result.now items _ (sym (c.put_front.auto.words ∙ c.deref_mut.ensures.len)) c.put_front.ensures c.deref_mut.ensures.value is.long in
    subst (All (λ w. w < 3)) (sym c.deref.ensures.value) (taken-words _ _ c.self.inside.search _ items c.self.invariant evidence is _ known).small

pub invariant_of-self : goal.invariant_of-self
invariant_of-self c =
    let items = c.self.inside.known.items in
    let evidence = c.args.evidence.now in
    let is = evidence-fits _ _ c.self.inside.search _ items c.self.invariant evidence _ c.self.view_is c.requires in
    let known = written c.self.inside.known.len c.put_front.new.words evidence c.deref_mut.result.now items _ (sym (c.put_front.auto.words ∙ c.deref_mut.ensures.len)) c.put_front.ensures c.deref_mut.ensures.value is.long in
    taken-searched _ _ c.self.inside.search _ items c.self.invariant evidence is _ known _ c.deref.ensures.value _ c.take_up.ensures
