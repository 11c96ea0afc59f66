use Rattle.std.proofs.Common.{◌≡◌, ◌<◌, ℕ, length, get_or, subst, sym, arith}
use Rattle.std.proofs.lemmas.List.{get_or_default}
use Rattle.clause_answers.proofs.StateWords.{words-said}
use Rattle.clause_answers.proofs.state_words.write.Goals as goal

pub returns-clause-said : goal.returns-clause-said
returns-clause-said c =
    words-said c.loop-place.state c.args.literals.now (omega arith) (λ i lt. c.loop-place.invariant.said i (omega (arith, lt)))

pub returns-clause-words : goal.returns-clause-words
returns-clause-words c = λ k d lt. subst (λ s. s < 2) (get_or_default c.loop-place.state k 0 d lt) (c.loop-place.invariant.words k (omega (arith, lt)))
