use Rattle.std.proofs.Common.{◌≡◌, ℕ, length, ◌∙◌, sym, arith}
use Rattle.std.proofs.Common.{below_more}
use Rattle.state_rules.specs.Bits.{bit_in}
use Rattle.state_rules.proofs.Order.{same_bits}
use Rattle.conditioner.specs.Evidence.{bits_of}
use Rattle.clause_answers.specs.inner.Listed.{signs}
use Rattle.clause_answers.proofs.Prefix.{length-signs}
use Rattle.clause_answers.proofs.StateWords.{length-words, word-bit}
use Rattle.clause_answers.proofs.state_words.read.Goals as goal

pub loop-place-preserved : goal.loop-place-preserved
loop-place-preserved c = record {
  ordered = c.put.ensures.ordered c.loop-place.invariant.ordered;
  said = below_more (λ i. bit_in (signs c.put.new.literals) i ≡ bit_in (bits_of c.args.state.now) i) c.loop-place.place
      (λ i lt. c.put.ensures.front i lt ∙ c.loop-place.invariant.said i lt)
      (c.put.ensures.bit ∙ word-bit c.args.state.now c.loop-place.place (omega arith));
}

pub returns-clause-said : goal.returns-clause-said
returns-clause-said c = same_bits (signs c.loop-place.literals) (bits_of c.args.state.now)
    (length-signs c.loop-place.literals ∙ (grind (arith, length-words)))
    (λ i lt. c.loop-place.invariant.said i (omega (arith, lt, length-signs c.loop-place.literals)))
