use Rattle.std.proofs.Common.{◌≡◌, ℕ, get_or, set, ◌∙◌, arith, below_more}
use Rattle.std.proofs.lemmas.List.{get_or-set_same, get_or-set_other, get_or_default}
use Rattle.state_rules.specs.Bits.{bit_in}
use Rattle.state_rules.specs.declared.blame.Blame.TheVariants.{Inconsistent}
use Rattle.clause_answers.specs.inner.Reported.{noted}
use Rattle.clause_answers.proofs.blaming.note.Goals as goal

pub loop-part-preserved : goal.loop-part-preserved
loop-part-preserved c =
    let p : ℕ = c.loop-part.part in
    let list = c.loop-part.verdicts in
    record {
      done = below_more (λ i. get_or (set list p c.noted.result) i Inconsistent ≡ noted (get_or c.args.verdicts.now i Inconsistent) (bit_in c.args.bits.now i)) p
          (λ i lt. get_or-set_other list p i c.noted.result Inconsistent (λ e. absurd (omega arith)) ∙ c.loop-part.invariant.done i lt)
          (get_or-set_same list p c.noted.result Inconsistent (omega arith) ∙ (grind (arith, c.noted.ensures, get_or_default, c.loop-part.invariant.left p)));
      left = λ i le. get_or-set_other list p i c.noted.result Inconsistent (λ e. absurd (omega arith)) ∙ c.loop-part.invariant.left i (omega arith);
    }
