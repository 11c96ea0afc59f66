-- In which diagnoses a part is faulty.
use Rattle.std.proofs.Common.{◌≡◌, ℕ, ◌<◌, ◌≤◌, Bool, true, false, not, ◌&&◌, List, [], length, Some, None, arith}
use Rattle.state_rules.specs.Bits.{bit_in, same_bit}
use Rattle.state_rules.specs.Ranking.{least, passing}
use Rattle.state_rules.specs.Graphs.{Graph}
use Rattle.conditioner.specs.Models.{has_model, fits_evidence, models, least_under, diagnoses_under}
use Rattle.minimiser.specs.LeastStates.{ModelWithin}
use Rattle.state_rules.proofs.Diagnoses.{least-none}
use Rattle.state_rules.proofs.Verdicts.{verdict-never, verdict-always, verdict-sometimes}
use Rattle.minimiser.proofs.Models.{LeastIs, least-some, diagnosis-in, diagnosis-out}
use Rattle.state_rules.specs.declared.blame.Blame.TheVariants.{Always, Sometimes, Never, Inconsistent}
use Rattle.probe_report.specs.Verdicts.{blame_of}
use Rattle.probe_report.proofs.ModelsWithBit.{bit-out, bit-in}

module _ (graph : Graph) (evidence costs : List ℕ) (i most : ℕ) (lt : i < length costs) (within : length costs ≤ graph.vars) (e : LeastIs graph costs evidence most) where
  abbrev ds : List (List Bool)
  ds = diagnoses_under graph evidence costs

  abbrev faulty : List Bool → Bool
  faulty state = not (bit_in state i)

  -- if it is ok in all, or faulty in all
  pub all-ok : ((h : List Bool) → ModelWithin graph evidence costs most h → bit_in h i ≡ true) → Never ≡ blame_of graph evidence costs i
  all-ok all =
      let some = least-some graph costs within evidence most e in
      grind (arith, verdict-never, diagnosis-in, diagnosis-out)

  pub all-faulty : ((h : List Bool) → ModelWithin graph evidence costs most h → bit_in h i ≡ false) → Always ≡ blame_of graph evidence costs i
  all-faulty all =
      let some = least-some graph costs within evidence most e in
      grind (arith, verdict-always, diagnosis-in, diagnosis-out)

  pub some-differ : (h k : List Bool) → ModelWithin graph evidence costs most h → ModelWithin graph evidence costs most k → bit_in h i ≡ false → bit_in k i ≡ true → Sometimes ≡ blame_of graph evidence costs i
  some-differ h k p q a b = grind (arith, verdict-sometimes, diagnosis-in)

  abbrev HasLeast : Bool → Type 0
  HasLeast bit = least costs (passing (length costs) (has_model graph (λ bits. fits_evidence evidence bits && same_bit bit (bit_in bits i)) (length costs))) ≡ Some most

  pub is-never : (HasLeast false → ⊥) → Never ≡ blame_of graph evidence costs i
  is-never none = all-ok (λ h p. grind (arith, bit-in))

  pub is-always : (HasLeast true → ⊥) → Always ≡ blame_of graph evidence costs i
  is-always none = all-faulty (λ h p. grind (arith, bit-in))

  pub is-sometimes : HasLeast false → HasLeast true → Sometimes ≡ blame_of graph evidence costs i
  is-sometimes has other =
      let s = bit-out graph evidence costs i false lt most has in let t = bit-out graph evidence costs i true lt most other in grind (arith, some-differ)

pub is-inconsistent : (graph : Graph) (evidence costs : List ℕ) (i : ℕ) → least_under graph evidence costs ≡ None → Inconsistent ≡ blame_of graph evidence costs i
is-inconsistent graph evidence costs i e = simp (least-none costs (models graph evidence (length costs)) e)
