-- What a literal becomes: when it is true, which variables it mentions, and that it fits.
use Rattle.std.proofs.Common.{◌≡◌, ℕ, suc, ◌-◌, ◌≤◌, Bool, true, false, cond, ◌==◌, ◌&&◌, List, [], length, Option, Some, None, refl, sym, ap, ◌∙◌, arith}
use Rattle.std.specs.Prelude.{nat_lt, nat_le}
use Rattle.std.proofs.lemmas.Bool.{and_parts, and_from, eqb-true, le-leb}
use Rattle.state_rules.specs.Bits.{same_bit}
use Rattle.state_rules.specs.Assignments.{Assignment}
use Rattle.state_rules.specs.Cases.{agrees_at}
use Rattle.state_rules.proofs.Bits.{same_bit-swap}
use Rattle.state_rules.specs.declared.nodes.NodeKind.{NodeKind}
use Rattle.state_rules.specs.declared.nodes.NodeKind.TheVariants.{Literal, And, Or}
use Rattle.state_rules.specs.Graphs.{truth_by, mention_by, kind_fits}
use Rattle.nnf_text.specs.GraphTexts.{variable_fits}
use Rattle.conditioner.specs.declared.leaves.Leaf.TheVariants.{True, False}
use Rattle.conditioner.specs.Evidence.{leaf_of}
use Rattle.projector.specs.Projecting.{projected_literal}

pub variable_fits-from : (vars : ℕ) (kind : NodeKind) (kids : List ℕ) → kind_fits vars kind kids ≡ true → variable_fits vars kind ≡ true
variable_fits-from vars (Literal positive var) kids fits = (and_parts (length kids == 0) (nat_le 1 var && nat_le var vars) fits).1
variable_fits-from vars And kids fits = refl
variable_fits-from vars Or kids fits = refl

-- What is wanted of a variable: what is known of it, or else the given bit of a part.
abbrev pub wanted_of : Option Bool → Bool → Bool → Option Bool
wanted_of (Some known) is_part bit = Some known
wanted_of None true bit = Some bit
wanted_of None false bit = None

module _ (parts var : ℕ) (positive : Bool) where
  abbrev pub become : Option Bool → NodeKind
  become k = projected_literal parts var positive (leaf_of positive k)

  -- a variable of which nothing is known, and one of which something is
  abbrev kept : Bool → NodeKind
  kept part = cond part (Literal positive var) And

  abbrev fixed : Bool → NodeKind
  fixed b = projected_literal parts var positive (cond b True False)

  kept-truth : (a : Assignment) (part : Bool) → truth_by a (kept part) [] ≡ agrees_at (wanted_of None part (a var)) positive
  kept-truth a true = same_bit-swap positive (a var)
  kept-truth a false = refl

  fixed-truth : (a : Assignment) (b : Bool) → truth_by a (fixed b) [] ≡ b
  fixed-truth a true = refl
  fixed-truth a false = refl

  same_part : 1 ≤ var → nat_le var parts ≡ nat_lt (var - 1) parts
  same_part some = let e : suc (var - 1) ≡ var = omega arith in ap (λ v. nat_le v parts) (sym e)

  -- it is true if what is wanted of its variable allows it
  pub literal-truth : (a : Assignment) (k : Option Bool) → 1 ≤ var → truth_by a (become k) [] ≡ agrees_at (wanted_of k (nat_lt (var - 1) parts) (a var)) positive
  literal-truth a None some = ap (λ part. truth_by a (kept part) []) (same_part some) ∙ kept-truth a (nat_lt (var - 1) parts)
  literal-truth a (Some c) some = fixed-truth a (same_bit positive c) ∙ same_bit-swap positive c

  kept-mentions : (v : ℕ) (part : Bool) → mention_by v (kept part) [] ≡ true → var ≡ v
  kept-mentions v true e = eqb-true var v e
  kept-mentions v false e = absurd (let no : false ≡ true = e in cc)

  fixed-silent : (v : ℕ) (b : Bool) → mention_by v (fixed b) [] ≡ false
  fixed-silent v true = refl
  fixed-silent v false = refl

  -- it mentions no variable but its own, and that only if nothing is known of it
  pub literal-mentions : (v : ℕ) (k : Option Bool) → mention_by v (become k) [] ≡ true → (var ≡ v) × (k ≡ None)
  literal-mentions v None e = (kept-mentions v (nat_le var parts) e, refl)
  literal-mentions v (Some c) e = absurd (let no : true ≡ false = sym e ∙ fixed-silent v (same_bit positive c) in cc)

  kept-fits : (part : Bool) → nat_le var parts ≡ part → 1 ≤ var → kind_fits parts (kept part) [] ≡ true
  kept-fits true e some = and_from _ _ (le-leb 1 var some) e
  kept-fits false e some = refl

  fixed-fits : (b : Bool) → kind_fits parts (fixed b) [] ≡ true
  fixed-fits true = refl
  fixed-fits false = refl

  pub literal-fits : (k : Option Bool) → 1 ≤ var → kind_fits parts (become k) [] ≡ true
  literal-fits None some = kept-fits (nat_le var parts) refl some
  literal-fits (Some c) some = fixed-fits (same_bit positive c)
