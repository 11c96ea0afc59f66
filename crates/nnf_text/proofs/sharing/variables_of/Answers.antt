use Rattle.std.proofs.Common.{ℕ, Bool, List, [], ◌∷◌, refl, arith}
use Rattle.std.specs.List.{Contains}
use Rattle.std.proofs.lemmas.Bool.{cases_lt}
use Rattle.std.proofs.lemmas.List.Elements.{Contains-append_left, Contains-append_right}
use Rattle.std.proofs.lemmas.List.Filters.{dedup_is}
use Rattle.std.proofs.lemmas.List.Kept.{Contains-dedup_nat}
use Rattle.std.proofs.lemmas.List.Sorted.{Contains-permutation}
use Rattle.std.proofs.lemmas.Map.Keys.{IsStrictlyIncreasing-dedup}
use Rattle.state_rules.specs.declared.nodes.NodeKind.{NodeKind}
use Rattle.state_rules.specs.declared.nodes.NodeKind.TheVariants.{Literal, And, Or}
use Rattle.nnf_text.specs.inner.Sharing.{AddsVariable}
use Rattle.nnf_text.proofs.sharing.variables_of.Goals as goal

stays : (old new : List ℕ) (what : NodeKind) (v : ℕ) → AddsVariable old what new → Contains old v → Contains new v
stays old new (Literal positive var) v e h = rw e (Contains-append_left old (var ∷ []) v h)
stays old new And v e h = rw e h
stays old new Or v e h = rw e h

comes : (old new : List ℕ) (v : ℕ) (positive : Bool) → AddsVariable old (Literal positive v) new → Contains new v
comes old new v positive e = rw e (Contains-append_right old (v ∷ []) v (0, omega arith, refl))

pub loop-node-preserved : goal.loop-node-preserved
loop-node-preserved c = record {
  all = λ k v positive h is. grind (arith, cases_lt k c.loop-node.node, stays c.loop-node.variables.items c.push_variable.new.variables.items c.what.result v, comes c.loop-node.variables.items c.push_variable.new.variables.items v positive, c.in_ok-push_variable.ensures, c.loop-node.invariant.all k v positive, c.what.ensures);
  end = c.loop-node.invariant.end;
}

pub returns : goal.returns
returns c =
    let is = dedup_is _ _ _ c.dedup.ensures.filtered in
    record {
      rise = rw is (IsStrictlyIncreasing-dedup _ c.sort_unstable.ensures.sorted);
      all = λ k v positive h literal. rw is (Contains-dedup_nat _ v (Contains-permutation _ _ v c.sort_unstable.ensures.permutation (c.loop-node.invariant.all k v positive (omega (arith, c.loop-node.invariant.end)) literal)));
    }
