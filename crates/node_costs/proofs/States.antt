-- The costs of states, and the least one.
use Rattle.std.proofs.Common.{◌≡◌, ℕ, zero, suc, ◌+◌, ◌<◌, Bool, true, false, cond, List, [], ◌∷◌, length, get_or, Option, Some, None, refl, ap, sym, ◌∙◌, subst, arith}
use Rattle.state_rules.specs.Bits.{bit_in, lists_of_bits}
use Rattle.state_rules.specs.Ranking.{Test, cost, least, passing, states}
use Rattle.state_rules.proofs.Members.{In, AtMost, bits_in, bits_length, least-below, least-from}
use Rattle.node_costs.specs.Costs.{total, IsLeast, StateCost}
use Rattle.node_costs.proofs.Sets.{least-one}

module _ (costs : List ℕ) (parts : ℕ) (test : Test) where
  low : (n : ℕ) → StateCost costs parts test n → AtMost (least costs (passing parts test)) n
  low n s = subst (AtMost (least costs (passing parts test))) s.cost_is
      (least-below (cost costs) test s.state (states parts) (subst (λ k. In s.state (lists_of_bits k)) s.long (bits_in s.state)) s.passes)

  pub least-out : (c : Option ℕ) → least costs (passing parts test) ≡ c → IsLeast (StateCost costs parts test) c
  least-out None e = λ n s. subst (λ o. AtMost o n) e (low n s)
  least-out (Some c) e =
      let r = least-from (cost costs) test c (states parts) e in
      (record { state = r.item; long = bits_length parts r.item r.is_in; passes = r.passes; cost_is = r.is_size }, λ n s. subst (λ o. AtMost o n) e (low n s))

  pub least-in : (c : Option ℕ) → IsLeast (StateCost costs parts test) c → least costs (passing parts test) ≡ c
  least-in c is = least-one (StateCost costs parts test) (least costs (passing parts test)) c (least-out (least costs (passing parts test)) refl) is

pub cost-cons : (c : ℕ) (costs : List ℕ) (b : Bool) (bits : List Bool) → cost (c ∷ costs) (b ∷ bits) ≡ cond b 0 c + cost costs bits
cost-cons c costs true bits = omega arith
cost-cons c costs false bits = refl

-- the cost of a state as a sum over variables
pub cost-total : (f : ℕ → ℕ) (v : ℕ) (costs : List ℕ) (h : List Bool) → length h ≡ length costs → ((i : ℕ) → i < length costs → f (v + i) ≡ cond (bit_in h i) 0 (get_or costs i 0)) → cost costs h ≡ total f v (length costs)
cost-total f v [] h l e = refl
cost-total f v (c ∷ costs) [] l e = absurd (omega arith)
cost-total f v (c ∷ costs) (b ∷ h) l e =
    let first : v + 0 ≡ v = omega arith in
    let here : f v ≡ cond b 0 c = ap f (sym first) ∙ e zero (omega arith) in
    omega (arith, here, cost-cons c costs b h, cost-total f (v + 1) costs h (omega arith) (λ i lt. ap f (let s : v + 1 + i ≡ v + suc i = omega arith in s) ∙ e (suc i) (omega arith)))
