use Rattle.std.proofs.Common.{◌≡◌, ℕ, ◌*◌, List, length, sym, subst, arith}
use Rattle.level_lister.specs.inner.CostSets.{AreSums}
use Rattle.level_lister.proofs.FaultCosts.{both_and}
use Rattle.level_lister.proofs.fault_pass.put_both_sums.Goals as goal

pub returns : goal.returns
returns c evidence costs group test more_test some more apart is_all is_own =
    let own = c.args.own.now in
    let other = c.put_sums-2.new.set in
    let new_all = c.put_sums-3.new.set in
    let one_long : length c.put_sums.new.set ≡ length c.args.set.now = omega arith in
    let other_long : length c.put_sums-2.new.set ≡ length c.args.other.now = omega arith in
    let all_long : length c.put_sums-3.new.set ≡ length c.args.all.now = omega arith in
    let sums_one : AreSums c.args.set.now own (32 * length c.put_sums.new.set) c.put_sums.new.set =
    subst (λ n. AreSums c.args.set.now own (32 * n) c.put_sums.new.set) (sym one_long) (subst (λ (xs : List ℕ). AreSums xs own (32 * length c.args.set.now) c.put_sums.new.set) c.copy_from_slice.ensures.after c.put_sums.ensures) in
    let sums_other : AreSums c.args.all.now c.args.faults.now (32 * length c.put_sums-2.new.set) other = subst (λ n. AreSums c.args.all.now c.args.faults.now (32 * n) other) (sym other_long) c.put_sums-2.ensures in
    let sums_all : AreSums c.args.all.now own (32 * length c.put_sums-3.new.set) new_all =
    subst (λ n. AreSums c.args.all.now own (32 * n) new_all) (sym all_long) (subst (λ (xs : List ℕ). AreSums xs own (32 * length c.args.all.now) new_all) c.copy_from_slice-2.ensures.after c.put_sums-3.ensures) in
    both_and evidence costs group test more_test some more c.args.all.now c.args.set.now own c.args.faults.now c.put_sums.new.set other new_all c.add_shifted.new.set
    (omega arith) (omega arith) (omega arith) (omega arith) (omega arith) (omega arith) (omega arith) apart sums_all sums_one sums_other
    (λ n h. c.add_shifted.ensures n (omega arith)) is_all is_own
