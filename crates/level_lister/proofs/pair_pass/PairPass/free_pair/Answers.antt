use Rattle.std.proofs.Common.{◌≡◌, ℕ, zero, suc, ◌+◌, ◌<◌, Bool, true, false, ◌||◌, not, length, get_or, Some, None, refl, sym, ap, ◌∙◌, arith}
use Rattle.state_rules.specs.Bits.{same_bit}
use Rattle.conditioner.specs.Evidence.{known_of}
use Rattle.level_lister.specs.inner.Pairs.{group_count, group_in}
use Rattle.level_lister.proofs.TwoWords.{tells_known, tells_ok}
use Rattle.level_lister.proofs.PairNodes.{allowed_ok, said}
use Rattle.level_lister.proofs.pair_pass.PairPass.free_pair.Goals as goal

word_none : (w : ℕ) → None ≡ known_of w → w ≡ 0
word_none zero e = refl
word_none (suc zero) e = absurd (cc)
word_none (suc (suc w)) e = absurd (cc)

word_one : (w : ℕ) → Some true ≡ known_of w → w ≡ 1
word_one zero e = absurd (cc)
word_one (suc zero) e = refl
word_one (suc (suc w)) e = absurd (cc)

word_two : (w : ℕ) → w < 3 → Some false ≡ known_of w → w ≡ 2
word_two zero h e = absurd (cc)
word_two (suc zero) h e = absurd (cc)
word_two (suc (suc w)) h e = omega arith

one_of : (b : Bool) → (same_bit true b || same_bit false b) ≡ true
one_of true = refl
one_of false = refl

pub returns-in-None : goal.returns-in-None
returns-in-None c =
    let costs = c.args.self.now.levels.now.costs in
    let evidence = c.args.self.now.evidence.now in
    let top = c.args.self.now.levels.now.top in
    let part = c.args.part in
    let group = group_in evidence (length costs) c.args.self.now.groups in
    let zero : get_or evidence part 0 ≡ 0 = word_none (get_or evidence part 0) c.in-None.ensures in
    tells_known evidence costs top (group_count top) group _ (λ a. true) _ c.either.result (λ a f. one_of (a (part + 1))) (λ a b h. refl)
    (c.either.ensures evidence costs top (group_count top) group _ _ _ (tells_ok evidence costs top (group_count top) group (part + 1) (omega arith) (allowed_ok evidence part 0 zero (omega arith))) c.fault_pair-in-None.ensures)

pub returns-in-Some-true : goal.returns-in-Some-true
returns-in-Some-true c =
    let costs = c.args.self.now.levels.now.costs in
    let evidence = c.args.self.now.evidence.now in
    let top = c.args.self.now.levels.now.top in
    let part = c.args.part in
    let group = group_in evidence (length costs) c.args.self.now.groups in
    tells_known evidence costs top (group_count top) group (λ a. same_bit true (a (part + 1))) (λ a. true) _ _ (λ a f. said evidence part true a (word_one (get_or evidence part 0) (ap Some (sym c.in-Some-true.field-0-test) ∙ c.in-Some-true.ensures)) f) (λ a b h. refl)
    (tells_ok evidence costs top (group_count top) group (part + 1) (omega arith) (allowed_ok evidence part 1 (word_one (get_or evidence part 0) (ap Some (sym c.in-Some-true.field-0-test) ∙ c.in-Some-true.ensures)) (omega arith)))

pub returns-in-Some-false : goal.returns-in-Some-false
returns-in-Some-false c =
    let costs = c.args.self.now.levels.now.costs in
    let evidence = c.args.self.now.evidence.now in
    let top = c.args.self.now.levels.now.top in
    let part = c.args.part in
    let group = group_in evidence (length costs) c.args.self.now.groups in
    tells_known evidence costs top (group_count top) group (λ a. same_bit false (a (part + 1))) (λ a. true) _ _ (λ a f. ap not (said evidence part false a (word_two (get_or evidence part 0) (c.args.self.now.small part 0 (omega (arith, c.requires.part, c.args.self.now.long, c.args.self.now.for_graph.parts))) (ap Some (sym c.in-Some-false.field-0-test) ∙ c.in-Some-false.ensures)) f)) (λ a b h. refl) c.fault_pair.ensures
