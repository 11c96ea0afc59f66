use Rattle.std.proofs.Common.{◌≡◌, ◌/◌, ◌%◌, ◌<◌, ℕ, List, length, get_or, set, sym, ◌∙◌, arith}
use Rattle.std.specs.Prelude.{◌==◌}
use Rattle.std.specs.Int.{bit_at}
use Rattle.std.proofs.lemmas.List.{get_or-set_same}
use Rattle.state_rules.specs.Bits.{has_bit}
use Rattle.part_sets.specs.Numbers.{has_number}
use Rattle.level_lister.proofs.PairWhole.{pair_sound, pair_whole}
use Rattle.level_lister.proofs.RootCosts.{whole_sound, whole_all}
use Rattle.level_lister.proofs.search.Asked.put_costs.Goals as goal

-- a set with a new first word
first_word : (xs : List ℕ) (w n : ℕ) → 0 < length xs → n < 32 → has_number (set xs 0 w) n ≡ has_bit w n
first_word xs w n h lt =
    let low : n / 32 ≡ 0 = omega arith in
    let same : n % 32 ≡ n = omega arith in
    (λ i. bit_at (get_or (set xs 0 w) (low i) 0) (same i) == 1) ∙ (λ i. bit_at (get_or-set_same xs 0 w 0 h i) n == 1)

pub returns-then-has_pairs : goal.returns-then-has_pairs
returns-then-has_pairs c n le =
    let graph = c.args.self.now.graph.now in
    let kept = c.args.self.now.levels.now in
    let few : kept.top < 32 = c.has_pairs.ensures.few c.if-has_pairs.true in
    let word = first_word c.args.set.now c.put_pairs-pair.result.costs n (omega (arith, c.requires.set)) (omega arith) in (
      λ t. pair_sound graph c.args.self.now.skips.now c.args.self.now.evidence.now kept.costs kept.top (record { low = 18446744073709551615; size = 1; some = omega arith }) c.put_pairs-pair.result c.args.self.now.valid c.args.self.now.long c.args.self.now.for_graph.parts c.put_pairs-pair.ensures c.args.self.now.enough n le (sym word ∙ t),
      λ has. word ∙ pair_whole graph c.args.self.now.skips.now c.args.self.now.evidence.now kept.costs kept.top (record { low = 18446744073709551615; size = 1; some = omega arith }) c.put_pairs-pair.result c.args.self.now.valid c.args.self.now.long c.args.self.now.for_graph.parts c.put_pairs-pair.ensures c.args.self.now.enough n le has,
    )

pub returns : goal.returns
returns c n le =
    let graph = c.args.self.now.graph.now in
    let kept = c.args.self.now.levels.now in (
      λ t. whole_sound graph c.args.self.now.skips.now c.args.self.now.evidence.now kept.costs c.put_whole.new.whole kept.top c.args.self.now.enough c.args.self.now.valid c.args.self.now.long c.args.self.now.for_graph.parts c.put_whole.ensures n t,
      λ has. whole_all graph c.args.self.now.skips.now c.args.self.now.evidence.now kept.costs c.put_whole.new.whole kept.top c.args.self.now.enough c.args.self.now.valid c.args.self.now.long c.args.self.now.for_graph.parts c.put_whole.ensures n le
          (omega (arith, c.put_whole.auto.whole, c.requires.set)) has,
    )
