use Rattle.std.proofs.Common.{[], length, arith, length-append}
use Rattle.std.proofs.lemmas.List.{append-nil}
use Rattle.scratch_pool.proofs.Counted.{block-below}
use Rattle.part_sets.specs.Numbers.{part_words}
use Rattle.part_sets.proofs.Stacks.{set_at-front, set_at-here}
use Rattle.part_sets.proofs.below.put_all.Goals as goal

pub returns : goal.returns
returns c =
    let count = length c.args.graph.now.nodes in record {
      long = grind (arith, length-append c.put_nodes.new.below c.put_every.new.set);
      nodes = λ k lt p. grind (arith, set_at-front c.put_nodes.new.below c.put_every.new.set k (part_words c.args.parts), block-below k count, c.put_nodes.ensures k lt p);
      all = λ p. grind (arith, append-nil c.put_every.new.set, set_at-here c.put_nodes.new.below c.put_every.new.set [] count, c.put_every.ensures p);
    }
