use Rattle.std.proofs.Common.{◌-◌, length, arith}
use Rattle.std.proofs.Math.ListN.{length-set}
use Rattle.std.proofs.lemmas.List.{get_or-set_same, get_or-set_other}
use Rattle.part_sets.proofs.lacking.put_lacking.Goals as goal

pub returns : goal.returns
returns c =
    let root = length c.args.graph.now.nodes - 1 in record {
      long = grind (arith, length-set);
      nodes = λ k lt. grind (arith, get_or-set_other, c.loop-at.invariant.flags k);
      all = (
        λ zero v l h. grind (arith, get_or-set_same, c.requires.below.nodes root (omega arith) (v - 1), c.requires.below.all (v - 1), c.lacks.ensures.0),
        λ whole. grind (arith, get_or-set_same, c.requires.below.nodes root, c.requires.below.all, c.lacks.ensures.1),
      );
    }
