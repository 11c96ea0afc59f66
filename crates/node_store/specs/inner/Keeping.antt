-- How a store keeps a node.
use Rattle.state_rules.specs.Graphs.{Node}
use Rattle.node_store.specs.declared.store.Kept.{Kept}

abbrev pub shown : Kept → Node
shown kept = record { what = kept.what; kids = kept.kids.items }
