use Rattle.std.proofs.Common.{[]}
use Rattle.dnnf_compiler.proofs.PlaceNodes.{enough, placeable, raised}
use Rattle.dnnf_compiler.proofs.along.make_step.Goals as goal

pub take_top-requires : goal.take_top-requires
take_top-requires c = enough _ _ _ _ [] [] c.requires.0 c.requires.1 c.requires.2

pub make_place-requires : goal.make_place-requires
make_place-requires c = rw c.deref.ensures.value (placeable _ _ _ _ c.take_top.new.stack.items _ c.requires.0 c.requires.1 c.requires.2 c.in_ok-below.ensures.taken c.in_ok-below.ensures.count)

pub returns : goal.returns
returns c = λ spot rest ready. raised _ _ _ _ c.take_top.new.stack.items _ spot rest ready c.in_ok-below.ensures.taken c.in_ok-below.ensures.count _ _ (rw c.deref.ensures.value at c.in_ok-nodes.ensures)
