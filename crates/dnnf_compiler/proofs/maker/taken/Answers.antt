use Rattle.std.proofs.Common.{◌≡◌, ◌<◌, ℕ, List, [], ◌∷◌, length, drop, refl, arith, rules}
use Rattle.std.specs.Prelude.{Vec}
use Rattle.std.specs.declared.alloc.Global.{Global}
use Rattle.std.proofs.lemmas.List.{drop_all, append-nil, length-drop}
use Rattle.dnnf_compiler.specs.inner.Meeting.{taken}
use Rattle.dnnf_compiler.proofs.WayNodes.{length-held}
use Rattle.dnnf_compiler.proofs.maker.taken.Goals as goal

pub bounds-levels-i : goal.bounds-levels-i
bounds-levels-i c = grind (arith, length-held (drop c.loop-i.i c.args.levels.now) (drop c.loop-i.i c.args.numbers.now), length-drop)

pub offset_bounds-levels-i : goal.offset_bounds-levels-i
offset_bounds-levels-i c =
    let low : c.loop-i.i < length c.args.levels.now = grind (arith, length-held (drop c.loop-i.i c.args.levels.now) (drop c.loop-i.i c.args.numbers.now), length-drop) in
    search rules

none_taken : (levels : List (Vec ℕ Global)) → taken levels [] ≡ []
none_taken [] = refl
none_taken (level ∷ levels) = refl

pub returns : goal.returns
returns c = grind (arith, append-nil, drop_all, none_taken)
