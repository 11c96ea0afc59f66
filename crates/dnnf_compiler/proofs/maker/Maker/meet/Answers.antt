use Rattle.std.proofs.Common.{◌≡◌, get_or, arith}
use Rattle.std.specs.List.{filter}
use Rattle.std.proofs.lemmas.List.{drop_all, append-nil}
use Rattle.state_rules.proofs.Lists.{AllByRecursion-append}
use Rattle.dnnf_compiler.proofs.Bare.{other_plain}
use Rattle.dnnf_compiler.proofs.Conjunctions.{keeps_of, one, kept_more, meet_one, meet_more}
use Rattle.dnnf_compiler.proofs.maker.Maker.meet.Goals as goal

pub loop-i-preserved : goal.loop-i-preserved
loop-i-preserved c = grind (arith, kept_more c.args.self.now c.requires.maker c.args.kids.now c.loop-i.kept.items c.loop-i.i, AllByRecursion-append, other_plain c.args.self.now c.requires.maker)

pub returns-in-len1 : goal.returns-in-len1
returns-in-len1 c = grind (arith, drop_all, append-nil, one, meet_one c.args.self.now c.requires.maker c.args.kids.now (get_or c.as_slice.result.now 0 0))

pub returns : goal.returns
returns c =
    let made = c.in_ok-node-in_default.ensures in
    let e : filter (keeps_of c.args.self.now) c.args.kids.now ≡ c.as_slice.result.now = grind (arith, drop_all, append-nil) in
    meet_more c.args.self.now c.requires.maker c.args.kids.now c.and.new.self c.in_ok-node-in_default.node (grind (arith, e)) (rw e (rw c.as_slice.ensures c.loop-i.invariant.plain)) (rw e made.made) (rw e made.means) made.valid
