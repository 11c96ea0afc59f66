use Rattle.std.proofs.Common.{◌≡◌, ◌*◌, length, arith}
use Rattle.nnf_text.proofs.FirstShared.{Decomposable-none, checked-none, checked-shared}
use Rattle.nnf_text.proofs.checking.graph_of.Goals as goal

pub new-requires : goal.new-requires
new-requires c = record {
  some = c.requires.some;
  few = omega (arith, c.requires.few);
  nodes = record { fit = c.requires.fit; apart = Decomposable-none c.args.vars c.args.nodes c.requires.fit (rw c.in-None.is at c.in_ok-node.ensures) };
}

pub returns-in-Some : goal.returns-in-Some
returns-in-Some c =
    let bits : c.len.result * c.from.result ≡ length c.args.nodes * c.args.vars = (λ i. c.len.ensures i * c.from.ensures i) in
    checked-shared c.args.vars c.args.nodes (omega (arith, bits, c.if-bits-gt-BITS_LIMIT.false)) c.in-Some.node c.in-Some.var (rw c.in-Some.is at c.in_ok-node.ensures)

pub returns-in-None : goal.returns-in-None
returns-in-None c =
    let bits : c.len.result * c.from.result ≡ length c.args.nodes * c.args.vars = (λ i. c.len.ensures i * c.from.ensures i) in
    rw c.new.ensures (checked-none c.args.vars c.args.nodes (omega (arith, bits, c.if-bits-gt-BITS_LIMIT.false)) (rw c.in-None.is at c.in_ok-node.ensures))
