use Rattle.std.proofs.Common.{◌≡◌, ℕ, [], ◌∷◌, ◌+◌, List, ◌++◌, map, length, ap, sym, subst, ◌∙◌, arith}
use Rattle.device_model.specs.declared.gates.Kind.TheVariants.{Table}
use Rattle.flattener.specs.declared.expanding.Flat.{Flat}
use Rattle.flattener.specs.Flat.{below}
use Rattle.flattener.specs.inner.Expanding.{Grows, wire_at, position_of, behind}
use Rattle.flattener.proofs.PathNames.{behind-prefix}
use Rattle.flattener.proofs.ExpandedInstances.{own_behind, block_at, block_read, part_read, start_grows, all_grow, so_far, before_here, CanExpand-inner, gate_grows, type_grows, instance_grows}
use Rattle.flattener.proofs.expanding.+expand.Goals as goal
use Rattle.flattener.proofs.expanding.+expand.Goals.{in-Gate+in_ok-push_part-in-Gate, in-Shape+in_ok-push_part-in-Shape, in-Block+in_ok-expand-in-Block}

pub loop-used-init : goal.loop-used-init
loop-used-init t c =
    let can = c.requires.can in
    let block = block_read can c.blocks-2.ensures.blocks c.index-blocks-place.is in
    record {
      prefix = ◌∙◌ {A = List ℕ} c.in_ok-push_wires.ensures.same c.in_ok-prefix.ensures;
      grown = start_grows can c.args.flat.now.parts.items _ _ c.requires.joined c.in_ok-push_wires.ensures.wires
          (own_behind c.index-blocks-place.result _ c.args.path.now c.in_ok-prefix.prefix.items c.own_wires.result.now block c.in_ok-prefix.ensures c.own_wires.ensures);
    }

pub expand-requires : goal.expand-requires
expand-requires t c =
    let can = c.requires.can in
    let block = block_read can c.blocks-2.ensures.blocks c.index-blocks-place.is in
    let part = part_read can block c.as_slice-used-items.ensures c.loop-used-test.true c.used-item.is in
    let used = c.used-item.result in
    let start : c.len-start.result ≡ length c.args.flat.now.wires.items = omega arith in
    let path : c.as_slice-in-Block.result.now ≡ below c.args.path.now used.name = c.as_slice-in-Block.ensures.bytes ∙ c.in_ok-name.ensures.joined
    ∙ (λ k. behind (c.loop-used.invariant.prefix k) (c.as_slice.ensures.bytes k)) ∙ behind-prefix c.args.path.now used.name in
    let ports : c.deref-in-Block.result.now ≡ map (position_of c.args.passed.now (length c.args.flat.now.wires.items)) used.args = c.deref-in-Block.ensures.value
    ∙ c.in_ok-read_positions.ensures ∙ (λ k. map (position_of c.args.passed.now (start k)) (c.as_slice-in-loop-used.ensures k)) in
    let grown = c.loop-used.invariant.grown in
    let before = before_here can part grown c.in-Block.is path ports in
    (omega arith, (CanExpand-inner can part grown c.in-Block.is path ports, grown.joined))

pub loop-used-preserved : goal.loop-used-preserved
loop-used-preserved t c =
    let can = c.requires.can in
    let block = block_read can c.blocks-2.ensures.blocks c.index-blocks-place.is in
    let part = part_read can block c.as_slice-used-items.ensures c.loop-used-test.true c.used-item.is in
    let used = c.used-item.result in
    let start : c.len-start.result ≡ length c.args.flat.now.wires.items = omega arith in
    let name : c.in_ok-name.name ≡ below c.args.path.now used.name = c.in_ok-name.ensures.joined
    ∙ (λ k. behind (c.loop-used.invariant.prefix k) (c.as_slice.ensures.bytes k)) ∙ behind-prefix c.args.path.now used.name in
    let ports : c.read_positions.new.positions.items ≡ map (position_of c.args.passed.now (length c.args.flat.now.wires.items)) used.args =
    c.in_ok-read_positions.ensures ∙ (λ k. map (position_of c.args.passed.now (start k)) (c.as_slice-in-loop-used.ensures k)) in
    let grown = c.loop-used.invariant.grown in
    let names = map (wire_at c.args.flat.now.wires.items) c.args.passed.now in
    let P : Flat → Type 0 = λ f. Grows c.args.flat.now.parts.items c.args.flat.now.wires.items (so_far c.args.design.now c.args.place (c.loop-used.used-index + 1) c.args.path.now names) f.parts.items f.wires.items in
    record {
      prefix = c.in_ok-name.ensures.same ∙ c.loop-used.invariant.prefix;
      grown =
          elim c.match-used.branch [
            | in-Gate+in_ok-push_part-in-Gate w ↦ subst P (sym w.flat-is)
                (gate_grows can part grown w.in-Gate.gate _ w.in-Gate.is
                (w.in_ok-push_part-in-Gate.ensures
                ∙ (λ k. c.loop-used.flat.parts.items ++ record { name = name k; kind = w.in-Gate.gate; ports = (w.deref.ensures.value ∙ ports) k } ∷ [])))
            | in-Shape+in_ok-push_part-in-Shape w ↦ subst P (sym w.flat-is)
                (type_grows can part grown w.in-Shape.table _ w.in-Shape.is
                (w.in_ok-push_part-in-Shape.ensures
                ∙ (λ k. c.loop-used.flat.parts.items ++ record { name = name k; kind = Table w.in-Shape.table; ports = (w.deref-in-Shape.ensures.value ∙ ports) k } ∷ [])))
            | in-Block+in_ok-expand-in-Block w ↦ subst P (sym w.flat-is)
                (instance_grows can part grown w.in-Block.is (w.as_slice-in-Block.ensures.bytes ∙ name) (w.deref-in-Block.ensures.value ∙ ports) w.in_ok-expand-in-Block.ensures)
          ];
    }

pub returns : goal.returns
returns t c =
    let can = c.requires.can in
    let block = block_read can c.blocks-2.ensures.blocks c.index-blocks-place.is in
    let many : length c.as_slice-used-items.result.now ≡ length (block_at c.args.design.now c.args.place).parts = ap length (c.as_slice-used-items.ensures ∙ ap (λ b. b.parts) block) in
    all_grow can c.args.flat.now.parts.items _ _ c.loop-used.used-index (omega arith) c.loop-used.invariant.grown
