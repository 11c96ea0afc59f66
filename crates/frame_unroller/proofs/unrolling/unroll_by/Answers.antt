use Rattle.std.proofs.Common.{◌≡◌, length, Ok, ap, sym, subst, ◌∙◌, arith}
use Rattle.std.proofs.lemmas.List.{length-map}
use Rattle.device_model.specs.Devices.{Device, IsDevice, part_names}
use Rattle.clause_encoder.specs.Encoding.{encoded, Describes}
use Rattle.clause_encoder.proofs.Sizes.{encoded-is, few_inner, encoded-few_vars}
use Rattle.clause_encoder.proofs.OtherVariables.{list_from}
use Rattle.frame_unroller.specs.Diagnosis.{frame_wires}
use Rattle.frame_unroller.specs.Unrolling.{owners, frame_device, shared, unrolled_by}
use Rattle.frame_unroller.proofs.CopyClauses.{owner-at, frames-described, frames-whole}
use Rattle.frame_unroller.proofs.unrolling.unroll_by.Goals as goal

pub shared-requires-clause-places : goal.shared-requires-clause-places
shared-requires-clause-places c = λ k d lt. grind (arith, owner-at c.args.seq.now c.args.copies.frames k d)

pub shared-requires-clause-few : goal.shared-requires-clause-few
shared-requires-clause-few c = grind (arith, encoded-few_vars)

pub returns : goal.returns
returns c =
    let seq = c.args.seq.now in
    let frames = c.args.copies.frames in
    let list = c.in-Ok.list in
    let device = c.in_ok-device.ensures.device in
    let valid = subst IsDevice device c.in_ok-device.ensures.valid in
    let encodes : encoded (frame_device seq frames) ≡ Ok list = ap encoded (sym device) ∙ c.in-Ok.ensures.encoded in
    let cnf : c.in_ok-cnf.cnf ≡ shared (length seq.device.parts) (owners seq frames) list = cc (c.in_ok-cnf.ensures.shared, c.in_ok-device.ensures.places) in
    let parts : part_names seq.device.parts ≡ c.of.result = cc c.in_ok-names_of.ensures in
    let wires : frame_wires seq frames ≡ c.of-2.result = sym (c.of-2.ensures ∙ c.in_ok-wires.ensures.wires ∙ ap (λ (d : Device). d.wires) device) in
    let is = encoded-is (frame_device seq frames) list encodes in
    let inner = few_inner (frame_device seq frames) list valid encodes in
    record {
      unrolled = ap (unrolled_by seq frames) encodes ∙ (λ i. Ok (record { parts = parts i; wires = wires i; cnf = sym cnf i }));
      describes = frames-described seq frames c.parts.ensures.valid list (list_from list c.in_ok-cnf.ensures.given).each (subst (Describes list) device c.in-Ok.ensures.describes) (grind (arith, is.vars, length-map)) _ cnf
          (rw (c.deref.ensures.value, c.in_ok-device.ensures.places, c.parts.ensures.parts) at c.in_ok-cnf.ensures.truth);
      whole = rw cnf (frames-whole seq frames list valid encodes c.in_ok-cnf.ensures.given);
      valid = grind (arith, length-map, is, inner);
    }
