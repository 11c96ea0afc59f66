use Rattle.std.proofs.Common.{◌≡◌, ◌∙◌}
use Rattle.std.specs.Prelude.{decimal}
use Rattle.nnf_text.specs.declared.checking.TheConstants.{BITS_LIMIT}
use Rattle.device_files.proofs.refusal.put_bits.Goals as goal

pub returns-clause-text : goal.returns-clause-text
returns-clause-text g c =
    let first : c.as_bytes.result.now ≡ decimal c.args.bits = c.as_bytes.ensures.value ∙ c.format.ensures.text in
    let second : c.as_bytes-2.result.now ≡ decimal BITS_LIMIT = c.as_bytes-2.ensures.value ∙ c.format-2.ensures.text in
    rw (first, second) at c.put_line.ensures.bytes
