use Rattle.std.proofs.Common.{◌∙◌, codes, refl}
use Rattle.std.specs.Prelude.{decimal}
use Rattle.diag_edge.proofs.Added.{grown_more, part_more, put_all}
use Rattle.diag_edge.proofs.ErrorLines.{one, two, three, last, fault_text, one_begun, two_begun, three_begun, last_begun}
use Rattle.diag_edge.proofs.error_lines.put_fault.Goals as goal

pub returns-in_err-add-clause-text : goal.returns-in_err-add-clause-text
returns-in_err-add-clause-text g c =
    one_begun c.args.line c.args.number (decimal c.args.number) c.args.name.now refl _ _ _ c.new-chunk.result c.from_residual.ensures.0 c.new-chunk.ensures c.in_err-add.ensures.bytes

pub returns-in_err-add_number-clause-text : goal.returns-in_err-add_number-clause-text
returns-in_err-add_number-clause-text g c =
    two_begun c.args.line c.args.number (decimal c.args.number) c.args.name.now refl _ _ _ c.new-chunk.result c.from_residual-in_err-add_number.ensures.0 c.new-chunk.ensures
    (part_more _ _ _ _ _ one (decimal c.args.line) c.in_ok-add.ensures.bytes c.in_err-add_number.ensures.bytes)

pub returns-in_err-add-2-clause-text : goal.returns-in_err-add-2-clause-text
returns-in_err-add-2-clause-text g c =
    let first = grown_more _ _ _ _ _ _ one (decimal c.args.line) c.in_ok-add.ensures.bytes c.in_ok-add_number.ensures.bytes in
    three_begun c.args.line c.args.number (decimal c.args.number) c.args.name.now refl _ _ _ c.new-chunk.result c.from_residual-in_err-add-2.ensures.0 c.new-chunk.ensures
    (part_more _ _ _ _ _ (two c.args.line) (codes ": fault") first c.in_err-add-2.ensures.bytes)

pub returns-in_err-end_line-clause-text : goal.returns-in_err-end_line-clause-text
returns-in_err-end_line-clause-text g c =
    let first = grown_more _ _ _ _ _ _ one (decimal c.args.line) c.in_ok-add.ensures.bytes c.in_ok-add_number.ensures.bytes in
    let second = grown_more _ _ _ _ _ _ (two c.args.line) (codes ": fault") first c.in_ok-add-2.ensures.bytes in
    last_begun c.args.line c.args.number c.as_bytes.result.now c.args.name.now (c.as_bytes.ensures.value ∙ c.format.ensures.text) _ _ _ c.new-chunk.result c.from_residual-in_err-end_line.ensures.0 c.new-chunk.ensures
    (part_more _ _ _ _ _ (three c.args.line) (last c.as_bytes.result.now c.args.name.now) second c.in_err-end_line.ensures.bytes)

pub returns-clause-text : goal.returns-clause-text
returns-clause-text g c =
    let first = grown_more _ _ _ _ _ _ one (decimal c.args.line) c.in_ok-add.ensures.bytes c.in_ok-add_number.ensures.bytes in
    let second = grown_more _ _ _ _ _ _ (two c.args.line) (codes ": fault") first c.in_ok-add-2.ensures.bytes in
    put_all _ _ _ c.new-chunk.result _ _ _ _ c.new-chunk.ensures (fault_text c.args.line c.args.number c.as_bytes.result.now c.args.name.now (c.as_bytes.ensures.value ∙ c.format.ensures.text))
    (grown_more _ _ _ _ _ _ (three c.args.line) (last c.as_bytes.result.now c.args.name.now) second c.in_ok-end_line.ensures.bytes) c.put.ensures.bytes
