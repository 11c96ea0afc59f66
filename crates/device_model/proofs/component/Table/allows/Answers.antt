use Rattle.std.proofs.Common.{◌≡◌, true, ap, sym, ◌∙◌, arith}
use Rattle.std.proofs.Math.Pow.{pow_mono}
use Rattle.device_model.specs.TruthTable.{is_table}
use Rattle.device_model.proofs.component.Table.allows.Goals as goal

-- a table of at most 6 ports has at most 64 rows
pub overflow_shr-result : goal.overflow_shr-result
overflow_shr-result c =
    let valid : is_table c.args.self.now ≡ true = ap is_table (sym c.self.view_is) ∙ c.self.invariant in
    grind (arith, pow_mono {i = c.args.self.now.ports} {j = 6})
