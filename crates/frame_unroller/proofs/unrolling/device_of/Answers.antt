use Rattle.std.proofs.Common.{◌∙◌}
use Rattle.frame_unroller.proofs.Built.{only_memory}
use Rattle.frame_unroller.proofs.unrolling.device_of.Goals as goal

pub unreachable-requires : goal.unreachable-requires
unreachable-requires c =
    c.in_default.not-Memory (only_memory c.args.seq.now c.args.copies.frames c.tables.ensures.valid _ _ _ _ c.requires.copies c.requires.few_parts c.requires.few_wires
    (c.in_ok-tables.ensures ∙ c.tables.ensures.tables) c.in-Err.error c.in-Err.ensures.built)
