use Rattle.device_files.proofs.FailedWrites.{counts_then, counts_cut}
use Rattle.device_files.proofs.inspecting.+put_counts.Goals as goal

pub returns-in_err-put_count-clause-text : goal.returns-in_err-put_count-clause-text
returns-in_err-put_count-clause-text g t c = counts_cut c.args.counts.now _ c.in-len1-up.len_at_least _ _ _ c.from_residual.ensures.0 c.in_err-put_count.ensures.text

pub returns-clause-text : goal.returns-clause-text
returns-clause-text g t c = counts_then c.args.counts.now _ c.in-len1-up.len_at_least _ _ _ _ c.in_ok-put_count.ensures.text c.put_counts.ensures.text
