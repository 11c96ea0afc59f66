use Rattle.std.proofs.Common.{◌∷◌, [], ◌∙◌}
use Rattle.diag_cli.specs.inner.Loading.{found_items}
use Rattle.device_files.proofs.FailedWrites.{replies_then, replies_cut}
use Rattle.diag_cli.proofs.LoadedAdders.{have_found}
use Rattle.diag_cli.proofs.loading.put_summary.Goals as goal

pub returns-in_err-put_counts-clause-text : goal.returns-in_err-put_counts-clause-text
returns-in_err-put_counts-clause-text g c =
    let s = c.args.summary.now in
    replies_cut (_ ∷ _ ∷ _ ∷ []) (found_items s) _ _ _ c.from_residual.ensures.0 (have_found s.parts.items s.found s.first.items s.last.items)
    (let many = c.len.ensures ∙ s.parts.ok.0 in rw many at c.in_err-put_counts.ensures.text)

pub returns-clause-text : goal.returns-clause-text
returns-clause-text g c =
    let s = c.args.summary.now in
    replies_then (_ ∷ _ ∷ _ ∷ []) (found_items s) _ _ _ _
    (let many = c.len.ensures ∙ s.parts.ok.0 in rw many at c.in_ok-put_counts.ensures.text) c.put_found.ensures.text
