use Rattle.std.proofs.Common.{◌∷◌, [], refl}
use Rattle.device_files.proofs.FailedWrites.{replies_then, replies_cut}
use Rattle.diag_cli.proofs.loading.put_listed.Goals as goal

pub returns-in_err-put_count-clause-text : goal.returns-in_err-put_count-clause-text
returns-in_err-put_count-clause-text g c =
    replies_cut (_ ∷ []) (_ ∷ _ ∷ _ ∷ []) _ _ _ c.from_residual.ensures.0 ((_, refl), ((_, refl), ((_, refl), tt))) (rw c.from.ensures at c.in_err-put_count.ensures.text)

pub returns-in_err-put_names-clause-text : goal.returns-in_err-put_names-clause-text
returns-in_err-put_names-clause-text g c =
    replies_then (_ ∷ []) (_ ∷ _ ∷ _ ∷ []) _ _ _ _ (rw c.from.ensures at c.in_ok-put_count.ensures.text)
    (replies_cut (_ ∷ []) (_ ∷ _ ∷ []) _ _ _ c.from_residual-in_err-put_names.ensures.0 ((_, refl), ((_, refl), tt)) c.in_err-put_names.ensures.text)

pub returns-in_err-put_count-2-clause-text : goal.returns-in_err-put_count-2-clause-text
returns-in_err-put_count-2-clause-text g c =
    replies_then (_ ∷ []) (_ ∷ _ ∷ _ ∷ []) _ _ _ _ (rw c.from.ensures at c.in_ok-put_count.ensures.text)
    (replies_then (_ ∷ []) (_ ∷ _ ∷ []) _ _ _ _ c.in_ok-put_names.ensures.text
    (replies_cut (_ ∷ []) (_ ∷ []) _ _ _ c.from_residual-in_err-put_count-2.ensures.0 ((_, refl), tt) (rw c.from-2.ensures at c.in_err-put_count-2.ensures.text)))

pub returns-clause-text : goal.returns-clause-text
returns-clause-text g c =
    replies_then (_ ∷ []) (_ ∷ _ ∷ _ ∷ []) _ _ _ _ (rw c.from.ensures at c.in_ok-put_count.ensures.text)
    (replies_then (_ ∷ []) (_ ∷ _ ∷ []) _ _ _ _ c.in_ok-put_names.ensures.text
    (replies_then (_ ∷ []) (_ ∷ []) _ _ _ _ (rw c.from-2.ensures at c.in_ok-put_count-2.ensures.text) c.put_names-2.ensures.text))
