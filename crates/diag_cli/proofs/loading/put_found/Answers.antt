use Rattle.diag_cli.proofs.loading.put_found.Goals as goal

pub returns-in-None-clause-text : goal.returns-in-None-clause-text
returns-in-None-clause-text g c = rw c.in-None.is c.put_inconsistent.ensures.text

pub returns-in-Some-clause-text : goal.returns-in-Some-clause-text
returns-in-Some-clause-text g c = rw (c.in-Some.is, ← c.deref.ensures.value, ← c.deref-in-Some.ensures.value, ← c.deref-in-Some-2.ensures.value) c.put_listed.ensures.text
