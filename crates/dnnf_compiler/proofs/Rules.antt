-- Lemmas by which the check finds the rest of what functions require and ensure.
use Rattle.std.proofs.lemmas.List.{append-nil, drop_all, nil_from_length}
use Rattle.state_rules.proofs.Lists.{length-filter-le}
use Rattle.dnnf_compiler.proofs.Conjunctions.{kept_apart, meet_none}

pub ruleset kept_children = (append-nil, drop_all, kept_apart, length-filter-le, meet_none, nil_from_length)
