use Rattle.std.proofs.Common.{◌≡◌, ◌<◌, ◌+◌, ◌^◌, ◌++◌, drop, get_or}
use Rattle.clause_encoder.specs.Encoding.{tidy, chain_clauses, wide_clauses}
use Rattle.clause_encoder.proofs.gates.push_chain.Given as goal

-- what is written, and what the inputs left add
abbrev pub invariant-loop-input : goal.invariant-loop-input
invariant-loop-input l = record {
  clauses : l.writer.clauses ++ tidy (chain_clauses l.gate l.health (get_or l.inputs l.last 0) l.output l.next l.before (drop l.input-index l.between))
      ≡ l.fn.writer.clauses ++ tidy (wide_clauses l.gate l.health l.inner l.inputs l.output);
  next : l.next ≡ l.inner + l.input-index;
  before : l.before < 2 ^ 29;
}
