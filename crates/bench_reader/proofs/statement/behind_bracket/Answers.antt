use Rattle.std.proofs.Common.{ℕ, ◌+◌, ◌-◌, ◌==◌, length, drop, sym, ap, ◌∙◌, arith, rules, take_all, length-drop}
use Rattle.std.specs.Prelude.{not}
use Rattle.std.proofs.lemmas.List.{drop_all}
use Rattle.std.proofs.lemmas.List.Sums.{prefix_len_is}
use Rattle.bench_reader.proofs.statement.behind_bracket.Goals as goal

pub returns-in-Some : goal.returns-in-Some
returns-in-Some c =
    let line = c.args.line.now in
    let start = c.in-Some.opening + 1 in
    take_all (length line - start) (drop start line) (omega (arith, length-drop start line))
    ∙ ap (λ n. drop (n + 1) line) (sym (prefix_len_is (λ (b : ℕ). not (b == 40)) line c.in-Some.opening 0 (search rules) (search rules) (search rules)))

pub returns-in-None : goal.returns-in-None
returns-in-None c =
    let line = c.args.line.now in
    sym (ap (λ n. drop (n + 1) line) (prefix_len_is (λ (b : ℕ). not (b == 40)) line (length line) 0 (omega arith) (search rules) (search rules)) ∙ drop_all (length line + 1) line (omega arith))
