-- What is written if a device is compiled.
use Rattle.std.proofs.Common.{◌≡◌, ℕ, ◌≤◌, true, List, [], ◌∷◌, length, Option, Result, Ok, refl, sym, ◌∙◌, ap, subst}
use Rattle.std.specs.Prelude.{MatchResult}
use Rattle.text_rules.specs.Tokens.{is_neat}
use Rattle.state_rules.specs.Graphs.{Graph}
use Rattle.diag_edge.specs.Edge.{Puts}
use Rattle.nnf_text.specs.GraphTexts.{parsed}
use Rattle.nnf_text.specs.WrittenGraphs.{graph_text}
use Rattle.device_model.specs.Devices.{Device}
use Rattle.clause_encoder.specs.declared.encoding.EncodeError.{EncodeError}
use Rattle.dnnf_compiler.specs.Compiled.{most_nodes}
use Rattle.session_rules.specs.Items.{Whole}
use Rattle.session_rules.specs.Spelling.{IsWholeOf}
use Rattle.session_rules.proofs.Spellings.{replies_one}
use Rattle.device_files.specs.declared.status.Status.{Status}
use Rattle.device_files.specs.declared.status.Status.TheVariants.{Done, WriteFailed}
use Rattle.device_files.specs.Output.{Output, FulfilsOutputUnlessMemory}
use Rattle.device_files.specs.Describing.{described}
use Rattle.device_files.specs.Choices.{Weighed}
use Rattle.device_files.specs.Weighing.{within, output_within}
use Rattle.device_files.proofs.FailedWrites.{replies_give}
use Rattle.device_files.proofs.KeptRefusals.{within_told}
use Rattle.diag_cli.specs.Behaviours.{graph_by}
use Rattle.diag_cli.specs.inner.Serving.{IsServable}

module _ (path file : List ℕ) (budget : ℕ) (clauses : Device → Result Weighed EncodeError) (device : Device) (weighed : Weighed) (graph : Graph) (status : Status) (a b : Option (List ℕ)) where
  abbrev most : ℕ
  most = most_nodes weighed.sum weighed.list.vars

  abbrev output : Output
  output = record { items = Whole device weighed.list.vars most ∷ []; status = Done }

  -- its text was written, or a write failed; `vars` is its own number of variables
  pub graph_gives : {T E : Type 0} (result : Result T E) (vars : ℕ) → vars ≡ graph.vars
      → described path file ≡ Ok device → within budget (clauses device) ≡ Ok weighed
      → IsServable device graph → graph.vars ≡ weighed.list.vars → length graph.nodes ≤ most
      → is_neat (graph_text (record graph { vars = vars })) ≡ true → parsed (graph_text (record graph { vars = vars })) ≡ Ok (record graph { vars = vars })
      → Puts a b result (graph_text (record graph { vars = vars })) → MatchResult result (λ _. status ≡ Done) (λ _. status ≡ WriteFailed)
      → FulfilsOutputUnlessMemory (output_within budget clauses graph_by (described path file)) status a b
  graph_gives result vars same is list servable of_cnf few_nodes neat reads puts ends =
      within_told budget clauses graph_by (described path file) device weighed status a b is list
      (replies_give output status a b result (λ five. let never : ⊥ = cc in never) (replies_one a b result (Whole device weighed.list.vars most) _ ((neat, (record graph { vars = vars }, refl)), spelled) puts) ends)
    where
      spelled : IsWholeOf device weighed.list.vars most (parsed (graph_text (record graph { vars = vars })))
      spelled = subst (IsWholeOf device weighed.list.vars most) (sym (reads ∙ ap (λ n. Ok (record graph { vars = n })) same)) (of_cnf, servable.valid.nodes.apart, few_nodes, servable.meaning)
