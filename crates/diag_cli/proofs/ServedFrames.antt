-- A service over a netlist and several times answers as its system does.
use Rattle.std.proofs.Common.{◌≡◌, ◌≤◌, ◌+◌, ℕ, List, [], ◌∷◌, length, ap, sym, subst, ◌∙◌, arith}
use Rattle.std.specs.Prelude.{Result, Ok, Option}
use Rattle.std.specs.Result.{result_and}
use Rattle.std.proofs.lemmas.List.{length-map, length-replicate}
use Rattle.text_rules.specs.Expected.{IsExpectedFault}
use Rattle.state_rules.specs.Ranking.{plain_costs}
use Rattle.state_rules.specs.Graphs.{Graph}
use Rattle.state_rules.specs.GraphsOver.{IsGraphOver}
use Rattle.device_model.specs.Devices.{part_names}
use Rattle.device_model.specs.declared.component.Component.{Component}
use Rattle.bench_reader.specs.declared.sequential.Sequential.{Sequential}
use Rattle.clause_encoder.specs.Clauses.{ClauseList}
use Rattle.clause_encoder.specs.Encoding.{DescribesBy}
use Rattle.frame_unroller.specs.declared.unrolling.Unrolled.{Unrolled}
use Rattle.frame_unroller.specs.declared.unrolling.UnrollError.{UnrollError}
use Rattle.frame_unroller.specs.Unrolling.{unrolled, reason, IsUnrolled}
use Rattle.frame_unroller.proofs.UnrollRefusals.{unrolled-names}
use Rattle.frame_unroller.specs.Diagnosis.{frame_wires, fits_over, frame_system}
use Rattle.tree_finder.specs.declared.narrowing.Narrowed.{Narrowed}
use Rattle.dnnf_compiler.proofs.CompiledMeaning.{graph_over}
use Rattle.session_rules.specs.GraphSystems.{system_of}
use Rattle.session_rules.proofs.GraphReplies.{fitting_replies}
use Rattle.session_rules.proofs.KeptCases.{HasCases-empty}
use Rattle.session_core.specs.Services.{Shown}
use Rattle.graph_engine.specs.Served.{served_system}
use Rattle.device_files.specs.Weighing.{within}
use Rattle.device_files.specs.Choices.{Weighed, weighed_by, ByForest, IsChosen, HasSum}
use Rattle.device_files.specs.Output.{Output}
use Rattle.device_files.proofs.ForestChoices.{by_same, chosen_gives}
use Rattle.diag_cli.specs.declared.words.ServeOptions.{ServeOptions}
use Rattle.diag_cli.specs.Besides.{in_few_bits}
use Rattle.diag_cli.specs.Behaviours.{ready_line, answers_of, served_frames}
use Rattle.diag_cli.specs.Frames.{unrolled_within, if_unrolled}
use Rattle.diag_cli.specs.inner.Compiling.{IsGraphBy}
use Rattle.diag_cli.specs.inner.Serving.{answers_by, Answers, frames_refusal}

-- ---- a netlist that is not unrolled or not served

module _ (seq : Sequential) (frames : ℕ) (options : ServeOptions) where
  pub not_unrolled_told : (weigh : ClauseList → Weighed) (error : UnrollError) (told : Option Output) → told ≡ frames_refusal error → IsExpectedFault (reason error) (unrolled seq frames)
      → IsExpectedFault told (if_unrolled frames options weigh (Ok seq))
  not_unrolled_told weigh error told is h = grind arith

  -- the result of its clauses with the forest that was chosen for them
  pub unrolled_gives : (made : Unrolled) → unrolled seq frames ≡ Ok made → (chosen : Option Narrowed) → IsChosen options.narrow made.cnf chosen → (FulfilsOutput : Result Sequential Output → Type 0)
      → ((sum : ℕ) → HasSum made.cnf chosen sum → FulfilsOutput (result_and (in_few_bits options.extras (length seq.device.parts) (within options.budget (Ok (record { list = made.cnf; sum = sum })))) (Ok seq)))
      → ByForest (λ choose. FulfilsOutput (if_unrolled frames options (weighed_by options.narrow choose) (Ok seq)))
  unrolled_gives made is chosen of FulfilsOutput given =
      by_same (chosen_gives made.cnf options.narrow chosen of (λ weighed. FulfilsOutput (result_and (in_few_bits options.extras (length seq.device.parts) (within options.budget (Ok weighed))) (Ok seq))) given)
      (λ choose holds. subst FulfilsOutput (sym (ap (λ r. result_and (in_few_bits options.extras (length seq.device.parts) (unrolled_within options.budget (weighed_by options.narrow choose) r)) (Ok seq)) is)) holds)

-- ---- the service of the unrolled netlist

module _ (seq : Sequential) (frames : ℕ) (made : Unrolled) (is : unrolled seq frames ≡ Ok made) (valid : IsUnrolled made) where
  pub parts_are : made.parts ≡ part_names seq.device.parts
  parts_are = (unrolled-names seq frames made is).0

  wires_are : made.wires ≡ frame_wires seq frames
  wires_are = (unrolled-names seq frames made is).1

  pub many_parts : length made.parts ≡ length seq.device.parts
  many_parts = ap length parts_are ∙ length-map seq.device.parts (λ (part : Component). part.name)

  -- a cost for each part
  pub many_costs : (costs : List ℕ) → costs ≡ plain_costs (length seq.device.parts) → length costs ≡ length made.parts
  many_costs costs are = omega (arith, ap length are, length-replicate {A = ℕ} (length seq.device.parts) 1, many_parts)

  module _ (describes : DescribesBy made.cnf (length seq.device.parts) (length (frame_wires seq frames)) (fits_over seq frames))
      (graph : Graph) (sum : ℕ) (by : IsGraphBy (record { list = made.cnf; sum = sum }) graph) where
    room : length seq.device.parts + length (frame_wires seq frames) ≤ made.cnf.vars
    room = omega (arith, valid.room, many_parts, ap length wires_are)

    named : length seq.device.parts ≡ length (part_names seq.device.parts)
    named = sym (length-map seq.device.parts (λ (part : Component). part.name))

    over_names : IsGraphOver (length (part_names seq.device.parts)) (length (frame_wires seq frames)) (fits_over seq frames) graph
    over_names =
        subst (λ n. IsGraphOver n (length (frame_wires seq frames)) (fits_over seq frames) graph) named
        (graph_over (length seq.device.parts) (length (frame_wires seq frames)) (fits_over seq frames) made.cnf graph room describes by.vars by.truth)

    same_answers : (options : ServeOptions)
        → answers_of (system_of (record { parts = part_names seq.device.parts; wires = frame_wires seq frames; costs = plain_costs (length seq.device.parts); graph = graph; extras = options.extras })) options.sessions
        ≡ answers_of (served_frames frames options seq) options.sessions
    same_answers options = λ k lines. ready_line (frame_system seq frames)
        ∷ fitting_replies (part_names seq.device.parts) (frame_wires seq frames) (plain_costs (length seq.device.parts)) (fits_over seq frames) graph over_names options.extras options.sessions [] (HasCases-empty (frame_system seq frames)) lines k

    pub frames_answer : (options : ServeOptions) (costs : List ℕ) (shown : Shown) → costs ≡ plain_costs (length seq.device.parts)
        → shown ≡ record {
          system = served_system (record { parts = made.parts; wires = made.wires; costs = costs; graph = graph; extras = options.extras });
          limit = options.sessions;
          table = [];
        } → Answers (served_frames frames options seq) options.sessions shown
    frames_answer options costs shown are e = record {
      none_open = ap (λ (s : Shown). s.table) e;
      same = ap answers_by e
          ∙ (λ i. answers_of (system_of (record { parts = parts_are i; wires = wires_are i; costs = are i; graph = graph; extras = options.extras })) options.sessions)
          ∙ same_answers options;
    }
