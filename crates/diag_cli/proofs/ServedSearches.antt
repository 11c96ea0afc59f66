-- A service by a search answers as the system of the device does, or that of a netlist over several times.
use Rattle.std.proofs.Common.{◌≡◌, ◌≤◌, ◌+◌, ℕ, Bool, List, [], ◌∷◌, length, refl, ap, sym, subst, ◌∙◌, arith}
use Rattle.std.specs.Prelude.{Result, Ok, Err, IfOk}
use Rattle.std.proofs.lemmas.List.{length-map, length-replicate}
use Rattle.text_rules.specs.Names.{Name}
use Rattle.state_rules.specs.Ranking.{plain_costs}
use Rattle.device_model.specs.Devices.{Device, part_names, part_costs, fits}
use Rattle.device_model.specs.Diagnosis.{fitting_system}
use Rattle.device_model.specs.declared.component.Component.{Component}
use Rattle.bench_reader.specs.declared.sequential.Sequential.{Sequential}
use Rattle.clause_encoder.specs.Clauses.{ClauseList}
use Rattle.clause_encoder.specs.Encoding.{DescribesBy}
use Rattle.clause_encoder.proofs.Sizes.{encoded-is}
use Rattle.frame_unroller.specs.declared.unrolling.Unrolled.{Unrolled}
use Rattle.frame_unroller.specs.Unrolling.{unrolled, IsUnrolled}
use Rattle.frame_unroller.specs.Diagnosis.{frame_wires, fits_over}
use Rattle.frame_unroller.proofs.UnrollRefusals.{unrolled-names}
use Rattle.session_rules.proofs.KeptCases.{HasCases-empty}
use Rattle.session_core.specs.Services.{Shown}
use Rattle.search_engine.specs.Searched.{ClauseSubject, clause_system}
use Rattle.search_engine.proofs.ClauseAnswers.{clause_replies}
use Rattle.device_files.specs.Choices.{IsListOf}
use Rattle.diag_cli.specs.declared.words.ServeOptions.{ServeOptions}
use Rattle.diag_cli.specs.Behaviours.{ready_line, answers_of, searched, searched_device, searched_frames, if_encoded}
use Rattle.diag_cli.specs.inner.Serving.{answers_by, Answers}

-- clauses that describe which bits fit
module _ (options : ServeOptions) (parts wires : List Name) (costs : List ℕ) (fits_by : List Bool → List Bool → Bool) (cnf : ClauseList)
    (long : length costs ≡ length parts) (enough : length parts + length wires ≤ cnf.vars) (describes : DescribesBy cnf (length parts) (length wires) fits_by) where
  abbrev subject : ClauseSubject
  subject = record { parts = parts; wires = wires; costs = costs; cnf = cnf; levels = options.extras.levels }

  same_answers : answers_of (clause_system subject) options.sessions ≡ answers_of (searched options (fitting_system parts wires costs fits_by)) options.sessions
  same_answers = λ k lines. ready_line (fitting_system parts wires costs fits_by)
      ∷ clause_replies parts wires costs fits_by cnf options.extras.levels long enough describes options.sessions [] lines (HasCases-empty (fitting_system parts wires costs fits_by)) k

  pub fitting_answers : (shown : Shown) → shown ≡ record { system = clause_system subject; limit = options.sessions; table = [] }
      → Answers (searched options (fitting_system parts wires costs fits_by)) options.sessions shown
  fitting_answers shown e = record { none_open = ap (λ (s : Shown). s.table) e; same = ap answers_by e ∙ same_answers }

-- ---- a device

module _ (options : ServeOptions) (device : Device) (cnf : ClauseList) (of : IsListOf device cnf) where
  named : length device.parts ≡ length (part_names device.parts)
  named = sym (length-map device.parts (λ (part : Component). part.name))

  pub device_enough : length (part_names device.parts) + length device.wires ≤ cnf.vars
  device_enough = omega (arith, named, (encoded-is device cnf of.encoded).vars)

  pub device_encodes : if_encoded (Ok device) ≡ Ok device
  device_encodes = rw of.encoded refl

  -- what a service over these clauses shows
  abbrev over_clauses : List Name → List Name → List ℕ → Shown
  over_clauses parts wires costs = record {
    system = clause_system (record { parts = parts; wires = wires; costs = costs; cnf = cnf; levels = options.extras.levels });
    limit = options.sessions;
    table = [];
  }

  pub device_serves : {S E : Type 0} (show : S → Shown) (result : Result S E) (parts wires : List Name) (costs : List ℕ) → parts ≡ part_names device.parts → wires ≡ device.wires → costs ≡ part_costs device
      → length costs ≡ length device.parts → IfOk result (λ service. show service ≡ over_clauses parts wires costs) → IfOk result (λ service. Answers (searched_device options device) options.sessions (show service))
  device_serves show (Err e) parts wires costs p w k many is = tt
  device_serves show (Ok service) parts wires costs p w k many is =
      fitting_answers options (part_names device.parts) device.wires (part_costs device) (fits device) cnf (sym (ap length k) ∙ many ∙ named) device_enough
      (subst (λ n. DescribesBy cnf n (length device.wires) (fits device)) named of.describes) (show service) (is ∙ (λ i. over_clauses (p i) (w i) (k i)))

-- ---- a netlist over several times

module _ (options : ServeOptions) (seq : Sequential) (frames : ℕ) (made : Unrolled) (is : unrolled seq frames ≡ Ok made) (valid : IsUnrolled made)
    (describes : DescribesBy made.cnf (length seq.device.parts) (length (frame_wires seq frames)) (fits_over seq frames)) where
  parts_are : made.parts ≡ part_names seq.device.parts
  parts_are = (unrolled-names seq frames made is).0

  wires_are : made.wires ≡ frame_wires seq frames
  wires_are = (unrolled-names seq frames made is).1

  frames_named : length seq.device.parts ≡ length (part_names seq.device.parts)
  frames_named = sym (length-map seq.device.parts (λ (part : Component). part.name))

  frames_enough : length (part_names seq.device.parts) + length (frame_wires seq frames) ≤ made.cnf.vars
  frames_enough = omega (arith, valid.room, ap length parts_are, ap length wires_are)

  abbrev over_frames : List Name → List Name → List ℕ → Shown
  over_frames parts wires costs = record {
    system = clause_system (record { parts = parts; wires = wires; costs = costs; cnf = made.cnf; levels = options.extras.levels });
    limit = options.sessions;
    table = [];
  }

  pub frames_serve : {S E : Type 0} (show : S → Shown) (result : Result S E) (parts wires : List Name) (costs : List ℕ) → parts ≡ made.parts → wires ≡ made.wires → costs ≡ plain_costs (length seq.device.parts)
      → IfOk result (λ service. show service ≡ over_frames parts wires costs) → IfOk result (λ service. Answers (searched_frames frames options seq) options.sessions (show service))
  frames_serve show (Err e) parts wires costs p w k is = tt
  frames_serve show (Ok service) parts wires costs p w k is =
      fitting_answers options (part_names seq.device.parts) (frame_wires seq frames) (plain_costs (length seq.device.parts)) (fits_over seq frames) made.cnf
      (length-replicate {A = ℕ} (length seq.device.parts) 1 ∙ frames_named) frames_enough
      (subst (λ n. DescribesBy made.cnf n (length (frame_wires seq frames)) (fits_over seq frames)) frames_named describes) (show service)
      (is ∙ (λ i. over_frames ((p ∙ parts_are) i) ((w ∙ wires_are) i) (k i)))
