-- `HasDetails` follows from `IsRun`.
use Rattle.std.proofs.Common.{◌≡◌, ◌≢◌, ◌⊎◌, ◌<◌, ◌≤◌, ◌+◌, ℕ, Bool, true, false, List, [], length, Option, Some, None, IfSome, inl, inr, refl, ◌∙◌, ap, subst, sym, arith, append-nil}
use Rattle.std.specs.Prelude.{is_some}
use Rattle.std.specs.Io.KnownBytes.{Consumes, IsAtEnd}
use Rattle.text_rules.specs.TextLines.{whole_lines}
use Rattle.diag_edge.specs.Edge.{Reading, Writing, Holding}
use Rattle.clause_encoder.specs.Clauses.{ClauseList}
use Rattle.elimination_forests.specs.Forests.{Forest}
use Rattle.session_rules.specs.Items.{Item}
use Rattle.session_rules.specs.Spelling.{Writes}
use Rattle.device_files.specs.declared.status.Status.{Status}
use Rattle.device_files.specs.declared.status.Status.TheVariants.{Done, ReadFailed, WriteFailed, NoMemory, CutShort}
use Rattle.device_files.specs.Output.{Output, FulfilsOutput, no_memory, says}
use Rattle.device_files.proofs.FailedWrites.{gives_part}
use Rattle.diag_cli.specs.declared.serving.TheConstants.{SCRIPT_LIMIT}
use Rattle.diag_cli.specs.Words.{Form, named_file, known_file}
use Rattle.diag_cli.specs.Behaviours.{Failed, Behaviour, Prints, AnswersScript, read_error, served, behaviour_of}
use Rattle.diag_cli.specs.Fulfilled.{IsIdle, IsServed, WritesFirst, IsStopped, FulfilsBehaviour}
use Rattle.diag_cli.specs.Runs.{IsDone, IsRun}
use Rattle.diag_cli.specs.Details.{asks_script, wholly_served, whole_output, FulfilsOutputUnlessShort, HasDetails}
use Rattle.diag_cli.proofs.Headline.{some_map}
use Rattle.diag_cli.proofs.Endings.{is_plain, IsPlainBehaviour, plain_behaviour}
use Rattle.diag_cli.proofs.Scripts.{taken_all, broken_begins_all}

module _ (input new_input : Reading) (out new_out : Writing) (status : Status) where
  -- ---- how a behaviour that was followed ended, if no write failed

  abbrev Ending : Bool → Type 0
  Ending form =
      ((is_plain form status ≡ true) × (new_input.faults ≡ input.faults) × (new_input.taken < input.taken + SCRIPT_LIMIT))
      ⊎ ((form ≡ true) × (((status ≡ ReadFailed) × (input.faults < new_input.faults) × (new_input.taken < input.taken + SCRIPT_LIMIT))
      ⊎ ((status ≡ CutShort) × (new_input.faults ≡ input.faults) × (new_input.taken ≡ input.taken + SCRIPT_LIMIT))))

  idle_ending : (form : Bool) (output : Output) → is_plain form output.status ≡ true → IsIdle input new_input × FulfilsOutput output status out.got new_out.got → status ≢ WriteFailed → Ending form
  idle_ending form output plain done whole = inl (ap (is_plain form) (done.1.whole whole).0 ∙ plain, done.0.faults, omega (arith, done.0.taken))

  ending : (form : Bool) (behaviour : Behaviour) → IsPlainBehaviour form behaviour → FulfilsBehaviour behaviour input new_input out new_out status → status ≢ WriteFailed → Ending form
  ending form (Prints output) plain done whole = idle_ending form output plain done whole
  ending form (AnswersScript answers) plain done whole = grind arith

  -- ---- what a behaviour that was followed did

  told_idle : (behaviour : Behaviour) (output : Output) → behaviour ≡ Prints output → FulfilsBehaviour behaviour input new_input out new_out status → IsIdle input new_input
  told_idle behaviour output is done = let both : IsIdle input new_input × FulfilsOutput output status out.got new_out.got = subst (λ c. FulfilsBehaviour c input new_input out new_out status) is done in both.0

  -- from the bytes taken to the whole script
  whole_answer : (answers : List (List ℕ) → List Item) (script : List ℕ) → input.left ≡ Some script → IsServed answers input new_input out new_out status
      → new_input.faults ≡ input.faults → FulfilsOutput (wholly_served answers script) status out.got new_out.got
  whole_answer answers script told done kept =
      let took = rw told at done.took in
      elim done.wrote [
        | inl answered ↦
            let all = taken_all script input new_input done.bytes answered.end kept took answered.ends in
            subst (λ o. FulfilsOutput o status out.got new_out.got) (λ k. served answers (all.0 k) (all.1 k)) answered.gives
        | inr broken ↦ gives_part (wholly_served answers script) status out.got new_out.got broken.0 (broken_begins_all answers script done.bytes new_input.left broken.1.lines out.got new_out.got took broken.1.are broken.1.begun)
      ]

  output_of : (behaviour : Behaviour) (left : Option (List ℕ)) → input.left ≡ left → FulfilsBehaviour behaviour input new_input out new_out status
      → IfSome (whole_output behaviour left) (λ output. new_input.faults ≡ input.faults → FulfilsOutput output status out.got new_out.got)
  output_of (Prints output) left told done = λ kept. done.1
  output_of (AnswersScript answers) None told done = tt
  output_of (AnswersScript answers) (Some script) told done = λ kept. whole_answer answers script told done kept

  -- a read failed
  abbrev FaultAnswered : (List (List ℕ) → List Item) → Type 0
  FaultAnswered answers =
      (bytes : List ℕ) × (new_input.taken ≡ input.taken + length bytes) × Consumes input.left new_input.left bytes
      × WritesFirst out.got new_out.got (answers (whole_lines bytes)) × FulfilsOutput (served answers bytes Failed) status out.got new_out.got

  -- a write failed after bytes were taken
  abbrev Stopped : (List (List ℕ) → List Item) → Type 0
  Stopped answers = (bytes : List ℕ) × (new_input.taken ≡ input.taken + length bytes) × Consumes input.left new_input.left bytes × IsStopped answers bytes out.got new_out.got

  stopped_of : (answers : List (List ℕ) → List Item) → input.taken < new_input.taken → IsServed answers input new_input out new_out status → Stopped answers
  stopped_of answers moved done = (
    done.bytes,
    done.counted,
    done.took,
    elim done.wrote [
      | inl answered ↦ record { fed = done.bytes; piece = []; parts = sym (append-nil done.bytes); one_read = omega arith; answered = answered.answered }
      | inr broken ↦ broken.1.stopped (omega (arith, done.counted, moved))
    ],
  )

  -- at most the limit was taken
  few_taken : (behaviour : Behaviour) → FulfilsBehaviour behaviour input new_input out new_out status → new_input.taken ≤ input.taken + SCRIPT_LIMIT
  few_taken behaviour done = grind arith

  -- memory ran out before the script was begun
  idle_without_memory : status ≡ NoMemory → (behaviour : Behaviour) → FulfilsBehaviour behaviour input new_input out new_out status → IsIdle input new_input
  idle_without_memory six behaviour done = grind arith

-- ---- runs

some_all : {A : Type 0} {P : A → Type 0} (o : Option A) → ((a : A) → P a) → IfSome o P
some_all o f = grind arith

not_done : (output : Output) (status : Status) (a b : Option (List ℕ)) → output.status ≢ Done → FulfilsOutput output status a b → status ≢ Done
not_done output status a b other said zero = grind arith

-- commands that ask for no script print an output
idle_by : (choose : ClauseList → Option Forest) (form : Option Form) (file : List ℕ) (input new_input : Reading) (out new_out : Writing) (status : Status) → asks_script form ≡ false
    → FulfilsBehaviour (behaviour_of choose form file) input new_input out new_out status → IsIdle input new_input
idle_by choose form file input new_input out new_out status asks done = grind arith

module _ (choose : ClauseList → Option Forest) (form : Option Form) (held : List ℕ → Holding) (shelf new_shelf input new_input : Reading) (out new_out : Writing) (status : Status)
    (run : IsRun choose form held shelf new_shelf input new_input out new_out status) where
  abbrev told : Option (List ℕ)
  told = known_file held (named_file form)

  abbrev ByFile : Type 0
  ByFile = IsDone choose form told shelf new_shelf input new_input out new_out status

  -- ---- how it ended, if no write failed

  abbrev RunEnding : Type 0
  RunEnding = ((new_shelf.faults ≡ shelf.faults) × Ending input new_input out new_out status (is_some form)) ⊎ ((shelf.faults < new_shelf.faults) × (status ≡ ReadFailed) × IsIdle input new_input)

  run_ending : status ≢ WriteFailed → RunEnding
  run_ending whole = elim run.done [
    | inl kept ↦ inl (
      kept.0,
      elim kept.1 [
        | inl done ↦ ending input new_input out new_out status (is_some form) (behaviour_of choose form done.file) (plain_behaviour choose form done.file) done.follows whole
        | inr short ↦ idle_ending input new_input out new_out status (is_some form) no_memory short.0 short.1 whole
      ],
    )
    | inr unread ↦ inr (unread.0, (unread.1.1.whole whole).0, unread.1.0)
  ]

  -- ---- the script was not begun, or a file decided all

  begun : (IsIdle input new_input × (status ≢ Done)) ⊎ ByFile
  begun = grind (arith, run.done, not_done no_memory, not_done (says read_error ReadFailed))

  -- what holds of a script that the behaviour of the shown file answers
  abbrev IfServed : ((List (List ℕ) → List Item) → Type 0) → Type 0
  IfServed Holds = IfSome told (λ file. (answers : List (List ℕ) → List Item) → behaviour_of choose form file ≡ AnswersScript answers → Holds answers)

  if_served : (Holds : (List (List ℕ) → List Item) → Type 0) → (IsIdle input new_input → status ≢ Done → (answers : List (List ℕ) → List Item) → Holds answers)
      → ((answers : List (List ℕ) → List Item) → IsServed answers input new_input out new_out status → Holds answers) → IfServed Holds
  if_served Holds idle of = elim begun [
    | inl still ↦ some_all told (λ file answers is. idle still.0 still.1 answers)
    | inr done ↦ some_map told (λ file same answers is. of answers (subst (λ c. FulfilsBehaviour c input new_input out new_out status) (ap (behaviour_of choose form) same ∙ is) done.follows)) done.is_told
  ]

  -- ---- what is written

  abbrev IsGiven : Output → Type 0
  IsGiven output = new_shelf.faults ≡ shelf.faults → new_input.faults ≡ input.faults → FulfilsOutputUnlessShort form output status out.got new_out.got

  abbrev IsComplete : Output → Type 0
  IsComplete output = output.status ≡ Done → new_shelf.faults ≡ shelf.faults → new_input.faults ≡ input.faults → new_out.faults ≡ out.faults
      → ((status ≡ Done) × Writes out.got new_out.got output.items) ⊎ ((status ≡ NoMemory) × Writes out.got new_out.got no_memory.items)

  given : IfSome told (λ file. IfSome (whole_output (behaviour_of choose form file) input.left) IsGiven)
  given = elim run.done [
    | inl kept ↦ elim kept.1 [
      | inl done ↦ some_map told (λ file same. subst (λ text. IfSome (whole_output (behaviour_of choose form text) input.left) IsGiven) same
          (some_map (whole_output (behaviour_of choose form done.file) input.left) (λ output gives read taken. inr (gives taken)) (output_of input new_input out new_out status (behaviour_of choose form done.file) input.left refl done.follows))) done.is_told
      | inr short ↦ some_all told (λ file. some_all (whole_output (behaviour_of choose form file) input.left) (λ output read taken. inl (short.0, short.1.1)))
    ]
    | inr unread ↦ some_all told (λ file. some_all (whole_output (behaviour_of choose form file) input.left) (λ output read taken. absurd (omega (arith, read, unread.0))))
  ]

  completes : (output : Output) → IsGiven output → IsComplete output
  completes output gives zero shelf_kept input_kept wrote = grind (arith, run.write_fault, gives shelf_kept input_kept)

  pub run_has_details : HasDetails choose form held shelf new_shelf input new_input out new_out status
  run_has_details = record {
    read_fault = λ whole. grind (arith, run_ending whole);
    no_fault = λ other whole. grind (arith, run_ending whole);
    usage = λ whole. grind (arith, run_ending whole, run.no_name);
    no_file = λ moves. elim run.done [ inl same ↦ absurd (omega (arith, same.0, moves)) | inr unread ↦ unread.1 ];
    not_asked = λ asks. elim begun [ inl still ↦ still.0 | inr done ↦ idle_by choose form done.file input new_input out new_out status asks done.follows ];
    no_script = elim begun [
      | inl still ↦ some_all told (λ file output is. still.0)
      | inr done ↦ some_map told (λ file same output is. told_idle input new_input out new_out status (behaviour_of choose form done.file) output (ap (behaviour_of choose form) same ∙ is) done.follows) done.is_told
    ];
    output = given;
    complete = some_map told (λ file. some_map (whole_output (behaviour_of choose form file) input.left) completes) given;
    script_fault = if_served (λ answers. input.faults < new_input.faults → FaultAnswered input new_input out new_out status answers) (λ still other answers rises. absurd (omega (arith, still.faults, rises))) (λ answers done rises. grind arith);
    stopped = if_served (λ answers. status ≡ WriteFailed → input.taken < new_input.taken → Stopped input new_input out new_out status answers) (λ still other answers five moved. absurd (omega (arith, still.taken, moved))) (λ answers done five moved. stopped_of input new_input out new_out status answers moved done);
    memory = λ six. elim begun [ inl still ↦ still.0 | inr done ↦ idle_without_memory input new_input out new_out status six (behaviour_of choose form done.file) done.follows ];
    all_read = if_served (λ answers. status ≡ Done → IsAtEnd new_input.left) (λ still other answers zero. absurd (other zero)) (λ answers done zero. grind arith);
    script_taken = elim begun [ inl still ↦ omega (arith, still.0.taken) | inr done ↦ few_taken input new_input out new_out status (behaviour_of choose form done.file) done.follows ];
    cut = λ whole. grind (arith, run_ending whole);
  }
