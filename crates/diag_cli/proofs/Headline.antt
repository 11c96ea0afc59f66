-- From the effect of a behaviour to a run.
use Rattle.std.proofs.Common.{◌≡◌, ◌≢◌, ◌⊎◌, ◌<◌, ◌≤◌, ◌+◌, ℕ, true, false, List, [], length, replicate, Option, Some, None, IfSome, inl, inr, refl, ◌∙◌, ap, subst, sym, arith, nat_le, codes}
use Rattle.std.specs.Option.{IsSome}
use Rattle.std.proofs.lemmas.List.{length-replicate}
use Rattle.text_rules.specs.declared.text_lines.TheConstants.{TEXT_LIMIT}
use Rattle.diag_edge.specs.Edge.{Reading, Writing, RoseExactly, Holding, absent, known_bytes}
use Rattle.diag_edge.specs.declared.loading.LoadError.{LoadError}
use Rattle.diag_edge.specs.declared.loading.LoadError.TheVariants.{Failed as LoadFailed, Long, Memory}
use Rattle.clause_encoder.specs.Clauses.{ClauseList}
use Rattle.elimination_forests.specs.Forests.{Forest}
use Rattle.session_rules.specs.Items.{Item}
use Rattle.device_files.specs.declared.status.Status.{Status}
use Rattle.device_files.specs.declared.status.Status.TheVariants.{Refused, Usage, WriteFailed}
use Rattle.device_files.specs.Output.{Output, FulfilsOutput, says, no_memory, too_long_line, FulfilsOutputUnlessMemory}
use Rattle.device_files.specs.Refusals.{or_memory}
use Rattle.diag_cli.specs.declared.words.Command.{Command}
use Rattle.diag_cli.specs.Words.{Form, Load, Over, named_file}
use Rattle.diag_cli.specs.Behaviours.{Behaviour, Prints, AnswersScript, not_loaded, behaviour_by, behaviour_of}
use Rattle.diag_cli.specs.Loads.{loaded}
use Rattle.diag_cli.specs.Runs.{IsDone, IsRun}
use Rattle.diag_cli.specs.Fulfilled.{IsIdle, IsServed, FulfilsBehaviour}
use Rattle.diag_cli.specs.inner.Serving.{FulfilsBehaviourUnlessMemory}
use Rattle.diag_cli.proofs.Unread.{IsUnread}

pub some_map : {A : Type 0} {P Q : A → Type 0} (o : Option A) → ((a : A) → P a → Q a) → IfSome o P → IfSome o Q
some_map o f h = grind arith

-- the file that is shown, under another name
pub same_file : (file bytes : List ℕ) (told : Option (List ℕ)) → file ≡ bytes → IfSome told (λ all. bytes ≡ all) → IfSome told (λ all. file ≡ all)
same_file file bytes told same is = some_map told (λ all e. same ∙ e) is

-- ---- a file may be too long

abbrev long_file_line : List ℕ
long_file_line = too_long_line (codes "file") TEXT_LIMIT

short_behaviour : (choose : ClauseList → Option Forest) (path : List ℕ) (command : Command) (file : List ℕ) → length file ≤ TEXT_LIMIT → behaviour_of choose (Some (Over path command)) file ≡ behaviour_by choose path command file
short_behaviour choose path command file short = let few : nat_le (length file) TEXT_LIMIT ≡ true = grind arith in rw few

long_behaviour : (choose : ClauseList → Option Forest) (path : List ℕ) (command : Command) (file : List ℕ) → TEXT_LIMIT < length file → behaviour_of choose (Some (Over path command)) file ≡ Prints (says long_file_line Refused)
long_behaviour choose path command file long = let many : nat_le (length file) TEXT_LIMIT ≡ false = grind arith in rw many

-- some bytes are too many: those that are shown, if any are
long_file : (limit : ℕ) (told : Option (List ℕ)) → IfSome told (λ bytes. limit < length bytes) → (file : List ℕ) × IfSome told (λ bytes. file ≡ bytes) × (limit < length file)
long_file limit None long = (replicate (limit + 1) 0, tt, omega (arith, length-replicate {A = ℕ} (limit + 1) 0))
long_file limit (Some file) long = (file, refl, long)

-- ---- what was found is served, or refused

module _ (input new_input : Reading) (out new_out : Writing) (status : Status) where
  pub follows_refusal : (behaviour : Behaviour) (fault : Option Output) → IfSome fault (λ output. behaviour ≡ Prints output) → IsIdle input new_input
      → FulfilsOutput (or_memory fault) status out.got new_out.got → FulfilsBehaviourUnlessMemory behaviour input new_input out new_out status
  follows_refusal behaviour fault is idle said = grind arith

  pub follows_serves : (behaviour : Behaviour) (answers : List (List ℕ) → List Item) → behaviour ≡ AnswersScript answers → IsServed answers input new_input out new_out status → FulfilsBehaviourUnlessMemory behaviour input new_input out new_out status
  follows_serves behaviour answers is done = grind arith

-- ---- runs

module _ (choose : ClauseList → Option Forest) (held : List ℕ → Holding) (shelf new_shelf input : Reading) (out new_out : Writing) (status : Status) (writes : RoseExactly out.faults new_out.faults (status ≡ WriteFailed)) where
  idle : (reading : Reading) → IsIdle reading reading
  idle reading = record { left = refl; taken = refl; faults = refl }

  -- The words name no file.
  unnamed : (form : Option Form) → IsDone choose form (Some []) shelf shelf input input out new_out status ⊎ (IsSome form × FulfilsBehaviour (Prints no_memory) input input out new_out status) → named_file form ≡ None
      → IsRun choose form held shelf shelf input input out new_out status
  unnamed form done none = grind (arith, done, none, writes, idle)

  -- They have no form.
  pub run_usage : FulfilsOutput (says (codes "error: usage\n") Usage) status out.got new_out.got → IsRun choose None held shelf shelf input input out new_out status
  run_usage said = unnamed None (inl (record { file = []; is_told = refl; taken = omega arith; follows = (idle input, said) })) refl

  -- An adder is made.
  pub run_load : (places : ℕ) → FulfilsOutputUnlessMemory (loaded places) status out.got new_out.got → IsRun choose (Some (Load places)) held shelf shelf input input out new_out status
  run_load places said = unnamed (Some (Load places)) (elim said [ inl short ↦ inr (refl, (idle input, short)) | inr full ↦ inl (record { file = []; is_told = refl; taken = omega arith; follows = (idle input, full) }) ]) refl

  module _ (path : List ℕ) (command : Command) where
    module _ (new_input : Reading) where
      -- The file was read.
      pub run_loaded : (file : List ℕ) → IfSome (known_bytes (held path)) (λ bytes. file ≡ bytes) → held path ≢ absent → new_shelf.faults ≡ shelf.faults
          → new_shelf.taken ≡ shelf.taken + length file → length file ≤ TEXT_LIMIT
          → FulfilsBehaviourUnlessMemory (behaviour_by choose path command file) input new_input out new_out status
          → IsRun choose (Some (Over path command)) held shelf new_shelf input new_input out new_out status
      run_loaded file is there kept taken small follows =
          let once : IfSome (known_bytes (held path)) (λ bytes. new_shelf.taken ≤ shelf.taken + length bytes) = some_map (known_bytes (held path)) (λ bytes same. omega (arith, taken, ap length same)) is in
          grind (arith, once, by follows)
        where
          by : FulfilsBehaviourUnlessMemory (behaviour_by choose path command file) input new_input out new_out status
              → IsDone choose (Some (Over path command)) (known_bytes (held path)) shelf new_shelf input new_input out new_out status
              ⊎ (IsSome (Some (Over path command)) × FulfilsBehaviour (Prints no_memory) input new_input out new_out status)
          by (inl said) = inr (refl, said)
          by (inr done) = inl (record { file = file; is_told = is; taken = omega (arith, taken, small); follows = subst (λ c. FulfilsBehaviour c input new_input out new_out status) (sym (short_behaviour choose path command file small)) done })

    -- The file was not read.
    module _ (bounded : new_shelf.taken ≤ shelf.taken + TEXT_LIMIT + 1) (once : IfSome (known_bytes (held path)) (λ file. new_shelf.taken ≤ shelf.taken + length file)) where
      abbrev DoneOrShort : Type 0
      DoneOrShort = IsDone choose (Some (Over path command)) (known_bytes (held path)) shelf new_shelf input input out new_out status
          ⊎ (IsSome (Some (Over path command)) × FulfilsBehaviour (Prints no_memory) input input out new_out status)

      -- It is there.
      there : held path ≢ absent → new_shelf.faults ≡ shelf.faults → DoneOrShort → IsRun choose (Some (Over path command)) held shelf new_shelf input input out new_out status
      there is kept done = grind (arith, done, once, bounded)

      -- a file that is too long, and is the shown one, if one is shown
      long_done : (file : List ℕ) → IfSome (known_bytes (held path)) (λ bytes. file ≡ bytes) → TEXT_LIMIT < length file → new_shelf.taken ≡ shelf.taken + TEXT_LIMIT + 1
          → FulfilsOutput (says long_file_line Refused) status out.got new_out.got → DoneOrShort
      long_done file is long taken said = inl (record {
        file = file;
        is_told = is;
        taken = omega (arith, taken, long);
        follows = subst (λ c. FulfilsBehaviour c input input out new_out status) (sym (long_behaviour choose path command file long)) (idle input, said);
      })

      pub run_unread : (error : LoadError) → IsUnread error (held path) shelf.faults new_shelf.faults
          → ((limit : ℕ) → error ≡ Long limit → new_shelf.taken ≡ shelf.taken + TEXT_LIMIT + 1) → FulfilsOutput (not_loaded error) status out.got new_out.got
          → IsRun choose (Some (Over path command)) held shelf new_shelf input input out new_out status
      run_unread LoadFailed rises taken said = grind (arith, once, bounded, idle input)
      run_unread (Long limit) is taken said = let some = long_file TEXT_LIMIT (known_bytes (held path)) is.0 in there is.1 is.2 (long_done some.0 some.1 some.2 (taken limit refl) said)
      run_unread Memory is taken said = there is.0 is.1 (inr (refl, (idle input, said)))
