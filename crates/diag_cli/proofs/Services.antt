-- A service that was made, or its refusal, is for a behaviour.
use Rattle.std.proofs.Common.{◌≡◌, ℕ, [], Option, arith}
use Rattle.std.specs.Prelude.{Result, IfOk, IfSome}
use Rattle.std.proofs.lemmas.Result.{err_from_is_err_and}
use Rattle.text_rules.specs.Expected.{IsExpectedFault, Fulfils}
use Rattle.state_rules.specs.Systems.{System}
use Rattle.session_core.specs.Services.{Shown}
use Rattle.device_files.specs.declared.refusal.Refusal.{Refusal}
use Rattle.device_files.specs.Output.{Output}
use Rattle.device_files.specs.Refusals.{refusal_output}
use Rattle.device_files.proofs.KeptRefusals.{refused_then}
use Rattle.diag_cli.specs.Behaviours.{Prints, served_or_refused}
use Rattle.diag_cli.specs.inner.Serving.{Answers, IsFor}

module _ {A : Type 0} (system : A → System) (sessions : ℕ) (expected : Result A Output) where
  pub refused_for : (fault : Option Output) → IsExpectedFault fault expected → IfSome fault (λ output. served_or_refused system sessions expected ≡ Prints output)
  refused_for fault is = grind arith

  pub service_for : {S : Type 0} (show : S → Shown) (view : S → A) (result : Result S Refusal) → Fulfils view refusal_output expected result
      → IfOk result (λ service. Answers (system (view service)) sessions (show service)) → IsFor show (served_or_refused system sessions expected) result
  service_for show view result is of = grind (arith, refused_for)

pub none_open : {S : Type 0} (show : S → Shown) (system : S → System) (sessions : ℕ) (result : Result S Refusal)
    → IfOk result (λ service. Answers (system service) sessions (show service)) → IfOk result (λ service. (show service).table ≡ [])
none_open show system sessions result of = grind arith

pub ruleset made_services = (err_from_is_err_and, refused_then, refused_for, service_for, none_open)
