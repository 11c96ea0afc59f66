-- The meaning of the code's forms.
use Rattle.std.specs.Prelude.{◌≤◌, IfSome}
use Rattle.adder_load.specs.declared.adders.TheConstants.{PLACE_LIMIT}
use Rattle.device_model.specs.declared.limits.TheConstants.{PART_LIMIT}
use Rattle.branch_states.specs.declared.measuring.TheConstants.{BUDGET_LIMIT}
use Rattle.frame_unroller.specs.declared.unrolling.TheConstants.{FRAME_LIMIT}
use Rattle.level_lister.specs.declared.levels.TheConstants.{TOP_LIMIT}
use Rattle.session_core.specs.declared.limits.TheConstants.{SESSION_LIMIT}
use Rattle.diag_cli.specs.declared.words.ServeOptions.{ServeOptions}
use Rattle.diag_cli.specs.declared.words.Command.{Command}
use Rattle.diag_cli.specs.declared.words.Command.TheVariants.{Serve, ServeFrames, Ask, Compile}
use Rattle.diag_cli.specs.declared.words.Form.{Form as FormRead}
use Rattle.diag_cli.specs.declared.words.Form.TheVariants.{Load as LoadRead, Over as OverRead}
use Rattle.diag_cli.specs.Words.{Form, Load, Over}

abbrev pub meant : FormRead → Form
meant (LoadRead places) = Load places
meant (OverRead path command) = Over path.now command

-- The numbers in options of `serve` are within their limits.
pub record AreWithinLimits (options : ServeOptions) : Type 0 where
  pub budget : options.budget ≤ BUDGET_LIMIT
  pub some : 1 ≤ options.sessions
  pub few : options.sessions ≤ SESSION_LIMIT
  pub top : IfSome options.extras.levels (λ top. top ≤ TOP_LIMIT)

-- so are those of a command
abbrev pub IsCommandWithin : Command → Type 0
IsCommandWithin (Serve options) = AreWithinLimits options
IsCommandWithin (ServeFrames frames options) = (1 ≤ frames) × (frames ≤ FRAME_LIMIT) × AreWithinLimits options
IsCommandWithin (Ask health sessions) = (health ≤ PART_LIMIT) × (1 ≤ sessions) × (sessions ≤ SESSION_LIMIT)
IsCommandWithin (Compile budget narrow) = budget ≤ BUDGET_LIMIT
IsCommandWithin command = Unit {0}

abbrev pub IsWithinLimits : Form → Type 0
IsWithinLimits (Load places) = places ≤ PLACE_LIMIT
IsWithinLimits (Over path command) = IsCommandWithin command
