-- The limits that a user meets, in numbers.
use Rattle.std.proofs.Common.{◌≡◌, ◌^◌, refl}
use Rattle.text_rules.specs.declared.names.TheConstants.{SHORT_NAME_LIMIT}
use Rattle.text_rules.specs.declared.text_lines.TheConstants.{TEXT_LIMIT}
use Rattle.nnf_text.specs.declared.checking.TheConstants.{BITS_LIMIT}
use Rattle.device_model.specs.declared.limits.TheConstants.{PART_LIMIT, WIRE_LIMIT, NAME_LIMIT, INPUT_LIMIT, TYPE_PORT_LIMIT, COST_LIMIT}
use Rattle.flattener.specs.declared.flattening.TheConstants.{INSTANCE_LIMIT}
use Rattle.clause_encoder.specs.declared.limits.TheConstants.{CLAUSE_LIMIT}
use Rattle.branch_states.specs.declared.measuring.TheConstants.{BUDGET_LIMIT}
use Rattle.frame_unroller.specs.declared.unrolling.TheConstants.{FRAME_LIMIT}
use Rattle.level_lister.specs.declared.levels.TheConstants.{TOP_LIMIT}
use Rattle.session_core.specs.declared.limits.TheConstants.{SESSION_LIMIT}
use Rattle.adder_load.specs.declared.adders.TheConstants.{PLACE_LIMIT}
use Rattle.diag_cli.specs.declared.words.TheConstants.{DEFAULT_BUDGET, DEFAULT_SESSIONS}
use Rattle.diag_cli.specs.declared.loading.TheConstants.{LISTED_LIMIT}
use Rattle.diag_cli.specs.declared.serving.TheConstants.{SCRIPT_LIMIT}

-- ---- bytes of a file, a script and names

a_file : TEXT_LIMIT ≡ 16777216
a_file = refl

a_script : SCRIPT_LIMIT ≡ 2 ^ 40
a_script = refl

a_short_name : SHORT_NAME_LIMIT ≡ 64
a_short_name = refl

a_path : NAME_LIMIT ≡ 255
a_path = refl

-- ---- what a device may have

parts : PART_LIMIT ≡ 4096
parts = refl

wires : WIRE_LIMIT ≡ 16384
wires = refl

instances : INSTANCE_LIMIT ≡ 4096
instances = refl

inputs_of_a_gate : INPUT_LIMIT ≡ 64
inputs_of_a_gate = refl

ports_of_a_type : TYPE_PORT_LIMIT ≡ 6
ports_of_a_type = refl

a_cost : COST_LIMIT ≡ 1000
a_cost = refl

clauses : CLAUSE_LIMIT ≡ 262144
clauses = refl

-- ---- what may be asked for

a_budget : BUDGET_LIMIT ≡ 8388608
a_budget = refl

the_budget_if_none_is_given : DEFAULT_BUDGET ≡ 2097152
the_budget_if_none_is_given = refl

sessions : SESSION_LIMIT ≡ 1024
sessions = refl

the_sessions_if_none_are_given : DEFAULT_SESSIONS ≡ 16
the_sessions_if_none_are_given = refl

the_greatest_cost_that_is_listed : TOP_LIMIT ≡ 4096000
the_greatest_cost_that_is_listed = refl

times : FRAME_LIMIT ≡ 64
times = refl

places_of_an_adder : PLACE_LIMIT ≡ 800
places_of_an_adder = refl

diagnoses_of_an_adder : LISTED_LIMIT ≡ 20
diagnoses_of_an_adder = refl

bits_of_a_graph : BITS_LIMIT ≡ 2147483648
bits_of_a_graph = refl
