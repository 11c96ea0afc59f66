-- Extras that take few bits.
use Rattle.std.proofs.Common.{◌≡◌, ◌+◌, ◌*◌, ◌/◌, ◌^◌, ◌<◌, ◌≤◌, ℕ, Bool, true, length, Option, IfSome, arith}
use Rattle.std.specs.Prelude.{Result, Ok, Err, IfOk}
use Rattle.std.proofs.Math.Nat.{mul-le-mul_right, le_trans}
use Rattle.std.proofs.lemmas.Bool.Decides.{nat_tests}
use Rattle.text_rules.specs.Expected.{IsExpectedFault, Fulfils}
use Rattle.state_rules.specs.declared.extras.Extras.{Extras}
use Rattle.state_rules.specs.Graphs.{Graph, edges}
use Rattle.dnnf_compiler.specs.Compiled.{most_nodes}
use Rattle.graph_engine.specs.declared.limits.TheConstants.{SERVED_BITS}
use Rattle.graph_engine.specs.Served.{CanList, CanDraw}
use Rattle.device_files.specs.declared.refusal.Refusal.{Refusal}
use Rattle.device_files.specs.Choices.{Weighed}
use Rattle.device_files.specs.Output.{Output}
use Rattle.device_files.specs.Refusals.{refusal_output}
use Rattle.diag_cli.specs.Besides.{if_few, in_few_bits}
use Rattle.diag_cli.specs.inner.Bits.{levels_bits, least_bits}
use Rattle.diag_cli.specs.inner.Compiling.{IsGraphBy}
use Rattle.diag_cli.specs.inner.Serving.{CanTell}

-- ---- what takes few bits over the greatest graph does over each

module _ (graph : Graph) (parts sum vars : ℕ) (few : length graph.nodes ≤ most_nodes sum vars) where
  can_list : (levels : Option ℕ) → levels_bits sum vars parts levels ≤ SERVED_BITS → IfSome levels (CanList graph parts)
  can_list levels bits = grind (arith, few, mul-le-mul_right, le_trans)

  can_draw : (least : Bool) → (least ≡ true → length graph.nodes + edges graph.nodes + 2 * parts + 1 < 2 ^ 32) → least_bits sum vars parts least ≤ SERVED_BITS → least ≡ true → CanDraw graph parts
  can_draw least lines bits told = record { lines = lines told; few = grind (arith, few, mul-le-mul_right (32 * (2 + (parts + 31) / 32)) few) }

-- ---- what is refused

pub few_pass : (bits : ℕ) (other : Result Weighed Output) → bits ≤ SERVED_BITS → if_few bits other ≡ other
few_pass bits other few = grind (arith, nat_tests)

-- what is not refused takes few bits
few_of_all : (extras : Extras) (parts : ℕ) (weighed : Weighed) → in_few_bits extras parts (Ok weighed) ≡ Ok weighed
    → (levels_bits weighed.sum weighed.list.vars parts extras.levels ≤ SERVED_BITS) × (least_bits weighed.sum weighed.list.vars parts extras.least ≤ SERVED_BITS)
few_of_all extras parts weighed fits = grind (arith, nat_tests)

-- ---- what calls return

-- the extras can be offered over a compiled graph, if they take few bits and lines can be numbered
pub tells_in_few : (extras : Extras) (parts : ℕ) (weighed : Weighed) (graph : Graph)
    → in_few_bits extras parts (Ok weighed) ≡ Ok weighed → IsGraphBy weighed graph → (extras.least ≡ true → length graph.nodes + edges graph.nodes + 2 * parts + 1 < 2 ^ 32) → CanTell extras graph parts
tells_in_few extras parts weighed graph fits by lines =
    let few = few_of_all extras parts weighed fits in
    record { levels = can_list graph parts _ _ by.few_nodes extras.levels few.0; least = can_draw graph parts _ _ by.few_nodes extras.least lines few.1 }

pub if_ok_map : {T E : Type 0} {A B : T → Type 0} (result : Result T E) → ((t : T) → A t → B t) → IfOk result A → IfOk result B
if_ok_map result f is = grind arith

-- A refusal passes through what keeps refusals,
pub fault_through : {A B : Type 0} (f : Result A Output → Result B Output) → ((output : Output) → f (Err output) ≡ Err output) → (fault : Option Output) (expected : Result A Output)
    → IsExpectedFault fault expected → IsExpectedFault fault (f expected)
fault_through f kept fault expected is = grind arith

-- and so does what was found, through what shows something else in its place.
pub fulfils_through : {A X Y : Type 0} (f : Result X Output → Result Y Output) (x : X) (y : Y) → f (Ok x) ≡ Ok y → ((output : Output) → f (Err output) ≡ Err output)
    → (expected : Result X Output) (result : Result A Refusal) → Fulfils (λ (_ : A). x) refusal_output expected result → Fulfils (λ (_ : A). y) refusal_output (f expected) result
fulfils_through f x y shows kept expected result is = grind (arith, fault_through f kept)
