-- Each part of an instance has as many wires as its kind takes.
use Rattle.std.proofs.Common.{◌≡◌, ℕ, zero, suc, ◌-◌, Bool, true, false, List, [], ◌∷◌, ◌++◌, map, length, get_or, drop, refl, ap, ◌∙◌, arith}
use Rattle.std.specs.Prelude.{◌==◌, slice_get}
use Rattle.std.specs.List.{list_all, flat_map}
use Rattle.std.specs.Option.{option_map_or}
use Rattle.std.proofs.lemmas.Bool.{and_from}
use Rattle.std.proofs.lemmas.List.{length-map}
use Rattle.text_rules.specs.Names.{Name}
use Rattle.state_rules.specs.Values.{values}
use Rattle.state_rules.proofs.Lists.{list_all-both}
use Rattle.device_model.specs.declared.gates.Rule.{Rule}
use Rattle.device_model.specs.TruthTable.{TruthTable}
use Rattle.device_model.specs.Devices.{takes_ports, rows_take}
use Rattle.device_model.specs.Gates.{rule, takes_inputs}
use Rattle.device_model.specs.Building.{NamedPart}
use Rattle.component_lang.specs.declared.design.UsedKind.{UsedKind}
use Rattle.component_lang.specs.declared.design.UsedKind.TheVariants.{Gate, Shape as OfShape, Block as OfBlock}
use Rattle.component_lang.specs.declared.design.Used.{Used}
use Rattle.component_lang.specs.declared.design.Shape.{Shape}
use Rattle.component_lang.specs.declared.design.Block.{Block}
use Rattle.component_lang.specs.Designs.{is_used, are_blocks, takes_args}
use Rattle.flattener.specs.Flat.{Content, Instance, nothing, below, kind_content, used_content, instance}
use Rattle.flattener.proofs.Relative.{GoodBlock-from_test}
use Rattle.flattener.proofs.Values.{values-hold}

abbrev pub tables_of : List Shape → List TruthTable
tables_of types = map (λ (s : Shape). s.table) types

abbrev pub is_fed : List TruthTable → NamedPart → Bool
is_fed tables part = takes_ports tables (rule part.kind) (length part.wires)

-- a gate takes its ports whatever the tables are
gate_fed : (tables : List TruthTable) (r : Rule) (ports : ℕ) → takes_inputs r (ports - 1) ≡ true → takes_ports tables r ports ≡ true
gate_fed tables r ports h = grind arith

type_fed : (types : List Shape) (place n : ℕ) → option_map_or (λ (s : Shape). s.table.ports == n) (slice_get types place) false ≡ true → rows_take (slice_get (tables_of types) place) n ≡ true
type_fed [] place n h = h
type_fed (s ∷ types) zero n h = h
type_fed (s ∷ types) (suc place) n h = type_fed types place n h

abbrev AllFed : List Shape → Instance → Type 0
AllFed types made = (path : Name) (passed : List Name) → list_all (is_fed (tables_of types)) (made path passed).parts ≡ true

module _ (types : List Shape) (above : List Block) (mades : List Instance) (h : (j : ℕ) → AllFed types (get_or mades j nothing)) where
  kind_fed : (kind : UsedKind) (path : Name) (passed : List Name) (n : ℕ) → length passed ≡ n → takes_args types above kind n ≡ true
      → list_all (is_fed (tables_of types)) (kind_content mades kind path passed).parts ≡ true
  kind_fed (Gate kind) path passed n e g = and_from (takes_ports (tables_of types) (rule kind) (length passed)) true (gate_fed (tables_of types) (rule kind) (length passed) (ap (λ k. takes_inputs (rule kind) (k - 1)) e ∙ g)) refl
  kind_fed (OfShape place) path passed n e g = grind (arith, type_fed)
  kind_fed (OfBlock place) path passed n e g = h place path passed

  all_fed : (path : Name) (wires : List Name) (count : ℕ) (parts : List Used) → list_all (is_used types above count) parts ≡ true
      → list_all (is_fed (tables_of types)) (flat_map (λ (c : Content). c.parts) (map (used_content mades path wires) parts)) ≡ true
  all_fed path wires count [] g = refl
  all_fed path wires count (u ∷ us) g = grind (arith, list_all-both, kind_fed, length-map, all_fed path wires count us)

pub instances-fed : (types : List Shape) (blocks : List Block) → are_blocks types [] blocks ≡ true → (j : ℕ) (path : Name) (passed : List Name)
    → list_all (is_fed (tables_of types)) (get_or (values instance blocks) j nothing path passed).parts ≡ true
instances-fed types blocks good j =
    values-hold types instance nothing (AllFed types) (λ path passed. refl)
    (λ above block mades g h path passed. all_fed types above mades h path (passed ++ map (below path) (drop block.ports block.wires)) (length block.wires) block.parts (GoodBlock-from_test types above block g).used)
    blocks good j
