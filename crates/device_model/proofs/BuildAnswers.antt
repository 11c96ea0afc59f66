-- The results of `built`, one equation for each reason.
use Rattle.std.proofs.Common.{◌≡◌, ℕ, ◌≤◌, not, List, [], length, Option, Some, None, Ok, Err, refl, sym, ◌∙◌}
use Rattle.std.specs.Prelude.{position}
use Rattle.std.proofs.lemmas.Bool.{le-ltb}
use Rattle.text_rules.specs.Names.{Name}
use Rattle.device_model.specs.declared.component.Component.{Component}
use Rattle.device_model.specs.declared.building.BuildError.TheVariants.{Arity, NoWire}
use Rattle.device_model.specs.TruthTable.{TruthTable}
use Rattle.device_model.specs.Devices.{part_names, has_arity, has_wires}
use Rattle.device_model.specs.Building.{built, repeated, device_of}

module _ (parts : List Component) (wires : List Name) (tables : List TruthTable) (few_parts : length parts ≤ 4096) (few_wires : length wires ≤ 16384)
    (parts_differ : repeated (part_names parts) ≡ []) (wires_differ : repeated wires ≡ []) where
  pub built-arity : (place : ℕ) → Some place ≡ position (λ part. not (has_arity tables part)) parts → built parts wires tables ≡ Err (Arity place)
  built-arity place h = rw (le-ltb 4096 (length parts) few_parts, le-ltb 16384 (length wires) few_wires, parts_differ, wires_differ, sym h) refl

  module _ (arities : None ≡ position (λ part. not (has_arity tables part)) parts) where
    pub built-no_wire : (place : ℕ) → Some place ≡ position (λ part. not (has_wires (length wires) part)) parts → built parts wires tables ≡ Err (NoWire place)
    built-no_wire place h = rw (le-ltb 4096 (length parts) few_parts, le-ltb 16384 (length wires) few_wires, parts_differ, wires_differ, sym arities, sym h) refl

    pub built-device : None ≡ position (λ part. not (has_wires (length wires) part)) parts → built parts wires tables ≡ Ok (device_of parts wires tables)
    built-device h = rw (le-ltb 4096 (length parts) few_parts, le-ltb 16384 (length wires) few_wires, parts_differ, wires_differ, sym arities, sym h) refl

-- the same searches over equal lists
pub arity_at : (r : Option ℕ) (ts tables : List TruthTable) (ps parts : List Component) → ts ≡ tables → ps ≡ parts → r ≡ position (λ part. not (has_arity ts part)) ps → r ≡ position (λ part. not (has_arity tables part)) parts
arity_at r ts tables ps parts e g h = h ∙ (λ j. position (λ part. not (has_arity (e j) part)) (g j))
