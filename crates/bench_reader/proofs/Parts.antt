-- The parts of statements without a fault, over the driven signals in any order.
use Rattle.std.proofs.Common.{◌≡◌, Bool, true, List, [], ◌∷◌, ◌++◌, map, length, Some, refl, arith}
use Rattle.std.specs.Prelude.{◌&&◌}
use Rattle.std.specs.List.{flat_map, list_all}
use Rattle.std.proofs.lemmas.List.{length-map, length_push}
use Rattle.std.proofs.lemmas.List.Folds.{list_all-append}
use Rattle.std.proofs.lemmas.Simd.{map-map}
use Rattle.text_rules.specs.Names.{Name, is_short_name, is_among}
use Rattle.device_model.specs.declared.gates.Kind.{Kind}
use Rattle.device_model.specs.declared.component.Component.{Component}
use Rattle.device_model.specs.Devices.{part_names, has_arity, has_wires}
use Rattle.device_model.specs.Gates.{rule, takes_inputs}
use Rattle.device_model.specs.Building.{NamedPart, joined}
use Rattle.device_model.proofs.BuiltDevices.{named, named-joined, joined-wired}
use Rattle.bench_reader.specs.declared.kinds.NamedKind.{NamedKind}
use Rattle.bench_reader.specs.Statements.{Statement, Gate, part_gate}
use Rattle.bench_reader.specs.Signals.{driven_by_gate, used}
use Rattle.bench_reader.specs.Netlists.{part_of}
use Rattle.bench_reader.specs.inner.Steps.{is_faultless}

-- ---- a gate without a fault

pub record IsFaultlessGate (output : Name) (kind : NamedKind) (inputs : List Name) : Type 0 where
  pub named : is_short_name output ≡ true
  pub gate : Kind
  pub meant : part_gate kind ≡ Some gate
  pub taken : takes_inputs (rule gate) (length inputs) ≡ true

pub faultless_gate : (output : Name) (kind : NamedKind) (inputs : List Name) → is_faultless (Gate output kind inputs) ≡ true → IsFaultlessGate output kind inputs
faultless_gate output kind inputs h = grind arith

-- ---- one part

-- the names of `parts`
abbrev pub named_names : List NamedPart → List Name
named_names parts = map (λ (part : NamedPart). part.name) parts

module _ (wires : List Name) where
  -- whether a part has the right arity, and its wires are in `wires`
  abbrev pub fits : NamedPart → Bool
  fits part = has_arity [] (joined wires part) && list_all (is_among wires) part.wires

  gate_fits : (output : Name) (kind : NamedKind) (inputs : List Name) → IsFaultlessGate output kind inputs → list_all (is_among wires) (inputs ++ output ∷ []) ≡ true
      → list_all fits (part_of (Gate output kind inputs)) ≡ true
  gate_fits output kind inputs gate there = grind (arith, length-map, length_push)

  pub statement_fits : (s : Statement) → is_faultless s ≡ true → list_all (is_among wires) (driven_by_gate s) ≡ true → list_all (is_among wires) (used s) ≡ true
      → list_all fits (part_of s) ≡ true
  statement_fits s h drives uses = grind (arith, gate_fits, faultless_gate, list_all-append)

  -- ---- all parts

  pub statements_fit : (statements : List Statement) → list_all is_faultless statements ≡ true
      → list_all (λ s. list_all (is_among wires) (driven_by_gate s)) statements ≡ true
      → list_all (λ s. list_all (is_among wires) (used s)) statements ≡ true
      → list_all fits (flat_map part_of statements) ≡ true
  statements_fit [] h drives uses = refl
  statements_fit (s ∷ statements) h drives uses = grind (arith, list_all-append, statement_fits, statements_fit statements)

  -- parts that fit, with places for wires, have their arities and wires, and can be named again
  pub arities-joined : (parts : List NamedPart) → list_all fits parts ≡ true → list_all (has_arity []) (map (joined wires) parts) ≡ true
  arities-joined [] h = refl
  arities-joined (part ∷ parts) h = grind (arith, arities-joined parts)

  pub wired-joined : (parts : List NamedPart) → list_all fits parts ≡ true → list_all (has_wires (length wires)) (map (joined wires) parts) ≡ true
  wired-joined [] h = refl
  wired-joined (part ∷ parts) h = grind (arith, joined-wired, wired-joined parts)

  pub named_back : (parts : List NamedPart) → list_all fits parts ≡ true → map (named wires) (map (joined wires) parts) ≡ parts
  named_back [] h = refl
  named_back (part ∷ parts) h = grind (arith, named-joined, named_back parts)

-- ---- names

pub names-parts : (statements : List Statement) → list_all is_faultless statements ≡ true → named_names (flat_map part_of statements) ≡ flat_map driven_by_gate statements
names-parts [] h = refl
names-parts (s ∷ statements) h = grind (arith, names-parts statements)

pub names-joined : (wires : List Name) (parts : List NamedPart) → part_names (map (joined wires) parts) ≡ named_names parts
names-joined wires parts = map-map (λ (part : Component). part.name) (joined wires) parts
