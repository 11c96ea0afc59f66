-- If parts and wires have no fault, the result is the device of these parts over the names of their wires.
use Rattle.std.proofs.Common.{◌≡◌, ℕ, ◌≤◌, Bool, true, not, nat_lt, List, [], ◌∷◌, map, length, get_or, None, Ok, refl, ap, ◌∙◌, arith}
use Rattle.std.specs.Prelude.{position}
use Rattle.std.specs.List.{list_all, position_or_len}
use Rattle.std.proofs.lemmas.Simd.{map-map}
use Rattle.text_rules.specs.Names.{Name, is_among}
use Rattle.device_model.specs.declared.limits.TheConstants.{PART_LIMIT, WIRE_LIMIT}
use Rattle.device_model.specs.declared.component.Component.{Component}
use Rattle.device_model.specs.TruthTable.{TruthTable}
use Rattle.device_model.specs.Order.{sorted_distinct}
use Rattle.device_model.specs.Devices.{part_names, has_arity, has_wires}
use Rattle.device_model.specs.Building.{NamedPart, place_in, joined, renumbered, repeated, built, device_over}
use Rattle.device_model.proofs.BuildAnswers.{built-device}
use Rattle.device_model.proofs.CallerLemmas.{get_or-place_in}
use Rattle.device_model.proofs.SortedDevices.{component_name, position_or_len-among}
use Rattle.device_model.proofs.Repeats.{among_from_test}
use Rattle.device_model.proofs.SortedLists.{itself}

-- if each item passes a test, none fails it
pub none_fails : {A : Type 0} (p : A → Bool) (xs : List A) → list_all p xs ≡ true → None ≡ position (λ x. not (p x)) xs
none_fails p xs h = grind (arith, past xs h)
  where
    past : (xs : List _) → list_all p xs ≡ true → position_or_len (λ x. not (p x)) xs ≡ length xs
    past [] e = refl
    past (x ∷ xs) e = grind (arith, past xs)

-- the wire at a place
abbrev pub wire_at : List Name → ℕ → Name
wire_at wires place = get_or wires place []

-- a part with the names of the wires at its ports
abbrev pub named : List Name → Component → NamedPart
named wires part = record { name = part.name; kind = part.kind; wires = map (wire_at wires) part.ports }

-- these parts and wires have no fault
pub record CanBeBuilt (parts : List Component) (wires : List Name) (tables : List TruthTable) : Type 0 where
  pub few_parts : length parts ≤ PART_LIMIT
  pub few_wires : length wires ≤ WIRE_LIMIT
  pub parts_once : repeated (part_names parts) ≡ []
  pub wires_once : repeated wires ≡ []
  pub arities : list_all (has_arity tables) parts ≡ true
  pub wired : list_all (has_wires (length wires)) parts ≡ true

part-renumbered : (wires : List Name) (part : Component) → renumbered wires part ≡ joined (sorted_distinct itself wires) (named wires part)
part-renumbered wires part = grind (arith, map-map)

parts-renumbered : (wires : List Name) (parts : List Component) → map (renumbered wires) parts ≡ map (joined (sorted_distinct itself wires)) (map (named wires) parts)
parts-renumbered wires [] = refl
parts-renumbered wires (part ∷ parts) = let one = part-renumbered wires part in let rest = parts-renumbered wires parts in cc

pub built-over : (parts : List Component) (wires : List Name) (tables : List TruthTable) → CanBeBuilt parts wires tables
    → built parts wires tables ≡ Ok (device_over (map (named wires) parts) wires tables)
built-over parts wires tables can =
    built-device parts wires tables can.few_parts can.few_wires can.parts_once can.wires_once
    (none_fails (has_arity tables) parts can.arities) (none_fails (has_wires (length wires)) parts can.wired)
    ∙ ap (λ (ps : List Component). Ok (record { parts = sorted_distinct component_name ps; wires = sorted_distinct itself wires; tables = tables }))
    (parts-renumbered wires parts)

names_back : (wires names : List Name) → list_all (is_among wires) names ≡ true → map (wire_at wires) (map (place_in wires) names) ≡ names
names_back wires [] h = refl
names_back wires (n ∷ names) h = grind (arith, get_or-place_in, among_from_test, names_back wires names)

-- a part over wires of the list has the names of its wires back
pub named-joined : (wires : List Name) (part : NamedPart) → list_all (is_among wires) part.wires ≡ true → named wires (joined wires part) ≡ part
named-joined wires part h = ap (λ (names : List Name). record part { wires = names }) (names_back wires part.wires h)

-- and each port is the place of a wire
pub joined-wired : (wires : List Name) (part : NamedPart) → list_all (is_among wires) part.wires ≡ true → has_wires (length wires) (joined wires part) ≡ true
joined-wired wires part h = over part.wires h
  where
    over : (names : List Name) → list_all (is_among wires) names ≡ true → list_all (λ port. nat_lt port (length wires)) (map (place_in wires) names) ≡ true
    over [] g = refl
    over (n ∷ names) g = grind (arith, position_or_len-among, among_from_test, over names)
