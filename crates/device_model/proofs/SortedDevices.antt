-- Sorted parts and wires make a device, and it is the device of the parts and wires as they were given.
use Rattle.std.proofs.Common.{◌≡◌, ℕ, ◌+◌, ◌<◌, ◌≤◌, inl, inr, Bool, true, false, cond, not, nat_lt, List, [], ◌∷◌, map, length, get_or, Some, None, refl, ap, ◌∙◌, arith}
use Rattle.std.specs.Prelude.{position}
use Rattle.std.specs.List.{list_all, position_or_len}
use Rattle.std.proofs.lemmas.Bool.{and_from}
use Rattle.std.proofs.lemmas.List.{length-map}
use Rattle.std.proofs.lemmas.List.Sums.{fails_before_first}
use Rattle.std.proofs.lemmas.List.Folds.{list_all-map}
use Rattle.text_rules.specs.Names.{Name, same_name}
use Rattle.text_rules.proofs.NameLemmas.{same_if_equal}
use Rattle.state_rules.proofs.Members.{In, In-at}
use Rattle.device_model.specs.declared.component.Component.{Component}
use Rattle.device_model.specs.TruthTable.{TruthTable}
use Rattle.device_model.specs.Order.{placed, sorted_distinct}
use Rattle.device_model.specs.Devices.{IsDevice, has_arity, has_wires}
use Rattle.device_model.specs.Building.{place_in, renumbered, device_of}
use Rattle.device_model.proofs.Ordered.{Rises-sorted_distinct, among_sorted_distinct, sorted_distinct-has}
use Rattle.device_model.proofs.SortedLists.{itself, Contains-from_among, Rises-map, names_rise-Rises}

-- ---- tests of each item

pub list_all-among : {A : Type 0} (p : A → Bool) (xs : List A) → list_all p xs ≡ true → (x : A) → In x xs → p x ≡ true
list_all-among p [] h x m = absurd m
list_all-among p (y ∷ ys) h x m = grind (arith, list_all-among p ys)

pub list_all-from_among : {A : Type 0} (p : A → Bool) (xs : List A) → ((x : A) → In x xs → p x ≡ true) → list_all p xs ≡ true
list_all-from_among p [] h = refl
list_all-from_among p (x ∷ xs) h = and_from (p x) (list_all p xs) (h x (inl refl)) (list_all-from_among p xs (λ y m. h y (inr m)))

pub none_given : (b : Bool) (i : ℕ) → cond b (Some i) None ≡ None → b ≡ false
none_given b i h = grind arith

-- if no item fails a test, each passes
pub list_all-from_position : {A : Type 0} (p : A → Bool) (xs : List A) → position (λ x. not (p x)) xs ≡ None → list_all p xs ≡ true
list_all-from_position p xs h = grind (arith, list_all-from_among, Contains-from_among, fails_before_first)

-- ---- lengths and maps of lists in order

module _ {A : Type 0} (name : A → Name) where
  length-placed : (x : A) (ys : List A) → length (placed name x ys) ≤ 1 + length ys
  length-placed x [] = omega arith
  length-placed x (y ∷ ys) = grind (arith, length-placed x ys)

  pub length-sorted_distinct : (xs : List A) → length (sorted_distinct name xs) ≤ length xs
  length-sorted_distinct [] = omega arith
  length-sorted_distinct (x ∷ xs) = omega (arith, length-placed x (sorted_distinct name xs), length-sorted_distinct xs)

  module _ (f : A → A) (keeps : (x : A) → name (f x) ≡ name x) where
    placed-map : (x : A) (ys : List A) → placed name (f x) (map f ys) ≡ map f (placed name x ys)
    placed-map x [] = refl
    placed-map x (y ∷ ys) = grind (arith, placed-map x ys)

    -- a map that keeps the names keeps the order
    pub sorted_distinct-map : (xs : List A) → sorted_distinct name (map f xs) ≡ map f (sorted_distinct name xs)
    sorted_distinct-map [] = refl
    sorted_distinct-map (x ∷ xs) = ap (placed name (f x)) (sorted_distinct-map xs) ∙ placed-map x (sorted_distinct name xs)

  pub list_all-sorted_distinct : (p : A → Bool) (xs : List A) → list_all p xs ≡ true → list_all p (sorted_distinct name xs) ≡ true
  list_all-sorted_distinct p xs h = list_all-from_among p (sorted_distinct name xs) (λ x m. list_all-among p xs h x (among_sorted_distinct name xs x m))

-- ---- places of names

pub position_or_len-among : (ns : List Name) (n : Name) → In n ns → position_or_len (same_name n) ns < length ns
position_or_len-among [] n m = absurd m
position_or_len-among (x ∷ ns) n m = grind (arith, same_if_equal, position_or_len-among ns n)

-- the place of a port's wire in the sorted wires is below their number
place_in-fits : (wires : List Name) (port : ℕ) → port < length wires → place_in (sorted_distinct itself wires) (get_or wires port []) < length (sorted_distinct itself wires)
place_in-fits wires port l = grind (arith, position_or_len-among, sorted_distinct-has itself wires (get_or wires port []) (In-at wires port [] l))

renumbered-has_wires : (wires : List Name) (part : Component) → has_wires (length wires) part ≡ true → has_wires (length (sorted_distinct itself wires)) (renumbered wires part) ≡ true
renumbered-has_wires wires part h = over part.ports h
  where
    over : (ports : List ℕ) → list_all (λ port. nat_lt port (length wires)) ports ≡ true
        → list_all (λ port. nat_lt port (length (sorted_distinct itself wires))) (map (λ port. place_in (sorted_distinct itself wires) (get_or wires port [])) ports) ≡ true
    over [] g = refl
    over (p ∷ ps) g = grind (arith, place_in-fits, over ps)

abbrev pub component_name : Component → Name
component_name part = part.name

-- parts and wires of the right arities and numbers make a device
pub IsDevice-device_of : (parts : List Component) (wires : List Name) (tables : List TruthTable) → length parts ≤ 4096 → length wires ≤ 16384
    → list_all (has_arity tables) parts ≡ true → list_all (has_wires (length wires)) parts ≡ true → IsDevice (device_of parts wires tables)
IsDevice-device_of parts wires tables few_parts few_wires arities joined = grind (arith, names_rise-Rises, Rises-map, Rises-sorted_distinct, list_all-sorted_distinct, list_all-map, list_all-from_among, list_all-among, renumbered-has_wires, length-sorted_distinct, length-map)
