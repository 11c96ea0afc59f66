-- Lemmas for callers about lists in the order of names, and about their devices.
use Rattle.std.proofs.Common.{◌≡◌, ℕ, ◌<◌, true, List, [], length, get_or, Ok, sym, subst, arith}
use Rattle.std.proofs.lemmas.List.Sums.{passes_at_first}
use Rattle.text_rules.specs.Expected.{IsExpectedFault}
use Rattle.text_rules.specs.Names.{Name, same_name, is_among, names_rise}
use Rattle.text_rules.proofs.NameLemmas.{equal_if_same}
use Rattle.state_rules.proofs.Members.{In}
use Rattle.device_model.specs.declared.component.Component.{Component}
use Rattle.device_model.specs.declared.building.BuildError.{BuildError}
use Rattle.device_model.specs.declared.building.BuildError.TheVariants.{Memory}
use Rattle.device_model.specs.TruthTable.{TruthTable}
use Rattle.device_model.specs.Order.{sorted_distinct}
use Rattle.device_model.specs.Devices.{Device}
use Rattle.device_model.specs.Building.{place_in, built, reason}
use Rattle.device_model.proofs.Ordered.{Rises-sorted_distinct, among_sorted_distinct, sorted_distinct-has, sorted_distinct-is}
use Rattle.device_model.proofs.SortedLists.{itself, Rises-from_names_rise}
use Rattle.device_model.proofs.Repeats.{is_among-among, among_from_test}
use Rattle.device_model.proofs.SortedDevices.{position_or_len-among}
use Rattle.device_model.proofs.WirePlaces.{place_in-rising}

-- names in order are the names of the list
pub In-sorted_distinct : (names : List Name) (n : Name) → In n names → In n (sorted_distinct itself names)
In-sorted_distinct names n m = let r = sorted_distinct-has itself names n m in subst (λ (k : Name). In k (sorted_distinct itself names)) r.2 r.1

pub In-from_sorted_distinct : (names : List Name) (n : Name) → In n (sorted_distinct itself names) → In n names
In-from_sorted_distinct names n m = among_sorted_distinct itself names n m

-- the result depends on the set of names, not on their order or repetition
pub sorted_distinct-same_names : (xs ys : List Name) → ((n : Name) → In n xs → In n ys) → ((n : Name) → In n ys → In n xs) → sorted_distinct itself xs ≡ sorted_distinct itself ys
sorted_distinct-same_names xs ys to back = grind (arith, sorted_distinct-is, Rises-sorted_distinct, In-sorted_distinct, In-from_sorted_distinct)

-- the same, by the test
pub sorted_distinct-same_tests : (xs ys : List Name) → ((n : Name) → is_among xs n ≡ is_among ys n) → sorted_distinct itself xs ≡ sorted_distinct itself ys
sorted_distinct-same_tests xs ys same_test = grind (arith, sorted_distinct-same_names, among_from_test, is_among-among)

-- ---- places

-- a name of a rising list is at this place only
pub place_in-names_rise : (names : List Name) (k : ℕ) → names_rise names ≡ true → k < length names → place_in names (get_or names k []) ≡ k
place_in-names_rise names k h l = place_in-rising names k (Rises-from_names_rise names h) l

-- a name of the list is at its place
pub get_or-place_in : (names : List Name) (n : Name) → In n names → get_or names (place_in names n) [] ≡ n
get_or-place_in names n m =
    sym (equal_if_same n (get_or names (place_in names n) []) (passes_at_first (same_name n) names [] (position_or_len-among names n m)))

-- ---- devices

-- Where parts and wires make a device, nothing else can be wanting than memory.
pub only_memory : (parts : List Component) (wires : List Name) (tables : List TruthTable) (device : Device) → built parts wires tables ≡ Ok device
    → (error : BuildError) → IsExpectedFault (reason error) (built parts wires tables) → error ≡ Memory
only_memory parts wires tables device made error h = grind arith
