-- Lists of names as the code keeps them.
use Rattle.std.proofs.Common.{◌≡◌, ℕ, ◌+◌, ◌≤◌, Bool, true, false, not, List, [], ◌∷◌, ◌++◌, map, length, Option, Some, None, Result, Ok, Err, Bor, refl, sym, ap, ◌∙◌, append_assoc, length-append, arith}
use Rattle.std.specs.Prelude.{◌&&◌, ◌||◌, position, nat_lt, if◌then◌else◌}
use Rattle.std.specs.List.{list_any, list_all, position_or_len}
use Rattle.std.proofs.lemmas.Bool.Decides.{same_from_decides}
use Rattle.std.proofs.lemmas.List.{map-append}
use Rattle.std.proofs.lemmas.List.Folds.{list_any-append}
use Rattle.indexmap.specs.IndexSet.{insert_key}
use Rattle.text_rules.specs.Names.{Name, same_name, is_among}
use Rattle.text_rules.proofs.NameLemmas.{same_name-Decides, same_if_equal, equal_if_same}
use Rattle.state_rules.proofs.Lists.{list_any-map}
use Rattle.device_model.specs.Building.{place_in}
use Rattle.device_model.proofs.SortedDevices.{none_given}
use Rattle.device_model.proofs.Tables.{position-map}
use Rattle.component_lang.specs.declared.fault.LangFault.{LangFault}
use Rattle.component_lang.specs.declared.fault.LangFault.TheVariants.{Name as NoName, Twice}
use Rattle.component_lang.specs.Designs.{is_plain_name, are_distinct}
use Rattle.component_lang.specs.inner.Words.{with_name}

abbrev pub bytes : Bor Name → Name
bytes k = k.now

abbrev pub same_key : Bor Name → Bor Name → Bool
same_key a b = same_name a.now b.now

-- ---- keys and their bytes

pub keys-insert : (ks : List (Bor Name)) (k : Bor Name) → map bytes (insert_key same_key ks k) ≡ insert_key same_name (map bytes ks) k.now
keys-insert ks k = grind (arith, list_any-map, map-append)

-- the place of a name among keys
pub position-keys : (name : Name) (ks : List (Bor Name)) (names : List Name) {o : Option ℕ} → map bytes ks ≡ names → o ≡ position (λ (k : Bor Name). same_name name k.now) ks
    → position (same_name name) names ≡ o
position-keys name ks names same is = ap (position (same_name name)) (sym same) ∙ sym (position-map bytes (same_name name) ks) ∙ sym is

-- ---- added names

pub same_name-sym : (a b : Name) → same_name a b ≡ same_name b a
same_name-sym a b = same_from_decides (same_name a b) (same_name b a) (same_name-Decides a b) (λ e. sym (equal_if_same b a e), λ e. same_if_equal b a (sym e))

-- names are distinct if the rest is distinct and the first is not among it
pub are_distinct-cons : (n : Name) (names : List Name) → are_distinct (n ∷ names) ≡ (not (is_among names n) && are_distinct names)
are_distinct-cons n names = grind arith

-- a name of `above ++ n ∷ []` is in `above` or is `n`
any_after : (above : List Name) (n : Name) (names : List Name) → list_any (is_among (above ++ n ∷ [])) names ≡ (list_any (is_among above) names || is_among names n)
any_after above n [] = refl
any_after above n (m ∷ names) = grind (arith, list_any-append, same_name-sym, any_after above n names)

-- `above` with `names` after it, if these are new and earlier ones were (`new`)
abbrev pub more_names : Bool → List Name → List Name → Result (List Name) LangFault
more_names new above names = if list_all is_plain_name names then (if new && (are_distinct names && not (list_any (is_among above) names)) then Ok (above ++ names) else Err Twice) else Err NoName

-- the first of more names is added
pub more_names-first : (new : Bool) (above : List Name) (n : Name) (names added : List Name) (is_new : Bool) → with_name above n ≡ Ok (added, is_new)
    → more_names new above (n ∷ names) ≡ more_names (new && is_new) added names
more_names-first new above n names added is_new h = grind (arith, append_assoc, any_after)

-- a fault of the later names is one of all
pub more_names-fault : (new : Bool) (above names : List Name) (what : LangFault) → more_names true above names ≡ Err what → more_names new above names ≡ Err what
more_names-fault new above names what h = grind arith

pub more_names-length : (new : Bool) (above names added : List Name) → more_names new above names ≡ Ok added → length added ≡ length above + length names
more_names-length new above names added h = grind (arith, length-append)

pub with_name-length : (above : List Name) (n : Name) (added : List Name) (new : Bool) → with_name above n ≡ Ok (added, new) → length added ≤ length above + 1
with_name-length above n added new h = grind (arith, length-append)

-- ---- places

-- the places of names after those of names above, of which not all may be known
abbrev pub more_places : Bool → List ℕ → List Name → List Name → Result (Option (List ℕ)) LangFault
more_places known done wires names =
    if list_all is_plain_name names then Ok (if known && list_all (is_among wires) names then Some (done ++ map (place_in wires) names) else None) else Err NoName

pub among_position : (p : Name → Bool) (ns : List Name) → list_any p ns ≡ nat_lt (position_or_len p ns) (length ns)
among_position p [] = refl
among_position p (n ∷ ns) = grind (arith, among_position p ns)

pub more_places-known : (known : Bool) (done : List ℕ) (wires : List Name) (n : Name) (names : List Name) (place : ℕ) → is_plain_name n ≡ true → position (same_name n) wires ≡ Some place
    → more_places known done wires (n ∷ names) ≡ more_places known (done ++ place ∷ []) wires names
more_places-known known done wires n names place plain h = grind (arith, append_assoc, among_position)

pub more_places-unknown : (known : Bool) (done : List ℕ) (wires : List Name) (n : Name) (names : List Name) → is_plain_name n ≡ true → position (same_name n) wires ≡ None
    → more_places known done wires (n ∷ names) ≡ more_places false done wires names
more_places-unknown known done wires n names plain h = grind (arith, among_position, none_given)

-- ---- names of a list

-- the names of a list with a new one added
pub keys-more : {A : Type 0} (name : A → Name) (ks more : List (Bor Name)) (k : Bor Name) (xs ys : List A) (x : A) → map bytes ks ≡ map name xs → more ≡ insert_key same_key ks k
    → is_among (map name xs) k.now ≡ false → name x ≡ k.now → ys ≡ xs ++ x ∷ [] → map bytes more ≡ map name ys
keys-more name ks more k xs ys x before added free is behind = grind (arith, keys-insert, map-append)

pub inserted-among : (ks : List (Bor Name)) (k : Bor Name) (names : List Name) {new old : Bool} → map bytes ks ≡ names → new ≡ not (list_any (same_key k) ks) → new ≡ not old → is_among names k.now ≡ old
inserted-among ks k names {new} {old} same is e = grind (arith, list_any-map)
