-- The map of the driven signals, as a list of names and drivers.
use Rattle.std.proofs.Common.{◌≡◌, is_some, unwrap_or, length, Bool, cond, List, [], ◌∷◌, map, Some, Bor, refl, sym, ap, ◌∙◌, arith}
use Rattle.std.specs.Prelude.{position}
use Rattle.std.specs.List.{position_or_len}
use Rattle.std.proofs.lemmas.Bool.Decides.{nat_tests}
use Rattle.std.specs.Map.{lookup, keys_of}
use Rattle.indexmap.specs.IndexMap.{insert_entry}
use Rattle.text_rules.specs.Names.{Name, same_name, is_among}
use Rattle.bench_reader.specs.declared.signals.Driver.{Driver}
use Rattle.device_model.specs.Building.{place_in}
use Rattle.device_model.proofs.Tables.{position_or_len-map}
use Rattle.bench_reader.specs.inner.Steps.{Signals}
use Rattle.bench_reader.proofs.Drivers.{among_keys}

abbrev pub Entries : Type 0
Entries = List (Bor Name × Driver)

abbrev pub seen : Entries → Signals
seen es = map (λ e. (e.0.now, e.1)) es

abbrev pub same_key : Bor Name → Bor Name → Bool
same_key a b = same_name a.now b.now

pub lookup-seen : (name : Name) (es : Entries) → lookup (λ (k : Bor Name). same_name name k.now) es ≡ lookup (same_name name) (seen es)
lookup-seen name [] = refl
lookup-seen name (e ∷ es) = ap (cond (same_name name e.0.now) (Some e.1)) (lookup-seen name es)

pub insert-seen : (key : Bor Name) (driver : Driver) (es : Entries) → seen (insert_entry same_key es key driver) ≡ insert_entry same_name (seen es) key.now driver
insert-seen key driver [] = refl
insert-seen key driver (e ∷ es) = grind (arith, insert-seen key driver es)

pub keys-seen : (es : Entries) → map (λ (k : Bor Name). k.now) (keys_of es) ≡ keys_of (seen es)
keys-seen [] = refl
keys-seen (e ∷ es) = ap (λ (ns : List Name). e.0.now ∷ ns) (keys-seen es)

abbrev bytes : Bor Name → Name
bytes k = k.now

pub place-seen : (name : Name) (es : Entries) → position_or_len (λ (k : Bor Name). same_name name k.now) (keys_of es) ≡ place_in (keys_of (seen es)) name
place-seen name es = position_or_len-map bytes (same_name name) (keys_of es) ∙ ap (position_or_len (same_name name)) (keys-seen es)

pub driven-seen : (name : Name) (es : Entries) → is_some (lookup (λ (k : Bor Name). same_name name k.now) es) ≡ is_among (keys_of (seen es)) name
driven-seen name es = ap is_some (lookup-seen name es) ∙ sym (among_keys name (seen es))

-- a place, or the end if there is none
pub place_found : {A : Type 0} (p : A → Bool) (xs : List A) → unwrap_or (position p xs) (length xs) ≡ position_or_len p xs
place_found p [] = refl
place_found p (x ∷ xs) = grind (arith, nat_tests, place_found p xs)
