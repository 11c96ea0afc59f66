-- Sessions and the pairs that they are mapped to.
use Rattle.std.proofs.Common.{◌≡◌, ℕ, ◌≤◌, List, [], ◌∷◌, map, length, refl, ap, ap₂, sym, subst, arith, Less, Greater}
use Rattle.std.specs.Prelude.{◌&&◌}
use Rattle.std.specs.List.{insert, remove, AllWithin}
use Rattle.std.specs.Ordering.{is_lt}
use Rattle.std.specs.FinMap.Entries.{below_all, is_sorted}
use Rattle.std.proofs.lemmas.List.{length-map, map-append, take-map, drop-map, get_or-map}
use Rattle.text_rules.specs.Names.{Name}
use Rattle.session_table.specs.inner.Ordered.{IsGapFor}
use Rattle.session_table.specs.declared.in_order.Open.{Open}
use Rattle.session_table.proofs.Lookups.{order, IsGap}

-- the names rise in both, whatever is beside them
module _ {X Y : Type 0} (f : Open → X) (g : Open → Y) where
  below_alike : (name : Name) (sessions : List Open)
      → below_all order name (map (λ (s : Open). (s.name, f s)) sessions) ≡ below_all order name (map (λ (s : Open). (s.name, g s)) sessions)
  below_alike name [] = refl
  below_alike name (s ∷ sessions) = ap (λ b. is_lt (order name s.name) && b) (below_alike name sessions)

  pub sorted_alike : (sessions : List Open)
      → is_sorted order (map (λ (s : Open). (s.name, f s)) sessions) ≡ is_sorted order (map (λ (s : Open). (s.name, g s)) sessions)
  sorted_alike [] = refl
  sorted_alike (s ∷ sessions) = ap₂ (λ a b. a && b) (below_alike s.name sessions) (sorted_alike sessions)

module _ {X : Type 0} (f : Open → Name × X) where
  pub map-insert : (sessions : List Open) (place : ℕ) (s : Open)
      → map f (insert sessions place s) ≡ insert (map f sessions) place (f s)
  map-insert sessions place s = grind (arith, map-append, take-map, drop-map)

  pub map-remove : (sessions : List Open) (place : ℕ) → map f (remove sessions place) ≡ remove (map f sessions) place
  map-remove sessions place = grind (arith, map-append, take-map, drop-map)

  within_map : (P : Name × X → Type 0) (sessions : List Open) (low high : ℕ) → high ≤ length sessions
      → AllWithin (λ s. P (f s)) sessions low high → AllWithin P (map f sessions) low high
  within_map P [] low high most all = λ k d l h. absurd (omega (arith, most, h))
  within_map P (s ∷ sessions) low high most all = λ k d l h.
      subst P (sym (get_or-map f (s ∷ sessions) k s d (omega (arith, most, h)))) (all k s l h)

-- a gap among sessions is one among what they are mapped to
pub gap_map : {X : Type 0} → (f : Open → X) (sessions : List Open) (place : ℕ) (name : Name) → IsGapFor sessions place name
    → IsGap (map (λ (s : Open). (s.name, f s)) sessions) place name
gap_map {X = X} f sessions place name gap =
    let pair : Open → Name × X = (λ s. (s.name, f s)) in
    let long : length (map pair sessions) ≡ length sessions = length-map sessions pair in
    let within : place ≤ length sessions = gap.within in
    let is : IsGap (map pair sessions) place name = record {
      within = omega (arith, long, within);
      before = within_map pair (λ e. order e.0 name ≡ Less) sessions 0 place within gap.before;
      behind = subst (λ n. AllWithin (λ e. order e.0 name ≡ Greater) (map pair sessions) place n) (sym long)
          (within_map pair (λ e. order e.0 name ≡ Greater) sessions place (length sessions) (omega arith) gap.behind);
    } in
    is
