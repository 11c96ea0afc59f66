-- The state in which the named parts are faulty: a word for each part is marked, name by name.
use Rattle.std.proofs.Common.{◌≡◌, ◌∙◌, ℕ, ◌<◌, ◌∷◌, [], ◌==◌, Bool, true, List, Some, None, false, not, length, get_or, set, sym, arith}
use Rattle.std.specs.Prelude.{◌||◌}
use Rattle.std.proofs.lemmas.Bool.{or_right}
use Rattle.std.proofs.lemmas.List.{ext_get_or, length-map, get_or-map, get_or-set_same, get_or-set_other}
use Rattle.std.proofs.lemmas.List.Folds.{list_any_at, list_any_none}
use Rattle.std.proofs.lemmas.List.Quantifiers.{position-Some}
use Rattle.std.proofs.lemmas.List.Sums.{fails_before_first}
use Rattle.text_rules.specs.Names.{Name, same_name, is_among, names_rise}
use Rattle.text_rules.proofs.NameLemmas.{same_if_equal}
use Rattle.device_model.specs.Devices.{place_of}
use Rattle.device_model.proofs.NameOrder.{same_name-other}
use Rattle.device_model.proofs.CallerLemmas.{place_in-names_rise}
use Rattle.conditioner.specs.Evidence.{bits_of}
use Rattle.session_core.specs.inner.Desks.{state_of}

-- a name with a place is among the names, and one without is not
pub is_among-at : (name : Name) (names : List Name) (place : ℕ) → Some place ≡ place_of name names → is_among names name ≡ true
is_among-at name names place found = grind (arith, position-Some (same_name name) names place [] (sym found), list_any_at (same_name name) names place)

pub is_among-nowhere : (name : Name) (names : List Name) → None ≡ place_of name names → is_among names name ≡ false
is_among-nowhere name names missing = grind (arith, list_any_none, fails_before_first)

module _ (parts : List Name) where
  -- a part is among all names exactly if its word is marked or it is among the names left
  abbrev pub AreMarked : List Name → List ℕ → List Name → Type 0
  AreMarked all state left = (k : ℕ) → k < length parts
      → is_among all (get_or parts k []) ≡ (not (get_or state k 0 == 0) || is_among left (get_or parts k []))

  -- the word at the place of the next name is marked
  pub marked_more : (all left : List Name) (name : Name) (state : List ℕ) (place : ℕ)
      → names_rise parts ≡ true → Some place ≡ place_of name parts → length state ≡ length parts
      → AreMarked all state (name ∷ left) → AreMarked all (set state place 1) left
  marked_more all left name state place rise found long before k l = grind (arith, position-Some, get_or-set_same, same_if_equal, before, or_right, get_or-set_other, same_name-other, place_in-names_rise)

  unmarked : (a off : Bool) → a ≡ (not off || false) → off ≡ not a
  unmarked a off e = grind arith

  -- no name is left
  pub marked_all : (all : List Name) (state : List ℕ) → length state ≡ length parts → AreMarked all state [] → bits_of state ≡ state_of all parts
  marked_all all state long marked =
      let is_named : Name → Bool = λ part. not (is_among all part) in
      ext_get_or true (bits_of state) (state_of all parts) (omega (arith, length-map state (λ s. s == 0), length-map parts is_named))
      (λ k l.
      let low : k < length parts = omega (arith, length-map state (λ s. s == 0)) in
      get_or-map (λ s. s == 0) state k 0 true (omega arith)
      ∙ unmarked _ _ (marked k low)
      ∙ sym (get_or-map is_named parts k [] true low))
