-- Tables whose keys are names: a look-up finds a name's place.
use Rattle.std.proofs.Common.{◌≡◌, ◌+◌, Bool, cond, not, List, [], ◌∷◌, map, refl, ap, arith}
use Rattle.std.specs.Prelude.{position}
use Rattle.std.specs.List.{position_or_len}
use Rattle.std.proofs.lemmas.List.{length-map}
use Rattle.text_rules.specs.Names.{Name}

module _ {K : Type 0} (bytes : K → Name) where
  pub position_or_len-map : (p : Name → Bool) (ks : List K) → position_or_len (λ k. p (bytes k)) ks ≡ position_or_len p (map bytes ks)
  position_or_len-map p [] = refl
  position_or_len-map p (k ∷ ks) = ap (λ n. cond (not (p (bytes k))) (1 + n) 0) (position_or_len-map p ks)

  -- a look-up by a key's bytes searches the bytes of the keys
  pub position-map : (p : Name → Bool) (ks : List K) → position (λ k. p (bytes k)) ks ≡ position p (map bytes ks)
  position-map p ks = grind (arith, position_or_len-map, length-map)
