-- In which diagnoses a part is faulty.
use Rattle.std.proofs.Common.{◌≡◌, Bool, true, false, cond, List, [], ◌∷◌, map, refl, sym, ◌∙◌, inl, inr, arith}
use Rattle.std.specs.List.{list_all, list_any}
use Rattle.std.proofs.lemmas.Bool.{and_from}
use Rattle.state_rules.specs.declared.blame.Blame.TheVariants.{Always, Sometimes, Never}
use Rattle.state_rules.specs.Verdicts.{verdict}
use Rattle.state_rules.proofs.Lists.{list_any-map}
use Rattle.state_rules.proofs.Members.{In, any_in}

module _ (f : List Bool → Bool) where
  abbrev id : Bool → Bool
  id x = x

  all-true : (ds : List (List Bool)) → ((d : List Bool) → In d ds → f d ≡ true) → list_all id (map f ds) ≡ true
  all-true [] h = refl
  all-true (d ∷ ds) h = and_from _ _ (h d (inl refl)) (all-true ds (λ x m. h x (inr m)))

  all-false : (ds : List (List Bool)) (d : List Bool) → In d ds → f d ≡ false → list_all id (map f ds) ≡ false
  all-false [] d m e = absurd m
  all-false (x ∷ ds) d (inl q) e = grind arith
  all-false (x ∷ ds) d (inr r) e = grind (arith, all-false ds d r e)

  any-true : (ds : List (List Bool)) (d : List Bool) → In d ds → f d ≡ true → list_any id (map f ds) ≡ true
  any-true ds d m e = list_any-map id f ds ∙ any_in f d ds m e

  any-false : (ds : List (List Bool)) → ((d : List Bool) → In d ds → f d ≡ false) → list_any id (map f ds) ≡ false
  any-false [] h = refl
  any-false (d ∷ ds) h = rw (h d (inl refl)) (any-false ds (λ x m. h x (inr m)))

  verdict-some : (ds : List (List Bool)) (d : List Bool) → In d ds → (a b : Bool) → list_all id (map f ds) ≡ a → list_any id (map f ds) ≡ b → verdict (map f ds) ≡ cond a Always (cond b Sometimes Never)
  verdict-some [] d m a b e g = absurd m
  verdict-some (x ∷ ds) d m a b e g = λ i. cond (e i) Always (cond (g i) Sometimes Never)

  pub verdict-never : (ds : List (List Bool)) (d : List Bool) → In d ds → ((x : List Bool) → In x ds → f x ≡ false) → Never ≡ verdict (map f ds)
  verdict-never ds d m h = sym (verdict-some ds d m false false (all-false ds d m (h d m)) (any-false ds h))

  pub verdict-always : (ds : List (List Bool)) (d : List Bool) → In d ds → ((x : List Bool) → In x ds → f x ≡ true) → Always ≡ verdict (map f ds)
  verdict-always ds d m h = sym (verdict-some ds d m true true (all-true ds h) (any-true ds d m (h d m)))

  pub verdict-sometimes : (ds : List (List Bool)) (d e : List Bool) → In d ds → In e ds → f d ≡ true → f e ≡ false → Sometimes ≡ verdict (map f ds)
  verdict-sometimes ds d e m n p q = sym (verdict-some ds d m false true (all-false ds e n q) (any-true ds d m p))
