-- Names at times: their order.
use Rattle.std.proofs.Common.{ℕ, ◌<◌, inl, inr, List, [], ◌∷◌, ◌++◌, refl, arith}
use Rattle.std.proofs.lemmas.Bool.Decides.{nat_tests}
use Rattle.text_rules.specs.Names.{Name}
use Rattle.state_rules.proofs.Members.{In}
use Rattle.device_model.proofs.NameOrder.{Below}
use Rattle.device_model.proofs.Ordered.{BelowAll, Rises}
use Rattle.frame_unroller.specs.Times.{copy_at}

-- ---- copies

pub copies_rise : (m n : ℕ) (x y : Name) → m < n → Below (copy_at m x) (copy_at n y)
copies_rise m n x y l = grind (arith, nat_tests)

-- ---- lists after one another

module _ {A : Type 0} (name : A → Name) where
  BelowAll-append : (n : Name) (xs ys : List A) → BelowAll name n xs → ((y : A) → In y ys → Below n (name y)) → BelowAll name n (xs ++ ys)
  BelowAll-append n [] [] h g = tt
  BelowAll-append n [] (y ∷ ys) h g = (g y (inl refl), BelowAll-append n [] ys h (λ z m. g z (inr m)))
  BelowAll-append n (x ∷ xs) ys h g = (h.0, BelowAll-append n xs ys h.1 g)

  pub Rises-append : (xs ys : List A) → Rises name xs → Rises name ys → ((x y : A) → In x xs → In y ys → Below (name x) (name y)) → Rises name (xs ++ ys)
  Rises-append [] ys h g apart = g
  Rises-append (x ∷ xs) ys h g apart = (BelowAll-append (name x) xs ys h.0 (λ y m. apart x y (inl refl) m), Rises-append xs ys h.1 g (λ z y m k. apart z y (inr m) k))
