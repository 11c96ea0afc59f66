-- How known bytes grow by one text and then another, and how they are consumed.
use Rattle.std.proofs.Common.{subst, take, ◌≡◌, ℕ, List, [], ◌++◌, Option, Some, None, refl, sym, ◌∙◌, ap, append_assoc, append-nil}
use Rattle.std.specs.Io.KnownBytes.{Appends, Consumes}
use Rattle.diag_edge.specs.Edge.{AppendsPrefix}

-- nothing was put
pub grows_none : (a : Option (List ℕ)) → Appends a a []
grows_none None = tt
grows_none (Some xs) = sym (append-nil xs)

-- a text was put, and then another
pub grows_more : (a b c : Option (List ℕ)) (xs ys : List ℕ) → Appends a b xs → Appends b c ys → Appends a c (xs ++ ys)
grows_more None b c xs ys h k = tt
grows_more (Some olds) None c xs ys h k = absurd h
grows_more (Some olds) (Some bs) None xs ys h k = absurd k
grows_more (Some olds) (Some bs) (Some cs) xs ys h k = k ∙ ap (λ zs. zs ++ ys) h ∙ append_assoc olds xs ys

-- the first text was put, and a prefix of the second
pub begins_more : (a b c : Option (List ℕ)) (xs ys : List ℕ) → Appends a b xs → AppendsPrefix b c ys → AppendsPrefix a c (xs ++ ys)
begins_more a b c xs ys h (part, rest, is, grown) =
    (xs ++ part, rest, ap (λ zs. xs ++ zs) is ∙ sym (append_assoc xs part rest), grows_more a b c xs part h grown)

-- a prefix of the first text was put, and no more
pub begins_first : (a b : Option (List ℕ)) (xs ys : List ℕ) → AppendsPrefix a b xs → AppendsPrefix a b (xs ++ ys)
begins_first a b xs ys (part, rest, is, grown) =
    (part, rest ++ ys, ap (λ zs. zs ++ ys) is ∙ append_assoc part rest ys, grown)

-- known bytes were taken, and then more
pub consumes_more : (a b c : Option (List ℕ)) (xs ys : List ℕ) → Consumes a b xs → Consumes b c ys → Consumes a c (xs ++ ys)
consumes_more None b c xs ys h k = tt
consumes_more (Some olds) None c xs ys h k = absurd h
consumes_more (Some olds) (Some bs) None xs ys h k = absurd k
consumes_more (Some olds) (Some bs) (Some cs) xs ys h k = h ∙ ap (λ zs. xs ++ zs) k ∙ sym (append_assoc xs ys cs)

-- at the end no more is taken
pub consumes_end : (a b c : Option (List ℕ)) (xs into : List ℕ) (count : ℕ) → Consumes a b xs → count ≡ 0 → Consumes b c (take count into) → Consumes a c xs
consumes_end a b c xs into count h none k =
    subst (Consumes a c) (append-nil xs) (consumes_more a b c xs [] h (subst (λ n. Consumes b c (take n into)) none k))

-- nothing was taken
pub consumes_none : (a : Option (List ℕ)) → Consumes a a []
consumes_none None = tt
consumes_none (Some xs) = refl
