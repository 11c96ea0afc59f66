-- Values of items, each from the values of the items before it.
use Rattle.std.proofs.Common.{◌≡◌, ℕ, ◌+◌, ◌<◌, List, [], ◌∷◌, ◌++◌, length, get_or, take, drop, refl, ◌∙◌, arith}
use Rattle.std.proofs.lemmas.List.{length_push, get_or_push, get_or_append_left, drop_more, take-append-drop, length-take-le}
use Rattle.state_rules.specs.Values.{values_after, values}

module _ {N A : Type 0} (f : N → List A → A) where
  pub length-values_after : (es : List A) (ns : List N) → length (values_after f es ns) ≡ length es + length ns
  length-values_after es [] = omega arith
  length-values_after es (n ∷ ns) = omega (arith, length-values_after (es ++ f n es ∷ []) ns, length_push es (f n es))

  pub values_after-append : (es : List A) (ms ns : List N) → values_after f es (ms ++ ns) ≡ values_after f (values_after f es ms) ns
  values_after-append es [] ns = refl
  values_after-append es (m ∷ ms) ns = values_after-append (es ++ f m es ∷ []) ms ns

  pub values_after-keeps : (es : List A) (ns : List N) (k : ℕ) (d : A) → k < length es → get_or (values_after f es ns) k d ≡ get_or es k d
  values_after-keeps es [] k d l = refl
  values_after-keeps es (n ∷ ns) k d l = grind (arith, length_push, get_or_append_left, values_after-keeps (es ++ f n es ∷ []) ns k d)

  module _ (ns : List N) (k : ℕ) (x : N) (l : k < length ns) where
    split : values f ns ≡ values_after f (values f (take k ns)) (get_or ns k x ∷ drop (k + 1) ns)
    split = grind (arith, take-append-drop k ns, values_after-append, drop_more ns k x l)

    length-before : length (values f (take k ns)) ≡ k
    length-before = length-values_after [] (take k ns) ∙ (let e = length-take-le k ns (omega arith) in omega arith)

    -- a value follows from the values before it
    pub values-at : (d : A) → get_or (values f ns) k d ≡ f (get_or ns k x) (values f (take k ns))
    values-at d = grind (arith, split, values_after-keeps, length_push, length-before, get_or_push)

    -- the values before it are those in the whole list
    pub values-before : (j : ℕ) (d : A) → j < k → get_or (values f (take k ns)) j d ≡ get_or (values f ns) j d
    values-before j d m = grind (arith, values_after-keeps (values f (take k ns)) (get_or ns k x ∷ drop (k + 1) ns) j d, length-before, split)
