-- How a text grows by one text and then another.
use Rattle.std.proofs.Common.{◌≡◌, ℕ, zero, suc, ◌+◌, ◌<◌, ◌≤◌, List, [], ◌++◌, refl, arith, length, take, get_or, Option, Some, None, Result, sym, ap, ◌∙◌, subst, append_assoc, append-nil}
use Rattle.std.specs.List.{flat_map, range_with_len}
use Rattle.std.proofs.lemmas.List.{take_more, flat_map_more, take_all}
use Rattle.diag_edge.specs.Edge.{Rose, Writing, Puts, HasCause}
use Rattle.diag_edge.proofs.GrownBytes.{begins_first}
use Rattle.diag_edge.proofs.Added.{grown_none, grown_more, part_more, put_all}
use Rattle.nnf_text.specs.Extending.{Grows, Extends, Ends}

pub extends_none : (a : Writing) (p : Option (List ℕ)) → Extends a a p p []
extends_none a p = grind (arith, grown_none)

-- ---- one text and then another

more : (a b c : Writing) (p q s : Option (List ℕ)) (xs ys : List ℕ) → Grows a b p q xs → Grows b c q s ys → Grows a c p s (xs ++ ys)
more a b c (Some p) (Some q) (Some s) xs ys (g, e) (h, f) = (grown_more _ _ _ p q s xs ys g h, f ∙ e)
more a b c (Some p) (Some q) None xs ys (g, e) (h, f) = (part_more _ _ _ p q xs ys g h, subst (λ n. Rose n c.faults) e f)
more a b c (Some p) None s xs ys g h = grind (arith, append_assoc, begins_first a.got b.got (p ++ xs) ys)
more a b c None q s xs ys g h = grind arith

pub extends_on : (a b c : Writing) (p q s : Option (List ℕ)) (xs ys zs : List ℕ) → Extends a b p q xs → Extends b c q s ys → xs ++ ys ≡ zs → Extends a c p s zs
extends_on a b c p q s xs ys zs g h e = subst (Extends a c p s) e (record { grows = more a b c p q s xs ys g.grows h.grows })

pub extends_three : (a b c d : Writing) (p q s t : Option (List ℕ)) (xs ys zs all : List ℕ) → Extends a b p q xs → Extends b c q s ys → Extends c d s t zs → xs ++ (ys ++ zs) ≡ all → Extends a d p t all
extends_three a b c d p q s t xs ys zs all g h k e = extends_on a b d p q t xs (ys ++ zs) all g (extends_on b c d q s t ys zs _ h k refl) e

-- an equal text
pub extends_same : (a b : Writing) (p q : Option (List ℕ)) (xs ys : List ℕ) → Extends a b p q xs → xs ≡ ys → Extends a b p q ys
extends_same a b p q xs ys h e = subst (Extends a b p q) e h

-- ---- the texts of the elements of a list, one after another

pub extends_each : {X : Type 0} (f : X → List ℕ) (xs : List X) (i : ℕ) (d : X) (a b c : Writing) (p q s : Option (List ℕ)) (text : List ℕ)
    → Extends a b p q (flat_map f (take i xs)) → Extends b c q s text → text ≡ f (get_or xs i d) → i < length xs → Extends a c p s (flat_map f (take (i + 1) xs))
extends_each f xs i d a b c p q s text g h is lt =
    extends_on a b c p q s _ text _ g h (ap (λ t. flat_map f (take i xs) ++ t) is ∙ flat_map_more f [] (take i xs) (get_or xs i d) ∙ ap (flat_map f) (sym (take_more xs i d lt)))

pub extends_all : {X : Type 0} (f : X → List ℕ) (xs : List X) (i : ℕ) (a b : Writing) (p q : Option (List ℕ)) → Extends a b p q (flat_map f (take i xs)) → length xs ≤ i → Extends a b p q (flat_map f xs)
extends_all f xs i a b p q g past = subst (λ ys. Extends a b p q (flat_map f ys)) (take_all i xs past) g

-- the texts of numbers from `first` on
range_more : (f : ℕ → List ℕ) (first i n : ℕ) → first + i ≡ n → flat_map f (range_with_len first i) ++ f n ≡ flat_map f (range_with_len first (suc i))
range_more f first zero n e = let is : n ≡ first = omega arith in ap f is ∙ sym (append-nil (f first))
range_more f first (suc i) n e = append_assoc (f first) (flat_map f (range_with_len (first + 1) i)) (f n) ∙ ap (λ t. f first ++ t) (range_more f (first + 1) i n (omega arith))

pub extends_range : (f : ℕ → List ℕ) (first i n : ℕ) (a b c : Writing) (p q s : Option (List ℕ)) (text : List ℕ)
    → Extends a b p q (flat_map f (range_with_len first i)) → Extends b c q s text → text ≡ f n → first + i ≡ n → Extends a c p s (flat_map f (range_with_len first (i + 1)))
extends_range f first i n a b c p q s text g h is e =
    let next : suc i ≡ i + 1 = omega arith in
    extends_on a b c p q s _ text _ g h (ap (λ t. flat_map f (range_with_len first i) ++ t) is ∙ range_more f first i n e ∙ ap (λ k. flat_map f (range_with_len first k)) next)

pub ruleset extending = (extends_on, extends_three, extends_none, extends_each, extends_range, extends_all)

-- ---- the whole text

whole : {T E : Type 0} (a b c : Writing) (q : Option (List ℕ)) (r : Result T E) (text : List ℕ) → Grows a b (Some []) q text → Ends b c q r → Puts a.got c.got r text × HasCause a.faults c.faults r
whole a b c (Some q) r text (g, e) (h, f) = (put_all a.got b.got c.got [] q text text r refl refl g h, subst (λ n. HasCause n c.faults r) e f)
whole a b c None r text g h = grind arith

pub extends_whole : {T E : Type 0} (a b c : Writing) (ga gc : Option (List ℕ)) (fa fc : ℕ) (p q : Option (List ℕ)) (r : Result T E) (text : List ℕ)
    → a ≡ record { got = ga; faults = fa } → c ≡ record { got = gc; faults = fc } → p ≡ Some [] → Extends a b p q text → Ends b c q r → Puts ga gc r text × HasCause fa fc r
extends_whole a b c ga gc fa fc p q r text ea ec new g h =
    subst (λ w. Puts w.got gc r text × HasCause w.faults fc r) ea (subst (λ w. Puts a.got w.got r text × HasCause a.faults w.faults r) ec (whole a b c q r text (subst (λ s. Grows a b s q text) new g.grows) h))
