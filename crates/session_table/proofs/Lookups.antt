-- Lists of pairs in the order of their names: a look-up by name finds what is at the name's place.
use Rattle.std.proofs.Common.{◌≡◌, ℕ, zero, suc, ◌≤◌, Bool, false, T, List, [], ◌∷◌, length, set, refl, ap, sym, ◌∙◌, Some, None, arith, Ordering, Less, Equal, Greater}
use Rattle.std.specs.Prelude.{not, ◌&&◌, slice_get}
use Rattle.std.specs.List.{insert, remove, AllWithin}
use Rattle.std.specs.Ordering.{nat_cmp, is_eq, is_lt, ordering_reverse}
use Rattle.std.specs.Cmp.Lexicographic.{slice_cmp}
use Rattle.std.specs.FinMap.Entries.{below_all, is_sorted, put, find, where_key}
use Rattle.std.proofs.lemmas.Cmp.{nat_list_cmp_total, tied_itself}
use Rattle.std.proofs.lemmas.Option.{same_Some, none-some}
use Rattle.std.proofs.lemmas.Map.Text.{is_eq-slice_cmp}
use Rattle.text_rules.specs.Names.{Name, same_name}
use Rattle.text_rules.proofs.NameLemmas.{same_if_equal, equal_if_same}

abbrev pub order : Name → Name → Ordering
order = slice_cmp nat_cmp

pub front_so : (a b : Bool) → T (a && b) → T a
front_so a b h = grind arith

pub back_so : (a b : Bool) → T (a && b) → T b
back_so a b h = grind arith

same_order : (name : Name) → order name name ≡ Equal
same_order name = tied_itself nat_list_cmp_total name

pub above : (a b : Name) → order a b ≡ Less → order b a ≡ Greater
above a b e = nat_list_cmp_total.antisymm b a ∙ ap ordering_reverse e

pub below : (a b : Name) → order a b ≡ Greater → order b a ≡ Less
below a b e = nat_list_cmp_total.antisymm b a ∙ ap ordering_reverse e

-- names that compare as different are not the same
differ : (a b : Name) → is_eq (order a b) ≡ false → same_name a b ≡ false
differ a b e = sym (is_eq-slice_cmp a b) ∙ e

-- names that compare as equal are equal
pub tied_names : (a b : Name) → order a b ≡ Equal → a ≡ b
tied_names a b e = equal_if_same a b (sym (is_eq-slice_cmp a b) ∙ ap is_eq e)

set_same : {Y : Type 0} (ys : List Y) (place : ℕ) (y : Y) → slice_get ys place ≡ Some y → set ys place y ≡ ys
set_same [] place y at = refl
set_same (z ∷ ys) zero y at = ap (λ v. v ∷ ys) (sym (same_Some z y at))
set_same (z ∷ ys) (suc place) y at = ap (λ zs. z ∷ zs) (set_same ys place y at)

module _ {X : Type 0} where
  abbrev pub without_name : Name → List (Name × X) → List (Name × X)
  without_name name es = where_key order (λ k. not (same_name k name)) es

  -- a name below all is below each
  below_at : (a : Name) (es : List (Name × X)) (place : ℕ) (e : Name × X) → T (below_all order a es)
      → slice_get es place ≡ Some e → order a e.0 ≡ Less
  below_at a [] place e all at = absurd (none-some e at)
  below_at a (f ∷ es) zero e all at = grind arith
  below_at a (f ∷ es) (suc place) e all at = below_at a es place e (back_so (is_lt (order a f.0)) (below_all order a es) all) at

  -- the name at a later place is above the first
  later : (f : Name × X) (es : List (Name × X)) (place : ℕ) (e : Name × X) → T (is_sorted order (f ∷ es))
      → slice_get es place ≡ Some e → order e.0 f.0 ≡ Greater
  later f es place e sorted at = above f.0 e.0 (below_at f.0 es place e (front_so (below_all order f.0 es) (is_sorted order es) sorted) at)

  rest_sorted : (f : Name × X) (es : List (Name × X)) → T (is_sorted order (f ∷ es)) → T (is_sorted order es)
  rest_sorted f es sorted = back_so (below_all order f.0 es) (is_sorted order es) sorted

  -- ---- at a place

  pub find_at : (es : List (Name × X)) (place : ℕ) (name : Name) (x : X) → T (is_sorted order es)
      → slice_get es place ≡ Some (name, x) → find order name es ≡ Some x
  find_at [] place name x sorted at = absurd (none-some (name, x) at)
  find_at (f ∷ es) zero name x sorted at = grind (arith, same_order)
  find_at (f ∷ es) (suc place) name x sorted at = grind (arith, later f es place (name, x) sorted at, find_at es place name x (rest_sorted f es sorted) at)

  pub put_at : (es : List (Name × X)) (place : ℕ) (name : Name) (x y : X) → T (is_sorted order es)
      → slice_get es place ≡ Some (name, x) → put order name y es ≡ set es place (name, y)
  put_at [] place name x y sorted at = absurd (none-some (name, x) at)
  put_at (f ∷ es) zero name x y sorted at = grind (arith, same_order)
  put_at (f ∷ es) (suc place) name x y sorted at = grind (arith, later f es place (name, x) sorted at, put_at es place name x y (rest_sorted f es sorted) at)

  -- nothing is removed if the name is below all
  without_below : (name : Name) (es : List (Name × X)) → T (below_all order name es) → without_name name es ≡ es
  without_below name [] all = refl
  without_below name (f ∷ es) all = grind (arith, differ, above, without_below name es (back_so (is_lt (order name f.0)) (below_all order name es) all))

  -- what is there already
  pub put_same : (es : List (Name × X)) (place : ℕ) (name : Name) (x : X) → T (is_sorted order es) → slice_get es place ≡ Some (name, x) → put order name x es ≡ es
  put_same es place name x sorted at = put_at es place name x x sorted at ∙ set_same es place (name, x) at

  pub without_at : (es : List (Name × X)) (place : ℕ) (name : Name) (x : X) → T (is_sorted order es)
      → slice_get es place ≡ Some (name, x) → without_name name es ≡ remove es place
  without_at [] place name x sorted at = absurd (none-some (name, x) at)
  without_at (f ∷ es) zero name x sorted at = grind (arith, same_if_equal, without_below)
  without_at (f ∷ es) (suc place) name x sorted at =
      grind (arith, below name f.0 (later f es place (name, x) sorted at), differ f.0 name, without_at es place name x (rest_sorted f es sorted) at)

  -- ---- in a gap

  pub record IsGap (es : List (Name × X)) (place : ℕ) (name : Name) : Type 0 where
    pub within : place ≤ length es
    pub before : AllWithin (λ e. order e.0 name ≡ Less) es 0 place
    pub behind : AllWithin (λ e. order e.0 name ≡ Greater) es place (length es)

  rest_gap : (f : Name × X) (es : List (Name × X)) (place : ℕ) (name : Name) → IsGap (f ∷ es) (suc place) name → IsGap es place name
  rest_gap f es place name gap = record {
    within = omega (arith, gap.within);
    before = λ k d low high. gap.before (suc k) d (omega arith) (omega (arith, high));
    behind = λ k d low high. gap.behind (suc k) d (omega (arith, low)) (omega (arith, high));
  }

  pub put_gap : (es : List (Name × X)) (place : ℕ) (name : Name) (y : X) → IsGap es place name
      → put order name y es ≡ insert es place (name, y)
  put_gap [] place name y gap = grind arith
  put_gap (f ∷ es) zero name y gap = grind (arith, below, gap.behind 0 f)
  put_gap (f ∷ es) (suc place) name y gap = grind (arith, above, gap.before 0 f, put_gap es place name y (rest_gap f es place name gap))

  pub find_gap : (es : List (Name × X)) (place : ℕ) (name : Name) → IsGap es place name → find order name es ≡ None
  find_gap [] place name gap = refl
  find_gap (f ∷ es) zero name gap = grind (
    arith,
    below,
    gap.behind 0 f,
    find_gap es zero name (record {
      within = omega arith;
      before = λ k d low high. absurd (omega (arith, high));
      behind = λ k d low high. gap.behind (suc k) d (omega arith) (omega (arith, high));
    }),
  )
  find_gap (f ∷ es) (suc place) name gap = grind (arith, above, gap.before 0 f, find_gap es place name (rest_gap f es place name gap))
