-- What a binary search by name finds among sessions whose names rise.
use Rattle.std.proofs.Common.{◌≡◌, ℕ, zero, suc, ◌+◌, ◌<◌, Bool, true, false, T, List, [], ◌∷◌, length, get_or, sym, subst, Result, IfOk, IfErr, arith, Equal}
use Rattle.std.specs.List.Sorted.{IsSearchInRange, IsBinarySearchResult, IsNonDecreasingBy}
use Rattle.std.specs.Ordering.{is_lt, ordering_index}
use Rattle.std.specs.FinMap.Entries.{is_sorted}
use Rattle.std.proofs.lemmas.Cmp.{nat_list_cmp_total}
use Rattle.std.proofs.lemmas.List.Sorted.{searchable_from_sorted}
use Rattle.std.proofs.lemmas.Option.{slice_get-get_or}
use Rattle.text_rules.specs.Names.{Name}
use Rattle.session_table.specs.inner.Ordered.{blocks_by_name, NamesRise, HasName, IsGapFor}
use Rattle.session_table.specs.declared.in_order.Open.{Open}
use Rattle.session_table.proofs.Lookups.{order, above, tied_names}

-- two forms of saying that a test is true
pub so : (b : Bool) → b ≡ true → T b
so b e = subst T (sym e) tt

pub as_true : (b : Bool) → T b → b ≡ true
as_true b h = grind arith

-- a later name is not below the one before it
adjacent : (sessions : List Open) (k : ℕ) (d : Open) → T (is_sorted order (blocks_by_name sessions)) → k + 1 < length sessions
    → is_lt (order (get_or sessions (k + 1) d).name (get_or sessions k d).name) ≡ false
adjacent [] k d sorted within = absurd (omega (arith, within))
adjacent (s ∷ []) k d sorted within = absurd (omega (arith, within))
adjacent (s ∷ t ∷ sessions) zero d sorted within = grind (arith, above)
adjacent (s ∷ t ∷ sessions) (suc k) d sorted within = grind (arith, adjacent (t ∷ sessions) k d)

some_session : (sessions : List Open) (name : Name) (place : ℕ) → place < length sessions → ((d : Open) → order (get_or sessions place d).name name ≡ Equal)
    → HasName sessions place name
some_session [] name place within tied = absurd (omega (arith, within))
some_session (s ∷ sessions) name place within tied =
    (get_or (s ∷ sessions) place s, slice_get-get_or (s ∷ sessions) place s within, tied_names (get_or (s ∷ sessions) place s).name name (tied s))

module _ (sessions : List Open) (rise : NamesRise sessions) (name : Name) where
  searchable : IsNonDecreasingBy (λ (s : Open). ordering_index (order s.name name)) sessions
  searchable = searchable_from_sorted nat_list_cmp_total (λ (s : Open). s.name) sessions name
      (λ k d low high. adjacent sessions k d (so (is_sorted order (blocks_by_name sessions)) rise) high)

  pub searched : (r : Result ℕ ℕ) → IsSearchInRange r (length sessions)
      → IsBinarySearchResult (λ (s : Open). order s.name name) sessions r
      → IfOk r (λ place. HasName sessions place name) × IfErr r (λ place. IsGapFor sessions place name)
  searched r within given = grind (arith, some_session, searchable)
