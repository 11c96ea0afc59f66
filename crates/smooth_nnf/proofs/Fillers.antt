-- The lines of the parts' literals, and those that fill parts in.
use Rattle.std.proofs.Common.{◌≡◌, ℕ, zero, suc, ◌+◌, ◌-◌, ◌*◌, ◌<◌, ◌≤◌, Bool, true, false, ◌&&◌, ◌==◌, List, [], ◌∷◌, ◌++◌, map, length, refl, ap, ◌∙◌, arith, inl, inr, get_or, length-append}
use Rattle.std.proofs.lemmas.Bool.Decides.{nat_tests}
use Rattle.std.specs.Prelude.{nat_le}
use Rattle.std.specs.List.{list_all, list_any, filter, flat_map, range_with_len, AllByRecursion}
use Rattle.std.specs.Cmp.{both_ways}
use Rattle.std.proofs.lemmas.Simd.{map-map}
use Rattle.std.proofs.lemmas.Bool.{and_parts, and_from, le-leb, leb-true, eq-eqb, cases_lt}
use Rattle.state_rules.specs.Assignments.{Assignment}
use Rattle.state_rules.proofs.Bits.{same_bit-equal, same_bit-refl}
use Rattle.state_rules.proofs.Members.{In, In-filter, In-filtered, from_map, In-at}
use Rattle.state_rules.specs.declared.nodes.NodeKind.{NodeKind}
use Rattle.state_rules.specs.declared.nodes.NodeKind.TheVariants.{Literal}
use Rattle.state_rules.specs.Graphs.{Node, literal_node, node_at, at_most_one, truth_by, mention_by, is_true, mentions}
use Rattle.state_rules.proofs.NodeValues.{are_below, value_of, value_of-at, are_below-from}
use Rattle.state_rules.proofs.Children.{at_most_one-from}
use Rattle.minimiser.specs.Costs.{known_at}
use Rattle.minimiser.proofs.Derivations.{any-child, all-child, child-with}
use Rattle.smooth_nnf.specs.Layouts.{literal_pair, literal_pairs, literal_line, filling, filler, fillers}
use Rattle.smooth_nnf.proofs.LaterLines.{MayFollow, Stand, stand-behind}

-- ---- lists

pub all-from : {A : Type 0} (f : A → Bool) (xs : List A) → ((x : A) → In x xs → f x ≡ true) → list_all (λ b. b) (map f xs) ≡ true
all-from f [] each = refl
all-from f (y ∷ xs) each = and_from _ _ (each y (inl refl)) (all-from f xs (λ x m. each x (inr m)))

pub map-in : {A B : Type 0} (f g : A → B) (xs : List A) → ((x : A) → In x xs → f x ≡ g x) → map f xs ≡ map g xs
map-in f g [] same = refl
map-in f g (x ∷ xs) same = λ i. same x (inl refl) i ∷ map-in f g xs (λ y m. same y (inr m)) i

pub in_range : (s n p : ℕ) → In p (range_with_len s n) → (s ≤ p) × (p < s + n)
in_range s zero p m = absurd m
in_range s (suc n) p (inl e) = (omega arith, omega arith)
in_range s (suc n) p (inr m) = let r = in_range (s + 1) n p m in (omega (arith, r.0), omega (arith, r.1))

range_has : (s n p : ℕ) → s ≤ p → p < s + n → In p (range_with_len s n)
range_has s zero p low high = absurd (omega arith)
range_has s (suc n) p low high = grind (arith, nat_tests, cases_lt, range_has (s + 1) n p)

-- ---- the literals of the parts

abbrev pair_line : ℕ → ℕ → Bool → ℕ
pair_line s p true = 2 * (p - s)
pair_line s p false = 2 * (p - s) + 1

pair_line-later : (s p : ℕ) (b : Bool) → s < p → pair_line s p b ≡ suc (suc (pair_line (s + 1) p b))
pair_line-later s p b lt = grind (arith, nat_tests)

pair-at : (s n p : ℕ) (b : Bool) (more : List Node) → s ≤ p → p < s + n → node_at (flat_map literal_pair (range_with_len s n) ++ more) (pair_line s p b) ≡ literal_node p b
pair-at s zero p b more low high = absurd (omega arith)
pair-at s (suc n) p b more low high = grind (arith, nat_tests, pair_line-later, cases_lt, pair-at (s + 1) n p b more)

length-pairs : (s n : ℕ) → length (flat_map literal_pair (range_with_len s n)) ≡ 2 * n
length-pairs s zero = refl
length-pairs s (suc n) = omega (arith, length-pairs (s + 1) n)

pub length-literal_pairs : (parts : ℕ) → length (literal_pairs parts) ≡ 2 * parts
length-literal_pairs parts = length-pairs 1 parts

line-as_pair : (p : ℕ) (b : Bool) → literal_line p b ≡ pair_line 1 p b
line-as_pair p b = grind (arith, nat_tests)

pub literal_line-lt : (parts p : ℕ) (b : Bool) → 1 ≤ p → p ≤ parts → literal_line p b < 2 * parts
literal_line-lt parts p b low high = grind (arith, nat_tests)

pairs-follow : (parts s n : ℕ) → 1 ≤ s → s + n ≤ parts + 1 → AllByRecursion (MayFollow parts []) (flat_map literal_pair (range_with_len s n))
pairs-follow parts s zero low few = tt
pairs-follow parts s (suc n) low few = grind (arith, nat_tests, and_from, le-leb, pairs-follow parts (s + 1) n)

pub pairs-stand : (parts : ℕ) → Stand parts (literal_pairs parts)
pairs-stand parts = stand-behind parts [] (literal_pairs parts) (record { nodes = record { fit = refl; apart = λ v. tt }; smooth = λ v. tt }) (pairs-follow parts 1 parts (omega arith) (omega arith))

-- lines that begin with them
module _ (parts : ℕ) (more : List Node) where
  abbrev lines : List Node
  lines = literal_pairs parts ++ more

  pub room : 2 * parts ≤ length (literal_pairs parts ++ more)
  room = omega (arith, length-append (literal_pairs parts) more, length-literal_pairs parts)

  pub literal-value : (by : NodeKind → List Bool → Bool) (p : ℕ) (b : Bool) → 1 ≤ p → p ≤ parts → value_of by (literal_pairs parts ++ more) (literal_line p b) ≡ by (Literal b p) []
  literal-value by p b low high = let inside : literal_line p b < length lines = omega (arith, room, literal_line-lt parts p b low high) in grind (arith, nat_tests, line-as_pair, pair-at, value_of-at)

  -- ---- fillers

  module _ (evidence : List ℕ) (missing : ℕ → Bool) where
    abbrev chosen : List ℕ
    chosen = filter missing (range_with_len 1 parts)

    chosen-is : (p : ℕ) → In p chosen → (1 ≤ p) × (p ≤ parts) × (missing p ≡ true)
    chosen-is p m = grind (arith, nat_tests, In-filter, in_range)

    chosen-has : (p : ℕ) → 1 ≤ p → p ≤ parts → missing p ≡ true → In p chosen
    chosen-has p low high is = In-filtered missing p (range_with_len 1 parts) (range_has 1 parts p low (omega arith)) is

    filler-value : (by : NodeKind → List Bool → Bool) (p : ℕ) → In p chosen → value_of by lines (filler evidence p) ≡ by (Literal (filling (known_at evidence p)) p) []
    filler-value by p m = grind (arith, nat_tests, chosen-is, literal-value)

    pub fillers-values : (by : NodeKind → List Bool → Bool)
        → map (value_of by (literal_pairs parts ++ more)) (fillers evidence parts missing) ≡ map (λ p. by (Literal (filling (known_at evidence p)) p) []) (filter missing (range_with_len 1 parts))
    fillers-values by = map-map (value_of by lines) (filler evidence) chosen ∙ map-in (λ p. value_of by lines (filler evidence p)) (λ p. by (Literal (filling (known_at evidence p)) p) []) chosen (filler-value by)

    -- fillers are before all lines that they fill in
    pub fillers-below : (own : ℕ) → 2 * parts ≤ own → are_below own (fillers evidence parts missing) ≡ true
    fillers-below own le = are_below-from own (map (filler evidence) chosen) (λ i d h.
        let x = from_map (filler evidence) (get_or (map (filler evidence) chosen) i d) chosen (In-at (map (filler evidence) chosen) i d h) in
        grind (arith, x.gives, chosen-is x.item x.is_in, literal_line-lt))

    -- together they mention what is missing
    pub fillers-mention : (v : ℕ) → list_any (λ b. b) (map (mentions (literal_pairs parts ++ more) v) (fillers evidence parts missing)) ≡ ((nat_le 1 v && nat_le v parts) && missing v)
    fillers-mention v = ap (list_any (λ b. b)) (fillers-values (mention_by v)) ∙ both_ways _ _ from to where
      from : list_any (λ b. b) (map (λ p. p == v) chosen) ≡ true → ((nat_le 1 v && nat_le v parts) && missing v) ≡ true
      from any = let r = child-with (λ p. p == v) chosen any in grind (arith, nat_tests, chosen-is r.item r.is_in, r.passes)

      to : ((nat_le 1 v && nat_le v parts) && missing v) ≡ true → list_any (λ b. b) (map (λ p. p == v) chosen) ≡ true
      to all = grind (arith, nat_tests, and_parts, any-child, chosen-has, leb-true, eq-eqb)

    -- each part once
    pub fillers-once : (v : ℕ) → at_most_one (map (mentions (literal_pairs parts ++ more) v) (fillers evidence parts missing)) ≡ true
    fillers-once v = ap at_most_one (fillers-values (mention_by v)) ∙ once 1 parts where
      once : (s n : ℕ) → at_most_one (map (λ p. p == v) (filter missing (range_with_len s n))) ≡ true
      once s zero = refl
      once s (suc n) =
          let other : list_any (λ b. b) (map (λ p. p == v) (filter missing (range_with_len (s + 1) n))) ≡ true → (s == v) ≡ false = λ any.
          let r = child-with (λ p. p == v) (filter missing (range_with_len (s + 1) n)) any in
          grind (arith, nat_tests, in_range (s + 1) n r.item (In-filter missing r.item (range_with_len (s + 1) n) r.is_in).0, r.passes) in
          grind (arith, nat_tests, at_most_one-from, other, once (s + 1) n)

    -- they are true if what is missing is filled in
    pub fillers-true : (a : Assignment) → ((v : ℕ) → (nat_le 1 v && nat_le v parts) ≡ true → missing v ≡ true → a v ≡ filling (known_at evidence v))
        → list_all (λ b. b) (map (λ k. is_true (literal_pairs parts ++ more) k a) (fillers evidence parts missing)) ≡ true
    fillers-true a filled = grind (arith, nat_tests, fillers-values (truth_by a), all-from, chosen-is, filled, and_from, le-leb, same_bit-refl)

    pub fillers-say : (a : Assignment) → list_all (λ b. b) (map (λ k. is_true (literal_pairs parts ++ more) k a) (fillers evidence parts missing)) ≡ true
        → (v : ℕ) → (nat_le 1 v && nat_le v parts) ≡ true → missing v ≡ true → a v ≡ filling (known_at evidence v)
    fillers-say a all v part is = grind (arith, nat_tests, and_parts, same_bit-equal, all-child, chosen-has, leb-true, fillers-values (truth_by a))
