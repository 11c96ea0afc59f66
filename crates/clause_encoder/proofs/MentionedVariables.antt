-- What is true of the variables of a part's ports, of its health and of its inner ones is true of all in its clauses.
use Rattle.std.proofs.Common.{◌≡◌, ℕ, zero, suc, ◌+◌, ◌-◌, ◌<◌, ◌≤◌, Bool, true, false, not, List, [], ◌∷◌, ◌++◌, map, length, take, get_or, pos, sym, subst, arith}
use Rattle.std.specs.Prelude.{if◌then◌else◌}
use Rattle.std.proofs.lemmas.List.{length-take-le}
use Rattle.device_model.specs.declared.gates.Rule.{Rule}
use Rattle.device_model.specs.declared.gates.Gate.{Gate}
use Rattle.device_model.specs.declared.gates.Reduction.{Reduction}
use Rattle.device_model.specs.declared.gates.Reduction.TheVariants.{AllOnes, AnyOne, OddOnes}
use Rattle.device_model.specs.TruthTable.{TruthTable}
use Rattle.device_model.specs.Devices.{takes_ports}
use Rattle.device_model.specs.Gates.{takes}
use Rattle.clause_encoder.specs.Clauses.{Clause, var_of, literal}
use Rattle.clause_encoder.specs.Encoding.{parity_clauses, and_clauses, blocking_literals, blocked_rows, reduction_clauses, gate_clauses, chain_clauses, wide_clauses, is_wide, any_gate_clauses, inner_count, raw_clauses}
use Rattle.clause_encoder.proofs.Literals.{var_of-literal}
use Rattle.clause_encoder.proofs.PartClauses.{and_clauses-literals}

module _ (P : ℕ → Type 0) where
  abbrev pub Of : Clause → Type 0
  Of [] = Unit {0}
  Of (l ∷ c) = P (var_of l) × Of c

  -- each clause has a literal, too
  abbrev pub OfEach : List Clause → Type 0
  OfEach [] = Unit {0}
  OfEach (c ∷ cs) = (1 ≤ length c) × Of c × OfEach cs

  abbrev pub Variables : List ℕ → Type 0
  Variables [] = Unit {0}
  Variables (v ∷ vs) = P v × Variables vs

  Variables-take : (n : ℕ) (vs : List ℕ) → Variables vs → Variables (take n vs)
  Variables-take zero vs h = tt
  Variables-take (suc n) [] h = tt
  Variables-take (suc n) (v ∷ vs) h = (h.0, Variables-take n vs h.1)

  Variables-at : (vs : List ℕ) (i : ℕ) → Variables vs → i < length vs → P (get_or vs i 0)
  Variables-at [] i h lt = absurd (omega arith)
  Variables-at (v ∷ vs) zero h lt = h.0
  Variables-at (v ∷ vs) (suc i) h lt = Variables-at vs i h.1 (omega arith)

  Of-cons : (b : Bool) (v : ℕ) (c : Clause) → P v → Of c → Of (literal b v ∷ c)
  Of-cons b v c h rest = (subst P (sym (var_of-literal b v)) h, rest)

  Of-append : (c d : Clause) → Of c → Of d → Of (c ++ d)
  Of-append [] d h k = k
  Of-append (l ∷ c) d h k = (h.0, Of-append c d h.1 k)

  pub OfEach-append : (cs ds : List Clause) → OfEach cs → OfEach ds → OfEach (cs ++ ds)
  OfEach-append [] ds h k = k
  OfEach-append (c ∷ cs) ds h k = (h.0, h.1, OfEach-append cs ds h.2 k)

  OfEach-map : {A : Type 0} (f : A → Clause) (xs : List A) → ((x : A) → (1 ≤ length (f x)) × Of (f x)) → OfEach (map f xs)
  OfEach-map f [] h = tt
  OfEach-map f (x ∷ xs) h = ((h x).0, (h x).1, OfEach-map f xs h)

  Of-literals : (b : Bool) (vs : List ℕ) → Variables vs → Of (map (literal b) vs)
  Of-literals b [] h = tt
  Of-literals b (v ∷ vs) h = Of-cons b v (map (literal b) vs) h.0 (Of-literals b vs h.1)

  Of-blocking : (vs : List ℕ) (bits : List Bool) → Variables vs → Of (blocking_literals vs bits)
  Of-blocking [] bits h = tt
  Of-blocking (v ∷ vs) [] h = tt
  Of-blocking (v ∷ vs) (b ∷ bits) h = Of-cons (not b) v (blocking_literals vs bits) h.0 (Of-blocking vs bits h.1)

  module _ (h : ℕ) (hh : P h) where
    Of-and : (y : ℕ) (t s : Bool) (xs : List ℕ) → P y → Variables xs → OfEach (and_clauses (pos h) (literal t y) (map (literal s) xs))
    Of-and y t s xs hy hs = subst OfEach (sym (and_clauses-literals h y t s xs))
        (OfEach-append (map (λ x. literal false h ∷ literal (not t) y ∷ literal s x ∷ []) xs) ((literal false h ∷ literal t y ∷ map (literal (not s)) xs) ∷ [])
        (fronts xs hs)
        (omega arith, Of-cons false h (literal t y ∷ map (literal (not s)) xs) hh (Of-cons t y (map (literal (not s)) xs) hy (Of-literals (not s) xs hs)), tt)) where
          fronts : (xs : List ℕ) → Variables xs → OfEach (map (λ x. literal false h ∷ literal (not t) y ∷ literal s x ∷ []) xs)
          fronts [] hs = tt
          fronts (x ∷ xs) hs = (omega arith, Of-cons false h (literal (not t) y ∷ literal s x ∷ []) hh (Of-cons (not t) y (literal s x ∷ []) hy (Of-cons s x [] hs.0 tt)), fronts xs hs.1)

    Of-parity : (odd : Bool) (xs : List ℕ) (y : ℕ) → P y → Variables xs → OfEach (parity_clauses odd h xs y)
    Of-parity odd xs y hy hs = grind (arith, OfEach-map, Of-append, Of-blocking)

    Of-side : (ok : Bool) (allowed : ℕ) (ports : List ℕ) → Variables ports → OfEach (blocked_rows ok allowed h ports)
    Of-side ok allowed ports hs = grind (arith, OfEach-map, Of-blocking)

    Of-reduction : (reduction : Reduction) (positive : Bool) (xs : List ℕ) (y : ℕ) → P y → Variables xs → OfEach (reduction_clauses reduction positive h xs y)
    Of-reduction AllOnes positive xs y hy hs = Of-and y positive true xs hy hs
    Of-reduction AnyOne positive xs y hy hs = Of-and y (not positive) false xs hy hs
    Of-reduction OddOnes positive xs y hy hs = Of-parity positive xs y hy hs

    Of-gate : (gate : Gate) (xs : List ℕ) (y : ℕ) → P y → Variables xs → OfEach (gate_clauses gate h xs y)
    Of-gate gate = Of-reduction gate.reduction gate.positive

    -- The inner variables of a chain are z and up, one for each step.
    Of-chain : (gate : Gate) (last y : ℕ) → P last → P y → (xs : List ℕ) (z before : ℕ) → ((v : ℕ) → z ≤ v → v < z + length xs → P v)
        → P before → Variables xs → OfEach (chain_clauses gate h last y z before xs)
    Of-chain gate last y hl hy [] z before hz hb hs = Of-gate gate (before ∷ last ∷ []) y hy (hb, (hl, tt))
    Of-chain gate last y hl hy (x ∷ xs) z before hz hb hs = grind (arith, Of-chain gate last y hl hy xs (z + 1) z (λ v le lt. hz v (omega arith) (omega arith)) (hz z (omega arith) (omega arith)) hs.1)

    Of-wide : (gate : Gate) (z : ℕ) (xs : List ℕ) (y : ℕ) → 5 ≤ length xs → ((v : ℕ) → z ≤ v → v < z + (length xs - 2) → P v) → P y → Variables xs
        → OfEach (wide_clauses gate h z xs y)
    Of-wide gate z xs y wide hz hy hs = grind (arith, length-take-le, Of-chain, Variables-at, Variables-take)

    Of-any_gate : (gate : Gate) (z ports : ℕ) (xs : List ℕ) (y : ℕ) → length xs ≡ ports - 1 → ((v : ℕ) → z ≤ v → v < z + (if is_wide (ports - 1) then ports - 3 else 0) → P v)
        → P y → Variables xs → OfEach (any_gate_clauses gate h z xs y)
    Of-any_gate gate z ports xs y long hz hy hs = grind (arith, Of-wide, Of-gate)

    Of-ports : (gate : Gate) (z : ℕ) (ports : List ℕ) → ((v : ℕ) → z ≤ v → v < z + (if is_wide (length ports - 1) then length ports - 3 else 0) → P v)
        → Variables ports → takes gate (length ports - 1) ≡ true → OfEach (any_gate_clauses gate h z (take (length ports - 1) ports) (get_or ports (length ports - 1) 0))
    Of-ports gate z ports hz hs e = grind (arith, Of-any_gate, length-take-le, Variables-at, Variables-take)

    pub Of-raw : (tables : List TruthTable) (rule : Rule) (z : ℕ) (ports : List ℕ) → ((v : ℕ) → z ≤ v → v < z + inner_count rule (length ports) → P v)
        → Variables ports → takes_ports tables rule (length ports) ≡ true → OfEach (raw_clauses tables rule h z ports)
    Of-raw tables rule z ports hz hs e = grind (arith, OfEach-append, Of-side, Of-ports)
