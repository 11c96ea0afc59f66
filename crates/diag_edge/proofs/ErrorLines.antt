-- The error line of a fault, as its pieces are added.
use Rattle.std.proofs.Common.{◌≡◌, List, ℕ, [], ◌∷◌, ◌++◌, Option, Result, IsErr, sym, ◌∙◌, ap, subst, append_assoc, append-nil, codes}
use Rattle.std.specs.Prelude.{decimal}
use Rattle.std.specs.List.{flat_map}
use Rattle.diag_edge.specs.Edge.{AppendsPrefix, Puts}
use Rattle.diag_edge.proofs.GrownBytes.{begins_first}
use Rattle.diag_edge.proofs.Added.{put_part}
use Rattle.diag_edge.specs.ErrorLines.{fault_line}

-- its pieces
abbrev pub one : List ℕ
one = codes "error: line "

abbrev pub two : ℕ → List ℕ
two line = one ++ decimal line

abbrev pub three : ℕ → List ℕ
three line = two line ++ codes ": fault"

abbrev pub last : List ℕ → List ℕ → List ℕ
last digits name = flat_map (λ word. 32 ∷ word) (digits ∷ name ∷ []) ++ 10 ∷ []

module _ (line number : ℕ) (digits name : List ℕ) (same : digits ≡ decimal number) where
  pub fault_text : three line ++ last digits name ≡ fault_line line number name
  fault_text =
      ap (λ t. codes "error: line " ++ t)
      (append_assoc (decimal line) (codes ": fault") _ ∙ ap (λ t. decimal line ++ (codes ": fault" ++ (32 ∷ t))) rest ∙ sym (append_assoc (decimal line) (codes ":") _))
    where
      rest : (digits ++ (32 ∷ (name ++ []))) ++ 10 ∷ [] ≡ decimal number ++ (32 ∷ (name ++ 10 ∷ []))
      rest = append_assoc digits (32 ∷ (name ++ [])) (10 ∷ []) ∙ ap (λ t. digits ++ (32 ∷ (t ++ 10 ∷ []))) (append-nil name) ∙ ap (λ t. t ++ (32 ∷ (name ++ 10 ∷ []))) same

  module _ {T E : Type 0} (a b : Option (List ℕ)) (r : Result T E) (chunk : List ℕ) (failed : IsErr r) (none : chunk ≡ []) where
    -- a put failed with the last piece, or with one before it
    pub last_begun : AppendsPrefix a b (chunk ++ (three line ++ last digits name)) → Puts a b r (fault_line line number name)
    last_begun part = put_part a b r chunk (three line ++ last digits name) [] _ failed none (append-nil (three line ++ last digits name) ∙ fault_text) part

    more : (xs ys : List ℕ) → AppendsPrefix a b (chunk ++ xs) → AppendsPrefix a b (chunk ++ (xs ++ ys))
    more xs ys part = subst (AppendsPrefix a b) (append_assoc chunk xs ys) (begins_first a b (chunk ++ xs) ys part)

    pub three_begun : AppendsPrefix a b (chunk ++ three line) → Puts a b r (fault_line line number name)
    three_begun part = last_begun (more (three line) (last digits name) part)

    pub two_begun : AppendsPrefix a b (chunk ++ two line) → Puts a b r (fault_line line number name)
    two_begun part = three_begun (more (two line) (codes ": fault") part)

    pub one_begun : AppendsPrefix a b (chunk ++ one) → Puts a b r (fault_line line number name)
    one_begun part = two_begun (more one (decimal line) part)
