-- What several calls of a reader or a writer did together.
use Rattle.std.proofs.Common.{◌≡◌, ◌∙◌, ℕ, List, ◌++◌, take, drop, Option, None, Some, sym, ap, append_assoc}
use Rattle.std.proofs.lemmas.List.{take-append-drop}
use Rattle.std.specs.Io.KnownBytes.{Appends, Keeps}
use Rattle.diag_edge.proofs.GrownBytes.{grows_more}

appends_later : (a b c : Option (List ℕ)) (bs : List ℕ) → Appends a b bs → Keeps b c → Appends a c bs
appends_later None b c bs h k = tt
appends_later (Some xs) None c bs h k = absurd h
appends_later (Some xs) (Some ys) None bs h k = absurd k
appends_later (Some xs) (Some ys) (Some zs) bs h k = k ∙ h

-- a text was written, except `rest` at its end
abbrev pub WroteTo : Option (List ℕ) → Option (List ℕ) → List ℕ → List ℕ → Type 0
WroteTo a b text rest = (part : List ℕ) × (text ≡ part ++ rest) × Appends a b part

pub wrote_still : (a b c : Option (List ℕ)) (text rest : List ℕ) → WroteTo a b text rest → Keeps b c → WroteTo a c text rest
wrote_still a b c text rest so_far kept = (so_far.0, so_far.1, appends_later a b c so_far.0 so_far.2 kept)

pub wrote_more : (a b c : Option (List ℕ)) (text rest : List ℕ) (n : ℕ) → WroteTo a b text rest → Appends b c (take n rest) → WroteTo a c text (drop n rest)
wrote_more a b c text rest n so_far more = (
  so_far.0 ++ take n rest,
  so_far.1 ∙ ap (λ r. so_far.0 ++ r) (sym (take-append-drop n rest)) ∙ sym (append_assoc so_far.0 (take n rest) (drop n rest)),
  grows_more a b c so_far.0 (take n rest) so_far.2 more,
)
