-- Facts about ends, as facts about what they show.
use Rattle.std.proofs.Common.{◌≡◌, ◌⊎◌, ◌+◌, ℕ, List, length, Option, inl, inr, sym, ap, subst₂, refl}
use Rattle.std.specs.Io.KnownBytes.{Consumes}
use Rattle.diag_edge.specs.Edge.{Reading, Writing, Holding}
use Rattle.clause_encoder.specs.Clauses.{ClauseList}
use Rattle.elimination_forests.specs.Forests.{Forest}
use Rattle.session_rules.specs.Items.{Item}
use Rattle.device_files.specs.declared.status.Status.{Status}
use Rattle.device_files.specs.declared.status.Status.TheVariants.{WriteFailed}
use Rattle.device_files.specs.Output.{Output, FulfilsOutput, FulfilsOutputUnlessMemory}
use Rattle.diag_cli.specs.Words.{Form}
use Rattle.diag_cli.specs.Behaviours.{Prints}
use Rattle.diag_cli.specs.Fulfilled.{IsAnswered, IsBroken, IsServed}
use Rattle.diag_cli.specs.inner.Serving.{FulfilsBehaviourUnlessMemory}
use Rattle.diag_cli.specs.Runs.{IsRun}

pub at_ends : (Holds : Reading → Reading → Writing → Writing → Type 0) {input new_input input_shown new_input_shown : Reading} {out new_out out_shown new_out_shown : Writing}
    → input_shown ≡ input → new_input_shown ≡ new_input → out_shown ≡ out → new_out_shown ≡ new_out
    → Holds input new_input out new_out → Holds input_shown new_input_shown out_shown new_out_shown
at_ends Holds {input_shown = x} {new_input_shown = y} {out = u} {new_out = v} a b c d holds =
    subst₂ (λ u v. Holds x y u v) (sym c) (sym d) (subst₂ (λ x y. Holds x y u v) (sym a) (sym b) holds)

-- an output was given
pub gives_shown : {output : Output} {status : Status} {before after : Option (List ℕ)} {faults new_faults : ℕ} {out new_out : Writing}
    → out ≡ record { got = before; faults = faults } → new_out ≡ record { got = after; faults = new_faults } → FulfilsOutput output status before after → FulfilsOutput output status out.got new_out.got
gives_shown {output} {status} a b said = subst₂ (FulfilsOutput output status) (sym (ap (λ (w : Writing). w.got) a)) (sym (ap (λ (w : Writing). w.got) b)) said

-- and nothing was read
pub told_shown : {output : Output} {status : Status} {input : Reading} {before after : Option (List ℕ)} {faults new_faults : ℕ} {out new_out : Writing}
    → out ≡ record { got = before; faults = faults } → new_out ≡ record { got = after; faults = new_faults } → FulfilsOutputUnlessMemory output status before after
    → FulfilsBehaviourUnlessMemory (Prints output) input input out new_out status
told_shown a b (inl said) = inl (record { left = refl; taken = refl; faults = refl }, gives_shown a b said)
told_shown a b (inr said) = inr (record { left = refl; taken = refl; faults = refl }, gives_shown a b said)

-- a script was served, and a run ended
pub served_shown : {answers : List (List ℕ) → List Item} {status : Status} {input new_input input_shown new_input_shown : Reading} {out new_out out_shown new_out_shown : Writing}
    → input_shown ≡ input → new_input_shown ≡ new_input → out_shown ≡ out → new_out_shown ≡ new_out
    → (bytes : List ℕ) → new_input.taken ≡ input.taken + length bytes → Consumes input.left new_input.left bytes
    → IsAnswered answers bytes input new_input out new_out status ⊎ ((status ≡ WriteFailed) × IsBroken answers bytes input new_input out new_out)
    → IsServed answers input_shown new_input_shown out_shown new_out_shown status
served_shown {answers} {status} a b c d bytes counted took wrote = at_ends (λ x y u v. IsServed answers x y u v status) a b c d (record { bytes = bytes; counted = counted; took = took; wrote = wrote })

pub run_shown : {choose : ClauseList → Option Forest} {form : Option Form} {held : List ℕ → Holding} {status : Status}
    {shelf new_shelf input new_input shelf_shown new_shelf_shown input_shown new_input_shown : Reading} {out new_out out_shown new_out_shown : Writing}
    → shelf_shown ≡ shelf → new_shelf_shown ≡ new_shelf → input_shown ≡ input → new_input_shown ≡ new_input → out_shown ≡ out → new_out_shown ≡ new_out
    → IsRun choose form held shelf new_shelf input new_input out new_out status → IsRun choose form held shelf_shown new_shelf_shown input_shown new_input_shown out_shown new_out_shown status
run_shown {choose} {form} {held} {status} {shelf} {new_shelf} {input_shown = i} {new_input_shown = j} {out_shown = o} {new_out_shown = p} a b c d e f run =
    at_ends (λ x y u v. IsRun choose form held x y i j u v status) a b (λ _. o) (λ _. p) (at_ends (λ x y u v. IsRun choose form held shelf new_shelf x y u v status) c d e f run)
