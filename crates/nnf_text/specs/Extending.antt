-- How a text grows that is put in chunks: `Some` has the bytes that are gathered and not yet put, `None` means a failed write.
use Rattle.std.specs.Prelude.{◌≡◌, ℕ, List, ◌++◌, Option, Some, None, Result, IsErr}
use Rattle.diag_edge.specs.Edge.{AppendsPrefix, Rose, Writing, Puts, HasCause}
use Rattle.diag_edge.specs.Adding.{Grown}

-- A text is added; or a write fails, and a prefix of all that was to be put is put. After a failed write nothing more is put.
abbrev pub Grows : Writing → Writing → Option (List ℕ) → Option (List ℕ) → List ℕ → Type 0
Grows before after (Some old) (Some new) text = Grown before.got after.got old new text × (after.faults ≡ before.faults)
Grows before after (Some old) None text = AppendsPrefix before.got after.got (old ++ text) × Rose before.faults after.faults
Grows before after None (Some new) text = ⊥
Grows before after None None text = after ≡ before

pub record Extends (before after : Writing) (old new : Option (List ℕ)) (text : List ℕ) : Type 0 where
  pub grows : Grows before after old new text

-- what is gathered is put, unless a write failed before
abbrev pub Ends : {T E : Type 0} → Writing → Writing → Option (List ℕ) → Result T E → Type 0
Ends before after None result = IsErr result × (after ≡ before)
Ends before after (Some rest) result = Puts before.got after.got result rest × HasCause before.faults after.faults result
