-- What a list of named files holds at a place.
use Rattle.std.proofs.Common.{◌≡◌, ℕ, List, drop, drop-cons, slice_get, Some, true, String, Vec, string_bytes}
use Rattle.std.proofs.lemmas.Option.{slice_get_within, get_or_from_slice_get}
use Rattle.std.specs.declared.alloc.Global.{Global}
use Rattle.std.specs.Str.{bytes_eq}
use Rattle.diag_edge.specs.Edge.{holds}
use Rattle.diag_edge.specs.InMemory.{named_files, held_in}
use Rattle.diag_edge.specs.inner.Places.{bytes_at}

-- the file at this place has the name
pub held_in-drop : (pairs : List (String Global × Vec ℕ Global)) (k : ℕ) (name : List ℕ) (pair : String Global × Vec ℕ Global) → slice_get pairs k ≡ Some pair → bytes_eq (string_bytes pair.0) name ≡ true → held_in (named_files (drop k pairs)) name ≡ holds (bytes_at pairs k)
held_in-drop pairs k name pair is same =
    rw (drop-cons pairs k pair (slice_get_within pairs k pair is), get_or_from_slice_get pairs k pair pair is, same, is)
