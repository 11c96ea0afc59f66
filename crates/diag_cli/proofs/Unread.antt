-- What is known if a file was not read.
use Rattle.std.proofs.Common.{◌≡◌, ◌≢◌, ◌<◌, ◌-◌, ◌^◌, ℕ, length, IfSome, arith}
use Rattle.std.specs.Prelude.{Err, IsErrOf}
use Rattle.text_rules.specs.declared.text_lines.TheConstants.{TEXT_LIMIT}
use Rattle.diag_edge.specs.Edge.{Holding, absent, known_bytes, RisesAt}
use Rattle.diag_edge.specs.declared.loading.LoadError.{LoadError}
use Rattle.diag_edge.specs.declared.loading.LoadError.TheVariants.{Failed, Long, Memory}

-- A read failed; or the file is there, and is too long or memory ran out.
abbrev pub IsUnread : LoadError → Holding → ℕ → ℕ → Type 0
IsUnread Failed held reads new_reads = reads < new_reads
IsUnread (Long limit) held reads new_reads = IfSome (known_bytes held) (λ file. TEXT_LIMIT < length file) × (held ≢ absent) × (new_reads ≡ reads)
IsUnread Memory held reads new_reads = (held ≢ absent) × (new_reads ≡ reads)

pub unread : {T : Type 0} (error : LoadError) (held : Holding) (reads new_reads : ℕ) → reads < 2 ^ 64 - 1 → RisesAt {T = T} Failed reads new_reads (Err error)
    → (held ≡ absent → IsErrOf {T = T} (Err error) Failed) → ((other : ℕ) → IsErrOf {T = T} (Err error) (Long other) → other ≡ TEXT_LIMIT)
    → (IsErrOf {T = T} (Err error) (Long TEXT_LIMIT) → IfSome (known_bytes held) (λ file. TEXT_LIMIT < length file)) → IsUnread error held reads new_reads
unread error held reads new_reads few failed gone that long = grind arith
