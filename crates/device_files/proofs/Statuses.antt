-- Whether a run ends in one way or in another.
use Rattle.std.proofs.Common.{◌≡◌, ℕ, zero, suc, refl}
use Rattle.device_files.specs.declared.status.Status.{Status}
use Rattle.device_files.specs.declared.status.Status.TheVariants.{Done, Refused, Usage, AboveBudget, ReadFailed, WriteFailed, NoMemory, CutShort}
use Rattle.device_files.specs.Statuses.{number_of}

status_of : ℕ → Status
status_of zero = Done
status_of (suc zero) = Refused
status_of (suc (suc zero)) = Usage
status_of (suc (suc (suc zero))) = AboveBudget
status_of (suc (suc (suc (suc zero)))) = ReadFailed
status_of (suc (suc (suc (suc (suc zero))))) = WriteFailed
status_of (suc (suc (suc (suc (suc (suc zero)))))) = NoMemory
status_of (suc (suc (suc (suc (suc (suc (suc n))))))) = CutShort

numbered : (s : Status) → status_of (number_of s) ≡ s
unfolding status_of
numbered Done = refl
numbered Refused = refl
numbered Usage = refl
numbered AboveBudget = refl
numbered ReadFailed = refl
numbered WriteFailed = refl
numbered NoMemory = refl
numbered CutShort = refl
