-- Sets that are one after the other.
use Rattle.std.proofs.Common.{◌≡◌, ℕ, ◌+◌, ◌*◌, ◌≤◌, List, ◌++◌, length, arith}
use Rattle.std.proofs.lemmas.List.{take-append-le, drop-append-le, drop_at, take_at, length-drop}
use Rattle.part_sets.specs.Numbers.{set_at}

pub set_at-front : (front back : List ℕ) (k size : ℕ) → k * size + size ≤ length front → set_at (front ++ back) k size ≡ set_at front k size
set_at-front front back k size h = grind (arith, drop-append-le, take-append-le, length-drop)

pub set_at-here : (front set back : List ℕ) (k size : ℕ) → length front ≡ k * size → length set ≡ size → set_at (front ++ (set ++ back)) k size ≡ set
set_at-here front set back k size h l = grind (arith, drop_at front (set ++ back), take_at set back size)
