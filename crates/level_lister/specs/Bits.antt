-- The bits that the sets of a graph take.
use Rattle.std.specs.Prelude.{ℕ, ◌+◌, ◌*◌}
use Rattle.level_lister.specs.Listing.{cost_words}

-- for each node that a graph of this sum and these variables has at most: a bit for each part and the words of its costs
abbrev pub level_bits : (sum vars parts top : ℕ) → ℕ
level_bits sum vars parts top = (3 * sum + 2 * vars + 2) * (parts + 32 * cost_words top)
