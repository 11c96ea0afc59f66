-- The bits of a word that are parts'.
use Rattle.std.proofs.Common.{◌≡◌, ℕ, ◌+◌, ◌-◌, ◌*◌, ◌/◌, ◌%◌, ◌^◌, ◌<◌, ◌≤◌, min, ap, ◌∙◌, arith}
use Rattle.std.proofs.lemmas.Bool.Decides.{nat_tests}
use Rattle.std.specs.Prelude.{nat_le}
use Rattle.std.proofs.lemmas.Bool.{cases_lt, le-leb, lt-leb}
use Rattle.std.proofs.lemmas.Nat.{pow_below}
use Rattle.std.proofs.lemmas.Nat.Bits.{bit_at_ones, bit_at_ones_above}
use Rattle.state_rules.specs.Bits.{has_bit}

-- `count` ones are the bits below `count`
pub ones : (count b : ℕ) → has_bit (2 ^ count - 1) b ≡ nat_le (b + 1) count
ones count b = grind (arith, nat_tests, bit_at_ones, le-leb, bit_at_ones_above, lt-leb, cases_lt)

-- the ones of a word are the bits of its parts
pub part_ones : (parts word count : ℕ) → word < (parts + 31) / 32 → count ≡ min (parts - 32 * word) 32 → (b : ℕ) → b < 32 → has_bit (1 * 2 ^ count % 18446744073709551616 - 1) b ≡ nat_le (32 * word + b + 1) parts
part_ones parts word count w e b s =
    let few : count ≤ 32 = omega (arith, e) in
    let less : 2 ^ count < 2 ^ 64 = pow_below count 64 (omega arith) in
    let same : 1 * 2 ^ count % 18446744073709551616 ≡ 2 ^ count = omega (arith, less) in
    ap (λ n. has_bit (n - 1) b) same ∙ ones count b ∙ grind (arith, nat_tests, e, w, s)
