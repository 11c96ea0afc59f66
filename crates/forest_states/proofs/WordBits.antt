-- The bits in words of 64.
use Rattle.std.proofs.Common.{inl, inr, ◌≡◌, ℕ, zero, suc, ◌+◌, ◌-◌, ◌*◌, ◌/◌, ◌%◌, ◌^◌, ◌<◌, ◌≤◌, Bool, true, false, List, [], ◌∷◌, ◌++◌, length, take, drop, get_or, set, replicate, refl, ap, sym, ◌∙◌, arith, bit_and, bit_or}
use Rattle.std.specs.Prelude.{◌==◌}
use mir.Val.{bool_byte}
use Rattle.std.specs.Int.{bit_at}
use Rattle.std.proofs.lemmas.Nat.{or_comm, or_shifted, pow_pos, shl-shr, shr-shr, mod-pow-add, field_of, shr_high, mod_low, shl_whole}
use Rattle.std.proofs.lemmas.Nat.Bits.{bit_at_lowest, bit_at-suc, bit_at-zero, shr_and_one}
use Rattle.std.proofs.Math.Pow.{pow_mono}
use Rattle.std.proofs.lemmas.Bool.{cases_lt}
use Rattle.std.proofs.lemmas.Bool.Decides.{nat_tests}
use Rattle.std.proofs.lemmas.List.{take_all, drop_all, take-append-le, drop-append-le, drop-drop, get_or-take, get_or-drop, length-append, length-drop, length-take-le, take-append-drop, take-take, drop-take}
use Rattle.state_rules.specs.Bits.{row_number, number_of_bit, bit_in}
use Rattle.state_rules.proofs.Bits.{row_number-half}
use Rattle.clause_encoder.proofs.RowBits.{row_number-below}
use Rattle.elimination_forests.specs.Branches.{words_of}

-- ---- one word

low : (b : Bool) (n : ℕ) → (bit_at (number_of_bit b + 2 * n) 0 == 1) ≡ b
low true n = ap (λ m. m == 1) (bit_at_lowest (1 + 2 * n)) ∙ grind (arith, nat_tests)
low false n = ap (λ m. m == 1) (bit_at_lowest (0 + 2 * n)) ∙ grind (arith, nat_tests)

pub number-bit : (bits : List Bool) (i : ℕ) → (bit_at (row_number bits) i == 1) ≡ bit_in bits i
number-bit [] i = ap (λ m. m == 1) (bit_at-zero i)
number-bit (b ∷ bits) zero = low b (row_number bits)
number-bit (b ∷ bits) (suc i) = ap (λ m. m == 1) (bit_at-suc (number_of_bit b + 2 * row_number bits) i ∙ ap (λ m. bit_at m i) (row_number-half b (row_number bits))) ∙ number-bit bits i

-- ---- words

words_of-at : (n : ℕ) (bits : List Bool) (k : ℕ) → k < n → get_or (words_of n bits) k 0 ≡ row_number (take 64 (drop (64 * k) bits))
words_of-at zero bits k h = absurd (omega arith)
words_of-at (suc n) bits zero h = refl
words_of-at (suc n) bits (suc k) h = words_of-at n (drop 64 bits) k (omega arith)
    ∙ ap (λ rest. row_number (take 64 rest)) (drop-drop (64 * k) 64 bits)
    ∙ ap (λ m. row_number (take 64 (drop m bits))) (omega arith)

pub word-bit : (words : List ℕ) (bits : List Bool) (at : ℕ) → words ≡ words_of (length words) bits → at < 64 * length words
    → (bit_and (get_or words (at / 64) 0 / 2 ^ (at % 64)) 1 == 1) ≡ bit_in bits at
word-bit words bits at e h =
    let word : get_or words (at / 64) 0 ≡ row_number (take 64 (drop (64 * (at / 64)) bits)) =
    ap (λ ws. get_or ws (at / 64) 0) e ∙ words_of-at (length words) bits (at / 64) (omega arith) in
    ap (λ m. m == 1) (shr_and_one (get_or words (at / 64) 0) (at % 64))
    ∙ ap (λ w. bit_at w (at % 64) == 1) word
    ∙ number-bit (take 64 (drop (64 * (at / 64)) bits)) (at % 64)
    ∙ get_or-take 64 (drop (64 * (at / 64)) bits) (at % 64) false (omega arith)
    ∙ get_or-drop (64 * (at / 64)) bits (at % 64) false
    ∙ ap (bit_in bits) (omega arith)

pub byte-bit : (b : Bool) → bool_byte b ≡ number_of_bit b
byte-bit b = grind arith

pub no-bits : (n : ℕ) → words_of n [] ≡ replicate n 0
no-bits zero = refl
no-bits (suc n) = ap (λ ws. 0 ∷ ws) (no-bits n)

-- ---- several bits of one word

number-append : (ys xs : List Bool) → row_number (ys ++ xs) ≡ row_number ys + row_number xs * 2 ^ length ys
number-append [] xs = omega arith
number-append (y ∷ ys) xs = let next : 2 ^ suc (length ys) ≡ 2 * 2 ^ length ys = grind arith in omega (arith, number-append ys xs, ap (λ p. row_number xs * p) next)

number-parts : (n : ℕ) (ys : List Bool) → n ≤ length ys → row_number ys ≡ row_number (drop n ys) * 2 ^ n + row_number (take n ys)
number-parts n ys h = ap row_number (sym (take-append-drop n ys)) ∙ number-append (take n ys) (drop n ys)
    ∙ ap (λ k. row_number (take n ys) + row_number (drop n ys) * 2 ^ k) (length-take-le n ys h) ∙ omega arith

take-below : (n : ℕ) (ys : List Bool) → n ≤ length ys → row_number (take n ys) < 2 ^ n
take-below n ys h = row_number-below (take n ys) n (length-take-le n ys h)

number-short : (n : ℕ) (ys : List Bool) → length ys ≤ n → row_number ys < 2 ^ n
number-short n ys h = omega (arith, row_number-below ys (length ys) refl, pow_mono {i = length ys} {j = n} h)

pub number-take : (n : ℕ) (ys : List Bool) → row_number ys % 2 ^ n ≡ row_number (take n ys)
number-take n ys = elim (cases_lt (length ys) n) [
  | inl less ↦
      let whole : row_number ys ≡ 0 * 2 ^ n + row_number ys = omega arith in
      ap (λ m. m % 2 ^ n) whole ∙ mod_low 0 n (row_number ys) (number-short n ys (omega (arith, less))) ∙ ap row_number (sym (take_all n ys (omega (arith, less))))
  | inr h ↦ ap (λ m. m % 2 ^ n) (number-parts n ys h) ∙ mod_low (row_number (drop n ys)) n (row_number (take n ys)) (take-below n ys h)
]

pub number-drop : (n : ℕ) (ys : List Bool) → row_number ys / 2 ^ n ≡ row_number (drop n ys)
number-drop n ys = elim (cases_lt (length ys) n) [
  | inl less ↦
      let whole : row_number ys ≡ 0 * 2 ^ n + row_number ys = omega arith in
      ap (λ m. m / 2 ^ n) whole ∙ shr_high 0 n (row_number ys) (number-short n ys (omega (arith, less))) ∙ ap row_number (sym (drop_all n ys (omega (arith, less))))
  | inr h ↦ ap (λ m. m / 2 ^ n) (number-parts n ys h) ∙ shr_high (row_number (drop n ys)) n (row_number (take n ys)) (take-below n ys h)
]

-- what two shifts leave of a word: n bits from r on
window : (w r n a : ℕ) → a + r + n ≡ 64 → (w * 2 ^ a % 2 ^ 64) / 2 ^ (64 - n) ≡ w / 2 ^ r % 2 ^ n
window w r n a e =
    let all : 64 ≡ (n + r) + a = omega arith in
    let high : 64 - n ≡ a + r = omega arith in
    let plus : w * 2 ^ a ≡ w * 2 ^ a + 0 = omega arith in
    let low : w * 2 ^ a % 2 ^ a ≡ 0 = ap (λ m. m % 2 ^ a) plus ∙ mod_low w a 0 (pow_pos a) in
    let kept : w * 2 ^ a % 2 ^ ((n + r) + a) ≡ (w % 2 ^ (n + r)) * 2 ^ a =
    mod-pow-add (w * 2 ^ a) (n + r) a ∙ (λ i. (shl-shr w a i % 2 ^ (n + r)) * 2 ^ a + low i) ∙ omega arith in
    (λ i. (w * 2 ^ a % 2 ^ all i) / 2 ^ high i)
    ∙ ap (λ m. m / 2 ^ (a + r)) kept
    ∙ sym (shr-shr ((w % 2 ^ (n + r)) * 2 ^ a) a r)
    ∙ ap (λ m. m / 2 ^ r) (shl-shr (w % 2 ^ (n + r)) a)
    ∙ field_of w n r

inside : (n r : ℕ) (bits : List Bool) → r + n ≤ 64 → take n (drop r (take 64 bits)) ≡ take n (drop r bits)
inside n r bits h =
    let all : 64 ≡ r + (64 - r) = omega arith in
    ap (λ k. take n (drop r (take k bits))) all ∙ ap (take n) (drop-take r (64 - r) bits) ∙ take-take n (64 - r) (drop r bits) (omega arith)

pub word-bits : (words : List ℕ) (bits : List Bool) (at n : ℕ) → words ≡ words_of (length words) bits → at < 64 * length words → at % 64 + n ≤ 64
    → (get_or words (at / 64) 0 * 2 ^ (64 - at % 64 - n) % 18446744073709551616) / 2 ^ (64 - n) ≡ row_number (take n (drop at bits))
word-bits words bits at n e h within =
    let rest : List Bool = drop (64 * (at / 64)) bits in
    let word : get_or words (at / 64) 0 ≡ row_number (take 64 rest) = ap (λ ws. get_or ws (at / 64) 0) e ∙ words_of-at (length words) bits (at / 64) (omega arith) in
    window (get_or words (at / 64) 0) (at % 64) n (64 - at % 64 - n) (omega arith)
    ∙ ap (λ w. w / 2 ^ (at % 64) % 2 ^ n) word
    ∙ ap (λ m. m % 2 ^ n) (number-drop (at % 64) (take 64 rest))
    ∙ number-take n (drop (at % 64) (take 64 rest))
    ∙ ap row_number (inside n (at % 64) rest within ∙ ap (take n) (drop-drop (at % 64) (64 * (at / 64)) bits ∙ ap (λ k. drop k bits) (omega arith)))

or_bits : (n r m : ℕ) → n < 2 ^ r → bit_or n (m * 2 ^ r) ≡ n + m * 2 ^ r
or_bits n r m h = or_comm n (m * 2 ^ r) ∙ or_shifted m r n h ∙ omega arith

put-bits : (n k r : ℕ) (bits more : List Bool) → length bits ≡ 64 * k + r → r < 64 → r + length more ≤ 64 → k < n
    → set (words_of n bits) k (bit_or (get_or (words_of n bits) k 0) (row_number more * 2 ^ r % 2 ^ 64)) ≡ words_of n (bits ++ more)
put-bits zero k r bits more long few fits h = absurd (omega arith)
put-bits (suc n) zero r bits more long few fits h =
    let here : take 64 bits ≡ bits = take_all 64 bits (omega arith) in
    let all : take 64 (bits ++ more) ≡ bits ++ more = take_all 64 (bits ++ more) (omega (arith, length-append bits more)) in
    let none : drop 64 bits ≡ [] = drop_all 64 bits (omega arith) in
    let none_more : drop 64 (bits ++ more) ≡ [] = drop_all 64 (bits ++ more) (omega (arith, length-append bits more)) in
    let whole : row_number more * 2 ^ r % 2 ^ 64 ≡ row_number more * 2 ^ r = shl_whole (row_number more) (length more) r 64 (row_number-below more (length more) refl) (omega arith) in
    let word : bit_or (row_number (take 64 bits)) (row_number more * 2 ^ r % 2 ^ 64) ≡ row_number (take 64 (bits ++ more)) =
    (λ i. bit_or (row_number (here i)) (whole i))
    ∙ or_bits (row_number bits) r (row_number more) (row_number-below bits r (omega arith))
    ∙ ap (λ m. row_number bits + row_number more * 2 ^ m) (omega arith)
    ∙ sym (number-append bits more)
    ∙ ap row_number (sym all) in
    λ i. word i ∷ words_of n ((none ∙ sym none_more) i)
put-bits (suc n) (suc k) r bits more long few fits h =
    let front : take 64 bits ≡ take 64 (bits ++ more) = sym (take-append-le 64 bits more (omega arith)) in
    let back : drop 64 bits ++ more ≡ drop 64 (bits ++ more) = sym (drop-append-le 64 bits more (omega arith)) in
    let rest = put-bits n k r (drop 64 bits) more (length-drop 64 bits ∙ omega arith) few fits (omega arith) in
    λ i. row_number (front i) ∷ (rest ∙ ap (words_of n) back) i

pub word-put_bits : (words : List ℕ) (bits more : List Bool) (at row : ℕ) → length bits ≡ at → at % 64 + length more ≤ 64 → row ≡ row_number more → words ≡ words_of (length words) bits → at < 64 * length words
    → set words (at / 64) (bit_or (get_or words (at / 64) 0) (row * 2 ^ (at % 64) % 18446744073709551616)) ≡ words_of (length words) (bits ++ more)
word-put_bits words bits more at row long fits s e h =
    (λ i. set (e i) (at / 64) (bit_or (get_or (e i) (at / 64) 0) (s i * 2 ^ (at % 64) % 18446744073709551616)))
    ∙ put-bits (length words) (at / 64) (at % 64) bits more (omega arith) (omega arith) fits (omega arith)

pub word-with : (word row n : ℕ) (bits more : List Bool) → length bits ≡ n → n + length more ≤ 64 → word ≡ row_number bits → row ≡ row_number more → bit_or word (row * 2 ^ n % 18446744073709551616) ≡ row_number (bits ++ more)
word-with word row n bits more long fits w r =
    (λ i. bit_or (w i) (r i * 2 ^ n % 18446744073709551616))
    ∙ ap (bit_or (row_number bits)) (shl_whole (row_number more) (length more) n 64 (row_number-below more (length more) refl) (omega arith))
    ∙ or_bits (row_number bits) n (row_number more) (row_number-below bits n long)
    ∙ ap (λ m. row_number bits + row_number more * 2 ^ m) (sym long)
    ∙ sym (number-append bits more)

pub mask-is : (n : ℕ) → n < 64 → 1 * 2 ^ n % 18446744073709551616 ≡ 2 ^ n
mask-is n low = shl_whole 1 1 n 64 (omega arith) (omega arith) ∙ omega arith
