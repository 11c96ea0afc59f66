-- Lists of bits in words.
use Rattle.std.proofs.Common.{◌≡◌, ℕ, zero, suc, ◌+◌, ◌*◌, ◌/◌, ◌%◌, ◌<◌, ◌≤◌, Bool, true, false, List, [], ◌∷◌, ◌++◌, length, take, drop, refl, ap, sym, ◌∙◌, subst, arith}
use Rattle.std.proofs.lemmas.Bool.Decides.{nat_tests}
use Rattle.std.specs.List.{refill}
use Rattle.std.specs.Str.{bytes_eq}
use Rattle.std.proofs.lemmas.Bool.{false≢true, false_from_ne_true}
use Rattle.std.proofs.lemmas.Slice.Eq.{bytes_eq-Decides}
use Rattle.std.proofs.lemmas.List.{ext_get_or, length-drop, length-append, drop_all, take_all, append-nil}
use Rattle.std.proofs.lemmas.List.FromFn.{get_or-map-range_with_len, length-map-range_with_len}
use Rattle.std.proofs.Math.Seq.{drop-nil}
use Rattle.state_rules.specs.Bits.{row_number, number_of_bit}
use Rattle.state_rules.proofs.Bits.{pointwise-refl}
use Rattle.elimination_forests.specs.Branches.{words_of}
use Rattle.forest_states.proofs.WordBits.{word-bit}
use Rattle.forest_states.specs.inner.BitLists.{word_bit, bits_in, AreBits, is_same, same-equal, other_bits, copied}

pub length-words : (n : ℕ) (bits : List Bool) → length (words_of n bits) ≡ n
length-words zero bits = refl
length-words (suc n) bits = ap suc (length-words n (drop 64 bits))

refill-whole : (xs ws : List ℕ) → length ws ≡ length xs → refill (length xs) xs ws ≡ ws
refill-whole xs ws e = ap (λ ys. take (length xs) (ws ++ ys)) (drop_all (length ws) xs (omega arith)) ∙ ap (take (length xs)) (append-nil ws) ∙ take_all (length xs) ws (omega arith)

pub bits-words : (n m : ℕ) (bits : List Bool) → length bits ≡ n → n ≤ 64 * m → bits_in n (words_of m bits) ≡ bits
bits-words n m bits long room = ext_get_or false (bits_in n (words_of m bits)) bits (length-map-range_with_len (word_bit (words_of m bits)) 0 n ∙ sym long) (λ i low.
    let within : i < n = omega (arith, length-map-range_with_len (word_bit (words_of m bits)) 0 n) in
    get_or-map-range_with_len (word_bit (words_of m bits)) 0 n i i false within (omega arith)
    ∙ word-bit (words_of m bits) bits i (ap (λ k. words_of k bits) (sym (length-words m bits))) (omega (arith, length-words m bits)))

pub length-bits : (n : ℕ) (words : List ℕ) → length (bits_in n words) ≡ n
length-bits n words = length-map-range_with_len (word_bit words) 0 n

-- one more word
pub words-longer : (m : ℕ) (bits : List Bool) → length bits ≤ 64 * m → words_of m bits ++ 0 ∷ [] ≡ words_of (m + 1) bits
words-longer zero bits room = grind (arith, nat_tests)
words-longer (suc m) bits room = let next : suc (m + 1) ≡ suc m + 1 = omega arith in ap (λ ws. row_number (take 64 bits) ∷ ws) (words-longer m (drop 64 bits) (omega (arith, length-drop 64 bits))) ∙ ap (λ k. words_of k bits) next

pub words-many : (n : ℕ) (words : List ℕ) → AreBits n words → length words ≡ n / 64 + 1
words-many n words are = ap length are ∙ length-words (n / 64 + 1) (bits_in n words)

-- words with room for more bits, which stay in one word
pub words-room : (n c : ℕ) (words : List ℕ) → AreBits n words → n % 64 + c ≡ 64 → words ++ 0 ∷ [] ≡ words_of ((n + c) / 64 + 1) (bits_in n words)
words-room n c words are e = grind (arith, nat_tests, words-longer, length-bits)

pub words-kept : (n c : ℕ) (words : List ℕ) → AreBits n words → n % 64 + c ≤ 64 → (n % 64 + c ≡ 64 → ⊥) → words ≡ words_of ((n + c) / 64 + 1) (bits_in n words)
words-kept n c words are within e = are ∙ ap (λ m. words_of m (bits_in n words)) (omega (arith, e))

bits-more : (n c : ℕ) (words next : List ℕ) (more : List Bool) → length more ≡ c → next ≡ words_of ((n + c) / 64 + 1) (bits_in n words ++ more) → bits_in (n + c) next ≡ bits_in n words ++ more
bits-more n c words next more many e = grind (arith, nat_tests, bits-words, length-append, length-bits)

are-more : (n c : ℕ) (words next : List ℕ) (more : List Bool) → length more ≡ c → next ≡ words_of ((n + c) / 64 + 1) (bits_in n words ++ more) → AreBits (n + c) next
are-more n c words next more many e = e ∙ ap (words_of ((n + c) / 64 + 1)) (sym (bits-more n c words next more many e))

-- those of one word
module _ (n word : ℕ) (words : List ℕ) (bits : List Bool) (few : n < 64) (is : words ≡ word ∷ []) (long : length bits ≡ n) (row : word ≡ row_number bits) where
  words-one : words ≡ words_of 1 bits
  words-one = is ∙ ap (λ w. w ∷ []) (row ∙ ap row_number (sym (take_all 64 bits (omega (arith, long)))))

  pub bits-one : bits_in n words ≡ bits
  bits-one = ap (bits_in n) words-one ∙ bits-words n 1 bits long (omega arith)

  pub are-one : AreBits n words
  are-one = let one : 1 ≡ n / 64 + 1 = omega arith in words-one ∙ (λ j. words_of (one j) (sym bits-one j))

-- ---- the same words

pub same-words : (n : ℕ) (xs ys : List ℕ) → AreBits n xs → AreBits n ys → bytes_eq xs ys ≡ is_same (bits_in n xs) (bits_in n ys)
same-words n xs ys ax ay = by (bytes_eq xs ys) refl where
  by : (b : Bool) → bytes_eq xs ys ≡ b → b ≡ is_same (bits_in n xs) (bits_in n ys)
  by true b = sym (ap (λ ws. is_same (bits_in n ws) (bits_in n ys)) ((bytes_eq-Decides xs ys).0 b) ∙ pointwise-refl (bits_in n ys))
  by false b = sym (false_from_ne_true (is_same (bits_in n xs) (bits_in n ys)) (λ s. false≢true (sym b ∙ (bytes_eq-Decides xs ys).1
      (ax ∙ ap (words_of (n / 64 + 1)) (same-equal (bits_in n xs) (bits_in n ys) s) ∙ sym ay))))

-- ---- more bits

module _ (n k c row : ℕ) (words before slice put : List ℕ) (more : List Bool) (many_more : length more ≡ c) (is_row : row ≡ row_number more) (within : n % 64 + c ≤ 64)
    (same : k ≡ n) (room : before ≡ words_of ((n + c) / 64 + 1) (bits_in n words)) (is : slice ≡ before) (long : length put ≡ length slice)
    (done : (bits more : List Bool) → length bits ≡ k → k % 64 + length more ≤ 64 → row ≡ row_number more → slice ≡ words_of (length slice) bits → put ≡ words_of (length slice) (bits ++ more)) where
  many : length slice ≡ (n + c) / 64 + 1
  many = ap length (is ∙ room) ∙ length-words ((n + c) / 64 + 1) (bits_in n words)

  put-is : refill (length before) before put ≡ words_of ((n + c) / 64 + 1) (bits_in n words ++ more)
  put-is = grind (arith, nat_tests, refill-whole, done, length-bits, many)

  pub pushed-bits : bits_in (k + c) (refill (length before) before put) ≡ bits_in n words ++ more
  pushed-bits = ap (λ j. bits_in (j + c) (refill (length before) before put)) same ∙ bits-more n c words (refill (length before) before put) more many_more put-is

  pub pushed-are : AreBits (k + c) (refill (length before) before put)
  pushed-are = subst (λ j. AreBits (j + c) (refill (length before) before put)) (sym same) (are-more n c words (refill (length before) before put) more many_more put-is)

pub pushed-room : (n c : ℕ) (words before slice : List ℕ) → before ≡ words_of ((n + c) / 64 + 1) (bits_in n words) → slice ≡ before → n < 64 * length slice
pushed-room n c words before slice room is = omega (arith, ap length (is ∙ room) ∙ length-words ((n + c) / 64 + 1) (bits_in n words))

-- ---- bits of another list

pub length-copied : (n : ℕ) (bits : List Bool) → length (copied n bits) ≡ n
length-copied zero bits = refl
length-copied (suc n) bits = ap suc (length-copied n (other_bits bits))

pub copied-add : (m n : ℕ) (bits : List Bool) → copied m bits ++ copied n (drop m bits) ≡ copied (m + n) bits
copied-add zero n bits = let same : n ≡ 0 + n = omega arith in ap (λ k. copied k bits) same
copied-add (suc m) n [] =
    let next : suc (m + n) ≡ suc m + n = omega arith in
    ap (λ bs. false ∷ bs) (ap (λ bs. copied m [] ++ copied n bs) (sym (drop-nil m)) ∙ copied-add m n []) ∙ ap (λ k. copied k []) next
copied-add (suc m) n (b ∷ bits) = let next : suc (m + n) ≡ suc m + n = omega arith in ap (λ bs. b ∷ bs) (copied-add m n bits) ∙ ap (λ k. copied k (b ∷ bits)) next

copied-none : (n : ℕ) → row_number (copied n []) ≡ 0
copied-none zero = refl
copied-none (suc n) = omega (arith, copied-none n)

pub copied-number : (n : ℕ) (bits : List Bool) → row_number (copied n bits) ≡ row_number (take n bits)
copied-number zero bits = refl
copied-number (suc n) [] = copied-none (suc n)
copied-number (suc n) (b ∷ bits) = ap (λ m. number_of_bit b + 2 * m) (copied-number n bits)

pub copied-past : (n at : ℕ) (bits : List Bool) → length bits ≤ at → row_number (copied n (drop at bits)) ≡ 0
copied-past n at bits past = ap (λ bs. row_number (copied n bs)) (drop_all at bits past) ∙ copied-none n
