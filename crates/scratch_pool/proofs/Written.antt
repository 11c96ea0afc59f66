-- Words that are written in the middle of a buffer.
use Rattle.std.proofs.Common.{◌≡◌, ℕ, ◌+◌, ◌≤◌, List, ◌++◌, length, take, drop, refl, sym, ◌∙◌, ap, arith, append_assoc, append-nil, length-append, length-drop}
use Rattle.std.specs.Prelude.{◌-◌, ◌⊎◌}
use Rattle.std.specs.List.{length_refill}
use Rattle.std.proofs.Math.Seq.{drop-append_seam, take-append_seam, drop-append-add}
use Rattle.std.proofs.lemmas.List.{length-take-le, take-append-le, drop-append-le, drop-take, drop-drop, take-take, take_all, drop_all}
use Rattle.scratch_pool.specs.Words.{words_at, written}

-- two stretches share no word
abbrev pub Apart : ℕ → ℕ → ℕ → ℕ → Type 0
Apart start len other other_len = (start + len ≤ other) ⊎ (other + other_len ≤ start)

pub length-written : (words : List ℕ) (start : ℕ) (new : List ℕ) → length (written words start new) ≡ length words
length-written words start new = sym (length_refill (length words) words (take start words ++ (new ++ drop (length new) (drop start words))) refl)

pub length-words_at : (words : List ℕ) (start len : ℕ) → start + len ≤ length words → length (words_at words start len) ≡ len
length-words_at words start len fits = length-take-le len (drop start words) (let e = length-drop start words in omega (arith, e, fits))

module _ (words : List ℕ) (start : ℕ) (new : List ℕ) (fits : start + length new ≤ length words) where
  abbrev front : List ℕ
  front = take start words

  abbrev back : List ℕ
  back = drop (length new) (drop start words)

  length-front : length front ≡ start
  length-front = length-take-le start words (omega (arith, fits))

  length-back : length back ≡ (length words - start) - length new
  length-back = length-drop (length new) (drop start words) ∙ ap (λ n. n - length new) (length-drop start words)

  length-all : length (front ++ (new ++ back)) ≡ length words
  length-all = grind (arith, length-append, length-front, length-back)

  -- if they fit nothing is cut
  pub written-whole : written words start new ≡ front ++ (new ++ back)
  written-whole = grind (arith, drop_all, length-all, append-nil, take_all)

  -- what was written is there
  pub written-there : words_at (written words start new) start (length new) ≡ new
  written-there = grind (arith, written-whole, length-front, drop-append_seam, take-append_seam)

  written-before : (other len : ℕ) → other + len ≤ start → words_at (written words start new) other len ≡ words_at words other len
  written-before other len before =
      let m : ℕ = start - other in
      let parted : start ≡ other + m = omega (arith, before) in
      let short : len ≤ m = omega (arith, before) in
      let in_front : other ≤ length front = omega (arith, length-front, before) in
      let rest : drop other front ≡ take m (drop other words) = ap (λ n. drop other (take n words)) parted ∙ drop-take other m words in
      let long : len ≤ length (drop other front) = (let e = length-drop other front in omega (arith, e, length-front, before)) in
      grind (arith, written-whole, drop-append-le, take-append-le, take-take)

  written-behind : (other len : ℕ) → start + length new ≤ other → words_at (written words start new) other len ≡ words_at words other len
  written-behind other len behind =
      let d : ℕ = other - (start + length new) in
      let whole : length (front ++ new) ≡ start + length new = (let e = length-append front new in omega (arith, e, length-front)) in
      let at : other ≡ length (front ++ new) + d = omega (arith, whole, behind) in
      let place : start + (length new + d) ≡ other = omega (arith, behind) in
      let there : drop d back ≡ drop other words =
      drop-drop d (length new) (drop start words) ∙ (drop-drop (length new + d) start words ∙ ap (λ n. drop n words) place) in
      grind (arith, written-whole, append_assoc, drop-append-add)

  -- and words apart from them stay
  pub written-apart : (other len : ℕ) → Apart start (length new) other len → words_at (written words start new) other len ≡ words_at words other len
  written-apart other len given = grind (arith, written-behind, written-before)
