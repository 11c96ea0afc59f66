-- The tokens of the text after the first opening bracket of a line are the tokens after its first bracket token.
use Rattle.std.proofs.Common.{◌≡◌, ℕ, ◌==◌, Bool, true, false, not, List, [], ◌∷◌, ◌++◌, codes, refl, sym, ap, ◌∙◌, arith}
use Rattle.std.specs.List.{list_all, position_or_len}
use Rattle.text_rules.specs.Names.{same_name}
use Rattle.text_rules.specs.Tokens.{ends_word, before_tokens, tokens}
use Rattle.text_rules.proofs.NameLemmas.{same_name-Decides}
use Rattle.bench_reader.specs.Statements.{has_no_mark}
use Rattle.bench_reader.specs.inner.Lines.{behind_bracket}

abbrev is_open : List ℕ → Bool
is_open token = same_name token (codes "(")

abbrev none_opens : List (List ℕ) → Bool
none_opens ts = list_all (λ t. not (is_open t)) ts

-- ---- one byte of a line

abbrev place : List ℕ → ℕ
place line = position_or_len (λ b. b == 40) line

later : (b : ℕ) (line : List ℕ) → (b == 40) ≡ false → behind_bracket (b ∷ line) ≡ behind_bracket line
later b line other = grind arith

-- a word that begins with another byte is no opening bracket
word_is_other : (ends : Bool) (b : ℕ) (ts others : List (List ℕ)) (first : List ℕ) → (b == 40) ≡ false → before_tokens ends b ts ≡ first ∷ others → is_open first ≡ false
word_is_other ends b ts others first other e = grind arith

-- nor is the token with which a word goes on
rest_is_other : (others : List (List ℕ)) (text first : List ℕ) → ends_word true text ≡ false → tokens true text ≡ first ∷ others → is_open first ≡ false
rest_is_other others text first goes e = grind arith

-- ---- the tokens after the first bracket

abbrev IsBehind : List ℕ → Type 0
IsBehind line = (before after : List (List ℕ)) → tokens true line ≡ before ++ (codes "(" ∷ after) → none_opens before ≡ true → tokens true (behind_bracket line) ≡ after

on_mark : (b : ℕ) (line : List ℕ) → IsBehind line → tokens true (b ∷ line) ≡ (b ∷ []) ∷ tokens true line → IsBehind (b ∷ line)
on_mark b line behind is [] after e none = grind arith
on_mark b line behind is (token ∷ before) after e none = grind (arith, later)

on_byte : (b : ℕ) (line : List ℕ) → IsBehind line → (b == 40) ≡ false → tokens true (b ∷ line) ≡ before_tokens (ends_word true line) b (tokens true line) → IsBehind (b ∷ line)
on_byte b line behind other is before after e none =
    ap (tokens true) (later b line other) ∙ by (ends_word true line) (tokens true line) refl refl before after (sym is ∙ e) none
  where
    by : (ends : Bool) (ts : List (List ℕ)) → ends_word true line ≡ ends → tokens true line ≡ ts → (before after : List (List ℕ)) → before_tokens ends b ts ≡ before ++ (codes "(" ∷ after)
        → none_opens before ≡ true → tokens true (behind_bracket line) ≡ after
    by ends ts goes all [] after e none = grind (arith, word_is_other)
    by ends [] goes all (token ∷ before) after e none = grind arith
    by true (t ∷ ts) goes all (token ∷ before) after e none = grind arith
    by false (t ∷ ts) goes all (token ∷ before) after e none = grind (arith, rest_is_other, behind (t ∷ before) after)

pub tokens_behind : (line : List ℕ) → IsBehind line
tokens_behind [] [] after e none = grind arith
tokens_behind [] (token ∷ before) after e none = grind arith
tokens_behind (b ∷ line) before after e none = grind (arith, later, on_mark, on_byte, tokens_behind line)

-- a word without a mark is no opening bracket
unmarked_is_other : (word : List ℕ) → has_no_mark word ≡ true → is_open word ≡ false
unmarked_is_other word h = grind (arith, same_name-Decides)

-- the tokens after the opening bracket of a gate
pub tokens_of_inputs : (line output kind bracket : List ℕ) (left behind ts : List (List ℕ)) → tokens true line ≡ output ∷ codes "=" ∷ left → left ≡ kind ∷ behind → behind ≡ bracket ∷ ts
    → bracket ≡ codes "(" → has_no_mark output ≡ true → has_no_mark kind ≡ true → tokens true (behind_bracket line) ≡ ts
tokens_of_inputs line output kind bracket left behind ts e f g b o k =
    let whole : tokens true line ≡ (output ∷ codes "=" ∷ kind ∷ []) ++ (codes "(" ∷ ts) = cc in
    tokens_behind line (output ∷ codes "=" ∷ kind ∷ []) ts whole (grind (arith, unmarked_is_other))
