-- Lines gathered byte by byte, and what counts of a line.
use Rattle.std.proofs.Common.{◌≡◌, ℕ, ◌+◌, ◌<◌, ◌≤◌, List, [], ◌∷◌, ◌++◌, length, take, refl, sym, ◌∙◌, ap, inl, inr, arith, true, false, ◌==◌, append_assoc, append-nil, take_all, length-take, lit<}
use Rattle.std.proofs.lemmas.Grind.{common_steps}
use Rattle.std.proofs.lemmas.Bool.{cases_lt}
use Rattle.std.proofs.lemmas.List.{take-take}
use Rattle.text_rules.specs.TextLines.{Cut, cut, whole_lines}
use Rattle.script_lang.specs.declared.limits.TheConstants.{LINE_LIMIT}
use Rattle.script_lang.specs.Script.{line_of}
use Rattle.script_lang.proofs.LineLemmas.{line_of-too_long}
use Rattle.session_core.specs.Services.{Shown, exact_moves, moves_of}
use Rattle.session_core.specs.inner.Gathering.{ended_from, rest_from, kept, IsCut}

-- ---- lines by the bytes that end them

abbrev HasNoFeed : List ℕ → Type 0
HasNoFeed [] = Unit {0}
HasNoFeed (b ∷ line) = ((b == 10) ≡ false) × HasNoFeed line

none-more : (line : List ℕ) (b : ℕ) → HasNoFeed line → (b == 10) ≡ false → HasNoFeed (line ++ b ∷ [])
none-more [] b h apart = (apart, tt)
none-more (c ∷ line) b h apart = (h.0, none-more line b h.1 apart)

cut-begun : (line : List ℕ) → HasNoFeed line → cut line ≡ record { whole = []; unfinished = line }
cut-begun [] h = refl
cut-begun (b ∷ line) h = grind (arith, cut-begun line h.1)

cut-line : (line : List ℕ) (b : ℕ) (bytes : List ℕ) → HasNoFeed line → (b == 10) ≡ true → cut (line ++ b ∷ bytes) ≡ record { whole = line ∷ (cut bytes).whole; unfinished = (cut bytes).unfinished }
cut-line [] b bytes h feed = grind arith
cut-line (c ∷ line) b bytes h feed = grind (arith, cut-line line b bytes h.1 feed)

cut-from : (line bytes : List ℕ) → HasNoFeed line → cut (line ++ bytes) ≡ record { whole = ended_from line bytes; unfinished = rest_from line bytes }
cut-from line [] h = grind (arith, append-nil line, cut-begun line h)
cut-from line (b ∷ bytes) h = grind (arith, cut-line line b bytes h, cut-from [] bytes tt, cut-from (line ++ b ∷ []) bytes, none-more line b h, append_assoc line (b ∷ []) bytes)

pub ended_from-start : (bytes : List ℕ) → ended_from [] bytes ≡ whole_lines bytes
ended_from-start bytes = sym (ap (λ (c : Cut). c.whole) (cut-from [] bytes tt))

pub rest_from-start : (bytes : List ℕ) → rest_from [] bytes ≡ (cut bytes).unfinished
rest_from-start bytes = sym (ap (λ (c : Cut). c.unfinished) (cut-from [] bytes tt))

-- ---- what counts of a line

is_long : (n : ℕ) (line : List ℕ) → n < length line → n < length (take (n + 1) line)
is_long n line long = grind (arith, common_steps)

is_short : (n : ℕ) (line : List ℕ) → length line ≤ n → take (n + 1) line ≡ line
is_short n line short = grind (arith, common_steps)

-- what is kept of a line past the limit does not matter
pub line_of-kept : (line : List ℕ) → line_of (kept line) ≡ line_of line
unfolding kept
line_of-kept line = elim (cases_lt LINE_LIMIT (length line)) [
  | inl long ↦ line_of-too_long (take (LINE_LIMIT + 1) line) (is_long LINE_LIMIT line long) ∙ sym (line_of-too_long line long)
  | inr short ↦ ap line_of (is_short LINE_LIMIT line short)
]

-- so the moves of a service are the same
pub moves_are_cut : (shown : Shown) → IsCut (moves_of shown)
moves_are_cut shown = record { same = λ table line. ap (exact_moves shown table) (line_of-kept line) }

-- ---- of any number of bytes

cut_push : (m : ℕ) (line ys : List ℕ) → take m (take m line ++ ys) ≡ take m (line ++ ys)
cut_push m line ys = elim (cases_lt m (length line)) [
  | inl long ↦ grind (arith, common_steps)
  | inr short ↦ rw (take_all m line short)
]

push_room : (m : ℕ) (line : List ℕ) (b : ℕ) → length line < m → take m (line ++ b ∷ []) ≡ line ++ b ∷ []
push_room m line b less = grind (arith, common_steps)

push_full : (m : ℕ) (line : List ℕ) (b : ℕ) → length line ≡ m → take m (line ++ b ∷ []) ≡ line
push_full m line b same = grind (arith, common_steps)

some_kept : (n b : ℕ) (line : List ℕ) → 0 < n → take n (b ∷ line) ≡ [] → ⊥
some_kept n b line some e = omega (arith, ap length e, length-take n (b ∷ line), some)

-- ---- what is kept of a line

pub kept-kept : (line : List ℕ) → kept (kept line) ≡ kept line
unfolding kept
kept-kept line = take-take (LINE_LIMIT + 1) (LINE_LIMIT + 1) line (omega arith)

pub kept-none : kept [] ≡ []
unfolding kept
kept-none = refl

pub kept-append : (line ys : List ℕ) → kept (kept line ++ ys) ≡ kept (line ++ ys)
unfolding kept
kept-append line ys = cut_push (LINE_LIMIT + 1) line ys

pub kept-some : (b : ℕ) (line : List ℕ) → kept (b ∷ line) ≡ [] → ⊥
unfolding kept
kept-some b line e = some_kept (LINE_LIMIT + 1) b line (lit< tt) e

pub kept-room : (line : List ℕ) (b : ℕ) → length line < LINE_LIMIT + 1 → kept (line ++ b ∷ []) ≡ line ++ b ∷ []
unfolding kept
kept-room line b less = push_room (LINE_LIMIT + 1) line b less

pub kept-full : (line : List ℕ) (b : ℕ) → length line ≡ LINE_LIMIT + 1 → kept (line ++ b ∷ []) ≡ line
unfolding kept
kept-full line b same = push_full (LINE_LIMIT + 1) line b same
