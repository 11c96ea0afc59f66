-- Texts that are gathered before they are put.
use Rattle.std.specs.Prelude.{◌≡◌, List, ◌++◌, ℕ, Option, Result, MatchResult}
use Rattle.std.specs.Io.KnownBytes.{Appends}
use Rattle.diag_edge.specs.Edge.{AppendsPrefix}

-- the bytes put and the bytes gathered after are the bytes gathered before and a text
pub record Grown (before after : Option (List ℕ)) (old new text : List ℕ) : Type 0 where
  pub put : List ℕ
  pub grown : Appends before after put
  pub all : put ++ new ≡ old ++ text

-- A text is added: at `Ok` what was put and gathered grows by it; at `Err` a prefix of `old` and the text was put.
abbrev pub Adds : {T E : Type 0} → Option (List ℕ) → Option (List ℕ) → List ℕ → List ℕ → Result T E → List ℕ → Type 0
Adds before after old new result text = MatchResult result (λ _. Grown before after old new text) (λ _. AppendsPrefix before after (old ++ text))
