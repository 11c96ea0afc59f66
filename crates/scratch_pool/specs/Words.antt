-- Some of the words of a buffer.
use Rattle.std.specs.Prelude.{ℕ, List, ◌++◌, take, drop, length, replicate}
use Rattle.std.specs.List.{refill}

-- `len` words from `start` on
abbrev pub words_at : List ℕ → ℕ → ℕ → List ℕ
words_at words start len = take len (drop start words)

-- the buffer with these words from a place on; no word after its end is written
abbrev pub written : List ℕ → ℕ → List ℕ → List ℕ
written words start new = refill (length words) words (take start words ++ (new ++ drop (length new) (drop start words)))

-- the buffer with `len` words 0 from `start` on
abbrev pub zeroed : List ℕ → ℕ → ℕ → List ℕ
zeroed words start len = written words start (replicate len 0)
