-- A session's block: a word for each variable, one for whether there is a point, and the words of the point.
use Rattle.std.specs.Prelude.{◌≡◌, ℕ, zero, suc, ◌+◌, ◌<◌, Bool, List, take, drop, length, slice_index, All, Option, Some, None}
use Rattle.conditioner.specs.Evidence.{bits_of}
use Rattle.session_rules.specs.Sessions.{Entry}
use Rattle.session_rules.specs.CaseEvidence.{case_of_evidence, IsEvidence}
use Rattle.session_table.specs.declared.block.Layout.{Layout}

-- the words of the variables
abbrev pub known_in : Layout → List ℕ → List ℕ
known_in layout block = take layout.vars block

-- the words of the point
abbrev pub state_in : Layout → List ℕ → List ℕ
state_in layout block = drop (layout.vars + 1) block

-- the words as a point, if the number says that there is one
abbrev pub point_of : ℕ → List ℕ → Option (List Bool)
point_of zero state = None
point_of (suc n) state = Some (bits_of state)

-- the entry that a block holds
abbrev pub entry_in : Layout → List ℕ → Entry
entry_in layout block = record {
  known = case_of_evidence layout.parts layout.wires (known_in layout block);
  point = point_of (slice_index block layout.vars) (state_in layout block);
}

-- the entry with this state as its point
abbrev pub with_point : Entry → List ℕ → Entry
with_point entry state = record entry { point = Some (bits_of state) }

-- the number of words of a block
abbrev pub block_size : Layout → ℕ
block_size layout = layout.vars + 1 + layout.parts

-- a block has its words, those of the variables are a case's, and those of the point are below 2
pub record IsLaidOut (layout : Layout) (block : List ℕ) : Type 0 where
  pub long : length block ≡ block_size layout
  pub known : IsEvidence layout.parts layout.wires layout.vars (known_in layout block)
  pub state : All (λ s. s < 2) (state_in layout block)
