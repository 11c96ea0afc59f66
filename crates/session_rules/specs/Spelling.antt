-- The bytes that spell a list of items.
use Rattle.std.specs.Prelude.{◌≡◌, ◌≤◌, ℕ, true, List, [], ◌∷◌, ◌++◌, length, Option, Result, MatchResult, Ok, Err}
use Rattle.std.specs.Io.KnownBytes.{Appends}
use Rattle.text_rules.specs.Tokens.{is_neat}
use Rattle.state_rules.specs.Graphs.{Graph, Decomposable}
use Rattle.state_rules.specs.GraphsOver.{IsGraphOver}
use Rattle.nnf_text.specs.GraphTexts.{Parsed, parsed}
use Rattle.nnf_text.specs.WrittenGraphs.{graph_text}
use Rattle.nnf_text.specs.StateGraphs.{IsGraphOfStates, IsSmoothGraphOfStates}
use Rattle.device_model.specs.Devices.{Device, fits}
use Rattle.session_rules.specs.Items.{Item, Plain, Projected, LeastText, Whole}

-- the graph is true exactly if the device fits
abbrev pub IsGraphOf : Device → Graph → Type 0
IsGraphOf device graph = IsGraphOver (length device.parts) (length device.wires) (fits device) graph

-- a decomposable graph of a device over `vars` variables, with at most `most` nodes
abbrev pub IsWholeOf : Device → ℕ → ℕ → Parsed → Type 0
IsWholeOf device vars most (Err refusal) = ⊥
IsWholeOf device vars most (Ok graph) =
    (graph.vars ≡ vars) × Decomposable graph.nodes × (length graph.nodes ≤ most) × IsGraphOf device graph

-- the text is that of a graph, without a blank line
abbrev pub IsWritten : List ℕ → Type 0
IsWritten text = (is_neat text ≡ true) × ((graph : Graph) × (text ≡ graph_text graph))

abbrev pub Spelled : Item → List ℕ → Type 0
Spelled (Plain bytes) text = text ≡ bytes
Spelled (Projected parts states) text = IsWritten text × IsGraphOfStates parts states (parsed text)
Spelled (LeastText parts states) text = IsWritten text × IsSmoothGraphOfStates parts states (parsed text)
Spelled (Whole device vars most) text = IsWritten text × IsWholeOf device vars most (parsed text)

-- the text is those of the items in a row
abbrev pub Spells : List Item → List ℕ → Type 0
Spells [] text = text ≡ []
Spells (item ∷ items) text =
    (front : List ℕ) × (rest : List ℕ) × (text ≡ front ++ rest) × Spelled item front × Spells items rest

-- known bytes grew by a text that spells the items
pub record Writes (before after : Option (List ℕ)) (items : List Item) : Type 0 where
  pub text : List ℕ
  pub spelled : Spells items text
  pub grown : Appends before after text

-- known bytes grew by the beginning of such a text; `rest` completes it
pub record WritesPart (before after : Option (List ℕ)) (items : List Item) : Type 0 where
  pub text : List ℕ
  pub rest : List ℕ
  pub begun : Spells items (text ++ rest)
  pub grown : Appends before after text

-- the items were written, or begun
abbrev pub Replies : {T E : Type 0} → Option (List ℕ) → Option (List ℕ) → Result T E → List Item → Type 0
Replies before after result items = MatchResult result (λ _. Writes before after items) (λ _. WritesPart before after items)
