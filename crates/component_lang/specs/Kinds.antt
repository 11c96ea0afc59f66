-- What is closed above a line, and the kind of parts that a name means there.
use Rattle.std.specs.Prelude.{ℕ, List, ◌++◌, map, Option}
use Rattle.std.specs.List.{enumerate_from}
use Rattle.std.specs.Map.{lookup}
use Rattle.text_rules.specs.Names.{Name, same_name}
use Rattle.device_model.specs.Gates.{gate_words}
use Rattle.component_lang.specs.declared.design.UsedKind.{UsedKind}
use Rattle.component_lang.specs.declared.design.UsedKind.TheVariants.{Gate, Shape as OfShape, Block as OfBlock}
use Rattle.component_lang.specs.declared.design.Shape.{Shape}
use Rattle.component_lang.specs.declared.design.Block.{Block}

-- A type while its lines are read. Without a `bad` line, a faulty part allows every row. Without a `cost` line, a
-- failure costs 1.
pub record OpenType : Type 0 where
  pub name : Name
  pub ports : ℕ
  pub ok : ℕ
  pub bad : Option ℕ
  pub cost : Option ℕ

-- the place of a line: outside, in a type, in a block, or after the top
pub data Section : Type 0 where
  Outside : Section
  InType : (open_type : OpenType) → Section
  InBlock : (block : Block) → Section
  AfterTop : (top : ℕ) → Section

-- what is closed above a line, and the place of the line
pub record Reader : Type 0 where
  pub types : List Shape
  pub blocks : List Block
  pub section : Section

-- The kind that a name means. Gates, types and blocks share one set of names; types and blocks are given by their places.
abbrev pub kind_named : Reader → Name → Option UsedKind
kind_named reader name = lookup (same_name name) (map (λ (word, gate). (word, Gate gate)) gate_words
    ++ (map (λ (t : ℕ × Shape). (t.1.name, OfShape t.0)) (enumerate_from 0 reader.types)
    ++ map (λ (b : ℕ × Block). (b.1.name, OfBlock b.0)) (enumerate_from 0 reader.blocks)))
