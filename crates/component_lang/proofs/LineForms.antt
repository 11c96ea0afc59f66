-- What the lines of types and blocks do, by the tests of the code.
use Rattle.std.proofs.Common.{◌≡◌, true, List, [], ◌∷◌, length, codes, Ok, Err, refl, ap, ◌∙◌, arith}
use Rattle.std.proofs.lemmas.List.Folds.{list_any_none}
use Rattle.text_rules.specs.Names.{Name, same_name, is_among}
use Rattle.text_rules.proofs.NameLemmas.{equal_if_same}
use Rattle.component_lang.specs.declared.fault.LangFault.{LangFault}
use Rattle.component_lang.specs.Designs.{is_plain_name}
use Rattle.component_lang.specs.Kinds.{Reader, InBlock}
use Rattle.component_lang.specs.DesignLines.{at, block_line, outside}
use Rattle.component_lang.specs.inner.Words.{new_ports, with_names}

-- ---- ports

-- ports that are refused on their own are refused
pub ports-refused : (reader : Reader) (name : Name) (ports : List Name) (what : LangFault) → is_plain_name name ≡ true → with_names [] ports ≡ Err what → new_ports reader name ports ≡ Err what
ports-refused reader name ports what plain h = grind (arith, list_any_none (is_among []) ports (λ _ _ _. refl))

-- the ports are those of the line
pub new_ports-same : (reader : Reader) (name : Name) (ports got : List Name) → new_ports reader name ports ≡ Ok got → ports ≡ got
new_ports-same reader name ports got h = grind arith

-- ---- blocks

abbrev pub block_begun : Reader → Name → List Name → Reader
block_begun reader name ports = at reader (InBlock (record { name = name; ports = length ports; wires = ports; parts = [] }))

pub block_line-ports : (reader : Reader) (name : Name) (ports got : List Name) → new_ports reader name ports ≡ Ok got → block_line reader name ports ≡ Ok (block_begun reader name got)
block_line-ports reader name ports got h = grind arith

-- ---- lines by their first words

pub outside-block : (reader : Reader) (word name : Name) (words ports : List Name) → words ≡ name ∷ ports → same_name word (codes "block") ≡ true
    → outside reader (word ∷ words) ≡ block_line reader name ports
outside-block reader word name words ports e b =
    ap (λ (ns : List Name). outside reader (word ∷ ns)) e ∙ ap (λ (w : Name). outside reader (w ∷ name ∷ ports)) (equal_if_same word (codes "block") b)
