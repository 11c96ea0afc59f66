-- The meaning of the code's readers.
use Rattle.component_lang.specs.declared.types.OpenType.{OpenType as OpenTypeRead}
use Rattle.component_lang.specs.declared.blocks.OpenBlock.{OpenBlock}
use Rattle.component_lang.specs.declared.kinds.Library.{Library}
use Rattle.component_lang.specs.declared.design.Block.{Block}
use Rattle.component_lang.specs.Kinds.{OpenType, Reader, Outside}
use Rattle.component_lang.specs.inner.NameSets.{names_in}

abbrev pub open_type_in : OpenTypeRead → OpenType
open_type_in open_type = record { name = open_type.name.now; ports = open_type.ports; ok = open_type.ok; bad = open_type.bad; cost = open_type.cost }

abbrev pub block_in : OpenBlock → Block
block_in block = record { name = block.name.now; ports = block.ports; wires = names_in block.wires; parts = block.parts.items }

-- what is closed above a line outside
abbrev pub library_in : Library → Reader
library_in library = record { types = library.types.items; blocks = library.blocks.items; section = Outside }
