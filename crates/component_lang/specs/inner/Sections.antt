-- The meaning of the code's sections.
use Rattle.component_lang.specs.declared.kinds.Library.{Library}
use Rattle.component_lang.specs.declared.reading.Section.{Section as SectionRead}
use Rattle.component_lang.specs.declared.reading.Section.TheVariants.{Outside as ReadOutside, InType as ReadInType, InBlock as ReadInBlock, AfterTop as ReadAfterTop}
use Rattle.component_lang.specs.Kinds.{Reader, Section, Outside, InType, InBlock, AfterTop}
use Rattle.component_lang.specs.DesignLines.{at}
use Rattle.component_lang.specs.inner.Views.{open_type_in, block_in, library_in}

abbrev pub section_in : SectionRead → Section
section_in ReadOutside = Outside
section_in (ReadInType open_type) = InType (open_type_in open_type)
section_in (ReadInBlock block) = InBlock (block_in block)
section_in (ReadAfterTop top) = AfterTop top

abbrev pub reader_in : Library → SectionRead → Reader
reader_in library section = at (library_in library) (section_in section)
