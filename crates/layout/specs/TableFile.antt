-- The table that a table file stands for (01, "The table file").
use Rattle.model.specs.Rules.{Table}
use Rattle.layout.specs.declared.TableFile.{TableFile}
use Rattle.layout.specs.Table.{table_of}

abbrev pub table_in : TableFile → Table
table_in x = table_of x.bytes.now x.sizes
