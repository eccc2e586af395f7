-- Lists that stand for a table file beside its array file.
use Rattle.std.specs.Prelude.{ℕ, ◌<◌, ◌≡◌, List, length}
use Rattle.marks.specs.Marks.{marked}
use Rattle.model.specs.Same.{Alike}
use Rattle.records.specs.declared.Trailer.{Trailer}
use Rattle.records.specs.Record.{array_of}
use Rattle.layout.specs.declared.Sizes.{Sizes}
use Rattle.layout.specs.Table.{row_bit, table_of}
use Rattle.pairs.specs.Pairs.{list_table, setting, Given}

-- the rows of a table file, four words each
pub record RowsRead (s : List ℕ) (z : Sizes) (rows : List ℕ) : Type 0 where
  pub size : length rows ≡ 1024
  pub marks : (v o : ℕ) → v < z.names → o < 256 → marked rows v o ≡ row_bit s z v o

-- the lists are such as pairs are looked for in, and their rows and balances are those of the bytes wherever the array looks
pub record Listed (f : List ℕ) (t : Trailer) (s : List ℕ) (z : Sizes) (rows loads bounds : List ℕ) : Type 0 where
  pub given : Given (setting f t z.balances rows loads bounds)
  pub same : Alike (array_of f t) (list_table rows loads bounds z.balances) (table_of s z)
