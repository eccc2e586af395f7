-- A weighing beside rows of marks: the setting that pairs are looked for in, and its table.
use Rattle.std.specs.Prelude.{ℕ, List}
use Rattle.model.specs.Tree.{Array}
use Rattle.model.specs.Rules.{Table}
use Rattle.records.specs.ArrayFile.{array_in}
use Rattle.pairs.specs.declared.Weighing.{Weighing}
use Rattle.pairs.specs.Pairs.{Setting, setting, list_table}

abbrev pub beside : Weighing → List ℕ → Setting
beside w rows = setting w.array.bytes.now w.array.trailer w.balances rows w.loads.now w.bounds.now

-- the array that is weighed
abbrev pub array_weighed : Weighing → Array
array_weighed w = array_in w.array

-- the table that the rows stand for, with the weighing's loads and bounds
abbrev pub table_beside : Weighing → List ℕ → Table
table_beside w rows = list_table rows w.loads.now w.bounds.now w.balances
