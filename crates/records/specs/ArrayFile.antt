-- The array that an array file stands for (01, "The array file").
use Rattle.model.specs.Tree.{Array}
use Rattle.records.specs.declared.ArrayFile.{ArrayFile}
use Rattle.records.specs.Record.{array_of}

abbrev pub array_in : ArrayFile → Array
array_in a = array_of a.bytes.now a.trailer
