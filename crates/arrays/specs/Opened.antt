-- What a file that was opened says: its trailer, beside the refusal of one that was not.
use Rattle.std.specs.Prelude.{Result, Ok, Err}
use Rattle.records.specs.declared.ArrayFile.{ArrayFile}
use Rattle.records.specs.declared.Refusal.{Refusal}
use Rattle.records.specs.declared.Trailer.{Trailer}

abbrev pub trailer_in : Result ArrayFile Refusal → Result Trailer Refusal
trailer_in (Ok a) = Ok a.trailer
trailer_in (Err r) = Err r
