-- A weighing beside rows is what pairs are looked for in.
use mathlib.Core.Path.{◌≡◌}
use Prim.Native.Nat.{ℕ}
use mathlib.Core.List.{List}
use lib.ListN.{length}
use Rattle.pairs.specs.declared.Weighing.{Weighing}
use Rattle.pairs.specs.Pairs.{Setting, Given, IsWeighed}
use Rattle.pairs.specs.Weighing.{beside}

pub given-beside : (w : Weighing) (rows : List ℕ) → length rows ≡ 1024 → Given (beside w rows)
given-beside w rows many = record {
  read = w.is_weighed.read;
  lists = record { few = w.is_weighed.few; many_rows = many; many_bounds = w.is_weighed.many_bounds };
  weighed = w.is_weighed.weighed;
}

-- and what pairs are looked for in is a weighing, beside its rows
pub given-weighed : {S : Setting} → Given S → IsWeighed S.f S.t S.n S.loads S.bounds
given-weighed g = record { read = g.read; few = g.lists.few; many_bounds = g.lists.many_bounds; weighed = g.weighed }
