-- `markers::entry_at` meets its contract: the four words from 4 × k on are those at the front of what stands from there on.
use Rattle.std.proofs.Common.{rules, ◌≡◌, ◌*◌, take, drop}
use Rattle.markers.proofs.Laws.{entry-front}
use Rattle.markers.proofs.entry_at.Goals as goal

pub returns : goal.returns
returns c =
    let x = c.args in
    let words : c.unwrap.result.now ≡ take 4 (drop (4 * x.k) x.markers.now) = search rules in
    entry-front (drop (4 * x.k) x.markers.now) c.unwrap.result.now words
