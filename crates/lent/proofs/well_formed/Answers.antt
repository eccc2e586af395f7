-- `lent::well_formed` meets its contract: the tests are made in the model's order, and the first that fails decides (`formed-tests`).
use mathlib.Core.Path.{◌≡◌, sym, ◌∙◌}
use mathlib.Core.Bool.{true, false}
use lib.Dec.{leb}
use Rattle.model.specs.Memory.{thread_room, marker_room, config_of}
use Rattle.records.specs.ArrayFile.{array_in}
use Rattle.threads.specs.Threads.{threads_formed}
use Rattle.lent.specs.Lent.{lent_of}
use Rattle.lent.proofs.Laws.{formed-tests}
use Rattle.lent.proofs.well_formed.Goals as goal
use Rattle.lent.proofs.well_formed.Goals.{then-threads_fit, else-threads_fit, then-markers_fit, else-markers_fit}

pub returns-then-threads_formed : goal.returns-then-threads_formed
returns-then-threads_formed c =
    let x = c.args in
    let a = array_in x.names.now.array in
    let m = lent_of x.threads.now x.markers.now x.counts in
    elim c.if-markers_fit.branch [
      | then-markers_fit w ↦ elim c.if-threads_fit.branch [
        | then-threads_fit v ↦
            let few : leb m.thread_count (thread_room a.names m.threads) ≡ true = cc in
            let fit : leb m.marker_count (marker_room m.markers) ≡ true = cc in
            let threads : threads_formed a (config_of a m) m.thread_count m.marker_count ≡ true = cc in
            c.entries_formed.ensures ∙ sym (formed-tests a m ∙ rw (few, fit, threads))
        | else-threads_fit v ↦ cc
      ]
      | else-markers_fit w ↦ cc
    ]

pub returns-else-threads_formed : goal.returns-else-threads_formed
returns-else-threads_formed c =
    let x = c.args in
    let a = array_in x.names.now.array in
    let m = lent_of x.threads.now x.markers.now x.counts in
    elim c.if-markers_fit.branch [
      | then-markers_fit w ↦ elim c.if-threads_fit.branch [
        | then-threads_fit v ↦
            let few : leb m.thread_count (thread_room a.names m.threads) ≡ true = cc in
            let fit : leb m.marker_count (marker_room m.markers) ≡ true = cc in
            let threads : threads_formed a (config_of a m) m.thread_count m.marker_count ≡ false = cc in
            c.if-threads_formed.false ∙ sym (formed-tests a m ∙ rw (few, fit, threads))
        | else-threads_fit v ↦ cc
      ]
      | else-markers_fit w ↦ elim c.if-threads_fit.branch [
        | then-threads_fit v ↦
            let few : leb m.thread_count (thread_room a.names m.threads) ≡ true = cc in
            let full : leb m.marker_count (marker_room m.markers) ≡ false = cc in
            c.if-threads_formed.false ∙ sym (formed-tests a m ∙ rw (few, full))
        | else-threads_fit v ↦
            let many : leb m.thread_count (thread_room a.names m.threads) ≡ false = cc in
            c.if-threads_formed.false ∙ sym (formed-tests a m ∙ rw many)
      ]
    ]
