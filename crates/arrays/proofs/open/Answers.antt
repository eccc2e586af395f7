-- Refusals 1 to 5 by their tests, then the records'.
use Rattle.std.proofs.Common.{◌≡◌, Bool, not, refl, sym, ap, ◌∙◌}
use Rattle.std.specs.Prelude.{Option, Some, None, Ok, Err}
use Rattle.std.specs.Option.{option_eq}
use Rattle.std.proofs.lemmas.Result.{err_from_is_err_and}
use borrow.Author.Tests.{eq-eqb, ne_eqb}
use Rattle.records.specs.declared.Reason.TheVariants.{ArrayLength, ArrayLetters, ArraySizes, ArrayParts, ArraySum}
use Rattle.records.specs.declared.Form.{Form}
use Rattle.records.specs.declared.Form.TheVariants.{Pis1, Other}
use Rattle.records.specs.contracts.FormPartialEq.TheImpl.{eq-value as the_eq}
use Rattle.records.specs.Record.{found_of}
use Rattle.records.proofs.Checks.{fails, holds}
use Rattle.arrays.specs.File.{is_pis1, trailer_answer, read_array}
use Rattle.arrays.proofs.Laws.{answered-by, read_is}
use Rattle.arrays.proofs.open.Goals as goal
use Rattle.arrays.proofs.open.Goals.{After-check_records, In_ok-check_records}

-- the comparison with the one format, as code makes it
letters : (form : Option Form) (ne : Bool) → ne ≡ not (option_eq the_eq.it form (Some Pis1)) → is_pis1 form ≡ not ne
letters None ne e = sym (ap not e)
letters (Some Pis1) ne e = sym (ap not e)
letters (Some (Other n)) ne e = sym (ap not e)

pub returns-then-not-len-clause-answer : goal.returns-then-not-len-clause-answer
returns-then-not-len-clause-answer c =
    answered-by c.args.bytes.now _ (Err c.into.result) refl (fails ArrayLength _ _ _ (ap Err c.into.ensures) c.if-not-len.true)

pub returns-then-ne-clause-answer : goal.returns-then-ne-clause-answer
returns-then-ne-clause-answer c =
    let r = c.into-then-ne in
    answered-by c.args.bytes.now _ (Err r.result) c.read_trailer-trailer.ensures.0
    (holds ArrayLength _ _ c.if-not-len.false (fails ArrayLetters _ _ _ (ap Err r.ensures) (letters _ _ c.ne.ensures ∙ ap not c.if-ne.true)))

pub returns-then-not-trailer-clause-answer : goal.returns-then-not-trailer-clause-answer
returns-then-not-trailer-clause-answer c =
    let r = c.into-then-not-trailer in
    answered-by c.args.bytes.now _ (Err r.result) c.read_trailer-trailer.ensures.0
    (holds ArrayLength _ _ c.if-not-len.false
    (holds ArrayLetters _ _ (letters _ _ c.ne.ensures ∙ ap not c.if-ne.false) (fails ArraySizes _ _ _ (ap Err r.ensures) c.if-not-trailer.true)))

pub returns-then-not-trailer-len-clause-answer : goal.returns-then-not-trailer-len-clause-answer
returns-then-not-trailer-len-clause-answer c =
    let r = c.into-then-not-trailer-len in
    answered-by c.args.bytes.now _ (Err r.result) c.read_trailer-trailer.ensures.0
    (holds ArrayLength _ _ c.if-not-len.false
    (holds ArrayLetters _ _ (letters _ _ c.ne.ensures ∙ ap not c.if-ne.false)
    (holds ArraySizes _ _ c.if-not-trailer.false (fails ArrayParts _ _ _ (ap Err r.ensures) c.if-not-trailer-len.true))))

pub returns-then-trailer-word_sum-clause-answer : goal.returns-then-trailer-word_sum-clause-answer
returns-then-trailer-word_sum-clause-answer c =
    let r = c.into-then-trailer-word_sum in
    answered-by c.args.bytes.now _ (Err r.result) c.read_trailer-trailer.ensures.0
    (holds ArrayLength _ _ c.if-not-len.false
    (holds ArrayLetters _ _ (letters _ _ c.ne.ensures ∙ ap not c.if-ne.false)
    (holds ArraySizes _ _ c.if-not-trailer.false
    (holds ArrayParts _ _ c.if-not-trailer-len.false
    (fails ArraySum _ _ _ (ap Err r.ensures) (ne_eqb _ _ (λ e. c.if-trailer-word_sum.true (e ∙ sym c.word_sum.ensures))))))))

-- the answer of the records' check is that of the whole search
searched : (c : After-check_records) → let t = c.read_trailer-trailer.result in
    trailer_answer (found_of c.check_records.result) t ≡ read_array c.args.bytes.now
searched c =
    answered-by c.args.bytes.now _ c.check_records.result c.read_trailer-trailer.ensures.0
    (holds ArrayLength _ _ c.if-not-len.false
    (holds ArrayLetters _ _ (letters _ _ c.ne.ensures ∙ ap not c.if-ne.false)
    (holds ArraySizes _ _ c.if-not-trailer.false
    (holds ArrayParts _ _ c.if-not-trailer-len.false
    (holds ArraySum _ _ (eq-eqb _ _ (c.if-trailer-word_sum.false ∙ c.word_sum.ensures)) c.check_records.ensures)))))

pub returns-in_err-check_records-clause-answer : goal.returns-in_err-check_records-clause-answer
returns-in_err-check_records-clause-answer c =
    let t = c.read_trailer-trailer.result in
    let p = err_from_is_err_and c.from_residual.result c.from_residual.ensures.1 in
    rw (p.1, p.2)
    (ap (λ x. trailer_answer (found_of x) t) (sym c.in_err-check_records.was)
    ∙ searched (goal.at.returns-in_err-check_records-clause-answer c).After-check_records)

read : (c : In_ok-check_records) → let t = c.read_trailer-trailer.result in
    trailer_answer (found_of c.check_records.result) t ≡ read_array c.args.bytes.now → read_array c.args.bytes.now ≡ Ok t
read c found =
    let t = c.read_trailer-trailer.result in
    sym (ap (λ x. trailer_answer (found_of x) t) (sym c.in_ok-check_records.was) ∙ found)

pub returns-clause-answer : goal.returns-clause-answer
returns-clause-answer c =
    let at = goal.at.returns-clause-answer c in
    sym (read at.In_ok-check_records (searched at.After-check_records))

pub returns-clause-file : goal.returns-clause-file
returns-clause-file c =
    let at = goal.at.returns-clause-file c in
    (refl, refl, read_is _ _ (read at.In_ok-check_records (searched at.After-check_records)))
