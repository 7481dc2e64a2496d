use Rattle.std.proofs.Common.{◌*◌, ◌++◌, take, sym, ap, ◌∙◌, take-append-drop}
use Rattle.std.proofs.lemmas.List.{length-map}
use Rattle.bitcode_int_columns.proofs.pack_ints.read.borrow_entries.Goals as goal

pub returns-clause-read : goal.returns-clause-read
returns-clause-read g c =
    let old = c.args.input.now.now in
    let n = c.args.count * g.T.Int.width in
    rw c.set_borrowed.ensures (record {
      size = length-map _ _ ∙ c.in_ok-entries.ensures.size;
      piece = take n old;
      whole = sym (take-append-drop n old) ∙ ap (λ xs. take n old ++ xs) (sym c.in_ok-entries.ensures.rest);
      spelled = c.in_ok-entries.ensures.spelled;
    })
