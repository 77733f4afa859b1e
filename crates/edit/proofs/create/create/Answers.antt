use Rattle.std.proofs.Common.{List, length, sym, ap, ◌∙◌, subst}
use Rattle.store.specs.declared.records.ListRecord.{ListRecord}
use Rattle.document.proofs.Verdicts.{no_fault_from}
use Rattle.document.specs.Meaning.{meaning_of}
use Rattle.edit.specs.Creation.{Blank, created}
use Rattle.edit.specs.Edits.{Contents, all_of}
use Rattle.edit.proofs.Blanks.{has_room, created_fault, created_blank}
use Rattle.edit.proofs.Uses.{fault_in, used_of}
use Rattle.edit.proofs.create.create.Goals as goal

pub returns : goal.returns
returns c =
    let t : Contents = all_of c.args.tables.now in
    let none = no_fault_from _ c.in_ok-fit_roots.ensures in
    let room = has_room (length t.all.lists) c.args.roots none in
    let e = ap (λ (hs : List ListRecord). record { all = record { runs = t.all.runs; lists = hs; clients = t.all.clients; entries = t.all.entries; bytes = t.all.bytes }; run_count = 0; list_count = c.args.roots; client_count = 0; entry_count = 0; byte_count = 0 }) c.root.ensures in
    record {
      answer = c.in_ok-fit_roots.ensures;
      tables = e ∙ ap (created t c.args.roots) (sym none);
      examined = λ _. ap fault_in e ∙ created_fault t c.args.roots room.few room.fits;
      blank = λ _. subst (λ (x : Contents). Blank c.args.roots (meaning_of (used_of x))) (sym e) (created_blank t c.args.roots room.few room.fits);
    }
