use Rattle.std.proofs.Common.{length, refl, arith}
use Rattle.store.specs.Records.{held}
use Rattle.document.specs.PassingFacts.{passing_from}
use Rattle.document.proofs.TextRuns.{in_bytes, in_run, by_bytes, is_spelled, is_enough, is_small}
use Rattle.document.proofs.document.Document.fill_text.Goals as goal

pub overflow_add-entry : goal.overflow_add-entry
overflow_add-entry c = omega (arith, in_bytes (held c.args.self.now.view.now) (passing_from (held c.args.self.now.view.now) c.args.self.now.shape) c.args.place c.requires.text.0 c.requires.text.1 c.args.offset (length c.args.slots.now) c.requires.room c.run-run.result c.entry-entry.result c.run-run.ensures c.entry-entry.ensures, in_run (held c.args.self.now.view.now) (passing_from (held c.args.self.now.view.now) c.args.self.now.shape) c.args.place c.requires.text.0 c.requires.text.1 c.args.offset (length c.args.slots.now) c.requires.room c.run-run.result c.entry-entry.result c.run-run.ensures c.entry-entry.ensures c.if-entry-run.true)

pub fill_bytes-requires : goal.fill_bytes-requires
fill_bytes-requires c = omega (arith, in_bytes (held c.args.self.now.view.now) (passing_from (held c.args.self.now.view.now) c.args.self.now.shape) c.args.place c.requires.text.0 c.requires.text.1 c.args.offset (length c.args.slots.now) c.requires.room c.run-run.result c.entry-entry.result c.run-run.ensures c.entry-entry.ensures, in_run (held c.args.self.now.view.now) (passing_from (held c.args.self.now.view.now) c.args.self.now.shape) c.args.place c.requires.text.0 c.requires.text.1 c.args.offset (length c.args.slots.now) c.requires.room c.run-run.result c.entry-entry.result c.run-run.ensures c.entry-entry.ensures c.if-entry-run.true)

pub fill_characters-requires-clause-spelled : goal.fill_characters-requires-clause-spelled
fill_characters-requires-clause-spelled c = is_spelled (held c.args.self.now.view.now) (passing_from (held c.args.self.now.view.now) c.args.self.now.shape) c.args.place c.requires.text.0 c.requires.text.1 c.args.offset (length c.args.slots.now) c.requires.room c.run-run.result c.entry-entry.result c.run-run.ensures c.entry-entry.ensures _ c.bytes_of-text.ensures

pub fill_characters-requires-clause-room : goal.fill_characters-requires-clause-room
fill_characters-requires-clause-room c = (is_enough (held c.args.self.now.view.now) (passing_from (held c.args.self.now.view.now) c.args.self.now.shape) c.args.place c.requires.text.0 c.requires.text.1 c.args.offset (length c.args.slots.now) c.requires.room c.run-run.result c.entry-entry.result c.run-run.ensures c.entry-entry.ensures _ c.bytes_of-text.ensures, is_small (held c.args.self.now.view.now) (passing_from (held c.args.self.now.view.now) c.args.self.now.shape) c.args.place c.requires.text.0 c.requires.text.1 c.args.offset (length c.args.slots.now) c.requires.room c.run-run.result c.entry-entry.result c.run-run.ensures c.entry-entry.ensures _ c.bytes_of-text.ensures)

pub returns-then-entry-run : goal.returns-then-entry-run
returns-then-entry-run c = by_bytes (held c.args.self.now.view.now) (passing_from (held c.args.self.now.view.now) c.args.self.now.shape) c.args.place c.requires.text.0 c.requires.text.1 c.args.offset (length c.args.slots.now) c.requires.room c.run-run.result c.entry-entry.result c.run-run.ensures c.entry-entry.ensures _ _ refl c.if-entry-run.true c.fill_bytes.ensures
