-- A new document: so many roots, and no runs.
use Rattle.std.specs.Prelude.{◌≡◌, ℕ, cond, ◌&&◌, List, [], ◌++◌, drop, replicate, Some, None, Option, nat_le, nat_lt}
use Rattle.block.specs.Units.{Meaning}
use Rattle.block.specs.declared.fault.Code.TheVariants.{OutOfRange, LimitPassed}
use Rattle.block.specs.declared.fault.Fault.{Fault}
use Rattle.block.specs.declared.fault.Spot.TheVariants.{Nowhere}
use Rattle.store.specs.declared.records.ListRecord.{ListRecord}
use Rattle.store.specs.Records.{no_list}
use Rattle.edit.specs.Aims.{fault_of}
use Rattle.edit.specs.Edits.{Contents}

-- a document has 1 to 256 roots, and the table of lists has room for them
abbrev pub root_fault : ℕ → ℕ → Option Fault
root_fault room n = cond (nat_lt 0 n && nat_le n 256) (cond (nat_le n room) None (Some (fault_of LimitPassed Nowhere))) (Some (fault_of OutOfRange Nowhere))

-- the first n lists are empty roots
abbrev pub rooted : List ListRecord → ℕ → List ListRecord
rooted hs n = replicate n no_list ++ drop n hs

abbrev pub created : Contents → ℕ → Option Fault → Contents
created c n (Some f) = c
created c n None = record { all = record c.all { lists = rooted c.all.lists n }; run_count = 0; list_count = n; client_count = 0; entry_count = 0; byte_count = 0 }

-- so many roots, no units, and no client known
pub record Blank (n : ℕ) (m : Meaning) : Type 0 where
  pub lists : m.lists ≡ n
  pub units : (l : ℕ) → m.units l ≡ []
  pub holder : (l : ℕ) → m.holder l ≡ None
  pub known : (c : ℕ) → m.known c ≡ 0
