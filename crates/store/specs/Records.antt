-- What a view holds: the records in use, and the bytes of the content.
use Rattle.std.specs.Prelude.{ℕ, false, List, take, drop, None, slice_index_or}
use Rattle.store.specs.declared.records.RunRecord.{RunRecord}
use Rattle.store.specs.declared.records.ListRecord.{ListRecord}
use Rattle.store.specs.declared.records.ClientRecord.{ClientRecord}
use Rattle.store.specs.declared.records.EntryRecord.{EntryRecord}
use Rattle.store.specs.declared.records.View.{View}

-- the records in use, as lists
pub record Store : Type 0 where
  pub runs : List RunRecord
  pub lists : List ListRecord
  pub clients : List ClientRecord
  pub entries : List EntryRecord
  pub bytes : List ℕ

-- what a view holds
abbrev pub held : View → Store
held v = record { runs = v.runs.now; lists = v.lists.now; clients = v.clients.now; entries = v.entries.now; bytes = v.bytes.now }

-- what stands past the records in use: a run with no units and no list
abbrev pub no_run : RunRecord
no_run = record { id = record { client = 0; clock = 0 }; len = 0; kind = 0; live = false; list = None; left = None; right = None; redone = None; entry = 0 }

-- an empty root
abbrev pub no_list : ListRecord
no_list = record { start = None; holder = None; len = 0 }

-- a client with nothing known
abbrev pub no_client : ClientRecord
no_client = record { client = 0; known = 0 }

-- an entry with no bytes
abbrev pub no_entry : EntryRecord
no_entry = record { start = 0; len = 0 }

-- the run with a number
abbrev pub run_at : Store → ℕ → RunRecord
run_at s i = slice_index_or s.runs i no_run

-- the list with a number
abbrev pub list_at : Store → ℕ → ListRecord
list_at s l = slice_index_or s.lists l no_list

-- the client record with a number
abbrev pub client_at : Store → ℕ → ClientRecord
client_at s i = slice_index_or s.clients i no_client

-- the entry with a number
abbrev pub entry_at : Store → ℕ → EntryRecord
entry_at s e = slice_index_or s.entries e no_entry

-- the bytes of an entry
abbrev pub bytes_of : Store → EntryRecord → List ℕ
bytes_of s e = take e.len (drop e.start s.bytes)
